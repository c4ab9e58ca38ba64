-- What a listing answers to an instruction.
use Rattle.std.specs.Prelude.{ℕ, Some, None, Ok, Err, Option, Result, IfOk}
use Rattle.x86.specs.declared.instruction.Instruction.{Instruction}
use Rattle.x86.specs.declared.instruction.Width.{Width}
use Rattle.encoder.specs.Encodings.{Encoding, Reads}
use Rattle.encoder.specs.declared.Refusal.{Refusal}
use Rattle.encoder.specs.declared.Refusal.TheVariants.{NoSize, OutOfReach}
use Rattle.listing.specs.Codes.{code_bytes, padded}
use Rattle.listing.specs.declared.answer.Answer.{Answer}
use Rattle.listing.specs.declared.answer.Encoded.{Encoded}

-- what an encoder writes for an instruction, or why it writes nothing, by the size of the instruction
abbrev pub outcome_of : Option ℕ → Option Encoding → Result Encoded Refusal
outcome_of size (Some x) = Ok (record { code = padded x.bytes; constants = x.constants })
outcome_of (Some n) None = Err OutOfReach
outcome_of None None = Err NoSize

-- that, at an address
abbrev pub answer_at : ℕ → Option ℕ → Option Encoding → Answer
answer_at a size code = record { address = a; outcome = outcome_of size code }

-- the same of an encoder, by what it sizes and codes, for an instruction with the target that it states
abbrev pub answer_of : (Instruction → Option ℕ) → (Instruction → ℕ → ℕ → Option Encoding) → Instruction → ℕ → Answer
answer_of sized code i a = answer_at a (sized i) (code i i.target a)

-- read by the manual where it stands, an encoding is the instruction that was asked for
abbrev pub ReadsAs : Width → Instruction → Answer → Type 0
ReadsAs mode i answer = IfOk answer.outcome (λ e. Reads mode i i.target answer.address (record { bytes = code_bytes e.code; constants = e.constants }))
