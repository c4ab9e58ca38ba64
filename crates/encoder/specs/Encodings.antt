-- An encoding, how it reads by the manual, and what a call that writes one answers and leaves.
use Rattle.std.specs.Prelude.{◌≡◌, ℕ, ◌-◌, List, ◌++◌, length, drop, Some, None, Ok, Err, Option, Result}
use Rattle.x86.specs.declared.constant_offsets.ConstantOffsets.{ConstantOffsets}
use Rattle.x86.specs.declared.instruction.Family.{Family}
use Rattle.x86.specs.declared.instruction.Family.TheVariants.{Jcc, Jmp, Call, Memory, Plain, Other}
use Rattle.x86.specs.declared.instruction.Form.{Form}
use Rattle.x86.specs.declared.instruction.Width.{Width}
use Rattle.x86.specs.declared.instruction.Instruction.{Instruction}
use Rattle.x86.specs.Widths.{low}
use Rattle.x86.specs.Constants.{immediate_at}
use Rattle.x86.specs.Reading.{Transfer, jcc, jmp, call, read, operand}
use Rattle.encoder.specs.declared.Refusal.{Refusal}
use Rattle.encoder.specs.declared.Refusal.TheVariants.{NoSize, OutOfReach}
use Rattle.encoder.specs.Fields.{branch_field, field_size}

pub record Encoding : Type 0 where
  pub bytes : List ℕ
  pub constants : ConstantOffsets

-- a branch that lands on the target within its width, and whose constants show its field, which ends it, as an immediate
pub record BranchReads (mode : Width) (made : ℕ → Transfer) (f : Form) (w : Width) (target address : ℕ) (x : Encoding) : Type 0 where
  pub lands : read mode address x.bytes ≡ Some (made (low w target))
  pub shown : x.constants ≡ immediate_at (length x.bytes - field_size (branch_field f w)) (field_size (branch_field f w))

abbrev pub ReadsBy : Width → Family → ℕ → Form → Width → ℕ → ℕ → Encoding → Type 0
ReadsBy mode Jcc c f w target address x = BranchReads mode (jcc c) f w target address x
ReadsBy mode Jmp c f w target address x = BranchReads mode jmp f w target address x
ReadsBy mode Call c f w target address x = BranchReads mode call f w target address x
ReadsBy mode Memory c f w target address x = operand address x.bytes x.constants ≡ Some (low w target)
ReadsBy mode Plain c f w target address x = Unit {0}
ReadsBy mode Other c f w target address x = Unit {0}

-- read by the manual at its address, an encoding has the family and the condition of the instruction and reaches the
-- target; plain bytes read as themselves
abbrev pub Reads : Width → Instruction → ℕ → ℕ → Encoding → Type 0
Reads mode i target address x = ReadsBy mode i.family i.condition i.form i.width target address x

-- what the call answers, given the size and what there is to write
abbrev pub answered : Option ℕ → Option Encoding → Result (ConstantOffsets × ℕ) Refusal
answered size (Some x) = Ok (x.constants, length x.bytes)
answered (Some n) None = Err OutOfReach
answered None None = Err NoSize

-- the row after the call
abbrev pub stored : Option Encoding → List ℕ → List ℕ
stored (Some x) row = x.bytes ++ drop (length x.bytes) row
stored None row = row
