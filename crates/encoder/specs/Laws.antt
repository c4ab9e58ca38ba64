-- What every measure and every encoder owes. Whatever uses one is proved from these laws alone.
use Rattle.std.specs.Prelude.{◌≡◌, ℕ, ◌≤◌, Bool, true, false, ◌&&◌, length, is_some, Some, Option, nat_le}
use Rattle.x86.specs.declared.instruction.Family.{Family}
use Rattle.x86.specs.declared.instruction.Family.TheVariants.{Jcc, Jmp, Call, Memory, Plain, Other}
use Rattle.x86.specs.declared.instruction.Form.{Form}
use Rattle.x86.specs.declared.instruction.Form.TheVariants.{Short, Near}
use Rattle.x86.specs.declared.instruction.Width.{Width}
use Rattle.x86.specs.declared.instruction.Width.TheVariants.{Bits16, Bits32, Bits64}
use Rattle.x86.specs.declared.instruction.Instruction.{Instruction}
use Rattle.x86.specs.Instructions.{shaped, formed, widened}
use Rattle.encoder.specs.Fields.{reaches}
use Rattle.encoder.specs.Encodings.{Encoding, Reads}

-- in 64-bit code a branch has width 64, elsewhere 16 or 32
abbrev pub branch_width : Width → Width → Bool
branch_width Bits64 Bits64 = true
branch_width Bits64 Bits32 = false
branch_width Bits64 Bits16 = false
branch_width Bits32 Bits64 = false
branch_width Bits32 Bits32 = true
branch_width Bits32 Bits16 = true
branch_width Bits16 Bits64 = false
branch_width Bits16 Bits32 = true
branch_width Bits16 Bits16 = true

-- 64-bit code alone has operands relative to RIP (width 64) or EIP (width 32)
abbrev pub memory_width : Width → Width → Bool
memory_width Bits64 Bits64 = true
memory_width Bits64 Bits32 = true
memory_width Bits64 Bits16 = false
memory_width Bits32 w = false
memory_width Bits16 w = false

abbrev pub is_near : Form → Bool
is_near Short = false
is_near Near = true

abbrev pub possible_by : Width → Family → ℕ → Form → Width → Bool
possible_by mode Jcc c f w = branch_width mode w && nat_le c 15
possible_by mode Jmp c f w = branch_width mode w
possible_by mode Call c f w = branch_width mode w && is_near f
possible_by mode Memory c f w = memory_width mode w
possible_by mode Plain c f w = true
possible_by mode Other c f w = true

-- can code of that bitness have such an instruction at all? Of the family `other` nothing is said: no job takes one.
abbrev pub possible : Width → Instruction → Bool
possible mode i = possible_by mode i.family i.condition i.form i.width

pub record MeasureLaws (bitness : Width) (sized : Instruction → Option ℕ) : Type 0 where
  -- a size is 1 to 15
  pub within : (i : Instruction) (n : ℕ) → sized i ≡ Some n → (1 ≤ n) × (n ≤ 15)
  -- what code of that bitness cannot have has no size
  pub real : (i : Instruction) (n : ℕ) → sized i ≡ Some n → possible bitness i ≡ true
  -- short is at most near
  pub shorter : (i : Instruction) (m n : ℕ) → sized (formed i Short) ≡ Some m → sized (formed i Near) ≡ Some n → m ≤ n
  -- relative to RIP is at most relative to EIP
  pub narrower : (i : Instruction) (m n : ℕ) → i.family ≡ Memory → sized (widened i Bits64) ≡ Some m → sized (widened i Bits32) ≡ Some n → m ≤ n
  -- the size of plain bytes ignores form and width
  pub plain : (i : Instruction) (f : Form) (w : Width) → i.family ≡ Plain → sized (shaped i f w) ≡ sized i
  -- the form of a memory instruction is its width
  pub memory : (i : Instruction) (f : Form) → i.family ≡ Memory → sized (formed i f) ≡ sized i

pub record EncoderLaws (bitness : Width) (sized : Instruction → Option ℕ) (code : Instruction → ℕ → ℕ → Option Encoding) : Type 0 where
  -- what is written has the size
  pub exact : (i : Instruction) (target address : ℕ) (x : Encoding) → code i target address ≡ Some x → sized i ≡ Some (length x.bytes)
  -- what has a size is refused exactly where its displacement does not fit its field
  pub refuses : (i : Instruction) (target address n : ℕ) → sized i ≡ Some n → is_some (code i target address) ≡ reaches i n target address
  -- read by the manual, what is written is the instruction that was asked for
  pub reads : (i : Instruction) (target address : ℕ) (x : Encoding) → code i target address ≡ Some x → Reads bitness i target address x
  -- plain bytes ignore target and address
  pub plain : (i : Instruction) (target address target' address' : ℕ) → i.family ≡ Plain → code i target address ≡ code i target' address'
  -- the form of a memory instruction is its width
  pub memory : (i : Instruction) (f : Form) (target address : ℕ) → i.family ≡ Memory → code (formed i f) target address ≡ code i target address
