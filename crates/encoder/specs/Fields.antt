-- Displacements, and the fields that hold them.
use Rattle.std.specs.Prelude.{ℕ, ◌+◌, ◌-◌, ◌^◌, Bool, true, ◌&&◌, ℤ, pos, ◌-ℤ◌, neg_ℤ, int_lt, int_le}
use Rattle.std.specs.Int.{int_wrap}
use Rattle.x86.specs.declared.instruction.Family.{Family}
use Rattle.x86.specs.declared.instruction.Family.TheVariants.{Jcc, Jmp, Call, Memory, Plain, Other}
use Rattle.x86.specs.declared.instruction.Form.{Form}
use Rattle.x86.specs.declared.instruction.Form.TheVariants.{Short, Near}
use Rattle.x86.specs.declared.instruction.Width.{Width}
use Rattle.x86.specs.declared.instruction.Width.TheVariants.{Bits16, Bits32, Bits64}
use Rattle.x86.specs.declared.instruction.Instruction.{Instruction}
use Rattle.x86.specs.Widths.{span}
use Rattle.encoder.specs.declared.field.Field.{Field}
use Rattle.encoder.specs.declared.field.Field.TheVariants.{Absent, Byte, Word, Double}

-- a short branch has a field of 8 bits, a near one of 16 at width 16, else of 32
abbrev pub branch_field : Form → Width → Field
branch_field Short w = Byte
branch_field Near Bits16 = Word
branch_field Near Bits32 = Double
branch_field Near Bits64 = Double

abbrev pub field_by : Family → Form → Width → Field
field_by Jcc f w = branch_field f w
field_by Jmp f w = branch_field f w
field_by Call f w = branch_field f w
field_by Memory f w = Double
field_by Plain f w = Absent
field_by Other f w = Absent

abbrev pub field_of : Instruction → Field
field_of i = field_by i.family i.form i.width

-- in bytes
abbrev pub field_size : Field → ℕ
field_size Absent = 0
field_size Byte = 1
field_size Word = 2
field_size Double = 4

-- the target minus next, the address behind the last byte, reduced to the width, signed
abbrev pub displacement : Width → ℕ → ℕ → ℤ
displacement w target next = int_wrap (span w) (pos target -ℤ pos next)

-- is z a signed number of k bits: at least - 2 ^ (k - 1), and below 2 ^ (k - 1)?
abbrev pub signed : ℕ → ℤ → Bool
signed k z = int_le (neg_ℤ (pos (2 ^ (k - 1)))) z && int_lt z (pos (2 ^ (k - 1)))

abbrev pub fits : Field → ℤ → Bool
fits Absent z = true
fits Byte z = signed 8 z
fits Word z = signed 16 z
fits Double z = signed 32 z

-- does the displacement from n bytes at an address to the target fit its field?
abbrev pub reaches : Instruction → ℕ → ℕ → ℕ → Bool
reaches i n target address = fits (field_of i) (displacement i.width target (address + n))
