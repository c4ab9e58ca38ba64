-- An encoding as the bytes before and behind the field of its displacement.
use Rattle.std.specs.Prelude.{ℕ, ◌+◌, cond, ◌&&◌, List, ◌++◌, length, ℤ, Some, None, Option, nat_le}
use Rattle.std.specs.Int.{w64, cast_unsigned}
use Rattle.x86.specs.declared.constant_offsets.ConstantOffsets.{ConstantOffsets}
use Rattle.x86.specs.declared.instruction.Instruction.{Instruction}
use Rattle.x86.specs.Widths.{bytes_of}
use Rattle.encoder.specs.declared.field.Field.{Field}
use Rattle.encoder.specs.Fields.{field_of, field_size, displacement, reaches}
use Rattle.encoder.specs.Encodings.{Encoding}

pub record Shape : Type 0 where
  pub head : List ℕ
  pub tail : List ℕ
  pub constants : ConstantOffsets

-- a displacement as its field holds it: two's complement, little-endian
abbrev pub field_bytes : Field → ℤ → List ℕ
field_bytes f d = bytes_of (field_size f) (cast_unsigned w64 d)

abbrev pub total : Instruction → Shape → ℕ
total i s = length s.head + field_size (field_of i) + length s.tail

-- a row has 15 bytes, so what is empty or longer has no size
abbrev pub size_of : Instruction → Option Shape → Option ℕ
size_of i None = None
size_of i (Some s) = cond (nat_le 1 (total i s) && nat_le (total i s) 15) (Some (total i s)) None

-- the encoding of a shape for a displacement
abbrev pub filled : Instruction → Shape → ℤ → Encoding
filled i s d = record { bytes = s.head ++ (field_bytes (field_of i) d ++ s.tail); constants = s.constants }

-- what is written of a shape of n bytes: nothing where its displacement does not fit
abbrev pub written : Instruction → Shape → ℕ → ℕ → ℕ → Option Encoding
written i s target address n = cond (reaches i n target address) (Some (filled i s (displacement i.width target (address + n)))) None

abbrev pub code_of : Instruction → Option Shape → ℕ → ℕ → Option Encoding
code_of i None target address = None
code_of i (Some s) target address = cond (nat_le 1 (total i s) && nat_le (total i s) 15) (written i s target address (total i s)) None
