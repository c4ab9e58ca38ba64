-- Displacements as the code computes them, and what lies a displacement away.
use Rattle.std.proofs.Common.{◌≡◌, ℕ, ◌+◌, ◌-◌, ◌%◌, ◌^◌, pos, ◌+ℤ◌, arith}
use Rattle.std.specs.Int.{int_wrap, cast_signed}
use Rattle.std.proofs.lemmas.Int.{ints}
use Rattle.x86.specs.declared.instruction.Width.{Width}
use Rattle.x86.specs.declared.instruction.Width.TheVariants.{Bits16, Bits32, Bits64}
use Rattle.x86.specs.Widths.{span, residue, low}
use Rattle.encoder.specs.Fields.{displacement}

-- arithmetic of 64 bits on the way changes nothing, since 2 ^ 16 and 2 ^ 32 divide 2 ^ 64
pub displacement_is : (w : Width) (t n : ℕ) → cast_signed (span w) (low w ((t + (2 ^ 64 - n % 2 ^ 64)) % 2 ^ 64)) ≡ displacement w t n
unfolding int_wrap
displacement_is Bits16 t n = grind (arith, ints)
displacement_is Bits32 t n = grind (arith, ints)
displacement_is Bits64 t n = grind (arith, ints)

-- what lies the displacement away from next is the target, within the width
pub arrives : (w : Width) (t next : ℕ) → residue (span w) (pos next +ℤ displacement w t next) ≡ low w t
unfolding int_wrap
arrives Bits16 t next = grind (arith, ints)
arrives Bits32 t next = grind (arith, ints)
arrives Bits64 t next = grind (arith, ints)
