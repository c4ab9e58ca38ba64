-- The widths, by their numbers of bits.
use Rattle.std.specs.Prelude.{◌≡◌, ℕ, ◌==◌, cond, Ok, Err, Result, IfOk, IfErr}
use mir.Val.{bits}
use Rattle.x86.specs.declared.instruction.Width.{Width}
use Rattle.x86.specs.declared.instruction.Width.TheVariants.{Bits16, Bits32, Bits64}
use Rattle.x86.specs.declared.instruction.UnknownWidth.{UnknownWidth}
use Rattle.x86.specs.Widths.{span}

-- 16, 32 and 64 are widths, and no other number is
abbrev pub width_of_bits : ℕ → Result Width UnknownWidth
width_of_bits bits =
    cond (bits == 16) (Ok Bits16)
    (cond (bits == 32) (Ok Bits32)
    (cond (bits == 64) (Ok Bits64)
    (Err (record { 0 = bits }))))

-- the width has that many bits; where none has, the number is told
pub record Denotes (n : ℕ) (r : Result Width UnknownWidth) : Type 0 where
  pub listed : r ≡ width_of_bits n
  pub has : IfOk r (λ w. bits (span w) ≡ n)
  pub told : IfErr r (λ e. e.0 ≡ n)
