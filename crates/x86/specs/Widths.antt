-- Widths in bits, and numbers modulo a power of two.
use Rattle.std.specs.Prelude.{ℕ, zero, suc, ◌+◌, ◌*◌, ◌/◌, ◌%◌, ◌^◌, List, [], ◌∷◌, ℤ, pos, unsigned_abs}
use mir.Val.{bits}
use Rattle.std.specs.Int.{int_rem_euclid, Width as Span, w16, w32, w64}
use Rattle.x86.specs.declared.instruction.Width.{Width}
use Rattle.x86.specs.declared.instruction.Width.TheVariants.{Bits16, Bits32, Bits64}

abbrev pub span : Width → Span
span Bits16 = w16
span Bits32 = w32
span Bits64 = w64

-- the number below 2 ^ bits s that z equals modulo 2 ^ bits s
abbrev pub residue : Span → ℤ → ℕ
residue s z = unsigned_abs (int_rem_euclid z (pos (2 ^ bits s)))

-- an address in its low bits
abbrev pub low : Width → ℕ → ℕ
low w n = n % 2 ^ bits (span w)

-- the little-endian number that bytes write
abbrev pub little : List ℕ → ℕ
little [] = 0
little (b ∷ bs) = b + 256 * little bs

-- the first n bytes of a number, little-endian
abbrev pub bytes_of : ℕ → ℕ → List ℕ
bytes_of zero v = []
bytes_of (suc n) v = (v % 256) ∷ bytes_of n (v / 256)
