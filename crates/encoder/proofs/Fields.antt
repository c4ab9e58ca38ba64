-- What a field's bytes hold.
use Rattle.std.proofs.Common.{◌≡◌, ℕ, zero, suc, ◌+◌, ◌*◌, ◌/◌, ◌%◌, ◌^◌, ◌<◌, true, ltb, ℤ, sym, ap, ◌∙◌, pow-suc, arith, lit<}
use native.Mathlib.Nat.{one-le-pow}
use lib.Arith.{mod-mul}
use Rattle.std.specs.Int.{Width, w8, w16, w32, w64, w128, cast_signed, cast_unsigned}
use Rattle.std.specs.Int.Signed.{mag}
use mir.Val.{bits, hbits}
use Rattle.std.proofs.lemmas.Int.{ints}
use Rattle.x86.specs.Widths.{little, bytes_of}
use Rattle.encoder.specs.Fields.{signed}

-- n bytes hold a number modulo 256 ^ n
pub little_bytes : (n v : ℕ) → little (bytes_of n v) ≡ v % 256 ^ n
little_bytes zero v = omega arith
little_bytes (suc n) v =
    let rest = little_bytes n (v / 256) in
    let some : 0 < 256 ^ n = one-le-pow n 256 (lit< tt) in
    let split : v % (256 ^ n * 256) ≡ (v / 256 % 256 ^ n) * 256 + v % 256 = mod-mul v some (lit< tt) in
    omega arith ∙ (sym split ∙ ap (λ m. v % m) (sym (pow-suc 256 n)))

-- the same by absolute values: the numbers that a signed integer of that width holds
pub signed_is : (s : Width) (z : ℤ) → signed (bits s) z ≡ ltb (mag z) (2 ^ hbits s)
signed_is w8 z = grind (arith, ints)
signed_is w16 z = grind (arith, ints)
signed_is w32 z = grind (arith, ints)
signed_is w64 z = grind (arith, ints)
signed_is w128 z = grind (arith, ints)

-- the bytes of a displacement that its field holds read as the displacement
pub byte_back : (d : ℤ) → signed 8 d ≡ true → cast_signed w8 (little (bytes_of 1 (cast_unsigned w64 d))) ≡ d
byte_back d h = grind (arith, ints)

pub word_back : (d : ℤ) → signed 16 d ≡ true → cast_signed w16 (little (bytes_of 2 (cast_unsigned w64 d))) ≡ d
word_back d h = grind (arith, ints)

pub double_back : (d : ℤ) → signed 32 d ≡ true → cast_signed w32 (little (bytes_of 4 (cast_unsigned w64 d))) ≡ d
double_back d h = grind (arith, ints)
