-- A numeral is what `from_str_radix` reads where no plus stands in front.
use Rattle.std.proofs.Common.{◌≡◌, ◌≢◌, ℕ, ◌*◌, ◌+◌, List, [], ◌∷◌, get_or, Result, refl, arith}
use Rattle.std.specs.Result.{result_ok}
use Rattle.std.specs.Option.{SomeIff}
use Rattle.std.specs.Str.Parse.{AllDigits, ParsesUnsigned, digits_value_after}
use Rattle.std.specs.Char.{digit_value}
use Rattle.text.specs.Numbers.{digits_after, numeral_of}

digits_read : (base n : ℕ) (cs : List ℕ) → SomeIff (digits_after base n cs) (AllDigits base cs) (digits_value_after base n cs)
digits_read base n [] = (tt, refl)
digits_read base n (c ∷ cs) = grind (arith, digits_read base (n * base + digit_value c) cs)

pub numeral_read : {E : Type 0} (base : ℕ) (cs : List ℕ) (r : Result ℕ E) → get_or cs 0 0 ≢ 43 → ParsesUnsigned 64 base cs r → result_ok r ≡ numeral_of base cs
numeral_read base [] r unsigned read = grind arith
numeral_read base (c ∷ cs) r unsigned read = grind (arith, digits_read base 0 (c ∷ cs))
