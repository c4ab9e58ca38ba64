-- The number that a word writes.
use Rattle.std.specs.Prelude.{ℕ, ◌+◌, ◌*◌, ◌^◌, Bool, cond, List, [], ◌∷◌, take, drop, Some, None, codes, Option, nat_lt, nat_le}
use Rattle.std.specs.Option.{option_and_then}
use Rattle.std.specs.Char.{digit_value}
use Rattle.std.specs.Str.{bytes_eq}

-- the number that the digits of a base write after those of n; none where a character is no digit of the base
abbrev pub digits_after : ℕ → ℕ → List ℕ → Option ℕ
digits_after base n [] = Some n
digits_after base n (c ∷ cs) = cond (nat_lt (digit_value c) base) (digits_after base (n * base + digit_value c) cs) None

-- a number of 64 bits
abbrev pub fitting : Option ℕ → Option ℕ
fitting None = None
fitting (Some n) = cond (nat_lt n (2 ^ 64)) (Some n) None

-- one digit or more
abbrev pub numeral_of : ℕ → List ℕ → Option ℕ
numeral_of base [] = None
numeral_of base (c ∷ cs) = fitting (digits_after base 0 (c ∷ cs))

abbrev pub hexadecimal : List ℕ → Bool
hexadecimal word = bytes_eq (take 2 word) (codes "0x")

abbrev pub number_of : List ℕ → Option ℕ
number_of word = cond (hexadecimal word) (numeral_of 16 (drop 2 word)) (numeral_of 10 word)

-- a number that is at most so large
abbrev pub number_up_to : ℕ → List ℕ → Option ℕ
number_up_to most word = option_and_then (λ n. cond (nat_le n most) (Some n) None) (number_of word)
