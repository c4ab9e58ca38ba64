-- The character in front of a text is the first that is read of it, whatever follows.
use Rattle.std.proofs.Common.{◌≡◌, ℕ, zero, ◌+◌, ◌/◌, List, [], ◌∷◌, ◌++◌, refl, inl, inr, arith}
use Rattle.std.proofs.Math.Utf8.{next}
use Rattle.std.proofs.lemmas.Bool.{cases_lt}
use Rattle.std.specs.Char.{encode_utf8}
use Rattle.std.specs.Str.{continuation_len, lead_bits, chars_after, chars}

whole : (c : ℕ) (bs : List ℕ) → chars_after zero c bs ≡ c ∷ chars bs
unfolding chars
whole c [] = refl
whole c (b ∷ bs) = refl

-- c is spelt by a lead byte a, which tells of n more, and by these
spelt : (c a n v : ℕ) (bs rest : List ℕ) → (encode_utf8 c ≡ a ∷ bs) × (continuation_len a ≡ n) × (lead_bits a ≡ v) × (chars_after n v (bs ++ rest) ≡ c ∷ chars rest)
    → chars (encode_utf8 c ++ rest) ≡ c ∷ chars rest
unfolding chars
spelt c a n v bs rest h = grind arith

pub first_char : (c : ℕ) (rest : List ℕ) → chars (encode_utf8 c ++ rest) ≡ c ∷ chars rest
unfolding encode_utf8
first_char c rest =
    elim (cases_lt c 128) [
      | inl l ↦ spelt c c 0 c [] rest (grind (arith, whole))
      | inr g ↦ elim (cases_lt c 2048) [
        | inl l ↦ spelt c (192 + c / 64) 1 (c / 64) (next c ∷ []) rest (grind (arith, whole))
        | inr g₂ ↦ elim (cases_lt c 65536) [
          | inl l ↦ spelt c (224 + c / 4096) 2 (c / 4096) (next (c / 64) ∷ next c ∷ []) rest (grind (arith, whole))
          | inr g₃ ↦ spelt c (240 + c / 262144) 3 (c / 262144) (next (c / 4096) ∷ next (c / 64) ∷ next c ∷ []) rest (grind (arith, whole))
        ]
      ]
    ]
