-- What `split_whitespace` gives are the words of the text.
use Rattle.std.proofs.Common.{◌≡◌, ℕ, ◌<◌, List, [], ◌∷◌, ◌++◌, length, Some, None, Option, encode_utf8_all, refl, ◌∙◌, append_assoc, append-nil, arith, Bor}
use Rattle.std.proofs.lemmas.Bool.{not-false}
use Rattle.std.proofs.lemmas.Str.{chars-nil}
use Rattle.std.specs.Char.{is_whitespace, is_not_whitespace}
use Rattle.std.specs.Str.{NonePass, EmptyOrStartsWithPassing, chars}
use Rattle.std.specs.Str.Iter.{split_whitespace_rest as rest_of, split_whitespace_steps}
use Rattle.std.specs.declared.str.SplitWhitespace.{SplitWhitespace}
use Rattle.std.specs.Iterator.{MakesProgress, at_most}
use Rattle.text.specs.Words.{words_after, words_of, Taken}
use Rattle.text.proofs.Characters.{first_char}

no_words : words_of [] ≡ []
unfolding words_of
no_words = rw chars-nil

skip_gap : (gap rest : List ℕ) → NonePass is_not_whitespace gap → words_of (encode_utf8_all gap ++ rest) ≡ words_of rest
unfolding words_of
skip_gap [] rest blank = refl
skip_gap (c ∷ cs) rest blank = rw (append_assoc, first_char, not-false (is_whitespace c) blank.0) (skip_gap cs rest blank.1)

-- a word that has begun goes on, and ends with the text or before white space
rest_of_word : (x : ℕ) (xs more rest after : List ℕ) → NonePass is_whitespace more → EmptyOrStartsWithPassing is_whitespace rest after
    → words_after (x ∷ xs) (chars (encode_utf8_all more ++ rest)) ≡ encode_utf8_all (x ∷ xs ++ more) ∷ words_after [] (chars rest)
rest_of_word x xs [] [] after solid opens = rw (append-nil xs, chars-nil)
rest_of_word x xs [] (b ∷ bs) after solid opens = let (c, white, is, scalar) = opens (omega arith) in rw (append-nil xs, is, first_char, white)
rest_of_word x xs (c ∷ cs) rest after solid opens = rw (append_assoc, first_char, solid.0, rest_of_word x (xs ++ c ∷ []) cs rest after solid.1 opens, append_assoc xs (c ∷ []) cs)

first_word : (word rest after : List ℕ) → 0 < length (encode_utf8_all word) → NonePass is_whitespace word → EmptyOrStartsWithPassing is_whitespace rest after
    → words_of (encode_utf8_all word ++ rest) ≡ encode_utf8_all word ∷ words_of rest
unfolding words_of
first_word [] rest after some solid opens = absurd (omega arith)
first_word (x ∷ xs) rest after some solid opens = rw (append_assoc, first_char, solid.0) (rest_of_word x [] xs rest after solid.1 opens)

-- what `next` does
pub takes : (s t : SplitWhitespace) (r : Option (Bor (List ℕ))) → split_whitespace_steps s r t → Taken (words_of (rest_of s)) r (words_of (rest_of t))
takes s t None (same, (gap, spells, blank)) =
    let none = simp append-nil at (skip_gap gap [] blank) ∙ no_words in
    rw (same, ← spells) (none, none)
takes s t (Some word) (gap, cut, some, (cs, spelt, blank), (ds, spells, solid), (after, opens)) =
    rw (cut, ← spelt, skip_gap cs (word.now ++ rest_of t) blank, ← spells) (first_word ds (rest_of t) after (rw spells some) solid opens)

-- one word fewer is left
pub progress : (s t : List (List ℕ)) (r : Option (Bor (List ℕ))) → Taken s r t → MakesProgress (λ _. Unit {0}) (λ words. at_most (length words)) s r t
progress s t None taken = record { on = λ _. tt; keeps = tt; rests = λ finite. tt }
progress s t (Some word) taken = record { on = λ _. (tt, tt, rw taken (omega arith)); keeps = tt; rests = λ _. tt }
