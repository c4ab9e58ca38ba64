-- The words of a text: its characters, cut at white space.
use Rattle.std.specs.Prelude.{◌≡◌, ℕ, cond, List, [], ◌∷◌, ◌++◌, Some, None, Option, encode_utf8_all}
use Rattle.std.specs.Borrow.{Bor}
use Rattle.std.specs.Char.{is_whitespace}
use Rattle.std.specs.Str.{chars}

-- a word that has begun, unless it is empty, before those that follow
abbrev pub ended : List ℕ → List (List ℕ) → List (List ℕ)
ended [] ws = ws
ended (c ∷ cs) ws = encode_utf8_all (c ∷ cs) ∷ ws

-- the words of characters that follow those of a word
abbrev pub words_after : List ℕ → List ℕ → List (List ℕ)
words_after word [] = ended word []
words_after word (c ∷ cs) = cond (is_whitespace c) (ended word (words_after [] cs)) (words_after (word ++ (c ∷ [])) cs)

unfoldable pub words_of : List ℕ → List (List ℕ)
words_of text = words_after [] (chars text)

-- the next word, if there is one, is taken from the words
abbrev pub Taken : List (List ℕ) → Option (Bor (List ℕ)) → List (List ℕ) → Type 0
Taken ws None rest = (ws ≡ []) × (rest ≡ [])
Taken ws (Some word) rest = ws ≡ word.now ∷ rest
