-- Tables of words, and what the words for forms and widths stand for.
use Rattle.std.specs.Prelude.{ℕ, cond, List, [], ◌∷◌, Some, None, codes, Option}
use Rattle.std.specs.Option.{option_and_then}
use Rattle.std.specs.Result.{result_ok}
use Rattle.std.specs.Str.{bytes_eq}
use Rattle.x86.specs.declared.instruction.Form.{Form}
use Rattle.x86.specs.declared.instruction.Form.TheVariants.{Short, Near}
use Rattle.x86.specs.declared.instruction.Width.{Width}
use Rattle.x86.specs.Bitness.{width_of_bits}
use Rattle.text.specs.Numbers.{number_of}

-- what the first entry under a word holds
abbrev pub lookup : {X : Type 0} → List (List ℕ × X) → List ℕ → Option X
lookup [] word = None
lookup (entry ∷ entries) word = cond (bytes_eq word entry.0) (Some entry.1) (lookup entries word)

abbrev pub forms : List (List ℕ × Form)
forms = (codes "short", Short) ∷ (codes "near", Near) ∷ []

abbrev pub form_of : List ℕ → Option Form
form_of word = lookup forms word

-- x86's widths, by their numbers of bits
abbrev pub width_of : ℕ → Option Width
width_of bits = result_ok (width_of_bits bits)

-- a width is written as its number of bits
abbrev pub width_named : List ℕ → Option Width
width_named word = option_and_then width_of (number_of word)
