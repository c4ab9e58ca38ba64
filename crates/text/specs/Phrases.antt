-- What the next words of a line say, with the words behind them; none where they say no such thing.
use Rattle.std.specs.Prelude.{◌≡◌, ℕ, List, [], ◌∷◌, Some, None, Ok, Err, Option, Result}
use Rattle.std.specs.Borrow.{Bor}
use Rattle.std.specs.Option.{option_map}
use Rattle.x86.specs.declared.instruction.Form.{Form}
use Rattle.x86.specs.declared.instruction.Width.{Width}
use Rattle.text.specs.Tables.{form_of, width_named}
use Rattle.text.specs.Numbers.{number_of, number_up_to}

abbrev pub Phrase : Type 0 → Type 0
Phrase X = Option (X × List (List ℕ))

-- what a call answered, and the words that it left
abbrev pub told : {X E : Type 0} → Result X E → List (List ℕ) → Phrase X
told (Ok x) rest = Some (x, rest)
told (Err e) rest = None

-- one phrase behind another
abbrev pub chain : {X Y : Type 0} → Phrase X → (X → List (List ℕ) → Phrase Y) → Phrase Y
chain None more = None
chain (Some p) more = more p.0 p.1

-- a phrase that is all of the line
abbrev pub alone : {X : Type 0} → X → List (List ℕ) → Option X
alone x [] = Some x
alone x (w ∷ ws) = None

abbrev pub entire : {X : Type 0} → Phrase X → Option X
entire None = None
entire (Some p) = alone p.0 p.1

-- a word is answered and taken, or there is none
abbrev pub Worded : {E : Type 0} → List (List ℕ) → Result (Bor (List ℕ)) E → List (List ℕ) → Type 0
Worded ws (Ok word) rest = ws ≡ word.now ∷ rest
Worded ws (Err e) rest = ws ≡ []

-- what a word means by a table or a rule
abbrev pub meant : {X : Type 0} → (List ℕ → Option X) → List (List ℕ) → Phrase X
meant meaning [] = None
meant meaning (w ∷ ws) = option_map (λ x. (x, ws)) (meaning w)

abbrev pub number_in : List (List ℕ) → Phrase ℕ
number_in ws = meant number_of ws

abbrev pub up_to_in : ℕ → List (List ℕ) → Phrase ℕ
up_to_in most ws = meant (number_up_to most) ws

abbrev pub form_in : List (List ℕ) → Phrase Form
form_in ws = meant form_of ws

abbrev pub width_in : List (List ℕ) → Phrase Width
width_in ws = meant width_named ws
