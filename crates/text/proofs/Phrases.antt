-- Words of specs/ that say the same in other forms: the widths as a table, and a phrase as a number with a test behind it.
use Rattle.std.specs.Prelude.{◌≡◌, ◌==◌, ℕ, cond, nat_le, List, [], ◌∷◌, Some, None, refl}
use Rattle.std.proofs.Common.{arith}
use Rattle.std.specs.Option.{option_map}
use Rattle.x86.specs.declared.instruction.Width.TheVariants.{Bits16, Bits32, Bits64}
use Rattle.text.specs.Phrases.{chain, number_in, up_to_in, width_in}
use Rattle.text.specs.Tables.{width_of}

width_of_table : (bits : ℕ) → width_of bits ≡ cond (bits == 16) (Some Bits16) (cond (bits == 32) (Some Bits32) (cond (bits == 64) (Some Bits64) None))
width_of_table bits = grind arith

-- a number, and then whether it is low enough
up_to_in_chain : (most : ℕ) (ws : List (List ℕ)) → up_to_in most ws ≡ chain (number_in ws) (λ n rest. cond (nat_le n most) (Some (n, rest)) None)
up_to_in_chain most [] = refl
up_to_in_chain most (w ∷ ws) = grind arith

-- a number, and then whether it is a width
width_in_chain : (ws : List (List ℕ)) → width_in ws ≡ chain (number_in ws) (λ n rest. option_map (λ w. (w, rest)) (width_of n))
width_in_chain [] = refl
width_in_chain (w ∷ ws) = grind arith
