-- What a line's instruction was by an earlier form of these definitions, in which each instruction was made with its old
-- address at once: the same, on every line.
use Rattle.std.proofs.Common.{◌≡◌, ℕ, List, Some, None, Option, refl, sym, ap, ◌∙◌}
use Rattle.x86.specs.declared.instruction.Instruction.{Instruction}
use Rattle.x86.specs.declared.instruction.Family.{Family}
use Rattle.x86.specs.declared.instruction.Family.TheVariants as family
use Rattle.x86.specs.declared.instruction.Form.{Form}
use Rattle.x86.specs.declared.instruction.Form.TheVariants.{Near}
use Rattle.x86.specs.declared.instruction.Width.{Width}
use Rattle.x86.specs.declared.instruction.Width.TheVariants.{Bits64}
use Rattle.bodies.specs.Kinds.{plain_body, memory_body}
use Rattle.script.specs.declared.mnemonic.Mnemonic.{Mnemonic}
use Rattle.script.specs.declared.mnemonic.Mnemonic.TheVariants.{Jcc, Jmp, Call, Plain, Memory, RawPlain, RawMemory, Other}
use Rattle.script.specs.Names.{mnemonic_of, has_register}
use Rattle.script.specs.Built.{placed}
use Rattle.script.specs.Lines.{body_in, register_in, instruction_of, stated_in, branch_line, operand_line}
use Rattle.text.specs.Phrases.{Phrase, chain, entire, meant, number_in, up_to_in, form_in, width_in}

record Branch : Type 0 where
  pub form : Form
  pub width : Width
  pub target : ℕ
  pub body : ℕ

record Operand : Type 0 where
  pub width : Width
  pub target : ℕ

abbrev branching' : Family → ℕ → ℕ → Branch → Instruction
branching' kin c old b = record { family = kin; condition = c; form = b.form; width = b.width; body = b.body; old_address = old; target = b.target }

abbrev pointing' : ℕ → ℕ → Operand → Instruction
pointing' old n o = record { family = family.Memory; condition = 0; form = Near; width = o.width; body = n; old_address = old; target = o.target }

abbrev standing' : ℕ → ℕ → Instruction
standing' old n = record { family = family.Plain; condition = 0; form = Near; width = Bits64; body = n; old_address = old; target = 0 }

abbrev unknown' : ℕ → Instruction
unknown' old = record { family = family.Other; condition = 0; form = Near; width = Bits64; body = 0; old_address = old; target = 0 }

abbrev branch_in : List (List ℕ) → Phrase Branch
branch_in ws =
    chain (form_in ws) (λ f ws₁. chain (width_in ws₁) (λ w ws₂. chain (number_in ws₂) (λ t ws₃.
    chain (body_in ws₃) (λ b ws₄. Some (record { form = f; width = w; target = t; body = b }, ws₄)))))

abbrev operand_in : List (List ℕ) → Phrase Operand
operand_in ws = chain (width_in ws) (λ w ws₁. chain (number_in ws₁) (λ t ws₂. Some (record { width = w; target = t }, ws₂)))

-- what a mnemonic wants behind it, at an old address
abbrev stated' : ℕ → Mnemonic → List (List ℕ) → Phrase Instruction
stated' old (Jcc c) ws = chain (branch_in ws) (λ b rest. Some (branching' family.Jcc c old b, rest))
stated' old Jmp ws = chain (branch_in ws) (λ b rest. Some (branching' family.Jmp 0 old b, rest))
stated' old Call ws = chain (branch_in ws) (λ b rest. Some (branching' family.Call 0 old b, rest))
stated' old (Plain k) ws = chain (register_in (has_register k) ws) (λ r rest. Some (standing' old (plain_body k r), rest))
stated' old (Memory k) ws = chain (up_to_in 0xFF ws) (λ r ws₁. chain (operand_in ws₁) (λ o rest. Some (pointing' old (memory_body k r) o, rest)))
stated' old RawPlain ws = chain (up_to_in 0xFFFF_FFFF ws) (λ n rest. Some (standing' old n, rest))
stated' old RawMemory ws = chain (up_to_in 0xFFFF_FFFF ws) (λ n ws₁. chain (operand_in ws₁) (λ o rest. Some (pointing' old n o, rest)))
stated' old Other ws = Some (unknown' old, ws)

assoc : {X Y Z : Type 0} (p : Phrase X) (f : X → List (List ℕ) → Phrase Y) (g : Y → List (List ℕ) → Phrase Z) → chain (chain p f) g ≡ chain p (λ x r. chain (f x r) g)
assoc None f g = refl
assoc (Some p) f g = refl

same : {X Y : Type 0} (p : Phrase X) (f g : X → List (List ℕ) → Phrase Y) → ((x : X) (r : List (List ℕ)) → f x r ≡ g x r) → chain p f ≡ chain p g
same None f g h = refl
same (Some p) f g h = h p.0 p.1

abbrev put : ℕ → Phrase Instruction → Phrase Instruction
put old p = chain p (λ i rest. Some (placed old i, rest))

-- four phrases in a row, and what is made of them
four : {A B C D Y Z : Type 0} (p : Phrase A) (q : List (List ℕ) → Phrase B) (r : List (List ℕ) → Phrase C) (s : List (List ℕ) → Phrase D) (g : A → B → C → D → List (List ℕ) → Phrase Y) (h : Y → List (List ℕ) → Phrase Z)
    → chain (chain p (λ a r₁. chain (q r₁) (λ b r₂. chain (r r₂) (λ c r₃. chain (s r₃) (g a b c))))) h ≡ chain p (λ a r₁. chain (q r₁) (λ b r₂. chain (r r₂) (λ c r₃. chain (s r₃) (λ d r₄. chain (g a b c d r₄) h))))
four p q r s g h =
    assoc p _ _ ∙ same p _ _ (λ a r₁. assoc (q r₁) _ _ ∙ same (q r₁) _ _ (λ b r₂. assoc (r r₂) _ _ ∙ same (r r₂) _ _ (λ c r₃. assoc (s r₃) _ _)))

branches : (kin : Family) (c old : ℕ) (ws : List (List ℕ)) → put old (branch_line kin c ws) ≡ chain (branch_in ws) (λ b rest. Some (branching' kin c old b, rest))
branches kin c old ws =
    four (form_in ws) width_in number_in body_in _ (λ i rest. Some (placed old i, rest)) ∙ sym (four (form_in ws) width_in number_in body_in _ (λ b rest. Some (branching' kin c old b, rest)))

operands : (old n : ℕ) (ws : List (List ℕ)) → put old (operand_line n ws) ≡ chain (operand_in ws) (λ o rest. Some (pointing' old n o, rest))
operands old n ws =
    assoc (width_in ws) _ _ ∙ same (width_in ws) _ _ (λ w ws₁. assoc (number_in ws₁) _ _)
    ∙ sym (assoc (width_in ws) _ _ ∙ same (width_in ws) _ _ (λ w ws₁. assoc (number_in ws₁) _ _))

same_statements : (old : ℕ) (m : Mnemonic) (ws : List (List ℕ)) → put old (stated_in m ws) ≡ stated' old m ws
same_statements old (Jcc c) ws = branches family.Jcc c old ws
same_statements old Jmp ws = branches family.Jmp 0 old ws
same_statements old Call ws = branches family.Call 0 old ws
same_statements old (Plain k) ws = assoc (register_in (has_register k) ws) _ _
same_statements old (Memory k) ws = assoc (up_to_in 0xFF ws) _ _ ∙ same (up_to_in 0xFF ws) _ _ (λ r ws₁. operands old (memory_body k r) ws₁)
same_statements old RawPlain ws = assoc (up_to_in 0xFFFF_FFFF ws) _ _
same_statements old RawMemory ws = assoc (up_to_in 0xFFFF_FFFF ws) _ _ ∙ same (up_to_in 0xFFFF_FFFF ws) _ _ (λ n ws₁. operands old n ws₁)
same_statements old Other ws = refl

abbrev instruction' : List (List ℕ) → Option Instruction
instruction' ws = entire (chain (number_in ws) (λ old ws₁. chain (meant mnemonic_of ws₁) (stated' old)))

same_instructions : (ws : List (List ℕ)) → instruction_of ws ≡ instruction' ws
same_instructions ws =
    ap entire (same (number_in ws) _ _ (λ old ws₁. same (meant mnemonic_of ws₁) _ _ (λ m ws₂. same_statements old m ws₂)))
