-- The shapes of branches, behind prefixes of their own, keep the laws of shapes.
use Rattle.std.proofs.Common.{◌≡◌, ℕ, ◌+◌, ◌≤◌, true, leb, List, ◌++◌, length, Some, IfSome, arith, lit≤, length-append, leb-true}
use Rattle.std.proofs.lemmas.Bool.{and_parts}
use Rattle.x86.specs.declared.instruction.Family.{Family}
use Rattle.x86.specs.declared.instruction.Family.TheVariants.{Jcc, Jmp, Call}
use Rattle.x86.specs.declared.instruction.Form.{Form}
use Rattle.x86.specs.declared.instruction.Form.TheVariants.{Short, Near}
use Rattle.x86.specs.declared.instruction.Width.{Width}
use Rattle.x86.specs.declared.instruction.Width.TheVariants.{Bits16}
use Rattle.x86.specs.Reading.{jcc, jmp, call}
use Rattle.encoder.specs.Fields.{branch_field, field_by, field_size, fits, displacement}
use Rattle.encoder.specs.Encodings.{ReadsBy}
use Rattle.encoder.specs.Laws.{possible_by, branch_width}
use Rattle.encoder.specs.Layouts.{Shape, field_bytes}
use Rattle.encoder.proofs.Options.{if_tested, Both}
use Rattle.branches.specs.Shapes.{opcode_of, branch_bytes, branch_shape}
use Rattle.branches.proofs.BranchReads.{Hints, jcc_opens, jmp_opens, call_opens, branch_reads}

-- what code cannot have has no shape
abbrev pub Real : Width → Family → ℕ → Form → Width → Shape → Type 0
Real mode family c f w s = possible_by mode family c f w ≡ true

pub branch_real : (ps : List ℕ) (mode : Width) (family : Family) (c : ℕ) (f : Form) (w : Width) → IfSome (branch_shape ps mode family c f w) (Real mode family c f w)
branch_real ps mode family c f w = grind arith

abbrev pub long : Family → Form → Width → Shape → ℕ
long family f w s = length s.head + field_size (field_by family f w) + length s.tail

field_shorter : (w : Width) → 1 ≤ field_size (branch_field Near w)
field_shorter Bits16 = lit≤ tt
field_shorter w = lit≤ tt

opcode_shorter : (family : Family) (c : ℕ) → length (opcode_of family c Short) ≤ length (opcode_of family c Near)
opcode_shorter Jcc c = lit≤ tt
opcode_shorter family c = lit≤ tt

-- behind the same prefixes a short branch is no longer than a near one
pub branch_shorter : (ps : List ℕ) (mode : Width) (family : Family) (c : ℕ) (w : Width)
    → Both (λ s s'. length s.head + 1 + length s.tail ≤ length s'.head + field_size (branch_field Near w) + length s'.tail)
    (branch_shape ps mode family c Short w) (branch_shape ps mode family c Near w)
branch_shorter ps mode family c w =
    grind (arith, field_shorter w, opcode_shorter family c, length-append {A = ℕ})

-- filled with a displacement that fits, a shape reads back
abbrev pub Back : Width → Family → ℕ → Form → Width → Shape → Type 0
Back mode family c f w s =
    (t a : ℕ) → let d = displacement w t (a + long family f w s) in
    fits (field_by family f w) d ≡ true
    → ReadsBy mode family c f w t a (record { bytes = s.head ++ (field_bytes (field_by family f w) d ++ s.tail); constants = s.constants })

pub branch_back : (ps : List ℕ) (mode : Width) (family : Family) (c : ℕ) (f : Form) (w : Width) → Hints ps → IfSome (branch_shape ps mode family c f w) (Back mode family c f w)
branch_back ps mode Jcc c f w p =
    if_tested (Back mode Jcc c f w) _ (Some (branch_bytes ps mode w f (opcode_of Jcc c f)))
    (λ h t a near. let q = and_parts (branch_width mode w) (leb c 15) h in branch_reads mode w (jcc c) f (opcode_of Jcc c f) ps t a q.0 (jcc_opens c f (leb-true c 15 q.1)) p near)
branch_back ps mode Jmp c f w p =
    if_tested (Back mode Jmp c f w) _ (Some (branch_bytes ps mode w f (opcode_of Jmp c f)))
    (λ h t a near. branch_reads mode w jmp f (opcode_of Jmp c f) ps t a h (jmp_opens c f) p near)
branch_back ps mode Call c Near w p =
    if_tested (Back mode Call c Near w) _ (Some (branch_bytes ps mode w Near (opcode_of Call c Near)))
    (λ h t a near. branch_reads mode w call Near (opcode_of Call c Near) ps t a (and_parts (branch_width mode w) true h).0 (call_opens c) p near)
branch_back ps mode Call c Short w p = grind arith
branch_back ps mode family c f w p = tt
