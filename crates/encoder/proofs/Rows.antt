-- A row that is cut into parts, which are filled one by one.
use Rattle.std.proofs.Common.{◌≡◌, ℕ, List, ◌++◌, length, take, drop, ℤ, Some, refl, arith, w64}
use Rattle.std.specs.Int.{cast_unsigned, to_le_bytes}
use Rattle.std.proofs.lemmas.List.{drop-drop}
use Rattle.std.proofs.lemmas.Grind.{common_steps}
use Rattle.x86.specs.declared.instruction.Instruction.{Instruction}
use Rattle.encoder.specs.declared.field.Field.{Field}
use Rattle.encoder.specs.declared.field.Field.TheVariants.{Absent, Byte, Word, Double}
use Rattle.encoder.specs.declared.layout.Layout.{Layout}
use Rattle.encoder.specs.Fields.{field_of, field_size}
use Rattle.encoder.specs.Encodings.{stored}
use Rattle.encoder.specs.Laid.{laid}
use Rattle.encoder.specs.Layouts.{field_bytes, filled}

-- the first bytes of a displacement are those that its field holds
pub taken_field : (f : Field) (d : ℤ) → take (field_size f) (to_le_bytes w64 (cast_unsigned w64 d)) ≡ field_bytes f d
taken_field Absent d = refl
taken_field Byte d = refl
taken_field Word d = refl
taken_field Double d = grind (arith, common_steps)

-- each part qk is a part of the encoding, and each rest rk what lay behind it
pub parts_put : (i : Instruction) (l : Layout) (d : ℤ) (row : List ℕ) {held q1 q2 q3 q4 r1 r2 r3 r4 : List ℕ}
    → held ≡ field_bytes (field_of i) d
    → q1 ≡ l.prefixes.now → r1 ≡ drop (length l.prefixes.now) row
    → q2 ≡ l.opcode.now → r2 ≡ drop (length l.opcode.now) r1
    → q3 ≡ held → r3 ≡ drop (length held) r2
    → q4 ≡ l.tail.now → r4 ≡ drop (length l.tail.now) r3
    → q1 ++ (q2 ++ (q3 ++ (q4 ++ r4))) ≡ stored (Some (filled i (laid l) d)) row
parts_put i l d row h a1 b1 a2 b2 a3 b3 a4 b4 = grind (arith, common_steps, drop-drop {A = ℕ})
