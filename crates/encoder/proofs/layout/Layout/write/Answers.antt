use Rattle.std.proofs.Common.{◌≡◌, ℕ, ◌+◌, ◌≤◌, true, length, take, Some, sym, ap, ◌∙◌, arith, length-append, length-take}
use Rattle.std.proofs.lemmas.Int.{to_z-of_z}
use Rattle.std.proofs.lemmas.Grind.{common_steps}
use Rattle.x86.specs.declared.instruction.Instruction.{Instruction}
use Rattle.encoder.specs.declared.field.Field.{Field}
use Rattle.encoder.specs.declared.layout.Layout.{Layout}
use Rattle.encoder.specs.Fields.{field_of, field_size, fits}
use Rattle.encoder.specs.Layouts.{size_of, filled, field_bytes}
use Rattle.encoder.specs.Laid.{laid}
use Rattle.encoder.proofs.Shapes.{sized, code_filled, length_filled}
use Rattle.encoder.proofs.Rows.{taken_field, parts_put}
use Rattle.encoder.proofs.layout.Layout.write.Goals as goal

-- a size leaves room for every part
room : (i : Instruction) (l : Layout) {f : Field} {n : ℕ} → Some n ≡ size_of i (Some (laid l)) → f ≡ field_of i
    → length l.prefixes.now + length l.opcode.now + field_size f + length l.tail.now ≤ 15
room i l e p = let s = sized i (laid l) _ (sym e) in omega (arith, s, ap field_size p, length-append l.prefixes.now l.opcode.now)

pub split_at_mut-part-requires-3 : goal.split_at_mut-part-requires-3
split_at_mut-part-requires-3 c =
    omega (arith, room c.args.ins.now c.args.self.now c.in-Some.ensures c.of-field.ensures, length-take c.size-2.result c.to_le_bytes-bytes.result)

pub split_at_mut-part-requires-4 : goal.split_at_mut-part-requires-4
split_at_mut-part-requires-4 c =
    omega (arith, room c.args.ins.now c.args.self.now c.in-Some.ensures c.of-field.ensures, length-take c.size-2.result c.to_le_bytes-bytes.result)

pub returns : goal.returns
returns c =
    let i = c.args.ins.now in
    let l = c.args.self.now in
    let size = sym c.in-Some.ensures in
    let d = c.displacement_to-displacement.result in
    let near : fits c.of-field.result d ≡ true = grind (arith, to_z-of_z, c.holds.ensures, c.if-not-holds.false) in
    let code = code_filled i (laid l) c.args.target c.args.address _ _ d size c.of-field.ensures c.displacement_to-displacement.ensures near in
    let long : length (filled i (laid l) d).bytes ≡ c.in-Some.size = length_filled i (laid l) d ∙ (sized i (laid l) _ size).is in
    let held : take c.size-2.result c.to_le_bytes-bytes.result ≡ field_bytes (field_of i) d =
    grind (arith, common_steps, c.of-field.ensures, c.size-2.ensures, c.to_le_bytes-bytes.ensures, taken_field) in
    record {
      answer = rw code (cc);
      after =
          rw code (parts_put i l d c.args.row.now held
          c.copy_from_slice.ensures.after c.split_at_mut-part.ensures.back
          c.copy_from_slice-2.ensures.after c.split_at_mut-part-2.ensures.back
          c.copy_from_slice-3.ensures.after c.split_at_mut-part-3.ensures.back
          c.copy_from_slice-4.ensures.after c.split_at_mut-part-4.ensures.back);
    }
