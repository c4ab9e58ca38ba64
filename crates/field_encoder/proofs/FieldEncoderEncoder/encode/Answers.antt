use Rattle.std.proofs.Common.{◌≡◌, Some, sym, ap, ◌∙◌}
use Rattle.std.specs.Option.{option_map}
use Rattle.encoder.specs.Encodings.{answered}
use Rattle.encoder.specs.Layouts.{size_of, code_of}
use Rattle.encoder.specs.Laid.{laid}
use Rattle.branches.specs.Drafted.{drafted}
use Rattle.field_shapes.specs.Shapes.{shape}
use Rattle.field_encoder.proofs.FieldEncoderEncoder.encode.Goals as goal

pub returns-clause-answer : goal.returns-clause-answer
returns-clause-answer c =
    let i = c.args.ins.now in
    let same : Some (laid c.layout.result) ≡ shape c.args.self.now.bits i =
    ap Some c.layout.ensures ∙ (sym (ap (option_map drafted) c.in_ok-draft.ensures.ok_part) ∙ c.lay_out.ensures) in
    c.write.ensures.answer ∙ ap (λ o. answered (size_of i o) (code_of i o c.args.target c.args.address)) same
