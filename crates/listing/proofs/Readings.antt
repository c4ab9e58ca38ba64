-- What a listing answers reads back.
use Rattle.std.proofs.Common.{◌≡◌, ℕ, Some, None, Option, refl, sym, subst}
use Rattle.x86.specs.declared.instruction.Instruction.{Instruction as Ins}
use Rattle.x86.specs.declared.instruction.Width.{Width}
use Rattle.encoder.specs.Encodings.{Encoding, Reads}
use Rattle.encoder.specs.Layouts.{size_of, code_of}
use Rattle.encoder.proofs.ShapeLaws.{encoder_laws}
use Rattle.field_shapes.specs.Shapes.{shape}
use Rattle.field_shapes.proofs.FieldShapes.{field_shapes}
use Rattle.script.specs.declared.line.Line.{Line}
use Rattle.listing.specs.declared.answer.Answer.{Answer}
use Rattle.listing.specs.declared.listing.Listing.{Listing}
use Rattle.listing.specs.Answers.{answer_at, ReadsAs}
use Rattle.listing.specs.Steps.{answer_to, Stepped, Understood}
use Rattle.listing.proofs.Codes.{code_bytes-padded}

answer_reads : (mode : Width) (i : Ins) (a : ℕ) (size : Option ℕ) (code : Option Encoding)
    → ((x : Encoding) → code ≡ Some x → Reads mode i i.target a x) → ReadsAs mode i (answer_at a size code)
answer_reads mode i a size (Some x) h =
    subst (λ bs. Reads mode i i.target a (record { bytes = bs; constants = x.constants })) (sym (code_bytes-padded x.bytes)) (h x refl)
answer_reads mode i a (Some n) None h = tt
answer_reads mode i a None None h = tt

pub understood : (l : Listing) (line : Option (Option Line)) (r : Option (Option Answer)) (m : Listing) → Stepped l line r m → Understood l line r
understood l line r m step i answer e f =
    let mode = l.encoder.bits in
    let a = l.progress.address in
    let laws = encoder_laws mode (shape mode) (field_shapes mode) in
    let told = (subst (λ line. Stepped l line r m) e step).0 in
    let same : answer_to l i ≡ answer = cc in
    subst (ReadsAs mode i) same
    (answer_reads mode i a (size_of i (shape mode i)) (code_of i (shape mode i) i.target a) (λ x h. laws.reads i i.target a x h))
