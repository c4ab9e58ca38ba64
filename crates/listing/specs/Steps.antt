-- What a line does to a listing, and what it answers.
use Rattle.std.specs.Prelude.{◌≡◌, Some, None, Ok, Err, Option, Result}
use Rattle.x86.specs.declared.instruction.Instruction.{Instruction as Ins}
use Rattle.x86.specs.declared.instruction.Width.TheVariants.{Bits64}
use Rattle.encoder.specs.Layouts.{size_of, code_of}
use Rattle.field_shapes.specs.Shapes.{shape}
use Rattle.field_encoder.specs.declared.FieldEncoder.{FieldEncoder}
use Rattle.field_encoder.specs.declared.UnknownBitness.{UnknownBitness}
use Rattle.field_encoder.specs.Makes.{made_by}
use Rattle.script.specs.declared.line.Line.{Line}
use Rattle.script.specs.declared.line.Line.TheVariants.{Bits, At, Instruction}
use Rattle.listing.specs.declared.answer.Answer.{Answer}
use Rattle.listing.specs.declared.listing.Listing.{Listing}
use Rattle.listing.specs.Answers.{answer_of, ReadsAs}
use Rattle.listing.specs.Moves.{start, moved, moving}

-- 64-bit code at address 0
abbrev pub opening : Listing
opening = record { encoder = record { bits = Bits64 }; progress = start }

-- another encoder, if there is one of that bitness
abbrev pub Switched : Listing → Result FieldEncoder UnknownBitness → Option (Option Answer) → Listing → Type 0
Switched l (Ok e) r m = (r ≡ Some None) × (m ≡ record { encoder = e; progress = l.progress })
Switched l (Err u) r m = (r ≡ None) × (m ≡ l)

-- what the field encoder answers to an instruction where the listing stands
abbrev pub answer_to : Listing → Ins → Answer
answer_to l i = answer_of (λ j. size_of j (shape l.encoder.bits j)) (λ j. code_of j (shape l.encoder.bits j)) i l.progress.address

abbrev pub Followed : Listing → Option Line → Option (Option Answer) → Listing → Type 0
Followed l None r m = (r ≡ Some None) × (m ≡ l)
Followed l (Some (Bits b)) r m = Switched l (made_by b) r m
Followed l (Some (At a)) r m = (r ≡ Some None) × (m ≡ record { encoder = l.encoder; progress = moving l.progress a })
Followed l (Some (Instruction i)) r m = (r ≡ Some (Some (answer_to l i))) × (m ≡ record { encoder = l.encoder; progress = moved l.progress (answer_to l i) })

-- a line that cannot be read changes nothing
abbrev pub Stepped : Listing → Option (Option Line) → Option (Option Answer) → Listing → Type 0
Stepped l None r m = (r ≡ None) × (m ≡ l)
Stepped l (Some line) r m = Followed l line r m

-- what is answered to an instruction reads as that instruction, in the bitness of the listing
abbrev pub Understood : Listing → Option (Option Line) → Option (Option Answer) → Type 0
Understood l line r = (i : Ins) (a : Answer) → line ≡ Some (Some (Instruction i)) → r ≡ Some (Some a) → ReadsAs l.encoder.bits i a
