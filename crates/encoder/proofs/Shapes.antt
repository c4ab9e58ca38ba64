-- Sizes and codes of shapes.
use Rattle.std.proofs.Common.{◌≡◌, ℕ, ◌+◌, ◌≤◌, true, ◌&&◌, leb, length, ℤ, Some, sym, refl, ap, ◌∙◌, arith, length-append}
use Rattle.std.proofs.lemmas.Bool.Decides.{nat_tests}
use Rattle.std.proofs.lemmas.Option.{cond_some}
use Rattle.x86.specs.declared.instruction.Instruction.{Instruction}
use Rattle.encoder.specs.declared.field.Field.{Field}
use Rattle.encoder.specs.declared.field.Field.TheVariants.{Absent, Byte, Word, Double}
use Rattle.encoder.specs.Fields.{field_of, field_size, fits, displacement, reaches}
use Rattle.encoder.specs.Layouts.{Shape, field_bytes, total, size_of, filled, written, code_of}

-- a shape that has a size
pub record Sized (i : Instruction) (s : Shape) (n : ℕ) : Type 0 where
  pub fitting : (leb 1 (total i s) && leb (total i s) 15) ≡ true
  pub is : total i s ≡ n
  pub within : (1 ≤ n) × (n ≤ 15)

pub sized : (i : Instruction) (s : Shape) (n : ℕ) → size_of i (Some s) ≡ Some n → Sized i s n
sized i s n e =
    let p = cond_some _ _ n e in
    record { fitting = p.0; is = p.1; within = grind (arith, nat_tests) }

pub code_written : (i : Instruction) (s : Shape) (t a n : ℕ) → size_of i (Some s) ≡ Some n → code_of i (Some s) t a ≡ written i s t a n
code_written i s t a n e = let p = sized i s n e in rw p.fitting (ap (written i s t a) p.is)

pub length_field : (f : Field) (d : ℤ) → length (field_bytes f d) ≡ field_size f
length_field Absent d = refl
length_field Byte d = refl
length_field Word d = refl
length_field Double d = refl

pub length_filled : (i : Instruction) (s : Shape) (d : ℤ) → length (filled i s d).bytes ≡ total i s
length_filled i s d = simp (length-append, length_field) (omega arith)

-- a displacement that fits is written
pub code_filled : (i : Instruction) (s : Shape) (t a n : ℕ) (f : Field) (d : ℤ) → size_of i (Some s) ≡ Some n
    → f ≡ field_of i → d ≡ displacement i.width t (a + n) → fits f d ≡ true → code_of i (Some s) t a ≡ Some (filled i s d)
code_filled i s t a n f d e p q r =
    let reached : reaches i n t a ≡ true = ap (λ f. fits f (displacement i.width t (a + n))) (sym p) ∙ (ap (fits f) (sym q) ∙ r) in
    code_written i s t a n e ∙ rw (reached, q)
