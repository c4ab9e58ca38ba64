-- An encoder that says no more than what its shapes are: every law follows from a few facts about them.
use Rattle.std.proofs.Common.{◌≡◌, ℕ, ◌+◌, ◌≤◌, true, length, is_some, Some, None, Option, IfSome, refl, ap, subst, arith}
use Rattle.x86.specs.declared.instruction.Family.TheVariants.{Memory, Plain}
use Rattle.x86.specs.declared.instruction.Form.{Form}
use Rattle.x86.specs.declared.instruction.Form.TheVariants.{Short, Near}
use Rattle.x86.specs.declared.instruction.Width.{Width}
use Rattle.x86.specs.declared.instruction.Width.TheVariants.{Bits32, Bits64}
use Rattle.x86.specs.declared.instruction.Instruction.{Instruction}
use Rattle.x86.specs.Instructions.{shaped, formed, widened}
use Rattle.encoder.specs.declared.field.Field.TheVariants.{Absent}
use Rattle.encoder.specs.Fields.{field_of, displacement, reaches}
use Rattle.encoder.specs.Encodings.{Encoding, Reads}
use Rattle.encoder.specs.Laws.{possible, MeasureLaws, EncoderLaws}
use Rattle.encoder.specs.Layouts.{Shape, total, size_of, filled, code_of}
use Rattle.encoder.proofs.Options.{Both}
use Rattle.encoder.proofs.Shapes.{sized, code_written, length_filled}

-- filled with a displacement that fits, a shape reads back
abbrev pub ReadsBack : Width → Instruction → Shape → Type 0
ReadsBack mode i s = (t a : ℕ) → reaches i (total i s) t a ≡ true → Reads mode i t a (filled i s (displacement i.width t (a + total i s)))

pub record ShapeLaws (mode : Width) (shape : Instruction → Option Shape) : Type 0 where
  pub real : (i : Instruction) → IfSome (shape i) (λ _. possible mode i ≡ true)
  pub shorter : (i : Instruction) → Both (λ s s'. total (formed i Short) s ≤ total (formed i Near) s') (shape (formed i Short)) (shape (formed i Near))
  pub narrower : (i : Instruction) → i.family ≡ Memory → Both (λ s s'. total (widened i Bits64) s ≤ total (widened i Bits32) s') (shape (widened i Bits64)) (shape (widened i Bits32))
  pub plain : (i : Instruction) (f : Form) (w : Width) → i.family ≡ Plain → shape (shaped i f w) ≡ shape i
  pub memory : (i : Instruction) (f : Form) → i.family ≡ Memory → shape (formed i f) ≡ shape i
  pub reads : (i : Instruction) → IfSome (shape i) (ReadsBack mode i)

within : (i : Instruction) (o : Option Shape) (n : ℕ) → size_of i o ≡ Some n → (1 ≤ n) × (n ≤ 15)
within i None n e = cc
within i (Some s) n e = (sized i s n e).within

-- what holds of the shape's total holds of the size
sized_every : (P : Type 0) (i : Instruction) (o : Option Shape) → IfSome o (λ _. P) → (n : ℕ) → size_of i o ≡ Some n → P
sized_every P i None h n e = cc
sized_every P i (Some s) h n e = h

sized_both : (i j : Instruction) (o p : Option Shape) → Both (λ s s'. total i s ≤ total j s') o p → (m n : ℕ) → size_of i o ≡ Some m → size_of j p ≡ Some n → m ≤ n
sized_both i j None p h m n d e = cc
sized_both i j (Some s) None h m n d e = cc
sized_both i j (Some s) (Some s') h m n d e = omega (arith, (sized i s m d).is, (sized j s' n e).is)

-- sizes and codes see of an instruction no more than its field and its width
size_by : (i j : Instruction) (o : Option Shape) → field_of i ≡ field_of j → size_of i o ≡ size_of j o
size_by i j None e = refl
size_by i j (Some s) e = rw e

code_by : (i j : Instruction) (o : Option Shape) (t a : ℕ) → field_of i ≡ field_of j → i.width ≡ j.width → code_of i o t a ≡ code_of j o t a
code_by i j None t a e d = refl
code_by i j (Some s) t a e d = rw (e, d)

-- without a field, target and address play no part
code_plain : (i : Instruction) (o : Option Shape) (t a t' a' : ℕ) → field_of i ≡ Absent → code_of i o t a ≡ code_of i o t' a'
code_plain i None t a t' a' e = refl
code_plain i (Some s) t a t' a' e = rw e

pub measure_laws : (mode : Width) (shape : Instruction → Option Shape) → ShapeLaws mode shape → MeasureLaws mode (λ i. size_of i (shape i))
measure_laws mode shape laws =
    record {
      within = λ i n e. within i (shape i) n e;
      real = λ i n e. sized_every _ i (shape i) (laws.real i) n e;
      shorter = λ i m n d e. sized_both (formed i Short) (formed i Near) _ _ (laws.shorter i) m n d e;
      narrower = λ i m n f d e. sized_both (widened i Bits64) (widened i Bits32) _ _ (laws.narrower i f) m n d e;
      plain = λ i f w e. rw (laws.plain i f w e) (size_by (shaped i f w) i (shape i) (rw e));
      memory = λ i f e. rw (laws.memory i f e) (size_by (formed i f) i (shape i) (rw e));
    }

-- a code that is written of a shape
code_some : (i : Instruction) (s : Shape) (t a : ℕ) (x : Encoding) → code_of i (Some s) t a ≡ Some x
    → (size_of i (Some s) ≡ Some (total i s)) × (reaches i (total i s) t a ≡ true) × (filled i s (displacement i.width t (a + total i s)) ≡ x)
code_some i s t a x e = (grind arith, grind arith, grind arith)

exact : (i : Instruction) (o : Option Shape) (t a : ℕ) (x : Encoding) → code_of i o t a ≡ Some x → size_of i o ≡ Some (length x.bytes)
exact i None t a x e = cc
exact i (Some s) t a x e =
    let p = code_some i s t a x e in
    let l = length_filled i s (displacement i.width t (a + total i s)) in
    let q = ap (λ (x : Encoding). length x.bytes) p.2 in
    cc

refuses : (i : Instruction) (o : Option Shape) (t a n : ℕ) → size_of i o ≡ Some n → is_some (code_of i o t a) ≡ reaches i n t a
refuses i None t a n e = cc
refuses i (Some s) t a n e = let p = code_written i s t a n e in grind arith

reads : (mode : Width) (i : Instruction) (o : Option Shape) (t a : ℕ) (x : Encoding) → IfSome o (ReadsBack mode i) → code_of i o t a ≡ Some x → Reads mode i t a x
reads mode i None t a x h e = cc
reads mode i (Some s) t a x h e = let p = code_some i s t a x e in subst (Reads mode i t a) p.2 (h t a p.1)

pub encoder_laws : (mode : Width) (shape : Instruction → Option Shape) → ShapeLaws mode shape
    → EncoderLaws mode (λ i. size_of i (shape i)) (λ i t a. code_of i (shape i) t a)
encoder_laws mode shape laws =
    record {
      exact = λ i t a x e. exact i (shape i) t a x e;
      refuses = λ i t a n e. refuses i (shape i) t a n e;
      reads = λ i t a x e. reads mode i (shape i) t a x (laws.reads i) e;
      plain = λ i t a t' a' e. code_plain i (shape i) t a t' a' (rw e);
      memory = λ i f t a e. rw (laws.memory i f e) (code_by (formed i f) i (shape i) t a (rw e) refl);
    }
