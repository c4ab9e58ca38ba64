-- The field encoder's shapes keep the laws of shapes.
use Rattle.std.specs.Prelude.{◌≡◌, ℕ, ◌+◌, ◌/◌, ◌%◌, ◌≤◌, Bool, true, false, cond, List, [], ◌∷◌, length, Some, None, Option, IfSome, ◌==◌, nat_lt, refl}
use Rattle.std.proofs.Common.{arith, lit≤}
use Rattle.std.proofs.lemmas.Option.{IfSome_then}
use Rattle.x86.specs.declared.instruction.Family.{Family}
use Rattle.x86.specs.declared.instruction.Family.TheVariants.{Memory, Plain, Other}
use Rattle.x86.specs.declared.instruction.Form.{Form}
use Rattle.x86.specs.declared.instruction.Form.TheVariants.{Short, Near}
use Rattle.x86.specs.declared.instruction.Width.{Width}
use Rattle.x86.specs.declared.instruction.Width.TheVariants.{Bits16, Bits32, Bits64}
use Rattle.x86.specs.Reading.{narrowed}
use Rattle.encoder.specs.Laws.{memory_width}
use Rattle.encoder.specs.Layouts.{Shape}
use Rattle.encoder.proofs.Options.{if_tested, if_always, Both, both_if, both_same}
use Rattle.encoder.proofs.Readings.{ShowsOperand, operand_reads}
use Rattle.encoder.proofs.ShapeLaws.{ShapeLaws}
use Rattle.bodies.specs.declared.MemoryKind.{MemoryKind}
use Rattle.bodies.specs.declared.MemoryKind.TheVariants.{Load, Store, Address, Compare}
use Rattle.bodies.specs.Kinds.{plain_kind, memory_kind}
use Rattle.branches.specs.Shapes.{branch_shape}
use Rattle.branches.proofs.BranchShapes.{Real, long, Back, branch_real, branch_shorter, branch_back}
use Rattle.field_shapes.specs.Shapes.{moved, compared, memory_by, of_plain, of_memory, shape_by, shape}

-- what holds of the shapes of each kind of memory instruction holds of those of a body
memory_if : (P : Shape → Type 0) (mode w : Width) (kind : Option MemoryKind) (low : ℕ)
    → (memory_width mode w ≡ true → (k : MemoryKind) → IfSome (memory_by w k low) P) → IfSome (of_memory mode w kind low) P
memory_if P mode w None low h = tt
memory_if P mode w (Some k) low h = if_tested P (memory_width mode w) (memory_by w k low) (λ e. h e k)

memory_real : (mode w : Width) (kind : Option MemoryKind) (low : ℕ) → IfSome (of_memory mode w kind low) (λ _. memory_width mode w ≡ true)
memory_real mode w kind low = memory_if _ mode w kind low (λ e k. if_always _ (memory_by w k low) (λ _. e))

real : (mode : Width) (family : Family) (c : ℕ) (f : Form) (w : Width) (body : ℕ) → IfSome (shape_by mode family c f w body) (Real mode family c f w)
real mode Memory c f w body = memory_real mode w (memory_kind (body / 256)) (body % 256)
real mode Plain c f w body = if_always _ (of_plain mode (plain_kind (body / 256)) (body % 256)) (λ _. refl)
real mode Other c f w body = tt
real mode family c f w body = if_tested _ (body == 0) (branch_shape [] mode family c f w) (λ _. branch_real [] mode family c f w)

abbrev Shorter : Family → Width → Shape → Shape → Type 0
Shorter family w s s' = long family Short w s ≤ long family Near w s'

shorter : (mode : Width) (family : Family) (c : ℕ) (w : Width) (body : ℕ) → Both (Shorter family w) (shape_by mode family c Short w body) (shape_by mode family c Near w body)
shorter mode Memory c w body = both_same _ (shape_by mode Memory c Short w body) (λ s. omega arith)
shorter mode Plain c w body = both_same _ (shape_by mode Plain c Short w body) (λ s. omega arith)
shorter mode Other c w body = tt
shorter mode family c w body =
    both_if _ (body == 0) (body == 0) (branch_shape [] mode family c Short w) (branch_shape [] mode family c Near w) (branch_shorter [] mode family c w)

abbrev Narrower : Shape → Shape → Type 0
Narrower s s' = length s.head + 4 + length s.tail ≤ length s'.head + 4 + length s'.tail

-- 67 makes a memory operand a byte longer
moved_narrower : (op r : ℕ) → Both Narrower (moved Bits64 op r) (moved Bits32 op r)
moved_narrower op r = both_if Narrower (nat_lt r 16) (nat_lt r 16) _ _ (lit≤ tt)

kind_narrower : (kind : MemoryKind) (low : ℕ) → Both Narrower (memory_by Bits64 kind low) (memory_by Bits32 kind low)
kind_narrower Load low = moved_narrower 0x8B low
kind_narrower Store low = moved_narrower 0x89 low
kind_narrower Address low = moved_narrower 0x8D low
kind_narrower Compare low = lit≤ tt

memory_narrower : (mode : Width) (kind : Option MemoryKind) (low : ℕ) → Both Narrower (of_memory mode Bits64 kind low) (of_memory mode Bits32 kind low)
memory_narrower mode None low = tt
memory_narrower mode (Some kind) low =
    both_if Narrower (memory_width mode Bits64) (memory_width mode Bits32) (memory_by Bits64 kind low) (memory_by Bits32 kind low) (kind_narrower kind low)

rex_wide : (b : Bool) (xs : List ℕ) → narrowed (cond b 0x48 0x4C ∷ xs) ≡ false
rex_wide true xs = refl
rex_wide false xs = refl

-- a memory operand is relative to RIP or EIP
either_base : (P : Width → Type 0) → P Bits64 → P Bits32 → (mode w : Width) → memory_width mode w ≡ true → P w
either_base P rip eip mode Bits64 h = rip
either_base P rip eip mode Bits32 h = eip
either_base P rip eip Bits64 Bits16 h = cc
either_base P rip eip mode Bits16 h = cc

moved_shows : (mode w : Width) (op r : ℕ) → memory_width mode w ≡ true → IfSome (moved w op r) (ShowsOperand w)
moved_shows mode w op r h =
    either_base (λ w. IfSome (moved w op r) (ShowsOperand w))
    (if_tested _ (nat_lt r 16) _ (λ _. record { size = refl; offset = refl; base = λ xs. rw rex_wide }))
    (if_tested _ (nat_lt r 16) _ (λ _. record { size = refl; offset = refl; base = λ xs. refl }))
    mode w h

kind_shows : (mode w : Width) (kind : MemoryKind) (low : ℕ) → memory_width mode w ≡ true → IfSome (memory_by w kind low) (ShowsOperand w)
kind_shows mode w Load low h = moved_shows mode w 0x8B low h
kind_shows mode w Store low h = moved_shows mode w 0x89 low h
kind_shows mode w Address low h = moved_shows mode w 0x8D low h
kind_shows mode w Compare low h =
    either_base (λ w. ShowsOperand w (compared w low))
    (record { size = refl; offset = refl; base = λ xs. refl }) (record { size = refl; offset = refl; base = λ xs. refl }) mode w h

memory_back : (mode : Width) (c : ℕ) (f : Form) (w : Width) (kind : Option MemoryKind) (low : ℕ) → IfSome (of_memory mode w kind low) (Back mode Memory c f w)
memory_back mode c f w kind low =
    memory_if (Back mode Memory c f w) mode w kind low
    (λ e k. IfSome_then (memory_by w k low) (kind_shows mode w k low e) (λ s shows t a near. operand_reads w s t a shows near))

back : (mode : Width) (family : Family) (c : ℕ) (f : Form) (w : Width) (body : ℕ) → IfSome (shape_by mode family c f w body) (Back mode family c f w)
back mode Memory c f w body = memory_back mode c f w (memory_kind (body / 256)) (body % 256)
back mode Plain c f w body = if_always _ (of_plain mode (plain_kind (body / 256)) (body % 256)) (λ s t a near. tt)
back mode Other c f w body = tt
back mode family c f w body = if_tested _ (body == 0) (branch_shape [] mode family c f w) (λ _. branch_back [] mode family c f w tt)

pub field_shapes : (mode : Width) → ShapeLaws mode (shape mode)
field_shapes mode =
    record {
      real = λ i. real mode i.family i.condition i.form i.width i.body;
      shorter = λ i. shorter mode i.family i.condition i.width i.body;
      narrower = λ i e. rw e (memory_narrower mode (memory_kind (i.body / 256)) (i.body % 256));
      plain = λ i f w e. rw e;
      memory = λ i f e. rw e;
      reads = λ i. back mode i.family i.condition i.form i.width i.body;
    }
