-- Branches behind prefixes of their own, read by the manual.
use Rattle.std.proofs.Common.{◌≡◌, ℕ, ◌+◌, ◌-◌, ◌/◌, ◌%◌, ◌≤◌, true, false, eqb, List, [], ◌∷◌, ◌++◌, length, ℤ, pos, ◌+ℤ◌, Some, refl, ap, append_assoc, arith, length-append}
use Rattle.std.specs.Int.{Width as Span, w8}
use Rattle.std.proofs.lemmas.List.{append-nil}
use Rattle.std.proofs.lemmas.Bool.Decides.{nat_tests}
use Rattle.x86.specs.declared.instruction.Family.TheVariants.{Jcc, Jmp, Call}
use Rattle.x86.specs.declared.instruction.Form.{Form}
use Rattle.x86.specs.declared.instruction.Form.TheVariants.{Short, Near}
use Rattle.x86.specs.declared.instruction.Width.{Width}
use Rattle.x86.specs.declared.instruction.Width.TheVariants.{Bits16, Bits32, Bits64}
use Rattle.x86.specs.Widths.{span, residue}
use Rattle.x86.specs.Constants.{immediate_at}
use Rattle.x86.specs.Reading.{Transfer, jcc, jmp, call, relative, near_field, opcode, is_branch_prefix, behind_prefixes, resized, operand_size}
use Rattle.encoder.specs.Fields.{branch_field, field_size, fits, displacement}
use Rattle.encoder.specs.Encodings.{BranchReads}
use Rattle.encoder.specs.Laws.{branch_width}
use Rattle.encoder.specs.Layouts.{field_bytes}
use Rattle.encoder.proofs.Shapes.{length_field}
use Rattle.encoder.proofs.Fields.{byte_back, word_back, double_back}
use Rattle.encoder.proofs.Wraps.{arrives}
use Rattle.branches.specs.Shapes.{size_prefix, opcode_of, branch_bytes}

abbrev branch_span : Form → Width → Span
branch_span Short w = w8
branch_span Near w = near_field w

-- the field of a branch lands where its displacement leads
field_reads : (w : Width) (f : Form) (next : ℕ) (made : ℕ → Transfer) (d : ℤ) → fits (branch_field f w) d ≡ true
    → relative w next made (branch_span f w) (field_bytes (branch_field f w) d) ≡ Some (made (residue (span w) (pos next +ℤ d)))
field_reads w Short next made d h = rw (byte_back d h)
field_reads Bits16 Near next made d h = rw (word_back d h)
field_reads Bits32 Near next made d h = rw (double_back d h)
field_reads Bits64 Near next made d h = rw (double_back d h)

-- an opcode that begins with no prefix, and reads as a branch with its field behind it
pub record Opens (made : ℕ → Transfer) (f : Form) (op : List ℕ) : Type 0 where
  pub bare : (xs : List ℕ) → behind_prefixes (op ++ xs) ≡ op ++ xs
  pub unsized : (xs : List ℕ) → resized (op ++ xs) ≡ false
  pub opens : (w : Width) (next : ℕ) (xs : List ℕ) → opcode w next (op ++ xs) ≡ relative w next made (branch_span f w) xs

pub jcc_opens : (c : ℕ) (f : Form) → c ≤ 15 → Opens (jcc c) f (opcode_of Jcc c f)
jcc_opens c Short h =
    let none : is_branch_prefix (0x70 + c) ≡ false = grind (arith, nat_tests) in
    let row : eqb ((0x70 + c) / 16) 7 ≡ true = grind (arith, nat_tests) in
    let which : (0x70 + c) % 16 ≡ c = omega arith in
    record { bare = λ xs. rw none; unsized = λ xs. rw none; opens = λ w next xs. rw (row, which) }
jcc_opens c Near h =
    let row : eqb ((0x80 + c) / 16) 8 ≡ true = grind (arith, nat_tests) in
    let which : (0x80 + c) % 16 ≡ c = omega arith in
    record { bare = λ xs. refl; unsized = λ xs. refl; opens = λ w next xs. rw (row, which) }

pub jmp_opens : (c : ℕ) (f : Form) → Opens jmp f (opcode_of Jmp c f)
jmp_opens c Short = record { bare = λ xs. refl; unsized = λ xs. refl; opens = λ w next xs. refl }
jmp_opens c Near = record { bare = λ xs. refl; unsized = λ xs. refl; opens = λ w next xs. refl }

pub call_opens : (c : ℕ) → Opens call Near (opcode_of Call c Near)
call_opens c = record { bare = λ xs. refl; unsized = λ xs. refl; opens = λ w next xs. refl }

-- 66, or its absence, gives the branch its width
sized_reads : (mode w : Width) (made : ℕ → Transfer) (f : Form) (op : List ℕ) → branch_width mode w ≡ true → Opens made f op → (next : ℕ) (xs : List ℕ)
    → opcode (operand_size mode (resized (size_prefix mode w ++ (op ++ xs)))) next (behind_prefixes (size_prefix mode w ++ (op ++ xs))) ≡ relative w next made (branch_span f w) xs
sized_reads Bits64 Bits64 made f op h o next xs = rw (o.bare xs) (o.opens Bits64 next xs)
sized_reads Bits32 Bits32 made f op h o next xs = rw (o.unsized xs, o.bare xs) (o.opens Bits32 next xs)
sized_reads Bits32 Bits16 made f op h o next xs = rw (o.bare xs) (o.opens Bits16 next xs)
sized_reads Bits16 Bits32 made f op h o next xs = rw (o.bare xs) (o.opens Bits32 next xs)
sized_reads Bits16 Bits16 made f op h o next xs = rw (o.unsized xs, o.bare xs) (o.opens Bits16 next xs)
sized_reads mode w made f op h o next xs = cc

-- prefixes of a branch, 66 not among them
abbrev pub Hints : List ℕ → Type 0
Hints [] = Unit {0}
Hints (p ∷ ps) = (is_branch_prefix p ≡ true) × (eqb p 0x66 ≡ false) × Hints ps

behind_hints : (ps ys : List ℕ) → Hints ps → behind_prefixes (ps ++ ys) ≡ behind_prefixes ys
behind_hints [] ys h = refl
behind_hints (p ∷ ps) ys h = rw h.0 (behind_hints ps ys h.2)

resized_hints : (ps ys : List ℕ) → Hints ps → resized (ps ++ ys) ≡ resized ys
resized_hints [] ys h = refl
resized_hints (p ∷ ps) ys h = rw (h.0, h.1) (resized_hints ps ys h.2)

-- a branch lands on its target
pub branch_reads : (mode w : Width) (made : ℕ → Transfer) (f : Form) (op ps : List ℕ) (t a : ℕ) → branch_width mode w ≡ true → Opens made f op → Hints ps
    → let s = branch_bytes ps mode w f op in
    let next = a + (length s.head + field_size (branch_field f w) + length s.tail) in
    let d = displacement w t next in
    fits (branch_field f w) d ≡ true
    → BranchReads mode made f w t a (record { bytes = s.head ++ (field_bytes (branch_field f w) d ++ s.tail); constants = s.constants })
branch_reads mode w made f op ps t a h o p near =
    let k = branch_field f w in
    let s = branch_bytes ps mode w f op in
    let n = length s.head + field_size k + length s.tail in
    let next = a + n in
    let d = displacement w t next in
    let xs = field_bytes k d in
    let zs = size_prefix mode w ++ (op ++ xs) in
    let bs = s.head ++ (xs ++ s.tail) in
    let is : bs ≡ ps ++ zs = simp (append_assoc, append-nil) in
    let long : length bs ≡ n = omega (arith, length-append s.head (xs ++ s.tail), length-append xs s.tail, length_field k d) in
    let place : length s.head ≡ length bs - field_size k = omega arith in
    record {
      lands = rw (long, is, resized_hints ps zs p, behind_hints ps zs p, sized_reads mode w made f op h o next xs, field_reads w f next made d near, arrives w t next);
      shown = ap (λ m. immediate_at m (field_size k)) place;
    }
