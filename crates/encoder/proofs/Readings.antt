-- A filled shape with a memory operand, read by the manual.
use Rattle.std.proofs.Common.{◌≡◌, ℕ, ◌+◌, true, ◌&&◌, eqb, leb, List, ◌++◌, length, drop, Some, refl, ap, ◌∙◌, arith, length-append, w64}
use Rattle.std.specs.Int.{cast_unsigned}
use Rattle.std.proofs.lemmas.List.{drop_at}
use Rattle.std.proofs.lemmas.Bool.Decides.{nat_tests}
use Rattle.x86.specs.declared.instruction.Width.{Width}
use Rattle.x86.specs.Widths.{span, low, bytes_of}
use Rattle.x86.specs.Reading.{narrowed, address_size, operand}
use Rattle.encoder.specs.Fields.{signed, displacement}
use Rattle.encoder.specs.Layouts.{Shape}
use Rattle.encoder.proofs.Wraps.{arrives}
use Rattle.encoder.proofs.Fields.{double_back}

-- a shape whose constants show the displacement that follows its head, behind 67 where the width is 32
pub record ShowsOperand (w : Width) (s : Shape) : Type 0 where
  pub size : s.constants.displacement_size ≡ 4
  pub offset : s.constants.displacement_offset ≡ length s.head
  pub base : (xs : List ℕ) → address_size (narrowed (s.head ++ xs)) ≡ span w

-- its operand is the target within the width
pub operand_reads : (w : Width) (s : Shape) (t a : ℕ) → ShowsOperand w s
    → let next = a + (length s.head + 4 + length s.tail) in
    let bs = s.head ++ (bytes_of 4 (cast_unsigned w64 (displacement w t next)) ++ s.tail) in
    signed 32 (displacement w t next) ≡ true → operand a bs s.constants ≡ Some (low w t)
operand_reads w s t a shows near =
    let k = s.constants in
    let next = a + (length s.head + 4 + length s.tail) in
    let d = displacement w t next in
    let rest = bytes_of 4 (cast_unsigned w64 d) ++ s.tail in
    let bs = s.head ++ rest in
    let long : length bs ≡ length s.head + 4 + length s.tail = simp length-append (omega arith) in
    let size = shows.size in
    let offset = shows.offset in
    let inside : (eqb k.displacement_size 4 && leb (k.displacement_offset + 4) (length bs)) ≡ true = grind (arith, nat_tests) in
    let part : drop k.displacement_offset bs ≡ rest = ap (λ n. drop n bs) offset ∙ drop_at s.head rest _ refl in
    rw (inside, part, long, shows.base rest, double_back d near) (ap Some (arrives w t next))
