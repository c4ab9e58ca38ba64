-- The instructions that a body numbers in its bits 8 to 15, and the bodies that number them.
use Rattle.std.specs.Prelude.{◌≡◌, ℕ, ◌+◌, ◌*◌, [], ◌∷◌, Some, Option, refl}
use Rattle.std.specs.List.{slice_get}
use Rattle.bodies.specs.declared.PlainKind.{PlainKind}
use Rattle.bodies.specs.declared.PlainKind.TheVariants.{Nop, Ret, Int3, Push, Pop, Step}
use Rattle.bodies.specs.declared.MemoryKind.{MemoryKind}
use Rattle.bodies.specs.declared.MemoryKind.TheVariants.{Load, Store, Address, Compare}

abbrev pub plain_kind : ℕ → Option PlainKind
plain_kind = slice_get (Nop ∷ Ret ∷ Int3 ∷ Push ∷ Pop ∷ Step ∷ [])

abbrev pub memory_kind : ℕ → Option MemoryKind
memory_kind = slice_get (Load ∷ Store ∷ Address ∷ Compare ∷ [])

abbrev pub plain_number : PlainKind → ℕ
plain_number Nop = 0
plain_number Ret = 1
plain_number Int3 = 2
plain_number Push = 3
plain_number Pop = 4
plain_number Step = 5

abbrev pub memory_number : MemoryKind → ℕ
memory_number Load = 0
memory_number Store = 1
memory_number Address = 2
memory_number Compare = 3

-- the body of a kind with a register, an immediate or 0 in its low byte
abbrev pub plain_body : PlainKind → ℕ → ℕ
plain_body Nop low = 0x000 + low
plain_body Ret low = 0x100 + low
plain_body Int3 low = 0x200 + low
plain_body Push low = 0x300 + low
plain_body Pop low = 0x400 + low
plain_body Step low = 0x500 + low

abbrev pub memory_body : MemoryKind → ℕ → ℕ
memory_body Load low = 0x000 + low
memory_body Store low = 0x100 + low
memory_body Address low = 0x200 + low
memory_body Compare low = 0x300 + low

-- each kind has a number of its own, which stands above the low byte of its bodies
pub record KindLaws {K : Type 0} (kind_of : ℕ → Option K) (number_of : K → ℕ) (body_of : K → ℕ → ℕ) : Type 0 where
  pub found : (k : K) → kind_of (number_of k) ≡ Some k
  pub placed : (k : K) (low : ℕ) → body_of k low ≡ 0x100 * number_of k + low

pub plain_laws : KindLaws plain_kind plain_number plain_body
plain_laws = record {
  found = elim [ Nop ↦ refl | Ret ↦ refl | Int3 ↦ refl | Push ↦ refl | Pop ↦ refl | Step ↦ refl ];
  placed = elim [ Nop ↦ λ low. refl | Ret ↦ λ low. refl | Int3 ↦ λ low. refl | Push ↦ λ low. refl | Pop ↦ λ low. refl | Step ↦ λ low. refl ];
}

pub memory_laws : KindLaws memory_kind memory_number memory_body
memory_laws = record {
  found = elim [ Load ↦ refl | Store ↦ refl | Address ↦ refl | Compare ↦ refl ];
  placed = elim [ Load ↦ λ low. refl | Store ↦ λ low. refl | Address ↦ λ low. refl | Compare ↦ λ low. refl ];
}
