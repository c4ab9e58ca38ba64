-- What bytes mean, by Intel's Software Developer's Manual, volume 2: Jcc, JMP, CALL, and operands relative to RIP or EIP.
-- A reading is of one instruction that is all of the bytes, in a mode, at an address. Bytes that we never write need not be
-- read here: they have no reading.
use Rattle.std.specs.Prelude.{ℕ, zero, suc, ◌+◌, ◌*◌, ◌/◌, ◌%◌, ◌^◌, Bool, true, false, cond, ◌&&◌, ◌||◌, List, [], ◌∷◌, length, take, drop, pos, ◌+ℤ◌, Some, None, Option, ◌==◌, nat_le}
use Rattle.std.specs.Int.{Width as Span, w8, w16, w32, w64, cast_signed}
use mir.Val.{bits}
use Rattle.x86.specs.declared.instruction.Width.{Width}
use Rattle.x86.specs.declared.instruction.Width.TheVariants.{Bits16, Bits32, Bits64}
use Rattle.x86.specs.declared.constant_offsets.ConstantOffsets.{ConstantOffsets}
use Rattle.x86.specs.Widths.{span, residue, little}

-- a transfer of control: where it lands (and, of a jcc, on which condition), or the operand at which it finds where
pub data Transfer : Type 0 where
  jcc : ℕ → ℕ → Transfer
  jmp call : ℕ → Transfer
  jmp_through call_through : ℕ → Transfer

-- next, the address behind the last byte, plus the signed displacement that a field of f bits holds, modulo 2 ^ bits s
abbrev pub landing : Span → ℕ → Span → List ℕ → ℕ
landing s next f bs = residue s (pos next +ℤ cast_signed f (little bs))

-- rel8, rel16, rel32: a field of f bits, and nothing behind it
abbrev pub relative : Width → ℕ → (ℕ → Transfer) → Span → List ℕ → Option Transfer
relative w next made f bs = cond (8 * length bs == bits f) (Some (made (landing (span w) next f bs))) None

-- the field of a near branch: rel16 at operand size 16, else rel32
abbrev pub near_field : Width → Span
near_field Bits16 = w16
near_field Bits32 = w32
near_field Bits64 = w32

-- m64 at disp32 relative to RIP, and nothing behind it
abbrev pub through : (ℕ → Transfer) → ℕ → List ℕ → Option Transfer
through made next bs = cond (8 * length bs == bits w32) (Some (made (landing w64 next w32 bs))) None

-- 0F 80+c: Jcc rel16, rel32
abbrev pub two_bytes : Width → ℕ → List ℕ → Option Transfer
two_bytes w next [] = None
two_bytes w next (op ∷ rest) = cond (op / 16 == 8) (relative w next (jcc (op % 16)) (near_field w) rest) None

-- FF /4 and FF /2 with an operand relative to RIP, which 64-bit code alone has: 25 jumps, 15 calls
abbrev pub indirect : Width → ℕ → List ℕ → Option Transfer
indirect Bits16 next rest = None
indirect Bits32 next rest = None
indirect Bits64 next [] = None
indirect Bits64 next (modrm ∷ rest) =
    cond (modrm == 0x25) (through jmp_through next rest)
    (cond (modrm == 0x15) (through call_through next rest) None)

-- a branch of operand size w behind its prefixes, by its opcode
abbrev pub opcode : Width → ℕ → List ℕ → Option Transfer
opcode w next [] = None
opcode w next (op ∷ rest) =
    cond (op / 16 == 7) (relative w next (jcc (op % 16)) w8 rest)
    (cond (op == 0xEB) (relative w next jmp w8 rest)
    (cond (op == 0xE9) (relative w next jmp (near_field w) rest)
    (cond (op == 0xE8) (relative w next call (near_field w) rest)
    (cond (op == 0x0F) (two_bytes w next rest)
    (cond (op == 0xFF) (indirect w next rest) None)))))

-- the prefixes of a branch: not taken, taken, BND, operand size
abbrev pub is_branch_prefix : ℕ → Bool
is_branch_prefix b = b == 0x2E || (b == 0x3E || (b == 0xF2 || b == 0x66))

abbrev pub behind_prefixes : List ℕ → List ℕ
behind_prefixes [] = []
behind_prefixes (b ∷ bs) = cond (is_branch_prefix b) (behind_prefixes bs) (b ∷ bs)

-- is 66 among the prefixes?
abbrev pub resized : List ℕ → Bool
resized [] = false
resized (b ∷ bs) = cond (is_branch_prefix b) (b == 0x66 || resized bs) false

-- the operand size of a near branch: 64 bits in 64-bit code, whatever the prefixes; elsewhere 66 picks the other of 16 and 32
abbrev pub operand_size : Width → Bool → Width
operand_size Bits64 r = Bits64
operand_size Bits32 true = Bits16
operand_size Bits32 false = Bits32
operand_size Bits16 true = Bits32
operand_size Bits16 false = Bits16

abbrev pub read : Width → ℕ → List ℕ → Option Transfer
read mode address bs = opcode (operand_size mode (resized bs)) (address + length bs) (behind_prefixes bs)

-- n bytes of memory from an address on; addresses wrap at 2 ^ 64
abbrev pub bytes_at : (ℕ → ℕ) → ℕ → ℕ → List ℕ
bytes_at memory zero address = []
bytes_at memory (suc n) address = memory (address % 2 ^ 64) ∷ bytes_at memory n (address + 1)

-- where a transfer that is taken arrives: an indirect one at the 8-byte little-endian number at its operand
abbrev pub arrival : (ℕ → ℕ) → Transfer → ℕ
arrival memory (jcc c to) = to
arrival memory (jmp to) = to
arrival memory (call to) = to
arrival memory (jmp_through operand) = little (bytes_at memory 8 operand)
arrival memory (call_through operand) = little (bytes_at memory 8 operand)

-- the legacy prefixes, the address size prefix 67 apart
abbrev pub is_legacy_prefix : ℕ → Bool
is_legacy_prefix b =
    (b == 0x26) || (b == 0x2E || (b == 0x36 || (b == 0x3E || (b == 0x64 || (b == 0x65
    || (b == 0x66 || (b == 0xF0 || (b == 0xF2 || b == 0xF3))))))))

-- is 67 among the prefixes?
abbrev pub narrowed : List ℕ → Bool
narrowed [] = false
narrowed (b ∷ bs) = cond (b == 0x67) true (cond (is_legacy_prefix b) (narrowed bs) false)

-- addresses in 64-bit code have 64 bits, behind 67 they have 32
abbrev pub address_size : Bool → Span
address_size true = w32
address_size false = w64

-- the memory operand of an instruction of 64-bit code whose disp32 stands where the constants say
abbrev pub operand : ℕ → List ℕ → ConstantOffsets → Option ℕ
operand address bs k =
    cond (k.displacement_size == 4 && nat_le (k.displacement_offset + 4) (length bs))
    (Some (landing (address_size (narrowed bs)) (address + length bs) w32 (take 4 (drop k.displacement_offset bs))))
    None
