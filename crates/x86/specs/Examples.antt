-- Worked examples of the manual's encodings: each opcode row of Jcc, JMP and CALL that we use, both directions, and
-- the wrap-around of each width.
use Rattle.std.specs.Prelude.{◌≡◌, ℕ, ◌-◌, List, [], ◌∷◌, map, Some, Option}
use Rattle.x86.specs.declared.instruction.Width.{Width}
use Rattle.x86.specs.declared.instruction.Width.TheVariants.{Bits16, Bits32, Bits64}
use Rattle.x86.specs.Constants.{displacement_at}
use Rattle.x86.specs.Reading.{Transfer, jcc, jmp, call, jmp_through, call_through, read, arrival, operand}

pub record Example : Type 0 where
  pub mode : Width
  pub address : ℕ
  pub bytes : List ℕ
  pub means : Transfer

abbrev at : Width → ℕ → List ℕ → Transfer → Example
at m a bs t = record { mode = m; address = a; bytes = bs; means = t }

abbrev pub branches : List Example
branches =
    -- 70+cc cb: Jcc rel8
    at Bits64 0x1000 (0x75 ∷ 0x06 ∷ []) (jcc 5 0x1008)
    ∷ at Bits16 0x0000 (0x7F ∷ 0x80 ∷ []) (jcc 15 0xFF82)
    -- 0F 80+cc cw: Jcc rel16
    ∷ at Bits16 0xFFF0 (0x0F ∷ 0x84 ∷ 0x20 ∷ 0x00 ∷ []) (jcc 4 0x0014)
    ∷ at Bits32 0x10 (0x3E ∷ 0x66 ∷ 0x0F ∷ 0x8F ∷ 0x00 ∷ 0x80 ∷ []) (jcc 15 0x8016)
    -- 0F 80+cc cd: Jcc rel32
    ∷ at Bits32 0xFFFF_FFF0 (0x0F ∷ 0x82 ∷ 0x0A ∷ 0x00 ∷ 0x00 ∷ 0x00 ∷ []) (jcc 2 0)
    ∷ at Bits64 0x1000 (0x0F ∷ 0x80 ∷ 0xFA ∷ 0xFF ∷ 0xFF ∷ 0xFF ∷ []) (jcc 0 0x1000)
    -- EB cb: JMP rel8
    ∷ at Bits64 0x1000 (0xEB ∷ 0xFE ∷ []) (jmp 0x1000)
    ∷ at Bits64 0xFFFF_FFFF_FFFF_FFF0 (0xEB ∷ 0x7F ∷ []) (jmp 0x71)
    -- E9 cw, E9 cd: JMP rel16, rel32
    ∷ at Bits16 0x1000 (0xE9 ∷ 0xFD ∷ 0xFF ∷ []) (jmp 0x1000)
    ∷ at Bits16 0x1000 (0x66 ∷ 0xE9 ∷ 0xFC ∷ 0xFF ∷ 0x00 ∷ 0x00 ∷ []) (jmp 0x11002)
    ∷ at Bits64 0 (0x2E ∷ 0xE9 ∷ 0x00 ∷ 0x00 ∷ 0x00 ∷ 0x80 ∷ []) (jmp 0xFFFF_FFFF_8000_0006)
    -- E8 cw, E8 cd: CALL rel16, rel32
    ∷ at Bits32 0x7FFF (0x66 ∷ 0xE8 ∷ 0xFF ∷ 0x7F ∷ []) (call 0x0002)
    ∷ at Bits64 0x1000 (0xF2 ∷ 0xE8 ∷ 0xFF ∷ 0xFF ∷ 0xFF ∷ 0x7F ∷ []) (call 0x8000_1005)
    -- FF /4, FF /2: JMP m64, CALL m64
    ∷ at Bits64 0x1002 (0xFF ∷ 0x25 ∷ 0x00 ∷ 0x00 ∷ 0x00 ∷ 0x00 ∷ []) (jmp_through 0x1008)
    ∷ at Bits64 0x1000 (0xFF ∷ 0x15 ∷ 0xF2 ∷ 0xFF ∷ 0xFF ∷ 0xFF ∷ []) (call_through 0xFF8)
    ∷ []

abbrev reading : Example → Option Transfer
reading e = read e.mode e.address e.bytes

abbrev meaning : Example → Option Transfer
meaning e = Some e.means

-- mov rax, [rip + 0xFF9]; mov rax, [eip + 0x1FF8]; cmp qword [rip - 0x1008], 5, whose last byte counts into next
abbrev pub operands : List (Option ℕ)
operands =
    operand 0x1000 (0x48 ∷ 0x8B ∷ 0x05 ∷ 0xF9 ∷ 0x0F ∷ 0x00 ∷ 0x00 ∷ []) (displacement_at 3 4)
    ∷ operand 0x2_0000_0000 (0x67 ∷ 0x48 ∷ 0x8B ∷ 0x05 ∷ 0xF8 ∷ 0x1F ∷ 0x00 ∷ 0x00 ∷ []) (displacement_at 4 4)
    ∷ operand 0x1000 (0x48 ∷ 0x83 ∷ 0x3D ∷ 0xF8 ∷ 0xEF ∷ 0xFF ∷ 0xFF ∷ 0x05 ∷ []) (displacement_at 3 4)
    ∷ []

-- a memory that holds 0x0102030405060708 at 0x1008, as far as an indirect transfer there reads it
abbrev descending : ℕ → ℕ
descending address = 0x1010 - address

pub record ManualExamples : Type 0 where
  pub branches_read : map reading branches ≡ map meaning branches
  pub operands_read : operands ≡ Some 0x2000 ∷ Some 0x2000 ∷ Some 0 ∷ []
  pub slots_read : arrival descending (jmp_through 0x1008) ≡ 0x0102_0304_0506_0708
