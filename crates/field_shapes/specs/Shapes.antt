-- The shapes of the field encoder's instructions.
use Rattle.std.specs.Prelude.{ℕ, ◌+◌, ◌-◌, ◌*◌, ◌/◌, ◌%◌, Bool, true, false, cond, not, ◌&&◌, List, [], ◌∷◌, ◌++◌, length, Some, None, Option, ◌==◌, nat_lt}
use Rattle.x86.specs.declared.instruction.Family.{Family}
use Rattle.x86.specs.declared.instruction.Family.TheVariants.{Jcc, Jmp, Call, Memory, Plain, Other}
use Rattle.x86.specs.declared.instruction.Form.{Form}
use Rattle.x86.specs.declared.instruction.Width.{Width}
use Rattle.x86.specs.declared.instruction.Width.TheVariants.{Bits16, Bits32, Bits64}
use Rattle.x86.specs.declared.instruction.Instruction.{Instruction}
use Rattle.x86.specs.Constants.{no_constants, displacement_at, with_immediate}
use Rattle.encoder.specs.Laws.{memory_width}
use Rattle.encoder.specs.Layouts.{Shape}
use Rattle.bodies.specs.declared.PlainKind.{PlainKind}
use Rattle.bodies.specs.declared.PlainKind.TheVariants.{Nop, Ret, Int3, Push, Pop, Step}
use Rattle.bodies.specs.declared.MemoryKind.{MemoryKind}
use Rattle.bodies.specs.declared.MemoryKind.TheVariants.{Load, Store, Address, Compare}
use Rattle.bodies.specs.Kinds.{plain_kind, memory_kind}
pub use Rattle.branches.specs.Shapes.{size_prefix, opcode_of, branch_bytes, is_branch, branch_shape}

abbrev pub plain_bytes : List ℕ → Shape
plain_bytes bs = record { head = bs; tail = []; constants = no_constants }

-- nop, ret and int3: one byte, and the low byte of the body is 0
abbrev pub sole : ℕ → ℕ → Option Shape
sole op low = cond (low == 0) (Some (plain_bytes (op ∷ []))) None

abbrev pub is64 : Width → Bool
is64 Bits16 = false
is64 Bits32 = false
is64 Bits64 = true

-- push and pop: registers 8 to 15 behind 41, in 64-bit code alone
abbrev pub stack : Width → ℕ → ℕ → Option Shape
stack mode op r =
    cond (nat_lt r 8) (Some (plain_bytes ((op + r) ∷ [])))
    (cond (is64 mode && nat_lt r 16) (Some (plain_bytes (0x41 ∷ (op + (r - 8)) ∷ []))) None)

-- lea r, [r + 1], whose 01 is a displacement, in 64-bit code alone and for no register 4 or 12
abbrev pub step : Width → ℕ → Option Shape
step mode r =
    cond (is64 mode && (nat_lt r 16 && not (r % 8 == 4)))
    (Some (record { head = cond (nat_lt r 8) 0x48 0x4D ∷ 0x8D ∷ (0x40 + 9 * (r % 8)) ∷ 0x01 ∷ []; tail = []; constants = displacement_at 3 1 }))
    None

abbrev pub plain_shape : Width → PlainKind → ℕ → Option Shape
plain_shape mode Nop low = sole 0x90 low
plain_shape mode Ret low = sole 0xC3 low
plain_shape mode Int3 low = sole 0xCC low
plain_shape mode Push low = stack mode 0x50 low
plain_shape mode Pop low = stack mode 0x58 low
plain_shape mode Step low = step mode low

-- 67 makes the base EIP
abbrev pub base_prefix : Width → List ℕ
base_prefix Bits16 = []
base_prefix Bits32 = 0x67 ∷ []
base_prefix Bits64 = []

-- load, store and address: REX, opcode and ModRM; registers 8 to 15 have another REX
abbrev pub moved : Width → ℕ → ℕ → Option Shape
moved w op r =
    cond (nat_lt r 16)
    (Some (record { head = base_prefix w ++ (cond (nat_lt r 8) 0x48 0x4C ∷ op ∷ (0x05 + 8 * (r % 8)) ∷ []); tail = []; constants = displacement_at (length (base_prefix w) + 3) 4 }))
    None

-- compare with an immediate byte behind the displacement
abbrev pub compared : Width → ℕ → Shape
compared w immediate =
    record { head = base_prefix w ++ (0x48 ∷ 0x83 ∷ 0x3D ∷ []); tail = immediate ∷ []; constants = with_immediate (displacement_at (length (base_prefix w) + 3) 4) (length (base_prefix w) + 3 + 4) 1 }

abbrev pub memory_by : Width → MemoryKind → ℕ → Option Shape
memory_by w Load low = moved w 0x8B low
memory_by w Store low = moved w 0x89 low
memory_by w Address low = moved w 0x8D low
memory_by w Compare low = Some (compared w low)

abbrev pub memory_shape : Width → Width → MemoryKind → ℕ → Option Shape
memory_shape mode w kind low = cond (memory_width mode w) (memory_by w kind low) None

abbrev pub of_plain : Width → Option PlainKind → ℕ → Option Shape
of_plain mode None low = None
of_plain mode (Some kind) low = plain_shape mode kind low

abbrev pub of_memory : Width → Width → Option MemoryKind → ℕ → Option Shape
of_memory mode w None low = None
of_memory mode w (Some kind) low = memory_shape mode w kind low

abbrev pub shape_by : Width → Family → ℕ → Form → Width → ℕ → Option Shape
shape_by mode Jcc c f w body = cond (body == 0) (branch_shape [] mode Jcc c f w) None
shape_by mode Jmp c f w body = cond (body == 0) (branch_shape [] mode Jmp c f w) None
shape_by mode Call c f w body = cond (body == 0) (branch_shape [] mode Call c f w) None
shape_by mode Memory c f w body = of_memory mode w (memory_kind (body / 256)) (body % 256)
shape_by mode Plain c f w body = of_plain mode (plain_kind (body / 256)) (body % 256)
shape_by mode Other c f w body = None

-- the shape of an instruction in code of that bitness: a body that is not listed has none
abbrev pub shape : Width → Instruction → Option Shape
shape mode i = shape_by mode i.family i.condition i.form i.width i.body
