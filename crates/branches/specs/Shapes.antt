-- The shapes of relative branches: jcc, jmp and call.
use Rattle.std.specs.Prelude.{ℕ, ◌+◌, Bool, true, false, cond, ◌&&◌, List, [], ◌∷◌, ◌++◌, length, Some, None, Option}
use Rattle.x86.specs.declared.instruction.Family.{Family}
use Rattle.x86.specs.declared.instruction.Family.TheVariants.{Jcc, Jmp, Call, Memory, Plain, Other}
use Rattle.x86.specs.declared.instruction.Form.{Form}
use Rattle.x86.specs.declared.instruction.Form.TheVariants.{Short, Near}
use Rattle.x86.specs.declared.instruction.Width.{Width}
use Rattle.x86.specs.declared.instruction.Width.TheVariants.{Bits16, Bits32, Bits64}
use Rattle.x86.specs.Constants.{immediate_at}
use Rattle.encoder.specs.Fields.{branch_field, field_size}
use Rattle.encoder.specs.Laws.{possible_by}
use Rattle.encoder.specs.Layouts.{Shape}

-- 66 where the width is not the bitness
abbrev pub size_prefix : Width → Width → List ℕ
size_prefix Bits16 Bits32 = 0x66 ∷ []
size_prefix Bits16 Bits16 = []
size_prefix Bits16 Bits64 = 0x66 ∷ []
size_prefix Bits32 Bits16 = 0x66 ∷ []
size_prefix Bits32 Bits32 = []
size_prefix Bits32 Bits64 = 0x66 ∷ []
size_prefix Bits64 Bits16 = 0x66 ∷ []
size_prefix Bits64 Bits32 = 0x66 ∷ []
size_prefix Bits64 Bits64 = []

abbrev pub opcode_of : Family → ℕ → Form → List ℕ
opcode_of Jcc c Short = (0x70 + c) ∷ []
opcode_of Jcc c Near = 0x0F ∷ (0x80 + c) ∷ []
opcode_of Jmp c Short = 0xEB ∷ []
opcode_of Jmp c Near = 0xE9 ∷ []
opcode_of Call c f = 0xE8 ∷ []
opcode_of Memory c f = []
opcode_of Plain c f = []
opcode_of Other c f = []

-- an opcode and its field, behind prefixes of its own and 66; the field is an immediate
abbrev pub branch_bytes : List ℕ → Width → Width → Form → List ℕ → Shape
branch_bytes ps mode w f op =
    record { head = ps ++ (size_prefix mode w ++ op); tail = []; constants = immediate_at (length (ps ++ (size_prefix mode w ++ op))) (field_size (branch_field f w)) }

abbrev pub is_branch : Family → Bool
is_branch Jcc = true
is_branch Jmp = true
is_branch Call = true
is_branch Memory = false
is_branch Plain = false
is_branch Other = false

-- a branch behind prefixes of its own, where code of that bitness can have it
abbrev pub branch_shape : List ℕ → Width → Family → ℕ → Form → Width → Option Shape
branch_shape ps mode family c f w =
    cond (is_branch family && possible_by mode family c f w) (Some (branch_bytes ps mode w f (opcode_of family c f))) None
