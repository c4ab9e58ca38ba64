-- What a line says by its words.
use Rattle.std.specs.Prelude.{ℕ, Bool, true, false, cond, List, [], ◌∷◌, Some, None, codes, Option, ◌==◌, slice_index}
use Rattle.std.specs.Option.{option_map}
use Rattle.std.specs.Str.{bytes_eq}
use Rattle.x86.specs.declared.instruction.Instruction.{Instruction}
use Rattle.x86.specs.declared.instruction.Family.{Family}
use Rattle.x86.specs.declared.instruction.Family.TheVariants as family
use Rattle.bodies.specs.declared.PlainKind.{PlainKind}
use Rattle.bodies.specs.declared.MemoryKind.{MemoryKind}
use Rattle.bodies.specs.Kinds.{plain_body, memory_body}
use Rattle.script.specs.declared.line.Line.{Line}
use Rattle.script.specs.declared.line.Line.TheVariants.{Bits, At}
use Rattle.script.specs.declared.line.Line.TheVariants as line
use Rattle.script.specs.declared.mnemonic.Mnemonic.{Mnemonic}
use Rattle.script.specs.declared.mnemonic.Mnemonic.TheVariants.{Jcc, Jmp, Call, Plain, Memory, RawPlain, RawMemory, Other}
use Rattle.script.specs.Built.{branching, pointing, standing, unknown, placed}
use Rattle.script.specs.Names.{mnemonic_of, has_register}
use Rattle.text.specs.Phrases.{Phrase, chain, entire, meant, number_in, up_to_in, form_in, width_in}

-- `body N`, or 0 at the end of the line
abbrev pub body_in : List (List ℕ) → Phrase ℕ
body_in [] = Some (0, [])
body_in (w ∷ ws) = cond (bytes_eq w (codes "body")) (up_to_in 0xFFFF_FFFF ws) None

-- R, of a plain instruction that has one
abbrev pub register_in : Bool → List (List ℕ) → Phrase ℕ
register_in true ws = up_to_in 0xFF ws
register_in false ws = Some (0, ws)

-- FORM WIDTH TARGET [body N]
abbrev pub branch_line : Family → ℕ → List (List ℕ) → Phrase Instruction
branch_line kin c ws =
    chain (form_in ws) (λ f ws₁. chain (width_in ws₁) (λ w ws₂. chain (number_in ws₂) (λ t ws₃.
    chain (body_in ws₃) (λ b rest. Some (branching kin c f w t b, rest)))))

abbrev pub plain_line : PlainKind → List (List ℕ) → Phrase Instruction
plain_line k ws = chain (register_in (has_register k) ws) (λ r rest. Some (standing (plain_body k r), rest))

-- WIDTH TARGET, of a body that is known
abbrev pub operand_line : ℕ → List (List ℕ) → Phrase Instruction
operand_line body ws = chain (width_in ws) (λ w ws₁. chain (number_in ws₁) (λ t rest. Some (pointing body w t, rest)))

-- R or IMMEDIATE, WIDTH TARGET
abbrev pub memory_line : MemoryKind → List (List ℕ) → Phrase Instruction
memory_line k ws = chain (up_to_in 0xFF ws) (λ r. operand_line (memory_body k r))

-- BODY WIDTH TARGET
abbrev pub raw_memory_line : List (List ℕ) → Phrase Instruction
raw_memory_line ws = chain (up_to_in 0xFFFF_FFFF ws) operand_line

-- what a mnemonic wants behind it
abbrev pub stated_in : Mnemonic → List (List ℕ) → Phrase Instruction
stated_in (Jcc c) ws = branch_line family.Jcc c ws
stated_in Jmp ws = branch_line family.Jmp 0 ws
stated_in Call ws = branch_line family.Call 0 ws
stated_in (Plain k) ws = plain_line k ws
stated_in (Memory k) ws = memory_line k ws
stated_in RawPlain ws = chain (up_to_in 0xFFFF_FFFF ws) (λ n rest. Some (standing n, rest))
stated_in RawMemory ws = raw_memory_line ws
stated_in Other ws = Some (unknown, ws)

-- OLD MNEMONIC ..
abbrev pub instruction_of : List (List ℕ) → Option Instruction
instruction_of ws =
    entire (chain (number_in ws) (λ old ws₁. chain (meant mnemonic_of ws₁) (λ m ws₂. chain (stated_in m ws₂) (λ i rest. Some (placed old i, rest)))))

-- a line that begins with a word: a comment, `bits N`, `at ADDRESS` or an instruction
abbrev pub line_by : List ℕ → List (List ℕ) → Option (Option Line)
line_by w ws =
    cond (slice_index w 0 == 35) (Some None)
    (cond (bytes_eq w (codes "bits")) (option_map (λ n. Some (Bits n)) (entire (up_to_in 0xFFFF_FFFF ws)))
    (cond (bytes_eq w (codes "at")) (option_map (λ n. Some (At n)) (entire (number_in ws)))
    (option_map (λ i. Some (line.Instruction i)) (instruction_of (w ∷ ws)))))

abbrev pub line_of : List (List ℕ) → Option (Option Line)
line_of [] = Some None
line_of (w ∷ ws) = line_by w ws
