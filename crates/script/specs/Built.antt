-- The instructions that lines state. What a line leaves out is 0, near and 64 bits wide; the old address is 0 until it is put in.
use Rattle.std.specs.Prelude.{ℕ}
use Rattle.x86.specs.declared.instruction.Family.{Family}
use Rattle.x86.specs.declared.instruction.Family.TheVariants.{Memory, Plain, Other}
use Rattle.x86.specs.declared.instruction.Form.{Form}
use Rattle.x86.specs.declared.instruction.Form.TheVariants.{Near}
use Rattle.x86.specs.declared.instruction.Width.{Width}
use Rattle.x86.specs.declared.instruction.Width.TheVariants.{Bits64}
use Rattle.x86.specs.declared.instruction.Instruction.{Instruction}

-- a branch
abbrev pub branching : Family → ℕ → Form → Width → ℕ → ℕ → Instruction
branching family condition form width target body = record { family = family; condition = condition; form = form; width = width; body = body; old_address = 0; target = target }

-- a memory operand
abbrev pub pointing : ℕ → Width → ℕ → Instruction
pointing body width target = record { family = Memory; condition = 0; form = Near; width = width; body = body; old_address = 0; target = target }

-- a plain instruction
abbrev pub standing : ℕ → Instruction
standing body = record { family = Plain; condition = 0; form = Near; width = Bits64; body = body; old_address = 0; target = 0 }

-- an instruction that no encoder knows
abbrev pub unknown : Instruction
unknown = record { family = Other; condition = 0; form = Near; width = Bits64; body = 0; old_address = 0; target = 0 }

-- an instruction at its old address
abbrev pub placed : ℕ → Instruction → Instruction
placed old i = record { family = i.family; condition = i.condition; form = i.form; width = i.width; body = i.body; old_address = old; target = i.target }
