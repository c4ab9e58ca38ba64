-- An instruction in another form or width.
use Rattle.x86.specs.declared.instruction.Form.{Form}
use Rattle.x86.specs.declared.instruction.Width.{Width}
use Rattle.x86.specs.declared.instruction.Instruction.{Instruction}

abbrev pub shaped : Instruction → Form → Width → Instruction
shaped i f w = record { family = i.family; condition = i.condition; form = f; width = w; body = i.body; old_address = i.old_address; target = i.target }

abbrev pub formed : Instruction → Form → Instruction
formed i f = shaped i f i.width

abbrev pub widened : Instruction → Width → Instruction
widened i w = shaped i i.form w
