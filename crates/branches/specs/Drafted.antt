-- The shape that a draft of the code states.
use Rattle.std.specs.Prelude.{ℕ, List, [], ◌++◌, None}
use Rattle.std.specs.Option.{option_to_list}
use Rattle.x86.specs.Constants.{no_constants}
use Rattle.encoder.specs.Layouts.{Shape}
use Rattle.branches.specs.declared.draft.Draft.{Draft}
use Rattle.branches.specs.declared.draft.Opcode.{Opcode}
use Rattle.branches.specs.declared.draft.Opcode.TheVariants.{Empty, One, Two, Three, Four}

abbrev pub opcode_bytes : Opcode → List ℕ
opcode_bytes Empty = []
opcode_bytes (One bs) = bs
opcode_bytes (Two bs) = bs
opcode_bytes (Three bs) = bs
opcode_bytes (Four bs) = bs

-- an opcode with nothing around it
abbrev pub bare : Opcode → Draft
bare op = record { prefix = None; opcode = op; last = None; constants = no_constants }

abbrev pub drafted : Draft → Shape
drafted d = record { head = option_to_list d.prefix ++ opcode_bytes d.opcode; tail = option_to_list d.last; constants = d.constants }
