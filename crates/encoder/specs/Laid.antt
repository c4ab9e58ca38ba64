-- The shape that a layout of the code states.
use Rattle.std.specs.Prelude.{◌++◌}
use Rattle.encoder.specs.declared.layout.Layout.{Layout}
use Rattle.encoder.specs.Layouts.{Shape}

abbrev pub laid : Layout → Shape
laid l = record { head = l.prefixes.now ++ l.opcode.now; tail = l.tail.now; constants = l.constants }
