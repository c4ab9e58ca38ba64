-- The field encoder of a bitness.
use Rattle.std.specs.Prelude.{ℕ, cond, Ok, Err, Result, ◌==◌}
use Rattle.x86.specs.declared.instruction.Width.TheVariants.{Bits16, Bits32, Bits64}
use Rattle.field_encoder.specs.declared.FieldEncoder.{FieldEncoder}
use Rattle.field_encoder.specs.declared.UnknownBitness.{UnknownBitness}

abbrev pub made_by : ℕ → Result FieldEncoder UnknownBitness
made_by b =
    cond (b == 16) (Ok (record { bits = Bits16 }))
    (cond (b == 32) (Ok (record { bits = Bits32 }))
    (cond (b == 64) (Ok (record { bits = Bits64 }))
    (Err (record { bitness = b }))))
