-- Constant offsets, and the place that they show.
use Rattle.std.specs.Prelude.{ℕ}
use Rattle.x86.specs.declared.constant_offsets.ConstantOffsets.{ConstantOffsets}

abbrev pub no_constants : ConstantOffsets
no_constants = record { displacement_offset = 0; displacement_size = 0; immediate_offset = 0; immediate_size = 0; immediate_offset2 = 0; immediate_size2 = 0 }

abbrev pub with_displacement : ConstantOffsets → ℕ → ℕ → ConstantOffsets
with_displacement k offset size = record { displacement_offset = offset; displacement_size = size; immediate_offset = k.immediate_offset; immediate_size = k.immediate_size; immediate_offset2 = k.immediate_offset2; immediate_size2 = k.immediate_size2 }

abbrev pub with_immediate : ConstantOffsets → ℕ → ℕ → ConstantOffsets
with_immediate k offset size = record { displacement_offset = k.displacement_offset; displacement_size = k.displacement_size; immediate_offset = offset; immediate_size = size; immediate_offset2 = k.immediate_offset2; immediate_size2 = k.immediate_size2 }

abbrev pub displacement_at : ℕ → ℕ → ConstantOffsets
displacement_at = with_displacement no_constants

abbrev pub immediate_at : ℕ → ℕ → ConstantOffsets
immediate_at = with_immediate no_constants
