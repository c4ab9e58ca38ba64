use Rattle.std.proofs.Common.{arith}
use Rattle.std.proofs.lemmas.Int.{to_z-of_z}
use Rattle.encoder.proofs.Wraps.{displacement_is}
use Rattle.encoder.proofs.displacement.displacement_to.Goals as goal

pub returns : goal.returns
returns c = grind (arith, to_z-of_z, displacement_is, c.signed_low.ensures)
