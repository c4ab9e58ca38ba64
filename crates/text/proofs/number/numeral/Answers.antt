use Rattle.std.proofs.Common.{arith}
use Rattle.text.proofs.Numerals.{numeral_read}
use Rattle.text.proofs.number.numeral.Goals as goal

pub returns : goal.returns
returns c = grind (arith, numeral_read)
