-- What a code holds.
use Rattle.std.specs.Prelude.{ℕ, ◌-◌, List, ◌++◌, length, take, replicate}
use Rattle.listing.specs.declared.code.Code.{Code}

-- its bytes
abbrev pub code_bytes : Code → List ℕ
code_bytes c = take c.len c.row

-- the code of these bytes, with zeros behind them
abbrev pub padded : List ℕ → Code
padded bs = record { row = bs ++ replicate (15 - length bs) 0; len = length bs }
