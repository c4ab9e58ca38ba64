-- A code of given bytes holds them.
use Rattle.std.proofs.Common.{◌≡◌, ◌-◌, ℕ, List, length, replicate, refl}
use Rattle.std.proofs.lemmas.List.{take_at}
use Rattle.listing.specs.Codes.{code_bytes, padded}

pub code_bytes-padded : (bs : List ℕ) → code_bytes (padded bs) ≡ bs
code_bytes-padded bs = take_at bs (replicate (15 - length bs) 0) (length bs) refl
