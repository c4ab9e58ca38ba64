-- How a listing moves on.
use Rattle.std.specs.Prelude.{ℕ, ◌+◌, ◌%◌, ◌^◌, length, Ok, Err, Result}
use Rattle.encoder.specs.declared.Refusal.{Refusal}
use Rattle.listing.specs.Codes.{code_bytes}
use Rattle.listing.specs.declared.answer.Answer.{Answer}
use Rattle.listing.specs.declared.answer.Encoded.{Encoded}
use Rattle.listing.specs.declared.progress.Progress.{Progress}

-- at the start of a listing
abbrev pub start : Progress
start = record { address = 0; encoded = 0; refused = 0 }

-- an encoding is counted and passed, a refusal is counted
abbrev pub passed : Progress → Result Encoded Refusal → Progress
passed p (Ok e) = record { address = (p.address + length (code_bytes e.code)) % 2 ^ 64; encoded = (p.encoded + 1) % 2 ^ 64; refused = p.refused }
passed p (Err why) = record { address = p.address; encoded = p.encoded; refused = (p.refused + 1) % 2 ^ 64 }

abbrev pub moved : Progress → Answer → Progress
moved p answer = passed p answer.outcome

abbrev pub moving : Progress → ℕ → Progress
moving p a = record { address = a; encoded = p.encoded; refused = p.refused }
