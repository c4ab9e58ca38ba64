use Rattle.std.proofs.Common.{rules}
use Rattle.branches.proofs.relative.branch.Goals.{in-Jcc-Short, in-Jcc-Near, in-Jmp-Short, in-Jmp-Near, in-Call-Near}
use Rattle.branches.proofs.relative.branch.Goals as goal

pub returns : goal.returns
returns c =
    elim c.match-ins.branch [
      | in-Jcc-Short w ↦ search rules
      | in-Jcc-Near w ↦ search rules
      | in-Jmp-Short w ↦ search rules
      | in-Jmp-Near w ↦ search rules
      | in-Call-Near w ↦ search rules
    ]
