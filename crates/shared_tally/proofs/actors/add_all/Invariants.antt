use Rattle.std.proofs.Common.{◌≡◌, ◌++◌, take}
use Rattle.turn_gate.specs.Passes.{IsSamePass}
use Rattle.shared_tally.proofs.actors.add_all.Given as goal

abbrev pub invariant-loop-number : goal.invariant-loop-number
invariant-loop-number g l = record { same : IsSamePass l.fn.pass l.pass; own : l.pass.own ≡ l.fn.pass.own ++ take l.number-index l.numbers }
