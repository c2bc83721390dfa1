use Rattle.std.proofs.Common.{◌≡◌, ◌≤◌, ◌-◌, ◌++◌, length, drop}
use Rattle.object_acts.specs.Merging.{below_key, behind_key}
use Rattle.object_acts.proofs.merging.copied_below.Given as goal

-- the members from here on decide what is left to copy and what follows
abbrev pub invariant-loop-at : goal.invariant-loop-at
invariant-loop-at l = record {
  within : l.at ≤ length l.members;
  more : l.all ++ below_key l.key (drop l.at l.members) ≡ l.initial.all ++ below_key l.key l.members;
  rest : behind_key l.key (drop l.at l.members) ≡ behind_key l.key l.members;
}

abbrev pub decreases-loop-at : goal.decreases-loop-at
decreases-loop-at l = length l.members - l.at
