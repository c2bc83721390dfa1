use Rattle.std.proofs.Common.{◌≡◌, ◌++◌, drop}
use Rattle.object_acts.proofs.merging.with_copies.Given as goal

abbrev pub invariant-loop-member : goal.invariant-loop-member
invariant-loop-member l = l.all ++ drop l.member-index l.members ≡ l.initial.all ++ l.members
