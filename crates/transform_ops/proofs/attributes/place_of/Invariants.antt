use Rattle.std.proofs.Common.{◌≡◌, ◌+◌, drop}
use Rattle.transform_ops.specs.Attributes.{place_among}
use Rattle.transform_ops.proofs.attributes.place_of.Given as goal

-- it is not among those that were passed
abbrev pub invariant-loop-place : goal.invariant-loop-place
invariant-loop-place l = place_among l.key l.members ≡ l.place + place_among l.key (drop l.place l.members)
