use Rattle.std.proofs.Common.{◌≡◌, ◌+◌, drop, option_map}
use Rattle.transform_ops.specs.Attributes.{place_at}
use Rattle.transform_ops.proofs.attributes.place_in.Given as goal

-- it is not among those that were passed
abbrev pub invariant-loop-place : goal.invariant-loop-place
invariant-loop-place l = place_at l.key l.members ≡ option_map (λ n. l.place + n) (place_at l.key (drop l.place l.members))
