use Rattle.std.proofs.Common.{◌≡◌, ◌++◌, drop}
use Rattle.call_model.specs.Acts.{taken_away}
use Rattle.object_acts.proofs.sharing.taken_away.Given as goal

-- those that stay so far, and those of the rest, make the whole
abbrev pub invariant-loop-space : goal.invariant-loop-space
invariant-loop-space l = l.left ++ taken_away l.remove (drop l.space-index l.space-items) ≡ taken_away l.remove l.space-items
