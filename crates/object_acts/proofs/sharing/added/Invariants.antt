use Rattle.std.proofs.Common.{◌≡◌, drop}
use Rattle.call_model.specs.Acts.{added}
use Rattle.object_acts.proofs.sharing.added.Given as goal

-- what is left to add makes the whole
abbrev pub invariant-loop-space : goal.invariant-loop-space
invariant-loop-space l = added (drop l.space-index l.space-items) l.all ≡ added l.space-items l.initial.all
