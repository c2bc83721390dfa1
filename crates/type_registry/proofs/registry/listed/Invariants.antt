use Rattle.std.proofs.Common.{◌≡◌, drop}
use Rattle.base_model.specs.Keyed.{at}
use Rattle.type_registry.proofs.registry.listed.Given as goal

-- what is left decides
abbrev pub invariant-loop-listed : goal.invariant-loop-listed
invariant-loop-listed l = at l.name (drop l.listed-index l.listed-items) ≡ at l.name l.listed-items
