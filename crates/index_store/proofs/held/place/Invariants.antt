use Rattle.std.proofs.Common.{◌≡◌, drop}
use Rattle.base_model.specs.Keyed.{at}
use Rattle.index_store.specs.Indices.{indices_of}
use Rattle.index_store.proofs.held.place.Given as goal

-- not so far
abbrev pub invariant-loop-i : goal.invariant-loop-i
invariant-loop-i l = at l.name (indices_of (drop l.i l.indices)) ≡ at l.name (indices_of l.indices)
