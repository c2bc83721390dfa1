use Rattle.std.proofs.Common.{◌≡◌, drop}
use Rattle.base_model.specs.Keyed.{at}
use Rattle.index_store.specs.Indices.{indices_of}
use Rattle.index_store.proofs.held.look.Given as goal

-- not so far
abbrev pub invariant-loop-held : goal.invariant-loop-held
invariant-loop-held l = at l.name (indices_of (drop l.held-index l.indices)) ≡ at l.name (indices_of l.indices)
