use Rattle.std.proofs.Common.{◌≡◌, ◌++◌, drop}
use Rattle.index_store.specs.Indices.{indices_of, names_of}
use Rattle.index_store.proofs.held.names.Given as goal

-- those so far
abbrev pub invariant-loop-held : goal.invariant-loop-held
invariant-loop-held l = l.names ++ names_of (indices_of (drop l.held-index l.indices)) ≡ names_of (indices_of l.indices)
