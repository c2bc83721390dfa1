use Rattle.std.proofs.Common.{◌≡◌, drop}
use Rattle.race_model.specs.Stores.{pit_at}
use Rattle.index_store.specs.Indices.{pits_of}
use Rattle.index_store.proofs.kept.kept_at.Given as goal

-- not so far
abbrev pub invariant-loop-kept : goal.invariant-loop-kept
invariant-loop-kept l = pit_at l.number (pits_of (drop l.kept-index l.pits)) ≡ pit_at l.number (pits_of l.pits)
