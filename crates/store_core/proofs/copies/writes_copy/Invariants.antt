use Rattle.std.proofs.Common.{◌≡◌, take}
use Rattle.store_core.proofs.copies.writes_copy.Given as goal

-- the writes so far
abbrev pub invariant-loop-write : goal.invariant-loop-write
invariant-loop-write l = l.copies ≡ take l.write-index l.write-items
