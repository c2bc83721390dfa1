use Rattle.std.proofs.Common.{◌≡◌, ◌≤◌, take, length}
use Rattle.std.specs.Vec.{vec_capacity}
use Rattle.store_core.proofs.copies.copied.Given as goal

-- the results so far, and room for all
abbrev pub invariant-loop-item : goal.invariant-loop-item
invariant-loop-item l =
    (l.copy.items ≡ take l.item-index l.item-items)
    × (length l.item-items ≤ vec_capacity l.copy)
