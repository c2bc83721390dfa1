use Rattle.std.proofs.Common.{◌≡◌, []}
use Rattle.std.specs.Vec.Iter.{into_iter_items}
use Rattle.race_model.specs.Sorted.{IsSorted}
use Rattle.index_store.specs.Indices.{indices_of, opened_after}
use Rattle.index_store.proofs.store.IndexStore.open.Given as goal

-- the indices that are left, put to those so far, give what all give
abbrev pub invariant-loop-opened : goal.invariant-loop-opened
invariant-loop-opened l =
    (opened_after (indices_of l.held.items) (into_iter_items l.opened-iterator) ≡ opened_after [] l.fn.indices)
    × IsSorted (indices_of l.held.items)
