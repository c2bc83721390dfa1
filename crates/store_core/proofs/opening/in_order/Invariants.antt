use Rattle.std.proofs.Common.{◌≡◌, []}
use Rattle.std.specs.Vec.Iter.{into_iter_items}
use Rattle.alias_table.specs.Plans.{keyed_of}
use Rattle.store_core.specs.Engines.{paired_after}
use Rattle.store_core.proofs.opening.in_order.Given as goal

-- the pairs that are left, put to those so far, give what all give
abbrev pub invariant-loop-pair : goal.invariant-loop-pair
invariant-loop-pair l = paired_after (keyed_of l.all) (into_iter_items l.pair-iterator) ≡ paired_after [] l.fn.pairs
