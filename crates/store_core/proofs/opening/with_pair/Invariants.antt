use Rattle.std.proofs.Common.{◌≡◌, ◌++◌}
use Rattle.std.specs.Vec.Iter.{into_iter_items}
use Rattle.base_model.specs.Keyed.{put}
use Rattle.alias_table.specs.Plans.{keyed_of}
use Rattle.store_core.proofs.Waiting.{put_waiting}
use Rattle.store_core.proofs.opening.with_pair.Given as goal

-- those so far, and the new one where it still waits
abbrev pub invariant-loop-pair : goal.invariant-loop-pair
invariant-loop-pair l = keyed_of l.all ++ put_waiting l.waiting (keyed_of (into_iter_items l.pair-iterator)) ≡ put l.fn.new.alias l.fn.new.index (keyed_of l.fn.pairs)
