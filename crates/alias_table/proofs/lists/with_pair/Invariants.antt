use Rattle.std.proofs.Common.{◌≡◌, ◌++◌, drop}
use Rattle.base_model.specs.Keyed.{put}
use Rattle.alias_table.specs.Plans.{keyed_of}
use Rattle.alias_table.proofs.Waiting.{put_waiting}
use Rattle.alias_table.proofs.lists.with_pair.Given as goal

-- those so far, and the new one where it still waits
abbrev pub invariant-loop-pair : goal.invariant-loop-pair
invariant-loop-pair l = keyed_of l.all ++ put_waiting l.waiting (keyed_of (drop l.pair-index l.pair-items)) ≡ put l.fn.new.alias l.fn.new.index (keyed_of l.pair-items)
