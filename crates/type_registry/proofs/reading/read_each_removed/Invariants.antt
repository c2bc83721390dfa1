use Rattle.std.proofs.Common.{◌≡◌, drop, []}
use Rattle.type_registry.specs.Reading.{removed_after}
use Rattle.type_registry.proofs.ReadingLemmas.{onto}
use Rattle.type_registry.proofs.reading.read_each_removed.Given as goal

-- what was read, and what is left, makes the whole
abbrev pub invariant-loop-item : goal.invariant-loop-item
invariant-loop-item l = onto l.removed (removed_after l.names l.removed (drop l.item-index l.item-items)) ≡ removed_after l.names [] l.item-items
