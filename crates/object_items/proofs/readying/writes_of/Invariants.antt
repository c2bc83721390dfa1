use Rattle.std.proofs.Common.{◌≡◌, ◌++◌, map, drop}
use Rattle.doc_table.specs.Tables.{write_of}
use Rattle.call_model.specs.Plans.{writes_of}
use Rattle.object_items.specs.Mapped.{ready_of}
use Rattle.object_items.proofs.readying.writes_of.Given as goal

-- the writes so far, and those of the items that are left, make the whole
abbrev pub invariant-loop-item : goal.invariant-loop-item
invariant-loop-item l = map write_of l.writes ++ writes_of (map ready_of (drop l.item-index l.item-items)) ≡ writes_of (map ready_of l.item-items)
