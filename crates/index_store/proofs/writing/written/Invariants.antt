use Rattle.std.proofs.Common.{◌≡◌, ◌≤◌, ◌+◌, ◌^◌, ◌++◌, map, length}
use Rattle.std.specs.Vec.Iter.{into_iter_items}
use Rattle.race_model.specs.Stores.{write_all, items_of}
use Rattle.doc_table.specs.Tables.{item_of, write_of}
use Rattle.index_store.proofs.writing.written.Given as goal

-- the writes that are left, done on the copy, give what all give on the table
abbrev pub invariant-loop-write : goal.invariant-loop-write
invariant-loop-write l =
    (write_all l.copy (map write_of (into_iter_items l.write-iterator)) ≡ write_all l.fn.table (map write_of l.fn.writes))
    × (map item_of l.items ++ items_of l.copy (map write_of (into_iter_items l.write-iterator)) ≡ items_of l.fn.table (map write_of l.fn.writes))
    × (l.copy.next + length (into_iter_items l.write-iterator) ≤ 2 ^ 63)
