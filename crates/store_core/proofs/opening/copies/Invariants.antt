use Rattle.std.proofs.Common.{◌≡◌, take}
use Rattle.doc_table.specs.RowLists.{Each}
use Rattle.doc_table.specs.Tables.{IsTable}
use Rattle.store_core.proofs.opening.copies.Given as goal

-- the indices so far, each of a table
abbrev pub invariant-loop-opened : goal.invariant-loop-opened
invariant-loop-opened l =
    (l.all ≡ take l.opened-index l.opened-items)
    × Each (λ o. IsTable o.table) (take l.opened-index l.opened-items)
