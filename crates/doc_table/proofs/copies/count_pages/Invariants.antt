use Rattle.std.proofs.Common.{◌≡◌, length, take}
use Rattle.doc_table.specs.RowLists.{Each, counted_from}
use Rattle.doc_table.specs.Pages.{rows_of, all_rows, IsSound}
use Rattle.doc_table.proofs.copies.count_pages.Given as goal

abbrev pub invariant-loop-i : goal.invariant-loop-i
invariant-loop-i l = (rows_of l.out.items ≡ counted_from 0 (rows_of (take l.i l.pages))) × (all_rows l.out.items ≡ counted_from 0 (rows_of (take l.i l.pages))) × Each IsSound l.out.items × (l.count ≡ length (rows_of (take l.i l.pages)))
