use Rattle.std.proofs.Common.{◌≡◌, take}
use Rattle.doc_table.specs.RowLists.{Each}
use Rattle.doc_table.specs.Pages.{rows_of, all_rows, IsSound}
use Rattle.doc_table.proofs.copies.share.Given as goal

abbrev pub invariant-loop-i : goal.invariant-loop-i
invariant-loop-i l = (rows_of l.out.items ≡ rows_of (take l.i l.pages)) × (all_rows l.out.items ≡ all_rows (take l.i l.pages)) × Each IsSound l.out.items
