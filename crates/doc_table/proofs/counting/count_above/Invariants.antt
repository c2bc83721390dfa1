use Rattle.std.proofs.Common.{◌≡◌, length, take}
use Rattle.std.specs.Option.{option_copied}
use Rattle.doc_table.specs.RowLists.{rows_after}
use Rattle.doc_table.specs.Pages.{rows_of}
use Rattle.doc_table.proofs.counting.count_above.Given as goal

abbrev pub invariant-loop-i : goal.invariant-loop-i
invariant-loop-i l = l.count ≡ length (rows_after (option_copied l.after) (rows_of (take l.i l.pages)))
