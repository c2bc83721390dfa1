use Rattle.std.proofs.Common.{◌≡◌, ◌++◌, take}
use Rattle.std.specs.Option.{option_copied}
use Rattle.doc_table.specs.RowLists.{rows_after}
use Rattle.doc_table.specs.Pages.{live_from}
use Rattle.doc_table.proofs.copies.push_each.Given as goal

abbrev pub invariant-loop-i : goal.invariant-loop-i
invariant-loop-i l = l.out.items ≡ take l.n (l.initial.out.items ++ rows_after (option_copied l.after) (live_from l.held.live 0 (take l.i l.rows)))
