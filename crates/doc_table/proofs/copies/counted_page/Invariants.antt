use Rattle.std.proofs.Common.{◌≡◌, take}
use Rattle.doc_table.specs.RowLists.{counted_from}
use Rattle.doc_table.specs.Pages.{live_from, page_rows}
use Rattle.doc_table.proofs.copies.counted_page.Given as goal

abbrev pub invariant-loop-i : goal.invariant-loop-i
invariant-loop-i l = (l.rows ≡ page_rows l.held) × (l.out.items ≡ counted_from l.from (live_from l.held.live 0 (take l.i l.rows)))
