use Rattle.std.proofs.Common.{◌≡◌, take}
use Rattle.doc_table.specs.Pages.{live_from, page_rows}
use Rattle.doc_table.proofs.page.SharedPage.shared.Given as goal

abbrev pub invariant-loop-i : goal.invariant-loop-i
invariant-loop-i l = (l.rows ≡ page_rows l.self) × (l.out.items ≡ live_from l.self.live 0 (take l.i l.rows))
