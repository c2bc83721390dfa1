use Rattle.std.proofs.Common.{arith}
use Rattle.doc_table.proofs.Live.{live_full}
use Rattle.doc_table.proofs.page.SharedPage.of.Goals as goal

pub returns-clause-live : goal.returns-clause-live
returns-clause-live c = rw c.in_ok-new.ensures.ok (rw c.of-rows.ensures (live_full 0 c.args.rows.items (omega arith)))
