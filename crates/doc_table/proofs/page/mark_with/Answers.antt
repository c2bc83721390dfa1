use Rattle.doc_table.proofs.Spots.{marked_here, marked_gap}
use Rattle.doc_table.proofs.page.mark_with.Goals as goal

pub returns-in-Ok : goal.returns-in-Ok
returns-in-Ok c = marked_here c.args.mark c.mark_at.result c.args.raw.now c.args.place c.in-Ok.at c.in-Ok.is c.mark_at.ensures.first c.mark_at.ensures.later

pub returns-in-Err : goal.returns-in-Err
returns-in-Err c = marked_gap c.args.mark c.mark_at-in-Err.result c.args.raw.now c.args.place c.in-Err.at c.in-Err.is c.mark_at-in-Err.ensures.first c.mark_at-in-Err.ensures.later
