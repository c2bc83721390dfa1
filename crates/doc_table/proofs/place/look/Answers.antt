use Rattle.std.proofs.Common.{◌∙◌}
use Rattle.doc_table.proofs.Puts.{found_here, found_gap}
use Rattle.doc_table.proofs.place.look.Goals as goal

pub returns-in-Ok : goal.returns-in-Ok
returns-in-Ok c = c.row_at.ensures ∙ found_here c.args.raw.now c.args.rows.now c.scan.result c.in-Ok.at c.in-Ok.is c.scan.ensures

pub returns-in-Err : goal.returns-in-Err
returns-in-Err c = found_gap c.args.raw.now c.args.rows.now c.scan.result c.in-Err.field-0 c.in-Err.is c.scan.ensures
