use Rattle.std.proofs.Common.{◌∙◌}
use Rattle.doc_table.proofs.Puts.{put_here, put_gap}
use Rattle.doc_table.proofs.place.put_shared.Goals as goal

pub returns-in-Ok-clause-ok : goal.returns-in-Ok-clause-ok
returns-in-Ok-clause-ok c = put_here c.args.rows.now.items c.args.row c.args.place c.in-Ok.at c.in-Ok.is c.requires

pub returns-in_ok-insert-in-Err-clause-ok : goal.returns-in_ok-insert-in-Err-clause-ok
returns-in_ok-insert-in-Err-clause-ok c = c.in_ok-insert-in-Err.ensures.items ∙ put_gap c.args.rows.now.items c.args.row c.args.place c.in-Err.at c.in-Err.is c.requires
