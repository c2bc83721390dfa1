use Rattle.std.proofs.Common.{◌≡◌, List, subst}
use Rattle.std.specs.Prelude.{OnOk}
use Rattle.saved_doc.specs.declared.doc.Row.{Row}
use Rattle.doc_table.proofs.Puts.{put_here, put_gap}
use Rattle.doc_table.proofs.MarkLists.{marks_set, room_for}
use Rattle.doc_table.proofs.marked.put_all.Goals as goal

pub put_new-requires-clause-room : goal.put_new-requires-clause-room
put_new-requires-clause-room c = room_for c.args.rows.now.items c.args.row c.args.place c.in-Err.at c.in-Err.is c.requires.place c.requires.room

pub returns-in-Ok-clause-ok : goal.returns-in-Ok-clause-ok
returns-in-Ok-clause-ok c = put_here c.args.rows.now.items c.args.row c.args.place c.in-Ok.at c.in-Ok.is c.requires.place

pub returns-in-Ok-clause-marks : goal.returns-in-Ok-clause-marks
returns-in-Ok-clause-marks c = marks_set c.args.prefix.now.items c.args.marks.now.items c.args.rows.now.items c.in-Ok.at c.args.row c.args.place c.in-Ok.is c.requires.place c.requires.marks

pub returns-in-Err-clause-ok : goal.returns-in-Err-clause-ok
returns-in-Err-clause-ok c = subst (λ (t : List Row). OnOk c.put_new.result (c.put_new.new.rows.items ≡ t)) (put_gap c.args.rows.now.items c.args.row c.args.place c.in-Err.at c.in-Err.is c.requires.place) c.put_new.ensures.ok
