use Rattle.std.proofs.Common.{arith}
use Rattle.std.specs.List.{remove}
use Rattle.doc_table.proofs.MarkLists.{marks_length, marks_by, marks_remove}
use Rattle.doc_table.proofs.marked.remove_both.Goals as goal

pub remove-requires-2 : goal.remove-requires-2
remove-requires-2 c = let e = marks_length c.args.prefix.now c.args.marks.now.items c.args.rows.now.items c.requires.marks in omega arith

pub returns-clause-marks : goal.returns-clause-marks
returns-clause-marks c =
    let ms = c.args.marks.now.items in
    let xs = c.args.rows.now.items in
    marks_by c.args.prefix.now (remove ms c.args.at) c.remove-2.new.self.items (remove xs c.args.at) c.remove.new.self.items c.remove-2.ensures.items c.remove.ensures.items (marks_remove c.args.prefix.now ms xs c.args.at c.requires.marks)
