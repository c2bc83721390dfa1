use Rattle.std.proofs.Common.{◌≡◌, take, length}
use Rattle.doc_table.specs.Marks.{AreMarks}
use Rattle.doc_table.proofs.marked.marks_of.Given as goal

abbrev pub invariant-loop-i : goal.invariant-loop-i
invariant-loop-i l = (length l.marks.items ≡ l.i) × AreMarks l.prefix l.marks.items (take l.i l.rows)
