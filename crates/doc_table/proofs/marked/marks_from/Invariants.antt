use Rattle.std.proofs.Common.{◌≡◌, take}
use Rattle.doc_table.proofs.marked.marks_from.Given as goal

abbrev pub invariant-loop-mark : goal.invariant-loop-mark
invariant-loop-mark l = l.upper.items ≡ take l.mark-index l.mark-items
