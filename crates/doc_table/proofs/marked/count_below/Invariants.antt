use Rattle.std.proofs.Common.{◌≤◌}
use Rattle.doc_table.proofs.marked.count_below.Given as goal

abbrev pub invariant-loop-mark : goal.invariant-loop-mark
invariant-loop-mark l = l.count ≤ l.mark-index
