use Rattle.std.proofs.Common.{◌≡◌, ◌≤◌, take}
use Rattle.doc_table.specs.RowLists.{Each}
use Rattle.doc_table.proofs.marked.common_with.Given as goal

abbrev pub invariant-loop-i : goal.invariant-loop-i
invariant-loop-i l = (l.len ≤ l.most) × Each (λ x. take l.len l.bytes ≡ take l.len x.raw) (take l.i l.rows)
