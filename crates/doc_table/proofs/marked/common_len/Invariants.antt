use Rattle.std.proofs.Common.{◌≡◌, take}
use Rattle.doc_table.proofs.marked.common_len.Given as goal

abbrev pub invariant-loop-i : goal.invariant-loop-i
invariant-loop-i l = take l.i l.bytes ≡ take l.i l.other
