use Rattle.std.proofs.Common.{◌≤◌, ℕ, length, arith}
use Rattle.doc_table.proofs.MarkLists.{common_begins}
use Rattle.doc_table.proofs.marked.common_prefix.Goals as goal

pub returns : goal.returns
returns c =
    let k : ℕ = c.common_with-len.result in
    let h : k ≤ length c.as_bytes-first.result.now = (let f = c.common_with-len.ensures.few in let m = c.min.ensures in omega arith) in
    common_begins c.as_bytes-first.result.now c.bytes_of.result.items c.args.rows.now k h c.bytes_of.ensures c.common_with-len.ensures.same
