use Rattle.std.proofs.Common.{◌≡◌, ℕ, List, take, ◌∙◌, ap, arith}
use Rattle.saved_doc.specs.declared.doc.Row.{Row}
use Rattle.doc_table.proofs.MarkLists.{common_next}
use Rattle.doc_table.proofs.marked.common_with.Goals as goal

pub loop-i-preserved : goal.loop-i-preserved
loop-i-preserved c =
    let k : ℕ = c.common_len-len.result in
    let x : Row = c.index-rows-i.result in
    let w : take k c.args.bytes.now ≡ take k x.raw = c.common_len-len.ensures.same ∙ ap (λ (r : List ℕ). take k r) (c.as_bytes.ensures.bytes ∙ ap (λ (y : Row). y.raw) c.row.ensures) in
    let f = c.common_len-len.ensures.few in
    (omega arith, common_next c.args.bytes.now c.args.rows.now c.loop-i.i k c.loop-i.len x c.loop-i-test.true c.index-rows-i.is f c.loop-i.invariant.1 w)
