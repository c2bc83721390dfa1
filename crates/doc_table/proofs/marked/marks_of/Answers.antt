use Rattle.std.proofs.Common.{◌≡◌, ℕ, List, sym, ◌∙◌, ap, subst, arith}
use Rattle.saved_doc.specs.declared.doc.Row.{Row}
use Rattle.doc_table.specs.Marks.{Begins, IsWordOf}
use Rattle.doc_table.proofs.MarkLists.{marks_next, each_known}
use Rattle.doc_table.proofs.marked.marks_of.Goals as goal

pub mark_after-requires : goal.mark_after-requires
mark_after-requires c =
    let x : Row = c.index-rows-i.result in
    let p : List ℕ = c.args.prefix.now in
    let v : c.as_str.result.now ≡ x.raw = c.as_str.ensures ∙ ap (λ (y : Row). y.raw) c.row.ensures in
    subst (Begins p) (sym v) (each_known (λ y. Begins p y.raw) c.args.rows.now c.loop-i.i x c.requires.prefix c.loop-i-test.true c.index-rows-i.is)

pub loop-i-preserved : goal.loop-i-preserved
loop-i-preserved c =
    let x : Row = c.index-rows-i.result in
    let p : List ℕ = c.args.prefix.now in
    let v : c.as_str.result.now ≡ x.raw = c.as_str.ensures ∙ ap (λ (y : Row). y.raw) c.row.ensures in
    let k = subst (IsWordOf p c.mark_after.result) v c.mark_after.ensures in
    let l = c.push.ensures.len in
    (omega arith, marks_next p c.loop-i.marks.items c.push.new.self.items c.args.rows.now c.loop-i.i c.mark_after.result x c.loop-i-test.true c.index-rows-i.is c.loop-i.invariant.1 k c.push.ensures.items)
