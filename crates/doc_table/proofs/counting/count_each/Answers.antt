use Rattle.std.proofs.Common.{[], ◌∷◌, Bool, cond, length, ap, arith}
use Rattle.std.specs.Option.{option_copied}
use Rattle.doc_table.proofs.Counts.{one_more, count_bound}
use Rattle.doc_table.proofs.counting.count_each.Goals.{then-keeps, else-keeps}
use Rattle.doc_table.proofs.counting.count_each.Goals as goal

pub overflow_add-count : goal.overflow_add-count
overflow_add-count c =
    let b = count_bound (option_copied c.args.after) c.args.held.now.live c.loop-i.i c.rows-rows.result.now in
    let i = c.loop-i.invariant in
    let l = ap length c.rows-rows.ensures in
    let s = c.requires.1 in
    let t = c.loop-i-test.true in
    omega arith

pub loop-i-preserved : goal.loop-i-preserved
loop-i-preserved c =
    let x = c.index-rows-i.result in
    let m = one_more (option_copied c.args.after) c.args.held.now.live c.loop-i.i c.rows-rows.result.now x c.keeps.result c.loop-i-test.true c.index-rows-i.is c.keeps.ensures in
    let i = c.loop-i.invariant in
    elim c.if-keeps.branch [
      | then-keeps w ↦ (let k = ap (λ (t : Bool). length (cond t (x ∷ []) [])) w.if-keeps.true in let e = w.count-is in omega arith)
      | else-keeps w ↦ (let k = ap (λ (t : Bool). length (cond t (x ∷ []) [])) w.if-keeps.false in let e = w.count-is in omega arith)
    ]
