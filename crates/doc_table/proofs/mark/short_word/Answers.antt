use Rattle.std.proofs.Common.{◌≡◌, ℕ, ◌+◌, ◌-◌, ◌*◌, ◌^◌, List, drop, suc, ◌∙◌, subst, arith}
use Rattle.doc_table.specs.Marks.{mark_of}
use Rattle.doc_table.proofs.Marks.{mark_step, mark_zero, read_more, read_fits}
use Rattle.doc_table.proofs.mark.short_word.Goals as goal

pub overflow_mul-number : goal.overflow_mul-number
overflow_mul-number c =
    let f = read_fits c.loop-i.i c.loop-i.number 0 c.loop-i.invariant.0 (omega arith) (omega arith) in
    omega arith

pub overflow_add-number : goal.overflow_add-number
overflow_add-number c =
    let f = read_fits c.loop-i.i c.loop-i.number c.from.result c.loop-i.invariant.0 (omega arith) (omega arith) in
    omega arith

pub loop-i-preserved : goal.loop-i-preserved
loop-i-preserved c =
    let r : List ℕ = c.args.bytes.now in
    let k : ℕ = 8 - (c.loop-i.i + 1) in
    let e : 8 - c.loop-i.i ≡ suc k = omega arith in
    let h = subst (λ (n : ℕ). c.loop-i.number * 256 ^ n + mark_of n (drop c.loop-i.i r) ≡ mark_of 8 r) e c.loop-i.invariant.1 in
    let s = mark_step k r c.loop-i.i c.from.result c.loop-i.number (c.from.ensures ∙ c.byte_at-byte.ensures) ∙ h in
    (read_more c.loop-i.i c.loop-i.number c.from.result c.loop-i.invariant.0 (omega arith), s)

pub returns : goal.returns
returns c =
    let r : List ℕ = c.args.bytes.now in
    let q : c.loop-i.i ≡ 8 = omega arith in
    let h : c.loop-i.number * 256 ^ 0 + mark_of 0 (drop 8 r) ≡ mark_of 8 r = subst (λ (n : ℕ). c.loop-i.number * 256 ^ (8 - n) + mark_of (8 - n) (drop n r) ≡ mark_of 8 r) q c.loop-i.invariant.1 in
    let z = mark_zero (drop 8 r) in
    omega arith
