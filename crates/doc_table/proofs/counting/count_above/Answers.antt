use Rattle.std.proofs.Common.{◌≡◌, ◌+◌, true, arith}
use Rattle.std.proofs.lemmas.Bool.{eqb-false}
use Rattle.std.specs.Option.{option_copied}
use Rattle.doc_table.proofs.Counts.{none_before, within_all, page_more}
use Rattle.doc_table.specs.RowLists.{is_after}
use Rattle.doc_table.proofs.Later.{page_later}
use Rattle.doc_table.proofs.counting.count_above.Goals as goal

pub loop-i-init : goal.loop-i-init
loop-i-init c = none_before (option_copied c.args.after) c.args.pages.now c.start_of-start.result c.start_of-start.ensures.rest

pub count_in-count-requires-clause-later : goal.count_in-count-requires-clause-later
count_in-count-requires-clause-later c e =
    let d = eqb-false c.loop-i.i c.start_of-start.result e in
    page_later (λ x. is_after (option_copied c.args.after) x ≡ true) (c.start_of-start.result + 1) c.args.pages.now c.loop-i.i c.index-pages-i.result (omega arith) c.loop-i-test.true c.index-pages-i.is c.start_of-start.ensures.later

pub overflow_add-count : goal.overflow_add-count
overflow_add-count c =
    let w = within_all (option_copied c.args.after) c.args.pages.now c.loop-i.i c.index-pages-i.result c.loop-i-test.true c.index-pages-i.is in
    let i = c.loop-i.invariant in
    let e = c.count_in-count.ensures in
    let f = c.requires.few in
    omega arith

pub loop-i-preserved : goal.loop-i-preserved
loop-i-preserved c =
    let m = page_more (option_copied c.args.after) c.args.pages.now c.loop-i.i c.index-pages-i.result c.loop-i-test.true c.index-pages-i.is in
    let i = c.loop-i.invariant in
    let e = c.count_in-count.ensures in
    omega arith
