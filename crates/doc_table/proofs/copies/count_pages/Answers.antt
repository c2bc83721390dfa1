use Rattle.std.proofs.Common.{length, take, sym, ◌∙◌, subst, ap, arith, length-append}
use Rattle.std.proofs.lemmas.List.{take_all}
use Rattle.doc_table.specs.RowLists.{IsRising, counted_from}
use Rattle.doc_table.specs.Pages.{rows_of, live_rows}
use Rattle.doc_table.proofs.Readers.{page_fits, count_more, rows_more, rising_counted, length-counted}
use Rattle.doc_table.proofs.copies.count_pages.Goals as goal

pub counted_page-requires-clause-few : goal.counted_page-requires-clause-few
counted_page-requires-clause-few c =
    let f = page_fits c.args.pages.now c.loop-i.i c.index-pages-i.result c.loop-i-test.true c.index-pages-i.is in
    let n = c.loop-i.invariant.3 in
    let r = c.requires.few in
    omega arith

pub overflow_add-count : goal.overflow_add-count
overflow_add-count c =
    let f = page_fits c.args.pages.now c.loop-i.i c.index-pages-i.result c.loop-i-test.true c.index-pages-i.is in
    let n = c.loop-i.invariant.3 in
    let r = c.requires.few in
    let l = ap length c.in_ok-rows.ensures.rows in
    let k = length-counted c.loop-i.count (live_rows c.index-pages-i.result) in
    omega arith

pub loop-i-preserved : goal.loop-i-preserved
loop-i-preserved c =
    let n = c.loop-i.invariant.3 in
    let l = ap length c.in_ok-rows.ensures.rows in
    let k = length-counted c.loop-i.count (live_rows c.index-pages-i.result) in
    let m = ap length (rows_more c.args.pages.now c.loop-i.i c.index-pages-i.result c.loop-i-test.true c.index-pages-i.is) in
    let a = length-append (rows_of (take c.loop-i.i c.args.pages.now)) (live_rows c.index-pages-i.result) in (
      count_more c.args.pages.now c.loop-i.i c.index-pages-i.result c.loop-i.count _ _ _ c.loop-i-test.true c.index-pages-i.is n c.loop-i.invariant.0 c.in_ok-rows.ensures.rows c.in_ok-push_rows.ensures.live,
      count_more c.args.pages.now c.loop-i.i c.index-pages-i.result c.loop-i.count _ _ _ c.loop-i-test.true c.index-pages-i.is n c.loop-i.invariant.1 c.in_ok-rows.ensures.rows c.in_ok-push_rows.ensures.all,
      c.in_ok-push_rows.ensures.sound c.loop-i.invariant.2,
      omega arith,
    )

pub returns-clause-pages : goal.returns-clause-pages
returns-clause-pages c =
    let e = c.loop-i.invariant.1 ∙ ap (λ t. counted_from 0 (rows_of t)) (take_all c.loop-i.i c.args.pages.now (omega arith)) in
    record { sound = c.loop-i.invariant.2; rising = subst IsRising (sym e) (rising_counted 0 (rows_of c.args.pages.now) c.requires.rising) }
