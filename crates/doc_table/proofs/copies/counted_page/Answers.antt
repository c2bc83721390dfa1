use Rattle.std.proofs.Common.{List, ◌+◌, ◌^◌, ◌<◌, length, sym, subst, ap, arith}
use Rattle.saved_doc.specs.declared.doc.Row.{Row}
use Rattle.doc_table.specs.Pages.{live_from}
use Rattle.doc_table.proofs.Readers.{counted_fits, counted_few, counted_page_more}
use Rattle.doc_table.proofs.copies.counted_page.Goals as goal

pub push_counted_if-requires : goal.push_counted_if-requires
push_counted_if-requires c =
    counted_fits c.args.from c.args.held.now.live c.loop-i.i (2 ^ 64) c.rows-rows.result.now c.loop-i.out.items c.loop-i.invariant.1
    (subst (λ (t : List Row). c.args.from + length (live_from c.args.held.now.live 0 t) < 2 ^ 64) (sym c.rows-rows.ensures) c.requires.few)

pub loop-i-preserved : goal.loop-i-preserved
loop-i-preserved c = (
  c.rows-rows.ensures,
  counted_page_more c.args.from c.args.held.now.live c.loop-i.i (c.args.from + length c.loop-i.out.items) c.rows-rows.result.now c.loop-i.out.items c.push_counted_if.new.out.items c.index-rows-i.result c.is_live.result
      c.loop-i-test.true c.index-rows-i.is c.is_live.ensures (omega arith) c.loop-i.invariant.1 c.in_ok-push_counted_if.ensures,
)

pub returns-clause-few : goal.returns-clause-few
returns-clause-few c =
    let e = ap length c.rows-rows.ensures in
    let s = c.requires.sound.1 in
    counted_few c.args.from c.args.held.now.live c.loop-i.i 64 c.rows-rows.result.now c.loop-i.out.items c.loop-i.invariant.1 (omega arith)
