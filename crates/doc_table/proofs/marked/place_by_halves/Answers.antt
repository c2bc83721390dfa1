use Rattle.std.proofs.Common.{◌≡◌, sym, ◌∙◌, arith}
use Rattle.std.specs.declared.cmp.Ordering.TheVariants.{Less, Equal, Greater}
use Rattle.saved_doc.specs.declared.doc.Row.{Row}
use Rattle.doc_table.specs.RowLists.{order}
use Rattle.doc_table.proofs.Places.{place_here, lower_before, lower_to, higher_from}
use Rattle.doc_table.proofs.marked.place_by_halves.Goals as goal

pub loop-low-preserved-in-Less : goal.loop-low-preserved-in-Less
loop-low-preserved-in-Less c =
    let x : Row = c.index-rows-mid.result in
    let e : order x.raw c.args.raw.now ≡ Less = sym c.compare_shared.ensures ∙ c.in-Less.is in
    (omega arith, omega arith, lower_to c.args.raw.now c.args.rows.now _ x c.requires (omega arith) c.index-rows-mid.is e, c.loop-low.invariant.3)

pub returns-in-Equal : goal.returns-in-Equal
returns-in-Equal c =
    let x : Row = c.index-rows-mid.result in
    let e : order x.raw c.args.raw.now ≡ Equal = sym c.compare_shared.ensures ∙ c.in-Equal.is in
    place_here c.args.raw.now c.args.rows.now _ x c.requires (omega arith) c.index-rows-mid.is
    (lower_before c.args.raw.now c.args.rows.now _ x c.requires (omega arith) c.index-rows-mid.is (λ g. cc)) e

pub loop-low-preserved : goal.loop-low-preserved
loop-low-preserved c =
    let x : Row = c.index-rows-mid.result in
    let e : order x.raw c.args.raw.now ≡ Greater = sym c.compare_shared.ensures ∙ c.in-Greater.is in
    (omega arith, omega arith, c.loop-low.invariant.2, higher_from c.args.raw.now c.args.rows.now _ x c.requires (omega arith) c.index-rows-mid.is e)
