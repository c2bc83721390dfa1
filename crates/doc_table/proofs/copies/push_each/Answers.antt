use Rattle.std.proofs.Common.{[], ◌∷◌, ◌++◌, take, if◌then◌else◌, ◌∙◌, ap}
use Rattle.std.specs.Option.{option_copied}
use Rattle.saved_doc.specs.declared.doc.Row.{Row}
use Rattle.doc_table.proofs.Readers.{page_more}
use Rattle.doc_table.proofs.copies.push_each.Goals as goal

pub loop-i-preserved : goal.loop-i-preserved
loop-i-preserved c =
    page_more (option_copied c.args.after) c.args.n c.args.held.now.live c.loop-i.i c.rows-rows.result.now c.args.out.now.items c.loop-i.out.items c.push_if.new.out.items c.index-rows-i.result c.keeps.result
    c.loop-i-test.true c.index-rows-i.is c.keeps.ensures c.loop-i.invariant
    (c.in_ok-push_if.ensures ∙ ap (λ (y : Row). take c.args.n (c.loop-i.out.items ++ (if c.keeps.result then y ∷ [] else []))) c.row.ensures)
