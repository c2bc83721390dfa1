use Rattle.std.proofs.Common.{◌≡◌, ◌++◌, List, take, OnOk, sym, ◌∙◌, subst}
use Rattle.std.specs.Option.{option_copied}
use Rattle.saved_doc.specs.declared.doc.Row.{Row}
use Rattle.doc_table.specs.RowLists.{is_after}
use Rattle.doc_table.specs.Pages.{live_rows}
use Rattle.doc_table.proofs.Order.{filter_all}
use Rattle.doc_table.proofs.Later.{none_after}
use Rattle.doc_table.proofs.copies.push_page.Goals as goal

pub returns-else-first : goal.returns-else-first
returns-else-first c =
    let rows : List Row = live_rows c.args.held.now in
    let e = none_after rows ∙ sym (filter_all (is_after (option_copied c.args.after)) rows (c.requires.later c.if-first.false)) in
    subst (λ (t : List Row). OnOk c.push_each-else-first.result (c.push_each-else-first.new.out.items ≡ take c.args.n (c.args.out.now.items ++ t))) e c.push_each-else-first.ensures
