use Rattle.std.proofs.Common.{◌≡◌, ℕ, ◌+◌, List, Option, Some, drop, sym, ap, subst}
use Rattle.std.specs.Option.{option_copied}
use Rattle.doc_table.specs.RowLists.{rows_after, IsAllAfter}
use Rattle.doc_table.specs.Pages.{rows_of}
use Rattle.doc_table.specs.declared.page.SharedPage.{SharedPage}
use Rattle.doc_table.proofs.Readers.{start_rest}
use Rattle.doc_table.proofs.Later.{above_after}
use Rattle.doc_table.proofs.copies.start_of.Goals as goal

pub returns-else-is_empty-clause-rest : goal.returns-else-is_empty-clause-rest
returns-else-is_empty-clause-rest c =
    let e : option_copied c.args.after ≡ Some c.in-Some.raw.now = ap option_copied c.in-Some.is in
    subst (λ (a : Option (List ℕ)). rows_after a (rows_of (drop c.page_of.result c.args.pages.now)) ≡ rows_after a (rows_of c.args.pages.now)) (sym e) (start_rest c.in-Some.raw.now c.args.pages.now c.page_of.result c.page_of.ensures.lower)

pub returns-else-is_empty-clause-later : goal.returns-else-is_empty-clause-later
returns-else-is_empty-clause-later c =
    let e : option_copied c.args.after ≡ Some c.in-Some.raw.now = ap option_copied c.in-Some.is in
    let later : List SharedPage = drop (c.page_of.result + 1) c.args.pages.now in
    subst (λ (a : Option (List ℕ)). IsAllAfter a (rows_of later)) (sym e) (above_after c.in-Some.raw.now later c.page_of.ensures.higher)
