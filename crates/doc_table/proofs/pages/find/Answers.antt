use Rattle.std.proofs.Common.{◌≡◌, ℕ, List, [], ◌∷◌, length, Some, None, refl, ◌∙◌, arith, rules}
use Rattle.doc_table.specs.declared.page.SharedPage.{SharedPage}
use Rattle.doc_table.specs.RowLists.{found}
use Rattle.doc_table.specs.Place.{IsPlace}
use Rattle.doc_table.specs.Pages.{page_rows, rows_of}
use Rattle.doc_table.proofs.Entries.{number_entries}
use Rattle.doc_table.proofs.PageChanges.{page_rising, rows_found}
use Rattle.doc_table.proofs.Spots.{said_at}
use Rattle.doc_table.proofs.pages.find.Goals as goal

none_found : (r : List ℕ) (ps : List SharedPage) → length ps ≡ 0 → None ≡ found r (rows_of ps)
none_found r [] e = refl
none_found r (h ∷ ps) e = absurd (omega arith)

pub returns-then-is_empty-clause-spot : goal.returns-then-is_empty-clause-spot
returns-then-is_empty-clause-spot c =
    let e : length c.args.pages.now ≡ 0 = search rules in
    λ l. absurd (omega arith)

pub returns-then-is_empty-clause-number : goal.returns-then-is_empty-clause-number
returns-then-is_empty-clause-number c =
    let e : length c.args.pages.now ≡ 0 = search rules in
    number_entries c.args.raw.now (rows_of c.args.pages.now) None (none_found c.args.raw.now c.args.pages.now e)

pub place-place-requires : goal.place-place-requires
place-place-requires c = page_rising c.args.pages.now c.page_of-page.result c.index-pages-page.result c.requires c.page_of-page.ensures.within c.index-pages-page.is

pub returns-in-Some-clause-number : goal.returns-in-Some-clause-number
returns-in-Some-clause-number c =
    number_entries c.args.raw.now (rows_of c.args.pages.now) (Some c.in-Some.row.now) (c.in-Some.ensures ∙ rows_found c.args.raw.now c.args.pages.now c.page_of-page.result c.index-pages-page.result c.page_of-page.ensures c.index-pages-page.is)

pub returns-in-None-clause-number : goal.returns-in-None-clause-number
returns-in-None-clause-number c =
    number_entries c.args.raw.now (rows_of c.args.pages.now) None (c.in-None.ensures ∙ rows_found c.args.raw.now c.args.pages.now c.page_of-page.result c.index-pages-page.result c.page_of-page.ensures c.index-pages-page.is)

pub returns-in-Some-clause-spot : goal.returns-in-Some-clause-spot
returns-in-Some-clause-spot c = λ _. record {
  page = c.page_of-page.ensures;
  place = said_at (λ h. IsPlace c.args.raw.now (page_rows h) c.place-place.result) c.args.pages.now c.page_of-page.result c.index-pages-page.result c.page_of-page.ensures.within c.index-pages-page.is c.place-place.ensures;
}

pub returns-in-None-clause-spot : goal.returns-in-None-clause-spot
returns-in-None-clause-spot c = λ _. record {
  page = c.page_of-page.ensures;
  place = said_at (λ h. IsPlace c.args.raw.now (page_rows h) c.place-place.result) c.args.pages.now c.page_of-page.result c.index-pages-page.result c.page_of-page.ensures.within c.index-pages-page.is c.place-place.ensures;
}
