use Rattle.std.proofs.Common.{◌≡◌, ◌++◌, [], ◌∷◌, sym, ◌∙◌, ap, subst, append-nil}
use Rattle.doc_table.specs.declared.page.SharedPage.{SharedPage}
use Rattle.doc_table.specs.RowLists.{below, above}
use Rattle.doc_table.specs.Place.{IsPlace}
use Rattle.doc_table.specs.Pages.{page_rows, live_rows, live_from, rows_of, IsPages}
use Rattle.doc_table.proofs.Live.{live_none}
use Rattle.doc_table.proofs.PageChanges.{swapped_one, swapped_none, rows_out, pages_out, pages_kept, same_item}
use Rattle.doc_table.proofs.Spots.{known_at}
use Rattle.doc_table.proofs.pages.clear_row.Goals as goal

pub without_row-live-requires-clause-place : goal.without_row-live-requires-clause-place
without_row-live-requires-clause-place c =
    let s = c.requires.spot c.requires.some in
    known_at (λ h. IsPlace c.args.raw.now (page_rows h) c.args.spot.place) c.args.pages.now.items c.args.spot.page c.index-held.result.now s.page.within c.index-held.ensures s.place

pub returns-then-is_dead-clause-rows : goal.returns-then-is_dead-clause-rows
returns-then-is_dead-clause-rows c =
    let e = sym (c.is_dead.ensures.dead c.if-is_dead.true) ∙ c.without_row-live.ensures in
    ap rows_of (c.remove.ensures.items ∙ swapped_none c.args.pages.now.items c.args.spot.page) ∙ rows_out c.args.raw.now c.args.pages.now.items c.args.spot.page c.index-held.result.now [] (c.requires.spot c.requires.some).page c.index-held.ensures e

pub returns-then-is_dead-clause-pages : goal.returns-then-is_dead-clause-pages
returns-then-is_dead-clause-pages c =
    subst IsPages (sym (c.remove.ensures.items ∙ swapped_none c.args.pages.now.items c.args.spot.page))
    (pages_out c.args.pages.now.items c.args.spot.page c.index-held.result.now [] 0 c.requires.pages (c.requires.spot c.requires.some).page.within c.index-held.ensures tt (sym (live_none 0 (page_rows c.index-held.result.now))))

pub returns-else-is_dead-clause-rows : goal.returns-else-is_dead-clause-rows
returns-else-is_dead-clause-rows c =
    let h : SharedPage = record { page = c.index_mut.result.now.page; live = c.without_row-live.result; mark = c.index_mut.result.now.mark } in
    let i = same_item c.args.pages.now.items c.args.spot.page c.index_mut.result.now c.index-held.result.now (c.requires.spot c.requires.some).page.within c.index_mut.ensures.value c.index-held.ensures in
    let e : rows_of (h ∷ []) ≡ below c.args.raw.now (live_rows c.index-held.result.now) ++ above c.args.raw.now (live_rows c.index-held.result.now) =
    append-nil (live_rows h) ∙ ap (λ (t : SharedPage). live_from c.without_row-live.result 0 (page_rows t)) i ∙ c.without_row-live.ensures in
    ap rows_of (swapped_one c.args.pages.now.items c.args.spot.page h (c.requires.spot c.requires.some).page.within) ∙ rows_out c.args.raw.now c.args.pages.now.items c.args.spot.page c.index-held.result.now (h ∷ []) (c.requires.spot c.requires.some).page c.index-held.ensures e

pub returns-else-is_dead-clause-pages : goal.returns-else-is_dead-clause-pages
returns-else-is_dead-clause-pages c =
    let h : SharedPage = record { page = c.index_mut.result.now.page; live = c.without_row-live.result; mark = c.index_mut.result.now.mark } in
    let i = same_item c.args.pages.now.items c.args.spot.page c.index_mut.result.now c.index-held.result.now (c.requires.spot c.requires.some).page.within c.index_mut.ensures.value c.index-held.ensures in
    subst IsPages (sym (swapped_one c.args.pages.now.items c.args.spot.page h (c.requires.spot c.requires.some).page.within)) (pages_kept c.args.pages.now.items c.args.spot.page c.index-held.result.now h c.requires.pages (c.requires.spot c.requires.some).page.within c.index-held.ensures (ap page_rows i) (ap (λ (t : SharedPage). t.mark) i))
