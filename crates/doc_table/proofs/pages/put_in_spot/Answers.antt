use Rattle.std.proofs.Common.{sym, subst, arith}
use Rattle.doc_table.specs.Place.{IsPlace}
use Rattle.doc_table.specs.Pages.{page_rows, IsPages}
use Rattle.doc_table.proofs.PageChanges.{place_put, place_same}
use Rattle.doc_table.proofs.Spots.{known_at}
use Rattle.doc_table.proofs.pages.put_in_spot.Goals as goal

pub index_mut-requires : goal.index_mut-requires
index_mut-requires c = let l = (c.requires.spot c.requires.some).page.within in omega arith

pub put_found-requires-clause-place : goal.put_found-requires-clause-place
put_found-requires-clause-place c =
    let s = c.requires.spot c.requires.some in
    known_at (λ h. IsPlace c.args.row.raw (page_rows h) c.args.spot.place) c.args.pages.now.items c.args.spot.page c.index_mut.result.now s.page.within c.index_mut.ensures.value s.place

pub returns-in-Err-clause-told : goal.returns-in-Err-clause-told
returns-in-Err-clause-told c = place_same c.args.pages.now.items c.args.spot.page c.index_mut.result.now c.put_found.new.held c.index_mut.ensures.value c.in-Err.ensures.told

pub returns-in-Err-clause-pages : goal.returns-in-Err-clause-pages
returns-in-Err-clause-pages c = subst IsPages (sym (place_same c.args.pages.now.items c.args.spot.page c.index_mut.result.now c.put_found.new.held c.index_mut.ensures.value c.in-Err.ensures.told)) c.requires.pages

pub returns-in-Some-clause-told : goal.returns-in-Some-clause-told
returns-in-Some-clause-told c =
    let t = rw c.in-Some.is at c.in-Ok.ensures.told in
    (t.0, place_same c.args.pages.now.items c.args.spot.page c.index_mut.result.now c.put_found.new.held c.index_mut.ensures.value t.1)

pub returns-in-Some-clause-pages : goal.returns-in-Some-clause-pages
returns-in-Some-clause-pages c =
    let t = rw c.in-Some.is at c.in-Ok.ensures.told in
    subst IsPages (sym (place_same c.args.pages.now.items c.args.spot.page c.index_mut.result.now c.put_found.new.held c.index_mut.ensures.value t.1)) c.requires.pages

pub returns-in-None-clause-told : goal.returns-in-None-clause-told
returns-in-None-clause-told c =
    let t = rw c.in-None.is at c.in-Ok.ensures.told in
    (place_put c.args.row c.args.pages.now.items c.args.spot.page c.index_mut.result.now c.put_found.new.held c.requires.pages (c.requires.spot c.requires.some).page c.index_mut.ensures.value t.3 t.0 t.1 t.2).0

pub returns-in-None-clause-pages : goal.returns-in-None-clause-pages
returns-in-None-clause-pages c =
    let t = rw c.in-None.is at c.in-Ok.ensures.told in
    (place_put c.args.row c.args.pages.now.items c.args.spot.page c.index_mut.result.now c.put_found.new.held c.requires.pages (c.requires.spot c.requires.some).page c.index_mut.ensures.value t.3 t.0 t.1 t.2).1
