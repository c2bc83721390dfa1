use Rattle.std.proofs.Common.{◌<◌, ◌≤◌, length, sym, subst}
use Rattle.doc_table.specs.declared.page.SharedPage.{SharedPage}
use Rattle.doc_table.specs.RowLists.{with_row}
use Rattle.doc_table.specs.Pages.{live_rows, IsSound}
use Rattle.doc_table.proofs.PageLists.{each_at}
use Rattle.doc_table.proofs.PageChanges.{page_rising, same_item, place_put, place_kept}
use Rattle.doc_table.proofs.pages.put_in_place.Goals as goal

pub has_room-requires-clause-rising : goal.has_room-requires-clause-rising
has_room-requires-clause-rising c = page_rising c.args.pages.now.items c.args.p c.index.result.now c.requires.pages c.requires.place.within c.index.ensures

pub put_alone-requires-clause-rising : goal.put_alone-requires-clause-rising
put_alone-requires-clause-rising c = page_rising c.args.pages.now.items c.args.p c.index_mut.result.now c.requires.pages c.requires.place.within c.index_mut.ensures.value

pub put_alone-requires-clause-room : goal.put_alone-requires-clause-room
put_alone-requires-clause-room c =
    let i = same_item c.args.pages.now.items c.args.p c.index_mut.result.now c.index.result.now c.requires.place.within c.index_mut.ensures.value c.index.ensures in
    subst (λ (t : SharedPage). length (with_row c.args.row (live_rows t)) ≤ 64) (sym i) (c.has_room.ensures.room c.if-not-has_room.false)

pub returns-in-Err-clause-told : goal.returns-in-Err-clause-told
returns-in-Err-clause-told c =
    let i = same_item c.args.pages.now.items c.args.p c.index_mut.result.now c.index.result.now c.requires.place.within c.index_mut.ensures.value c.index.ensures in
    let s = each_at IsSound c.args.pages.now.items c.args.p c.index_mut.result.now c.requires.place.within c.index_mut.ensures.value c.requires.pages.sound in
    let some = subst (λ (t : SharedPage). 0 < length (live_rows t)) (sym i) (c.has_room.ensures.some c.if-not-has_room.false) in
    (place_kept c.args.pages.now.items c.args.p c.index_mut.result.now c.put_alone.new.held c.requires.pages c.requires.place.within c.index_mut.ensures.value s.1 some c.in-Err.ensures.told.0 c.in-Err.ensures.told.1 c.in-Err.ensures.mark).0

pub returns-in-Err-clause-pages : goal.returns-in-Err-clause-pages
returns-in-Err-clause-pages c =
    let i = same_item c.args.pages.now.items c.args.p c.index_mut.result.now c.index.result.now c.requires.place.within c.index_mut.ensures.value c.index.ensures in
    let s = each_at IsSound c.args.pages.now.items c.args.p c.index_mut.result.now c.requires.place.within c.index_mut.ensures.value c.requires.pages.sound in
    let some = subst (λ (t : SharedPage). 0 < length (live_rows t)) (sym i) (c.has_room.ensures.some c.if-not-has_room.false) in
    (place_kept c.args.pages.now.items c.args.p c.index_mut.result.now c.put_alone.new.held c.requires.pages c.requires.place.within c.index_mut.ensures.value s.1 some c.in-Err.ensures.told.0 c.in-Err.ensures.told.1 c.in-Err.ensures.mark).1

pub returns-in-None-clause-told : goal.returns-in-None-clause-told
returns-in-None-clause-told c =
    let i = same_item c.args.pages.now.items c.args.p c.index_mut.result.now c.index.result.now c.requires.place.within c.index_mut.ensures.value c.index.ensures in
    let room = subst (λ (t : SharedPage). length (with_row c.args.row (live_rows t)) ≤ 64) (sym i) (c.has_room.ensures.room c.if-not-has_room.false) in
    let t = rw c.in-None.is at c.in-Ok.ensures.told in
    (place_put c.args.row c.args.pages.now.items c.args.p c.index_mut.result.now c.put_alone.new.held c.requires.pages c.requires.place c.index_mut.ensures.value room t.0 t.1 c.in-Ok.ensures.mark).0

pub returns-in-None-clause-pages : goal.returns-in-None-clause-pages
returns-in-None-clause-pages c =
    let i = same_item c.args.pages.now.items c.args.p c.index_mut.result.now c.index.result.now c.requires.place.within c.index_mut.ensures.value c.index.ensures in
    let room = subst (λ (t : SharedPage). length (with_row c.args.row (live_rows t)) ≤ 64) (sym i) (c.has_room.ensures.room c.if-not-has_room.false) in
    let t = rw c.in-None.is at c.in-Ok.ensures.told in
    (place_put c.args.row c.args.pages.now.items c.args.p c.index_mut.result.now c.put_alone.new.held c.requires.pages c.requires.place c.index_mut.ensures.value room t.0 t.1 c.in-Ok.ensures.mark).1
