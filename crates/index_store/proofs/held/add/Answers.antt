use Rattle.std.proofs.Common.{◌≡◌, List, refl, ap, sym, ◌∙◌, subst}
use Rattle.std.specs.List.{insert, position_or_len}
use Rattle.base_model.specs.Keyed.{text_lt, put}
use Rattle.race_model.specs.Sorted.{IsSorted}
use Rattle.race_tables.proofs.Tables.{sorted_put}
use Rattle.index_store.specs.declared.held.Held.{Held}
use Rattle.index_store.specs.Indices.{index_of, indices_of}
use Rattle.index_store.proofs.Places.{put_seat}
use Rattle.index_store.proofs.held.add.Goals as goal

pub returns-clause-ok : goal.returns-clause-ok
returns-clause-ok c =
    let items = c.args.indices.now.items in
    let new = c.args.new in
    ap indices_of c.in_ok-insert.ensures.items
    ∙ ap (λ i. indices_of (insert items i new)) (c.seat-at.ensures.place ∙ ap (λ (hs : List Held). position_or_len (λ (h : Held). text_lt new.name h.name) hs) c.as_slice.ensures.value)
    ∙ put_seat new.name items new refl c.requires.free

pub returns-clause-sorted : goal.returns-clause-sorted
returns-clause-sorted c =
    let items = c.args.indices.now.items in
    let new = c.args.new in
    let e : indices_of c.insert.new.self.items ≡ put new.name (index_of new) (indices_of items) =
    ap indices_of c.in_ok-insert.ensures.items
    ∙ ap (λ i. indices_of (insert items i new)) (c.seat-at.ensures.place ∙ ap (λ (hs : List Held). position_or_len (λ (h : Held). text_lt new.name h.name) hs) c.as_slice.ensures.value)
    ∙ put_seat new.name items new refl c.requires.free in
    subst IsSorted (sym e) (sorted_put new.name (index_of new) (indices_of items) c.requires.sorted)
