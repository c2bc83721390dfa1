-- Rows in order of time.
use Rattle.std.proofs.Common.{◌≡◌, Bool, true, false, not, cond, List, [], ◌∷◌, map, Bor, refl, sym, ap, ◌∙◌}
use Rattle.std.specs.Cmp.{IsStrictWeakOrder}
use Rattle.std.specs.Cmp.Lexicographic.{slice_cmp}
use Rattle.std.specs.List.Sorted.{IsSortedBy, IsStableBy}
use Rattle.std.specs.Ordering.{is_lt, nat_cmp}
use Rattle.std.proofs.lemmas.Cmp.{nat_list_cmp_total}
use Rattle.std.proofs.lemmas.List.Sorted.{ranks_by, IsStrictWeakOrder-flip}
use Rattle.base_model.specs.Keyed.{Text}
use Rattle.text_order.proofs.Order.{below_by_cmp}
use Rattle.race_model.specs.Stores.{Cell, Rows}
use Rattle.document_model.specs.Documents.{Doc}
use Rattle.so_js.specs.declared.js.Js.{Js}
use Rattle.saved_doc.specs.declared.doc.Row.{Row}
use Rattle.query_model.specs.Queries.{time_of, not_after, placed, by_time}
use Rattle.doc_query.specs.Mapped.{cell_of, cells_of}
use Rattle.doc_query.proofs.StableSort.{inserted, insertion_sort, sorted_is}
use Rattle.doc_query.proofs.Pages.{map-twice}

module _ {X A : Type 0} (lt : X → X → Bool) (descending : Bool) (cell : X → Text × Cell (Doc A)) (agrees : (r s : X) → not (lt s r) ≡ not_after descending (cell r).1.doc (cell s).1.doc) where
  placed-at : (t : Bool) (r s : X) (rows more : List X) (placed_rows : Rows (Doc A)) → map cell more ≡ placed_rows → map cell (cond t (r ∷ s ∷ rows) (s ∷ more)) ≡ cond t (cell r ∷ cell s ∷ map cell rows) (cell s ∷ placed_rows)
  placed-at true r s rows more placed_rows e = refl
  placed-at false r s rows more placed_rows e = ap (λ (l : Rows (Doc A)). cell s ∷ l) e

  placed-map : (r : X) (rows : List X) → map cell (inserted lt r rows) ≡ placed descending (cell r) (map cell rows)
  placed-map r [] = refl
  placed-map r (s ∷ rows) = rw (← agrees r s) (placed-at (not (lt s r)) r s rows (inserted lt r rows) (placed descending (cell r) (map cell rows)) (placed-map r rows))

  by_time-map : (rows : List X) → map cell (insertion_sort lt rows) ≡ by_time descending (map cell rows)
  by_time-map [] = refl
  by_time-map (r ∷ rows) = placed-map r (insertion_sort lt rows) ∙ ap (placed descending (cell r)) (by_time-map rows)

  stably : IsStrictWeakOrder lt → (xs ys : List X) → IsSortedBy lt ys → IsStableBy lt xs ys → map cell ys ≡ by_time descending (map cell xs)
  stably o xs ys up stable = ap (map cell) (sorted_is lt o xs ys up stable) ∙ by_time-map xs

-- ---- borrowed rows

abbrev pub time : Bor Row → Text
time r = time_of r.now.doc.updated_at

abbrev pub earlier : Bor Row → Bor Row → Bool
earlier a b = is_lt (slice_cmp nat_cmp (time a) (time b))

abbrev pub later : Bor Row → Bor Row → Bool
later a b = earlier b a

pub by_earlier : IsStrictWeakOrder earlier
by_earlier = ranks_by nat_list_cmp_total time

pub by_later : IsStrictWeakOrder later
by_later = IsStrictWeakOrder-flip earlier by_earlier

abbrev cell : Bor Row → Text × Cell (Doc Js)
cell r = cell_of r.now

pub earliest_first : (xs ys : List (Bor Row)) → IsSortedBy earlier ys → IsStableBy earlier xs ys → cells_of (map (λ r. r.now) ys) ≡ by_time false (cells_of (map (λ r. r.now) xs))
earliest_first xs ys up stable =
    map-twice cell_of (λ r. r.now) ys ∙ stably earlier false cell (λ r s. ap not (below_by_cmp (time s) (time r))) by_earlier xs ys up stable
    ∙ ap (by_time false) (sym (map-twice cell_of (λ r. r.now) xs))

pub latest_first : (xs ys : List (Bor Row)) → IsSortedBy later ys → IsStableBy later xs ys → cells_of (map (λ r. r.now) ys) ≡ by_time true (cells_of (map (λ r. r.now) xs))
latest_first xs ys up stable =
    map-twice cell_of (λ r. r.now) ys ∙ stably later true cell (λ r s. ap not (below_by_cmp (time r) (time s))) by_later xs ys up stable
    ∙ ap (by_time true) (sym (map-twice cell_of (λ r. r.now) xs))
