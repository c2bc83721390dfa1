-- What a query selects that asks no more than that rows come after a raw id.
use Rattle.std.proofs.Common.{◌≡◌, ℕ, Bool, true, false, ◌&&◌, [], ◌∷◌, Option, Some, None, cond, refl, ap, if◌then◌else◌}
use Rattle.base_model.specs.Keyed.{Text, text_lt}
use Rattle.document_model.specs.Documents.{Doc, lists}
use Rattle.race_model.specs.Stores.{Cell, Rows}
use Rattle.query_model.specs.Queries.{selects, chosen}
use Rattle.so_js.specs.declared.js.Js.{Js}
use Rattle.doc_query.specs.Mapped.{holds_of}
use Rattle.doc_table.specs.Tables.{is_above, rows_above}
use Rattle.index_store.specs.Plain.{rows_from}

and_true : (b : Bool) → (b && true) ≡ b
and_true true = refl
and_true false = refl

selects_after : (after : Option Text) (limit : Option ℕ) (r : Text × Cell (Doc Js)) → selects holds_of (rows_from after limit) r.0 r.1.doc ≡ is_above after r
unfolding lists
selects_after None limit r = refl
selects_after (Some raw) limit r = and_true (text_lt raw r.0)

one_more : (a b : Bool) (r : Text × Cell (Doc Js)) (xs ys : Rows (Doc Js)) → a ≡ b → xs ≡ ys → (if a then r ∷ xs else xs) ≡ cond b (r ∷ ys) ys
one_more a true r xs ys e h = rw e (ap (λ (t : Rows (Doc Js)). r ∷ t) h)
one_more a false r xs ys e h = rw e h

pub chosen_after : (after : Option Text) (limit : Option ℕ) (rows : Rows (Doc Js)) → chosen holds_of (rows_from after limit) rows ≡ rows_above after rows
unfolding chosen
chosen_after after limit [] = refl
chosen_after after limit (r ∷ rows) = one_more _ (is_above after r) r _ _ (selects_after after limit r) (chosen_after after limit rows)
