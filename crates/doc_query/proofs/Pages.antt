-- Lists of borrowed rows, and the cells that they stand for.
use Rattle.std.proofs.Common.{◌≡◌, ℕ, true, false, List, [], ◌∷◌, ◌++◌, length, map, take, drop, reverse, Bor, refl, sym, ap, ◌∙◌, append_assoc}
use Rattle.std.proofs.lemmas.Grind.{reverse_onto}
use Rattle.std.proofs.lemmas.List.{take-map, drop-map, map-append, length-map}
use Rattle.base_model.specs.Keyed.{Text}
use Rattle.race_model.specs.Stores.{Cell, Rows}
use Rattle.document_model.specs.Documents.{Doc}
use Rattle.so_js.specs.declared.js.Js.{Js}
use Rattle.saved_doc.specs.declared.doc.Row.{Row}
use Rattle.query_model.specs.Queries.{Query, Holds, selects, chosen}
use Rattle.doc_query.specs.Mapped.{cell_of, cells_of}

pub map-twice : {X Y Z : Type 0} (f : Y → Z) (g : X → Y) (xs : List X) → map f (map g xs) ≡ map (λ x. f (g x)) xs
map-twice f g [] = refl
map-twice f g (x ∷ xs) = ap (λ (l : List _). f (g x) ∷ l) (map-twice f g xs)

map-reverse : {X Y : Type 0} (f : X → Y) (xs : List X) → map f (reverse xs) ≡ reverse (map f xs)
map-reverse f [] = refl
map-reverse f (x ∷ xs) =
    ap (map f) (reverse_onto xs x []) ∙ map-append f (reverse xs) (x ∷ []) ∙ ap (λ (l : List _). l ++ f x ∷ []) (map-reverse f xs)
    ∙ sym (reverse_onto (map f xs) (f x) [])

abbrev pub borrowed : List (Bor Row) → Rows (Doc Js)
borrowed rows = cells_of (map (λ r. r.now) rows)

pub borrowed-reverse : (rows : List (Bor Row)) → borrowed (reverse rows) ≡ reverse (borrowed rows)
borrowed-reverse rows = ap (map cell_of) (map-reverse (λ r. r.now) rows) ∙ map-reverse cell_of (map (λ r. r.now) rows)

pub borrowed-take : (n : ℕ) (rows : List (Bor Row)) → borrowed (take n rows) ≡ take n (borrowed rows)
borrowed-take n rows = ap (map cell_of) (sym (take-map (λ r. r.now) n rows)) ∙ sym (take-map cell_of n (map (λ r. r.now) rows))

pub borrowed-drop : (n : ℕ) (rows : List (Bor Row)) → borrowed (drop n rows) ≡ drop n (borrowed rows)
borrowed-drop n rows = ap (map cell_of) (sym (drop-map (λ r. r.now) n rows)) ∙ sym (drop-map cell_of n (map (λ r. r.now) rows))

pub borrowed-length : (rows : List (Bor Row)) → length (borrowed rows) ≡ length rows
borrowed-length rows = length-map (map (λ r. r.now) rows) cell_of ∙ length-map rows (λ r. r.now)

-- ---- the rows that are chosen

pub chosen_with : {F : Type 0} (holds : Holds Js F) (q : Query F) (r : Text × Cell (Doc Js)) (rows : Rows (Doc Js)) → selects holds q r.0 r.1.doc ≡ true → chosen holds q (r ∷ rows) ≡ r ∷ chosen holds q rows
unfolding chosen
chosen_with holds q r rows e = rw e refl

pub chosen_without : {F : Type 0} (holds : Holds Js F) (q : Query F) (r : Text × Cell (Doc Js)) (rows : Rows (Doc Js)) → selects holds q r.0 r.1.doc ≡ false → chosen holds q (r ∷ rows) ≡ chosen holds q rows
unfolding chosen
chosen_without holds q r rows e = rw e refl

pub goes_on_with : {F : Type 0} (holds : Holds Js F) (q : Query F) (rows : List (Bor Row)) (r : Bor Row) (rest : Rows (Doc Js)) → selects holds q r.now.raw r.now.doc ≡ true → borrowed (rows ++ r ∷ []) ++ chosen holds q rest ≡ borrowed rows ++ chosen holds q (cell_of r.now ∷ rest)
goes_on_with holds q rows r rest e =
    let joined : borrowed (rows ++ r ∷ []) ≡ borrowed rows ++ cell_of r.now ∷ [] = ap (map cell_of) (map-append (λ x. x.now) rows (r ∷ [])) ∙ map-append cell_of (map (λ x. x.now) rows) (r.now ∷ []) in
    ap (λ (l : Rows (Doc Js)). l ++ chosen holds q rest) joined ∙ append_assoc (borrowed rows) (cell_of r.now ∷ []) (chosen holds q rest)
    ∙ ap (λ (l : Rows (Doc Js)). borrowed rows ++ l) (sym (chosen_with holds q (cell_of r.now) rest e))
