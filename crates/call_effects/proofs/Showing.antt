-- What a find and a get show is visible in the call's space.
use Rattle.std.proofs.Common.{◌≡◌, ◌⊎◌, ℕ, zero, suc, Bool, true, false, ◌&&◌, ◌||◌, not, Option, Some, None, List, [], ◌∷◌, take, drop, reverse, refl, sym, subst, if◌then◌else◌}
use Rattle.std.proofs.lemmas.Bool.{and_parts}
use Rattle.std.proofs.lemmas.List.{reverse-append}
use mathlib.Core.Logic.◌⊎◌.{inl, inr}
use Rattle.base_model.specs.Keyed.{Text, same, at}
use Rattle.race_model.specs.Stores.{Cell, Rows}
use Rattle.race_model.specs.Generations.{Generation}
use Rattle.race_model.specs.Journals.{Has}
use Rattle.race_tables.proofs.Keys.{same_true}
use Rattle.race_tables.proofs.Lists.{has_append_cases}
use Rattle.document_model.specs.Documents.{Doc, visible, lists}
use Rattle.document_model.specs.Registries.{Registry}
use Rattle.query_model.specs.declared.parts.Sort.{Sort}
use Rattle.query_model.specs.declared.parts.Sort.TheVariants.{Raw, UpdatedAt}
use Rattle.query_model.specs.declared.parts.Target.{Target}
use Rattle.query_model.specs.Queries.{Query, Holds, if_given, of_types, refers, origin_is, selects, not_after, placed, by_time, in_order, chosen, limited, select}
use Rattle.document_model.specs.Documents.{id_of}
use Rattle.call_model.specs.Words.{Words}
use Rattle.call_model.specs.declared.refuse.Refuse.{Refuse}
use Rattle.call_model.specs.Calls.{Find, Shown}
use Rattle.call_model.specs.Calls.Call.{Getting, Finding}
use Rattle.call_model.specs.Calls.Answer.{Object, Page}
use Rattle.call_model.specs.Acts.{kind_of, raw_of, is_space, is_seen, shown}
use Rattle.call_model.specs.Steps.{Work, object_at, seen_over, got, look_words, look_over, find_words, with_kinds, query_of, all_shown, needs_no_store, unless, unless_words, called, called_over, work_of}
use Rattle.call_model.specs.Steps.{all_got}
use Rattle.call_model.specs.declared.refuse.Refuse.TheVariants.{BadSpace}
use Rattle.call_model.specs.Steps.Work.{Looking, Searching}
use Rattle.call_effects.specs.Effects.{AllVisible, IsSeenRow}

has_take : {A : Type 0} (n : ℕ) (x : A) (xs : List A) → Has x (take n xs) → Has x xs
unfolding Has
has_take zero x xs h = absurd h
has_take (suc n) x [] h = h
has_take (suc n) x (y ∷ xs) (inl e) = inl e
has_take (suc n) x (y ∷ xs) (inr h) = inr (has_take n x xs h)

has_drop : {A : Type 0} (n : ℕ) (x : A) (xs : List A) → Has x (drop n xs) → Has x xs
unfolding Has
has_drop zero x xs h = h
has_drop (suc n) x [] h = h
has_drop (suc n) x (y ∷ xs) h = inr (has_drop n x xs h)

has_reverse : {A : Type 0} (x : A) (xs : List A) → Has x (reverse xs) → Has x xs
unfolding Has
has_reverse x [] h = h
has_reverse x (y ∷ xs) h = elim (has_append_cases x (reverse xs) (y ∷ []) (subst (Has x) (reverse-append (y ∷ []) xs) h)) [
  | inl k ↦ inr (has_reverse x xs k)
  | inr k ↦ elim k [ inl e ↦ inl e | inr never ↦ absurd never ]
]

module _ {A : Type 0} where
  has_placed : (descending : Bool) (x r : Text × Cell (Doc A)) (rows : Rows (Doc A)) → Has x (placed descending r rows) → (x ≡ r) ⊎ Has x rows
  unfolding Has
  has_placed descending x r [] (inl e) = inl e
  has_placed descending x r [] (inr h) = absurd h
  has_placed descending x r (s ∷ rows) h = by (not_after descending r.1.doc s.1.doc) (λ k. has_placed descending x r rows k) h
    where
      by : (b : Bool) → (Has x (placed descending r rows) → (x ≡ r) ⊎ Has x rows) → Has x (if b then r ∷ s ∷ rows else s ∷ placed descending r rows) → (x ≡ r) ⊎ ((x ≡ s) ⊎ Has x rows)
      by true rest (inl e) = inl e
      by true rest (inr k) = inr k
      by false rest (inl e) = inr (inl e)
      by false rest (inr k) = elim (rest k) [ inl e ↦ inl e | inr l ↦ inr (inr l) ]

  has_by_time : (descending : Bool) (x : Text × Cell (Doc A)) (rows : Rows (Doc A)) → Has x (by_time descending rows) → Has x rows
  unfolding Has
  has_by_time descending x [] h = h
  has_by_time descending x (r ∷ rows) h = elim (has_placed descending x r (by_time descending rows) h) [ inl e ↦ inl e | inr k ↦ inr (has_by_time descending x rows k) ]

  has_in_order : (sort : Sort) (descending : Bool) (x : Text × Cell (Doc A)) (rows : Rows (Doc A)) → Has x (in_order sort descending rows) → Has x rows
  has_in_order Raw false x rows h = h
  has_in_order Raw true x rows h = has_reverse x rows h
  has_in_order UpdatedAt descending x rows h = has_by_time descending x rows h

  has_limited : (limit : Option ℕ) (x : Text × Cell (Doc A)) (rows : Rows (Doc A)) → Has x (limited limit rows) → Has x rows
  has_limited None x rows h = h
  has_limited (Some n) x rows h = has_take n x rows h

module _ {A F : Type 0} (holds : Holds A F) (q : Query F) where
  has_chosen : (x : Text × Cell (Doc A)) (rows : Rows (Doc A)) → Has x (chosen holds q rows) → Has x rows × (selects holds q x.0 x.1.doc ≡ true)
  unfolding Has chosen
  has_chosen x [] h = absurd h
  has_chosen x (r ∷ rows) h = by (selects holds q r.0 r.1.doc) refl (λ k. has_chosen x rows k) h
    where
      by : (b : Bool) → selects holds q r.0 r.1.doc ≡ b → (Has x (chosen holds q rows) → Has x rows × (selects holds q x.0 x.1.doc ≡ true)) → Has x (if b then r ∷ chosen holds q rows else chosen holds q rows)
          → ((x ≡ r) ⊎ Has x rows) × (selects holds q x.0 x.1.doc ≡ true)
      by true e rest (inl is) = (inl is, subst (λ (y : Text × Cell (Doc A)). selects holds q y.0 y.1.doc ≡ true) (sym is) e)
      by true e rest (inr k) = let l = rest k in (inr l.0, l.1)
      by false e rest k = let l = rest k in (inr l.0, l.1)

  -- what a query selects is there, and is selected
  has_selected : (x : Text × Cell (Doc A)) (rows : Rows (Doc A)) → Has x ((select holds).rows q rows) → Has x rows × (selects holds q x.0 x.1.doc ≡ true)
  has_selected x rows h =
      has_chosen x rows (has_in_order q.sort q.descending x (chosen holds q rows) (has_drop q.skip x (in_order q.sort q.descending (chosen holds q rows)) (has_limited q.limit x _ h)))

module _ {A O F : Type 0} (w : Words A O F) (reg : Registry O) (space : Text) where
  -- one of the types, visible
  of_names : (doc : Doc A) (names : List Text) → of_types (Some space) doc (with_kinds reg names) ≡ true → (lists doc.type_name names ≡ true) × (visible (kind_of reg doc.type_name) space doc ≡ true)
  unfolding lists
  of_names doc [] e = absurd (cc)
  of_names doc (n ∷ names) e = by (same n doc.type_name) (visible (kind_of reg n) space doc) refl refl (λ k. of_names doc names k) e
    where
      here : (b : Bool) → same n doc.type_name ≡ true → (if same doc.type_name n then true else lists doc.type_name names) ≡ true
      here b s = let is : n ≡ doc.type_name = same_true n doc.type_name s in let back : same doc.type_name n ≡ true = subst (λ z. same doc.type_name z ≡ true) (sym is) (subst (λ z. same z doc.type_name ≡ true) is s) in rw back refl

      there : (b : Bool) → same doc.type_name n ≡ b → lists doc.type_name names ≡ true → (if b then true else lists doc.type_name names) ≡ true
      there true s l = refl
      there false s l = l

      by : (b c : Bool) → same n doc.type_name ≡ b → visible (kind_of reg n) space doc ≡ c → (of_types (Some space) doc (with_kinds reg names) ≡ true → (lists doc.type_name names ≡ true) × (visible (kind_of reg doc.type_name) space doc ≡ true))
          → ((b && c) || of_types (Some space) doc (with_kinds reg names)) ≡ true → ((if same doc.type_name n then true else lists doc.type_name names) ≡ true) × (visible (kind_of reg doc.type_name) space doc ≡ true)
      by true true s v rest e = (here true s, subst (λ z. visible (kind_of reg z) space doc ≡ true) (same_true n doc.type_name s) v)
      by true false s v rest e = let r = rest e in (there (same doc.type_name n) refl r.0, r.1)
      by false c s v rest e = let r = rest e in (there (same doc.type_name n) refl r.0, r.1)

  selected_visible : (f : Find) (raw : Text) (doc : Doc A) → selects w.holds (query_of w reg space f) raw doc ≡ true → (lists doc.type_name f.types ≡ true) × (visible (kind_of reg doc.type_name) space doc ≡ true)
  unfolding lists
  selected_visible f raw doc e =
      let of : Bool = of_types (Some space) doc (with_kinds reg f.types) in
      let reference : Bool = if_given f.reference (refers doc.references) in
      let origin : Bool = if_given f.origin (λ o. origin_is o doc.origin || same o (id_of raw doc)) in
      let filter : Bool = if_given (query_of w reg space f).filter (λ x. w.holds x doc.type_name doc.attributes) in
      let a = and_parts (of && true && reference && origin && true && true) filter e in
      let b = and_parts (of && true && reference && origin && true) true a.0 in
      let c = and_parts (of && true && reference && origin) true b.0 in
      let d = and_parts (of && true && reference) origin c.0 in
      let g = and_parts (of && true) reference d.0 in
      let h = and_parts of true g.0 in
      of_names doc f.types h.0

  shown_rows : (f : Find) (rows sel : Rows (Doc A)) → ((x : Text × Cell (Doc A)) → Has x sel → Has x rows × (selects w.holds (query_of w reg space f) x.0 x.1.doc ≡ true)) → AllVisible reg space f.types rows (all_shown reg sel)
  unfolding Has
  shown_rows f rows [] h = tt
  shown_rows f rows (r ∷ sel) h =
      let x = h r (inl refl) in
      let v = selected_visible f r.0 r.1.doc x.1 in
      (record { raw = r.0; row = r.1; there = x.0; shows = refl; named = v.0; seen = v.1 }, shown_rows f rows sel (λ y k. h y (inr k)))

  abbrev find_work : Find → Option Refuse → Work A
  find_work f o = unless_words o (Searching space f)

  pub find_shows : (f : Find) (read : Option (Generation (Doc A))) (g : Generation (Doc A)) (objects : List (Shown A)) (page per_page total : ℕ) → (called w reg (Finding space f) read (Some g)).1 ≡ Page objects page per_page total → AllVisible reg space f.types g.table.rows objects
  unfolding called work_of
  find_shows f read g objects page per_page total e = by (find_words w reg space f) e
    where
      by : (o : Option Refuse) → (called_over w reg (find_work f o) (needs_no_store (find_work f o)) read (Some g)).1 ≡ Page objects page per_page total → AllVisible reg space f.types g.table.rows objects
      by (Some r) k = absurd (cc)
      by None k =
          let sel : Rows (Doc A) = (select w.holds).rows (query_of w reg space f) g.table.rows in
          let is : all_shown reg sel ≡ objects = cc in
          subst (AllVisible reg space f.types g.table.rows) is (shown_rows f g.table.rows sel (λ x h. has_selected w.holds (query_of w reg space f) x g.table.rows h))

  seen_row : (t : Target) (rows : Rows (Doc A)) (object : Shown A) → got {A = A} reg (raw_of reg space t) (object_at reg space t rows) ≡ Object object → IsSeenRow reg space t rows object
  seen_row t rows object e = by (at (raw_of reg space t) rows) refl e
    where
      by : (o : Option (Cell (Doc A))) → at (raw_of reg space t) rows ≡ o → got {A = A} reg (raw_of reg space t) (seen_over reg space t o) ≡ Object object → IsSeenRow reg space t rows object
      by None f k = absurd (cc)
      by (Some c) f k = inner (is_seen reg space t.type_name c.doc) refl k
        where
          inner : (b : Bool) → is_seen reg space t.type_name c.doc ≡ b → got {A = A} reg (raw_of reg space t) (if b then Some c else None) ≡ Object object → IsSeenRow reg space t rows object
          inner false s l = absurd (cc)
          inner true s l = let is : shown reg (raw_of reg space t) c.seq c.doc ≡ object = cc in record { row = c; there = f; shows = sym is; seen = s }

  abbrev get_work : Target → Bool → Option Refuse → Work A
  get_work t b o = unless b BadSpace (Looking true space (look_over o t ∷ []))

  pub get_shows : (t : Target) (read : Option (Generation (Doc A))) (g : Generation (Doc A)) (object : Shown A) → (called w reg (Getting space t) read (Some g)).1 ≡ Object object → IsSeenRow reg space t g.table.rows object
  unfolding called work_of all_got
  get_shows t read g object e = by (not (is_space space)) (look_words reg t) e
    where
      by : (b : Bool) (o : Option Refuse) → (called_over w reg (get_work t b o) (needs_no_store (get_work t b o)) read (Some g)).1 ≡ Object object → IsSeenRow reg space t g.table.rows object
      by true o k = absurd (cc)
      by false (Some r) k = absurd (cc)
      by false None k = seen_row t g.table.rows object k
