-- What the queries of a migration select.
use Rattle.std.proofs.Common.{◌≡◌, ℕ, zero, suc, Bool, true, false, ◌&&◌, not, Option, Some, None, List, [], ◌∷◌, ◌++◌, take, drop, reverse, refl, sym, ◌∙◌, ap, subst, if◌then◌else◌}
use Rattle.std.proofs.lemmas.List.{take-append-drop, reverse-append}
use Rattle.base_model.specs.Keyed.{Text, Keyed, same, text_lt}
use Rattle.race_model.specs.Stores.{Cell, Rows}
use Rattle.race_model.specs.Sorted.{AllAbove, IsSorted, last_key, Each}
use Rattle.race_tables.proofs.Tables.{each_append, lt_trans, lt_irrefl}
use Rattle.race_tables.proofs.Keys.{same_true}
use Rattle.version_token.specs.declared.Ver.{Ver}
use Rattle.document_model.specs.Documents.{below, Doc, lists}
use Rattle.document_model.specs.Registries.{Known, Registry, known, latest}
use Rattle.query_model.specs.declared.parts.TypeVer.{TypeVer}
use Rattle.query_model.specs.declared.parts.Sort.{Sort}
use Rattle.query_model.specs.declared.parts.Sort.TheVariants.{Raw, UpdatedAt}
use Rattle.query_model.specs.Queries.{Query, Holds, is_outdated, selects, not_after, placed, by_time, in_order, chosen, limited, select}
use Rattle.call_model.specs.Acts.{latest_of}
use Rattle.call_model.specs.Upgrades.{up_to_date, is_fresh, with_latest, latests, plain_query, outdated_query}

-- the rows after a key

unfoldable above_key : {D : Type 0} → Text → Rows D → Rows D
above_key a [] = []
above_key a (r ∷ rs) = if text_lt a r.0 then r ∷ above_key a rs else above_key a rs

abbrev above : {D : Type 0} → Option Text → Rows D → Rows D
above None rows = rows
above (Some a) rows = above_key a rows

unfoldable NotAbove : {D : Type 0} → Text → Rows D → Type 0
NotAbove last [] = Unit {0}
NotAbove last (x ∷ xs) = (text_lt last x.0 ≡ false) × NotAbove last xs

all_above : {D : Type 0} (k : Text) (rest : Rows D) → AllAbove k rest → above_key k rest ≡ rest
unfolding above_key AllAbove
all_above k [] a = refl
all_above k (r ∷ rest) a = rw (a.0) (ap (λ x. r ∷ x) (all_above k rest a.1))

drops : {D : Type 0} (last : Text) (xs rest : Rows D) → NotAbove last xs → AllAbove last rest → above_key last (xs ++ rest) ≡ rest
unfolding above_key NotAbove
drops last [] rest n a = all_above last rest a
drops last (x ∷ xs) rest n a = rw n.0 (drops last xs rest n.1 a)

record Last {D : Type 0} (k : Text) (xs rest : Rows D) : Type 0 where
  last : Text
  is : last_key (Some k) xs ≡ Some last
  not_below : text_lt last k ≡ false
  front : NotAbove last xs
  back : AllAbove last rest

not_lt : (l k x : Text) → text_lt l x ≡ false → text_lt k x ≡ true → text_lt l k ≡ false
not_lt l k x e f = by (text_lt l k) refl
  where
    by : (t : Bool) → text_lt l k ≡ t → text_lt l k ≡ false
    by false g = g
    by true g = let h : text_lt l x ≡ true = lt_trans l k x g f in absurd (cc)

last_of_front : {D : Type 0} (k : Text) (xs rest : Rows D) → IsSorted (xs ++ rest) → AllAbove k (xs ++ rest) → Last k xs rest
unfolding last_key AllAbove IsSorted NotAbove
last_of_front k [] rest a b = record { last = k; is = refl; not_below = lt_irrefl k; front = tt; back = b }
last_of_front k (x ∷ xs) rest a b =
    let l = last_of_front x.0 xs rest a.1 a.0 in
    record { last = l.last; is = l.is; not_below = not_lt l.last k x.0 l.not_below b.0; front = (l.not_below, l.front); back = l.back }

skips : {D : Type 0} (before rest : Rows D) → IsSorted (before ++ rest) → above (last_key None before) (before ++ rest) ≡ rest
unfolding last_key IsSorted NotAbove
skips [] rest a = refl
skips (x ∷ xs) rest a =
    let l = last_of_front x.0 xs rest a.1 a.0 in
    rw l.is (drops l.last (x ∷ xs) rest (l.not_below, l.front) l.back)

none_taken : {D : Type 0} (n : ℕ) (rest : Rows D) → take (suc n) rest ≡ [] → rest ≡ []
none_taken n [] e = refl
none_taken n (r ∷ rest) e = absurd (cc)

and_true : (b : Bool) → (b && true) ≡ b
and_true true = refl
and_true false = refl

each_if : {D : Type 0} (P : Text → D → Type 0) (b : Bool) (r : Text × Cell D) (xs : Rows D) → P r.0 r.1.doc → Each P xs → Each P (if b then r ∷ xs else xs)
unfolding Each
each_if P true r xs p a = (p, a)
each_if P false r xs p a = a

each_reverse : {D : Type 0} (P : Text → D → Type 0) (rows : Rows D) → Each P rows → Each P (reverse rows)
unfolding Each
each_reverse P [] a = tt
each_reverse P (r ∷ rows) a = subst (Each P) (sym (reverse-append (r ∷ []) rows)) (each_append P (reverse rows) (r ∷ []) (each_reverse P rows a.1) (a.0, tt))

each_take : {D : Type 0} (P : Text → D → Type 0) (n : ℕ) (rows : Rows D) → Each P rows → Each P (take n rows)
unfolding Each
each_take P zero rows a = tt
each_take P (suc n) [] a = tt
each_take P (suc n) (r ∷ rows) a = (a.0, each_take P n rows a.1)

each_drop : {D : Type 0} (P : Text → D → Type 0) (n : ℕ) (rows : Rows D) → Each P rows → Each P (drop n rows)
unfolding Each
each_drop P zero rows a = a
each_drop P (suc n) [] a = tt
each_drop P (suc n) (r ∷ rows) a = each_drop P n rows a.1

module _ {A : Type 0} (P : Text → Doc A → Type 0) where
  each_placed : (descending : Bool) (r : Text × Cell (Doc A)) (rows : Rows (Doc A)) → P r.0 r.1.doc → Each P rows → Each P (placed descending r rows)
  unfolding Each
  each_placed descending r [] p a = (p, tt)
  each_placed descending r (s ∷ rows) p a = by (not_after descending r.1.doc s.1.doc) (each_placed descending r rows p a.1)
    where
      by : (b : Bool) → Each P (placed descending r rows) → Each P (if b then r ∷ s ∷ rows else s ∷ placed descending r rows)
      by true h = (p, a)
      by false h = (a.0, h)

  each_by_time : (descending : Bool) (rows : Rows (Doc A)) → Each P rows → Each P (by_time descending rows)
  unfolding Each
  each_by_time descending [] a = tt
  each_by_time descending (r ∷ rows) a = each_placed descending r (by_time descending rows) a.0 (each_by_time descending rows a.1)

  each_in_order : (sort : Sort) (descending : Bool) (rows : Rows (Doc A)) → Each P rows → Each P (in_order sort descending rows)
  each_in_order Raw false rows a = a
  each_in_order Raw true rows a = each_reverse P rows a
  each_in_order UpdatedAt descending rows a = each_by_time descending rows a

  each_limited : (limit : Option ℕ) (rows : Rows (Doc A)) → Each P rows → Each P (limited limit rows)
  each_limited None rows a = a
  each_limited (Some n) rows a = each_take P n rows a

module _ {A F : Type 0} (holds : Holds A F) where
  each_chosen : (P : Text → Doc A → Type 0) (q : Query F) (rows : Rows (Doc A)) → Each P rows → Each P (chosen holds q rows)
  unfolding Each chosen
  each_chosen P q [] a = tt
  each_chosen P q (r ∷ rows) a = each_if P (selects holds q r.0 r.1.doc) r (chosen holds q rows) a.0 (each_chosen P q rows a.1)

  -- a query selects rows that are there
  pub each_selected : (P : Text → Doc A → Type 0) (q : Query F) (rows : Rows (Doc A)) → Each P rows → Each P ((select holds).rows q rows)
  each_selected P q rows a =
      let ordered : Rows (Doc A) = in_order q.sort q.descending (chosen holds q rows) in
      each_limited P q.limit (drop q.skip ordered) (each_drop P q.skip ordered (each_in_order P q.sort q.descending (chosen holds q rows) (each_chosen P q rows a)))

  chosen_page : (after : Option Text) (batch : ℕ) (rows : Rows (Doc A)) → chosen holds (plain_query [] [] after (Some batch)) rows ≡ above after rows
  unfolding chosen lists above_key
  chosen_page None batch [] = refl
  chosen_page None batch (r ∷ rows) = ap (λ x. r ∷ x) (chosen_page None batch rows)
  chosen_page (Some a) batch [] = refl
  chosen_page (Some a) batch (r ∷ rows) = rw (and_true (text_lt a r.0), chosen_page (Some a) batch rows) refl

  pub page_take : (n : ℕ) (before rest : Rows (Doc A)) → IsSorted (before ++ rest) → (select holds).rows (plain_query [] [] (last_key None before) (Some (suc n))) (before ++ rest) ≡ take (suc n) rest
  page_take n before rest sorted = ap (λ x. take (suc n) x) (chosen_page (last_key None before) (suc n) (before ++ rest) ∙ skips before rest sorted)

  -- a page is a front of the rows after the key, and empty only where there are none
  pub page_is : (n : ℕ) (before rest : Rows (Doc A)) → IsSorted (before ++ rest) →
      (front back : Rows (Doc A)) × (rest ≡ front ++ back) × ((select holds).rows (plain_query [] [] (last_key None before) (Some (suc n))) (before ++ rest) ≡ front) × (front ≡ [] → rest ≡ [])
  page_is n before rest sorted = (
    take (suc n) rest,
    drop (suc n) rest,
    sym (take-append-drop (suc n) rest),
    page_take n before rest sorted,
    none_taken n rest,
  )

  none_selected : (t : TypeVer) (ts : List TypeVer) (after : Option Text) (limit : Option ℕ) (doc : Doc A) (raw : Text) → is_outdated doc (t ∷ ts) ≡ false → selects holds (plain_query [] (t ∷ ts) after limit) raw doc ≡ false
  unfolding lists
  none_selected t ts after limit doc raw e = rw e refl

  none_chosen : (t : TypeVer) (ts : List TypeVer) (after : Option Text) (limit : Option ℕ) (rows : Rows (Doc A)) → Each (λ raw doc. is_outdated doc (t ∷ ts) ≡ false) rows → chosen holds (plain_query [] (t ∷ ts) after limit) rows ≡ []
  unfolding chosen Each
  none_chosen t ts after limit [] a = refl
  none_chosen t ts after limit (r ∷ rows) a = rw (none_selected t ts after limit r.1.doc r.0 a.0) (none_chosen t ts after limit rows a.1)

  take_nothing : (n : ℕ) → take {A = Text × Cell (Doc A)} n [] ≡ []
  take_nothing zero = refl
  take_nothing (suc n) = refl

  none_outdated_by : (ts : List TypeVer) (after : Option Text) (batch : ℕ) (rows : Rows (Doc A)) → Each (λ raw doc. is_outdated doc ts ≡ false) rows → (select holds).rows (outdated_query ts after batch) rows ≡ []
  none_outdated_by [] after batch rows a = refl
  none_outdated_by (t ∷ ts) after batch rows a = rw (none_chosen t ts after (Some batch) rows a) (take_nothing batch)

-- each listed type is what the registry knows by its name
unfoldable pub AllListed : {O : Type 0} → Registry O → Keyed (Known O) → Type 0
AllListed reg [] = Unit {0}
AllListed reg (t ∷ ts) = (known reg t.0 ≡ Some t.1) × AllListed reg ts

module _ {O : Type 0} (reg : Registry O) where
  latest_fresh : (stamp : Option Ver) (name : Text) (t : Known O) (o : Option Ver) → known reg name ≡ Some t → latest t ≡ o → up_to_date (latest_of (known reg name)) stamp ≡ true → up_to_date o stamp ≡ true
  latest_fresh stamp name t o k l f = subst (λ x. up_to_date x stamp ≡ true) l (subst (λ x. up_to_date (latest_of x) stamp ≡ true) k f)

  not_true : (b : Bool) → not b ≡ true → b ≡ false
  not_true true e = absurd (cc)
  not_true false e = refl

  pub fresh_not_outdated : {A : Type 0} (doc : Doc A) (ts : Keyed (Known O)) → AllListed reg ts → is_fresh reg doc ≡ true → is_outdated doc (latests ts) ≡ false
  unfolding AllListed is_outdated is_fresh
  fresh_not_outdated doc [] l f = refl
  fresh_not_outdated doc (t ∷ ts) l f = by (latest t.1) refl (fresh_not_outdated doc ts l.1 f)
    where
      inner : (v : Ver) (b : Bool) → same t.0 doc.type_name ≡ b → latest t.1 ≡ Some v → is_outdated doc (latests ts) ≡ false → (if b then (if below doc.stamp v then true else is_outdated doc (latests ts)) else is_outdated doc (latests ts)) ≡ false
      inner v true e g h =
          let is : t.0 ≡ doc.type_name = same_true t.0 doc.type_name e in
          let k : known reg doc.type_name ≡ Some t.1 = subst (λ x. known reg x ≡ Some t.1) is l.0 in
          let n : below doc.stamp v ≡ false = not_true (below doc.stamp v) (latest_fresh doc.stamp doc.type_name t.1 (Some v) k g f) in
          rw n h
      inner v false e g h = h

      by : (o : Option Ver) → latest t.1 ≡ o → is_outdated doc (latests ts) ≡ false → is_outdated doc (with_latest t.0 o (latests ts)) ≡ false
      by None e h = h
      by (Some v) e h = inner v (same t.0 doc.type_name) refl e h

  each_not_outdated : {A : Type 0} (rows : Rows (Doc A)) → AllListed reg reg.types → Each (λ raw doc. is_fresh reg doc ≡ true) rows → Each (λ raw doc. is_outdated doc (latests reg.types) ≡ false) rows
  unfolding Each
  each_not_outdated [] l a = tt
  each_not_outdated (r ∷ rows) l a = (fresh_not_outdated r.1.doc reg.types l a.0, each_not_outdated rows l a.1)

-- the search for outdated documents leaves up-to-date ones out
pub none_outdated : {A O F : Type 0} (holds : Holds A F) (reg : Registry O) (after : Option Text) (batch : ℕ) (rows : Rows (Doc A)) → AllListed reg reg.types → Each (λ raw doc. is_fresh reg doc ≡ true) rows → (select holds).rows (outdated_query (latests reg.types) after batch) rows ≡ []
none_outdated holds reg after batch rows l a = none_outdated_by holds (latests reg.types) after batch rows (each_not_outdated reg rows l a)
