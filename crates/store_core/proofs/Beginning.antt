-- What holds of a store that is opened.
use Rattle.std.proofs.Common.{◌≡◌, ◌≢◌, ℕ, ◌^◌, ◌<◌, ◌≤◌, Bool, true, false, List, [], ◌∷◌, map, None, refl, sym, ◌∙◌, ap, subst, if◌then◌else◌, arith}
use Rattle.std.proofs.lemmas.List.{length-map}
use Rattle.std.specs.Option.{IsSome}
use mathlib.Core.Logic.◌⊎◌.{inl, inr}
use Rattle.document_model.specs.Documents.{Doc}
use Rattle.so_js.specs.declared.js.Js.{Js}
use Rattle.base_model.specs.Keyed.{Text, Keyed, same, at, put}
use Rattle.race_model.specs.Sorted.{IsSorted}
use Rattle.race_model.specs.Stores.{Cell, Rows, Table, Index, with_aliases}
use Rattle.race_tables.proofs.Keys.{same_is, same_true, at_put, at_put_same, at_put_other}
use Rattle.race_tables.proofs.Tables.{sorted_put}
use Rattle.alias_table.specs.Plans.{keyed_of}
use Rattle.alias_table.specs.declared.pair.Pair.{Pair}
use Rattle.saved_doc.specs.declared.doc.Row.{Row}
use Rattle.doc_table.specs.RowLists.{Each, Pairwise, IsApart}
use Rattle.doc_table.specs.Tables.{IsTable}
use Rattle.doc_table.proofs.Readers.{few_numbers}
use Rattle.index_store.specs.Indices.{open_index, opened_after, opened_store}
use Rattle.index_store.specs.declared.opened.Opened.{Opened}
use Rattle.store_words.specs.Serving.{Store}
use Rattle.store_words.specs.declared.entry.Entry.{Entry}
use Rattle.store_core.specs.Standing.{AreAliases, IsOrderly, IsWithin, AllWithin, HasRoom, reach}
use Rattle.store_core.specs.Engines.{is_named, IsAliasOf, paired_after, opened_with, store_of}
use Rattle.store_core.specs.Journals.{IsJournaled, Journaled, begun}
use Rattle.store_words.specs.Serving.{replayed, Replays}
use Rattle.store_core.proofs.Names.{named_add, some_of}
use Rattle.store_core.proofs.Numbers.{all_put}

abbrev Indices : Type 0
Indices = Keyed (Index (Doc Js))

opened_none : (name : Text) (ixs : Indices) (os : List Opened) → at name ixs ≡ None → is_named os name ≡ false → at name (opened_after ixs os) ≡ None
unfolding is_named opened_after
opened_none name ixs [] e f = e
opened_none name ixs (o ∷ os) e f = by (same name o.name) refl f (λ h g. opened_none name (put o.name (open_index o.table) ixs) os h g)
  where
    after : Indices
    after = put o.name (open_index o.table) ixs

    by : (s : Bool) → same name o.name ≡ s → (if s then true else is_named os name) ≡ false → (at name (put o.name (open_index o.table) ixs) ≡ None → is_named os name ≡ false → at name (opened_after (put o.name (open_index o.table) ixs) os) ≡ None) → at name (opened_after (put o.name (open_index o.table) ixs) os) ≡ None
    by true q g k = absurd (cc)
    by false q g k = k (at_put name o.name (open_index o.table) ixs ∙ rw q e) g

kept_some : (name : Text) (ixs : Indices) (os : List Opened) → IsSome (at name ixs) → IsSome (at name (opened_after ixs os))
unfolding opened_after
kept_some name ixs [] h = h
kept_some name ixs (o ∷ os) h = kept_some name (put o.name (open_index o.table) ixs) os (elim (same_is name o.name) [
  | inl p ↦ subst (λ (n : Text). IsSome (at n (put o.name (open_index o.table) ixs))) (sym p.1) (some_of _ (open_index o.table) (at_put_same o.name (open_index o.table) ixs))
  | inr p ↦ subst IsSome (sym (at_put_other name o.name (open_index o.table) ixs p.1)) h
])

opened_some : (name : Text) (ixs : Indices) (os : List Opened) → is_named os name ≡ true → IsSome (at name (opened_after ixs os))
unfolding is_named opened_after
opened_some name ixs [] e = absurd (cc)
opened_some name ixs (o ∷ os) e = by (same name o.name) refl e (λ g. opened_some name (put o.name (open_index o.table) ixs) os g)
  where
    by : (s : Bool) → same name o.name ≡ s → (if s then true else is_named os name) ≡ true → (is_named os name ≡ true → IsSome (at name (opened_after (put o.name (open_index o.table) ixs) os))) → IsSome (at name (opened_after (put o.name (open_index o.table) ixs) os))
    by true q g k = kept_some name (put o.name (open_index o.table) ixs) os (subst (λ (n : Text). IsSome (at n (put o.name (open_index o.table) ixs))) (sym (same_true name o.name q)) (some_of _ (open_index o.table) (at_put_same o.name (open_index o.table) ixs)))
    by false q g k = k g

sorted_opened : (ixs : Indices) (os : List Opened) → IsSorted ixs → IsSorted (opened_after ixs os)
unfolding opened_after
sorted_opened ixs [] h = h
sorted_opened ixs (o ∷ os) h = sorted_opened (put o.name (open_index o.table) ixs) os (sorted_put o.name (open_index o.table) ixs h)

sorted_paired : (aliases : Keyed Text) (ps : List Pair) → IsSorted aliases → IsSorted (paired_after aliases ps)
unfolding paired_after
sorted_paired aliases [] h = h
sorted_paired aliases (p ∷ ps) h = sorted_paired (put p.alias p.index aliases) ps (sorted_put p.alias p.index aliases h)

abbrev no_index : Indices
no_index = []

no_entry : (name : Text) → at name no_index ≡ None
unfolding at
no_entry name = refl

named_paired : (os : List Opened) (aliases : Keyed Text) (ps : List Pair) → Each (IsAliasOf os) ps → AreAliases (opened_after [] os) aliases → AreAliases (opened_after [] os) (paired_after aliases ps)
unfolding paired_after
named_paired os aliases [] e h = h
named_paired os aliases (p ∷ ps) e h = named_paired os (put p.alias p.index aliases) ps e.1 (named_add p.alias p.index (opened_after [] os) aliases (opened_none p.alias [] os (no_entry p.alias) e.0.apart) (opened_some p.index [] os e.0.named) h)

pub opened_orderly : (os : List Opened) (ps : List Pair) → Each (IsAliasOf os) ps → IsOrderly (opened_with os ps)
unfolding IsSorted AreAliases
opened_orderly os ps h = record {
  indices = sorted_opened [] os tt;
  aliases = sorted_paired [] ps tt;
  named = named_paired os [] ps h tt;
}

-- ---- numbers that differ and are below the next one are not more than it

abbrev to_row : Text × Cell (Doc Js) → Row
to_row e = record { raw = e.0; seq = e.1.seq; doc = e.1.doc }

each_row : (P : ℕ → Type 0) (rows : Rows (Doc Js)) → Each (λ (a : Text × Cell (Doc Js)). P a.1.seq) rows → Each (λ (x : Row). P x.seq) (map to_row rows)
each_row P [] h = tt
each_row P (r ∷ rows) h = (h.0, each_row P rows h.1)

apart_rows : (rows : Rows (Doc Js)) → Pairwise (λ (a b : Text × Cell (Doc Js)). a.1.seq ≢ b.1.seq) rows → IsApart (map to_row rows)
apart_rows [] h = tt
apart_rows (r ∷ rows) h = (each_row (λ n. r.1.seq ≢ n) rows h.0, apart_rows rows h.1)

pub table_within : (n : ℕ) (t : Table (Doc Js)) → IsTable t → t.next ≤ n → IsWithin n t
table_within n t h l =
    let f = few_numbers t.next (map to_row t.rows) (apart_rows t.rows h.apart) (each_row (λ m. m < t.next) t.rows h.fresh) in
    let e = length-map t.rows to_row in
    record { rows = omega arith; next = l }

all_opened : (n : ℕ) (ixs : Indices) (os : List Opened) → n ≤ n → Each (λ (o : Opened). IsWithin n o.table) os → AllWithin n ixs → AllWithin n (opened_after ixs os)
unfolding opened_after
all_opened n ixs [] l h a = a
all_opened n ixs (o ∷ os) l h a = all_opened n (put o.name (open_index o.table) ixs) os l h.1 (all_put n o.name (open_index o.table) ixs h.0 a)

each_within : (n : ℕ) (os : List Opened) → Each (λ (o : Opened). IsTable o.table) os → Each (λ (o : Opened). o.table.next < n) os → Each (λ (o : Opened). IsWithin n o.table) os
each_within n [] h k = tt
each_within n (o ∷ os) h k = let l = k.0 in (table_within n o.table h.0 (omega arith), each_within n os h.1 k.1)

pub opened_room : (os : List Opened) (ps : List Pair) → Each (λ (o : Opened). IsTable o.table) os → Each (λ (o : Opened). o.table.next < 2 ^ 62) os → HasRoom 0 (opened_with os ps)
unfolding AllWithin
opened_room os ps h k = record { tables = all_opened (reach 0) [] os (omega arith) (each_within (reach 0) os h k) tt; pits = omega arith }

pub begun_journaled : (st : Store) (limit : ℕ) → limit ≤ 4000000 → HasRoom 0 st → IsJournaled (begun st limit)
unfolding replayed Replays
begun_journaled st limit l h = record { store = refl; replies = tt; within = omega arith; limit = l; room = h }

-- ---- where what was made is what is opened

pub opened_is : (os : List Opened) (ps : List Pair) (store : Store) (pairs : List Pair) → store ≡ opened_store os → keyed_of pairs ≡ paired_after [] ps → store_of store pairs ≡ opened_with os ps
opened_is os ps store pairs e f = ap (λ (x : Store). with_aliases x (keyed_of pairs)) e ∙ ap (λ (x : Keyed Text). with_aliases (opened_store os) x) f

pub opened_in_order : (os : List Opened) (ps : List Pair) (store : Store) (pairs : List Pair) → store ≡ opened_store os → keyed_of pairs ≡ paired_after [] ps → Each (IsAliasOf os) ps → IsOrderly (store_of store pairs)
opened_in_order os ps store pairs e f h = subst (λ (x : Store). IsOrderly x) (sym (opened_is os ps store pairs e f)) (opened_orderly os ps h)

pub aliases_of_copies : (os kept : List Opened) (ps pairs : List Pair) → kept ≡ os → pairs ≡ ps → Each (IsAliasOf os) ps → Each (IsAliasOf kept) pairs
aliases_of_copies os kept ps pairs e f h = subst (λ (x : List Opened). Each (IsAliasOf x) pairs) (sym e) (subst (λ (x : List Pair). Each (IsAliasOf os) x) (sym f) h)

pub opened_journaled : (os kept : List Opened) (ps pairs : List Pair) (opening engine : Store) (limit : ℕ) → kept ≡ os → pairs ≡ ps → opening ≡ opened_with kept pairs → engine ≡ opened_with os ps →
    Each (λ (o : Opened). IsTable o.table) os → Each (λ (o : Opened). o.table.next < 2 ^ 62) os → limit ≤ 4000000 → IsJournaled (record { opening = opening; limit = limit; journal = []; store = engine })
opened_journaled os kept ps pairs opening engine limit e f g h t n l =
    let o : opening ≡ opened_with os ps = g ∙ ap (λ (x : List Opened). opened_with x pairs) e ∙ ap (λ (x : List Pair). opened_with os x) f in
    subst (λ (x : Store). IsJournaled (record { opening = opening; limit = limit; journal = []; store = x })) (sym h)
    (subst (λ (x : Store). IsJournaled (record { opening = x; limit = limit; journal = []; store = opened_with os ps })) (sym o)
    (begun_journaled (opened_with os ps) limit l (opened_room os ps t n)))

abbrev pub parts : Store → ℕ → List Entry → Store → Journaled
parts opening limit journal store = record { opening = opening; limit = limit; journal = journal; store = store }

pub opened_begun : (os kept : List Opened) (ps pairs : List Pair) (opening engine : Store) (limit : ℕ) (journal : List Entry) → kept ≡ os → pairs ≡ ps → opening ≡ opened_with kept pairs → engine ≡ opened_with os ps → journal ≡ [] →
    parts opening limit journal engine ≡ begun (opened_with os ps) limit
opened_begun os kept ps pairs opening engine limit journal e f g h n =
    let o : opening ≡ opened_with os ps = g ∙ ap (λ (x : List Opened). opened_with x pairs) e ∙ ap (λ (x : List Pair). opened_with os x) f in
    ap (λ (x : Store). parts x limit journal engine) o
    ∙ ap (λ (x : Store). parts (opened_with os ps) limit journal x) h
    ∙ ap (λ (j : List Entry). parts (opened_with os ps) limit j (opened_with os ps)) n
