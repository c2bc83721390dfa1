-- The store that indices and points in time stand for.
use Rattle.std.specs.Prelude.{◌≡◌, ◌≢◌, ℕ, ◌<◌, Bool, false, List, [], ◌∷◌, map, length, slice_index_or, slice_set, Option, Some, None, refl}
use Rattle.std.specs.Option.{option_copied}
use Rattle.std.specs.Coded.{Coded, code_by, coded×, coded_ℕ, coded_bool, coded_list, coded_option}
use Rattle.base_model.specs.Keyed.{Text, Keyed, at, put, without}
use Rattle.document_model.specs.Documents.{Doc}
use Rattle.race_model.specs.Stores.{Rows, Table, Index, IndexSeen, Store}
use Rattle.so_js.specs.declared.js.Js.{Js}
use Rattle.doc_table.specs.RowLists.{Each, Pairwise}
use Rattle.doc_table.specs.Tables.{rows_code, table_code}
use Rattle.index_store.specs.declared.held.Held.{Held}
use Rattle.index_store.specs.declared.held.Shown.{Shown}
use Rattle.index_store.specs.declared.kept.Kept.{Kept}
use Rattle.index_store.specs.declared.opened.Opened.{Opened}

-- an index under its name
abbrev pub index_of : Held → Index (Doc Js)
index_of h = record { blocked = h.blocked; source = h.source; table = h.table }

abbrev pub entry_of : Held → Text × Index (Doc Js)
entry_of h = (h.name, index_of h)

abbrev pub indices_of : List Held → Keyed (Index (Doc Js))
indices_of indices = map entry_of indices

-- a point in time, with the rows of its table
abbrev pub pit_of : Kept → ℕ × Rows (Doc Js)
pit_of k = (k.number, k.table.rows)

abbrev pub pits_of : List Kept → List (ℕ × Rows (Doc Js))
pits_of pits = map pit_of pits

-- a store without aliases
abbrev pub store_of : List Held → ℕ → List Kept → Store (Doc Js)
store_of indices opened pits = record { indices = indices_of indices; aliases = []; opened = opened; pits = pits_of pits }

-- ---- where an index stands

-- the index of a name stands here, and another of that name takes its place here
pub record IsPlace (name : Text) (indices : List Held) (i : ℕ) : Type 0 where
  pub within : i < length indices
  pub named : (d : Held) → (slice_index_or indices i d).name ≡ name
  pub held : (d : Held) → at name (indices_of indices) ≡ Some (index_of (slice_index_or indices i d))
  pub replaced : (h : Held) → h.name ≡ name → indices_of (slice_set indices i h) ≡ put name (index_of h) (indices_of indices)

-- ---- how a store begins

-- an open index without a source
abbrev pub open_index : Table (Doc Js) → Index (Doc Js)
open_index table = record { blocked = false; source = None; table = table }

-- the indices, each under its name, after those that are there
unfoldable pub opened_after : Keyed (Index (Doc Js)) → List Opened → Keyed (Index (Doc Js))
opened_after indices [] = indices
opened_after indices (o ∷ os) = opened_after (put o.name (open_index o.table) indices) os

-- the store of these indices, without points in time
abbrev pub opened_store : List Opened → Store (Doc Js)
opened_store os = record { indices = opened_after [] os; aliases = []; opened = 0; pits = [] }

-- no two have one name
abbrev pub AreApart : List Opened → Type 0
AreApart os = Pairwise (λ a b. a.name ≢ b.name) os

-- each is there under its name, open and without a source
abbrev pub HasEach : Keyed (Index (Doc Js)) → List Opened → Type 0
HasEach indices os = Each (λ o. at o.name indices ≡ Some (open_index o.table)) os

-- ---- what is read

-- the names of indices
abbrev pub names_of : Keyed (Index (Doc Js)) → List Text
names_of indices = map (λ e. e.0) indices

-- what is shown of an index: its name, its flag and its source
abbrev pub shown_in : Text × Index (Doc Js) → Text × IndexSeen
shown_in e = (e.0, record { blocked = e.1.blocked; source = e.1.source })

abbrev pub shown_of : Shown → Text × IndexSeen
shown_of s = (s.name.now, record { blocked = s.blocked; source = option_copied s.source })

-- the table of an index
abbrev pub table_in : Option (Index (Doc Js)) → Option (Table (Doc Js))
table_in None = None
table_in (Some ix) = Some ix.table

-- whether an index is blocked
abbrev pub blocked_in : Option (Index (Doc Js)) → Option Bool
blocked_in None = None
blocked_in (Some ix) = Some ix.blocked

-- the index that an index was made from
abbrev pub source_in : Option (Index (Doc Js)) → Option Text
source_in None = None
source_in (Some ix) = ix.source

-- the store without an index; points in time stay
abbrev pub without_index : Store (Doc Js) → Text → Store (Doc Js)
without_index st name = record { indices = without name st.indices; aliases = st.aliases; opened = st.opened; pits = st.pits }

-- ---- how the logic stores a store

abbrev index_code : Coded (Index (Doc Js))
index_code =
    code_by
    (Bool × (Option Text × Table (Doc Js)))
    (coded× coded_bool (coded× (coded_option (coded_list coded_ℕ)) table_code))
    (λ i. (i.blocked, (i.source, i.table)))
    (λ p. record { blocked = p.0; source = p.1.0; table = p.1.1 })
    (λ _. refl)

abbrev pub store_code : Coded (Store (Doc Js))
store_code =
    code_by
    (Keyed (Index (Doc Js)) × (Keyed Text × (ℕ × List (ℕ × Rows (Doc Js)))))
    (coded× (coded_list (coded× (coded_list coded_ℕ) index_code)) (coded× (coded_list (coded× (coded_list coded_ℕ) (coded_list coded_ℕ))) (coded× coded_ℕ (coded_list (coded× coded_ℕ rows_code)))))
    (λ s. (s.indices, (s.aliases, (s.opened, s.pits))))
    (λ p. record { indices = p.0; aliases = p.1.0; opened = p.1.1.0; pits = p.1.1.1 })
    (λ _. refl)
