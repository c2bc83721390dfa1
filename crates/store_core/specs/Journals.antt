-- A store with the journal of the requests since its opening.
use Rattle.std.specs.Prelude.{◌≡◌, ℕ, ◌≤◌, ⊤, List, [], length, refl}
use Rattle.std.specs.Coded.{Coded, code_by, coded×, coded_ℕ, coded_list}
use Rattle.index_store.specs.Indices.{store_code}
use Rattle.store_words.specs.Serving.{Store, replayed, Replays}
use Rattle.store_words.specs.declared.entry.Entry.{Entry}
use Rattle.store_words.specs.contracts.entry.Entry as entry
use Rattle.store_core.specs.Standing.{HasRoom}
use Rattle.store_core.specs.declared.error.StoreError.{StoreError}
use Rattle.store_core.specs.declared.error.StoreError.TheVariants.{Memory, JournalFull}

-- what a core was opened with, how many entries its journal may hold, the journal, and the store now
pub record Journaled : Type 0 where
  pub opening : Store
  pub limit : ℕ
  pub journal : List Entry
  pub store : Store

-- the journal replays to the store, each entry's reply is the one that its request gets there, and the
-- numbers that are left are enough
pub record IsJournaled (j : Journaled) : Type 0 where
  pub store : j.store ≡ replayed j.opening j.journal
  pub replies : Replays j.opening j.journal
  pub within : length j.journal ≤ j.limit
  pub limit : j.limit ≤ 4000000
  pub room : HasRoom (length j.journal) j.store

-- a core before its first request
abbrev pub begun : Store → ℕ → Journaled
begun st limit = record { opening = st; limit = limit; journal = []; store = st }

-- a full journal tells its limit
abbrev pub IsErrorAt : ℕ → StoreError → Type 0
IsErrorAt limit Memory = ⊤
IsErrorAt limit (JournalFull n) = n ≡ limit

-- ---- how the logic stores it

abbrev pub journaled_code : Coded Journaled
journaled_code =
    code_by
    (Store × (ℕ × (List Entry × Store)))
    (coded× store_code (coded× coded_ℕ (coded× (coded_list entry.the_row.coded) store_code)))
    (λ j. (j.opening, (j.limit, (j.journal, j.store))))
    (λ p. record { opening = p.0; limit = p.1.0; journal = p.1.1.0; store = p.1.1.1 })
    (λ _. refl)
