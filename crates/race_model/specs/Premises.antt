-- What a race takes for granted of names, versions, queries, documents and clients.
use Rattle.std.specs.Prelude.{◌≡◌, ◌≢◌, ℕ, suc, ◌≤◌, ◌⊎◌, Bool, true, false, List, [], ◌∷◌, ◌++◌, Option, Some, None, IsTrue}
use Rattle.base_model.specs.Keyed.{Text}
use Rattle.race_model.specs.Stores.{Cell, Rows, Write, Request, Reply, Select}
use Rattle.race_model.specs.Stores.Write.{Put, Delete}
use Rattle.race_model.specs.Stores.Request.{Ping, Get, Search, Bulk}
use Rattle.race_model.specs.Stores.Reply.{Selected, Found}
use Rattle.race_model.specs.Machines.{Settings, outputs_of}
use Rattle.race_model.specs.Worlds.{Race}
use Rattle.race_model.specs.Journals.{Has}
use Rattle.race_model.specs.Sorted.{IsSorted, last_key, Each}
use Rattle.race_model.specs.Openings.{Opening, Scenario}
use Rattle.race_model.specs.Openings.Opening.{NoGeneration, OneGeneration}

-- the current alias and the names of all sets are apart
pub record NamesApart {D Q : Type 0} (alias : Text) (In : Settings D Q → Type 0) : Type 0 where
  pub current : (v : Settings D Q) → In v → v.current ≡ alias
  pub cur_ver : (v : Settings D Q) → In v → alias ≢ v.version
  pub cur_target : (v : Settings D Q) → In v → alias ≢ v.target
  pub cur_temp : (v : Settings D Q) → In v → alias ≢ v.temp
  pub ver_target : (v w : Settings D Q) → In v → In w → v.version ≢ w.target
  pub ver_temp : (v w : Settings D Q) → In v → In w → v.version ≢ w.temp
  pub target_temp : (v w : Settings D Q) → In v → In w → v.target ≢ w.temp
  -- one registry for each version
  pub apart : (v w : Settings D Q) → In v → In w → (v ≡ w) ⊎ ((v.version ≢ w.version) × (v.target ≢ w.target) × (v.temp ≢ w.temp))

-- the version of this index isn't below
abbrev pub NotBelow : {D Q : Type 0} → Settings D Q → Text → Type 0
NotBelow v n = (v.is_later n ≡ true) ⊎ (v.is_same n ≡ true)

-- the tests of an index's version are those of an order
pub record VersionsInOrder {D Q : Type 0} (In : Settings D Q → Type 0) : Type 0 where
  pub own : (v : Settings D Q) → In v → v.is_same v.target ≡ true
  pub is_own : (v w : Settings D Q) → In v → In w → v.is_same w.target ≡ true → v ≡ w
  pub rises : (u v w : Settings D Q) → In u → In v → In w → NotBelow u v.target → w.is_later v.target ≡ false → w.is_same v.target ≡ false → NotBelow u w.target

-- fresh documents are those that a search for outdated ones leaves out; a write brings fresh ones alone
abbrev pub FreshWrite : {D : Type 0} → (Text → D → Type 0) → Write D → Type 0
FreshWrite Fresh (Write.Create raw doc) = Fresh raw doc
FreshWrite Fresh (Put raw doc expect) = Fresh raw doc
FreshWrite Fresh (Delete raw expect) = Unit {0}

-- so do writes
unfoldable pub FreshWrites : {D : Type 0} → (Text → D → Type 0) → List (Write D) → Type 0
FreshWrites Fresh [] = Unit {0}
FreshWrites Fresh (w ∷ ws) = FreshWrite Fresh w × FreshWrites Fresh ws

-- a row that was found is fresh
abbrev pub FreshFound : {D : Type 0} → (Text → D → Type 0) → Option (Text × Cell D) → Type 0
FreshFound Fresh None = Unit {0}
FreshFound Fresh (Some r) = Fresh r.0 r.1.doc

-- so are rows
unfoldable pub AllFreshFound : {D : Type 0} → (Text → D → Type 0) → List (Option (Text × Cell D)) → Type 0
AllFreshFound Fresh [] = Unit {0}
AllFreshFound Fresh (r ∷ rs) = FreshFound Fresh r × AllFreshFound Fresh rs

-- a reply shows fresh documents alone
abbrev pub FreshReply : {D : Type 0} → (Text → D → Type 0) → Reply D → Type 0
FreshReply Fresh (Selected total rows) = Each Fresh rows
FreshReply Fresh (Found rows) = AllFreshFound Fresh rows
FreshReply Fresh _ = Unit {0}

-- the request reads under this name
abbrev pub IsOf : {D Q : Type 0} → Text → Request D Q → Type 0
IsOf version (Get name raws) = name ≡ version
IsOf version (Search name query) = name ≡ version
IsOf version _ = ⊥

-- a client asks nothing but reads and bulks, of the alias of a set's version, and writes fresh documents alone
abbrev pub AsksOf : {D Q : Type 0} → (In : Settings D Q → Type 0) → (Fresh : Settings D Q → Text → D → Type 0) → Request D Q → Type 0
AsksOf In Fresh Ping = Unit {0}
AsksOf In Fresh (Get name raws) = (v : Settings _ _) × In v × (name ≡ v.version)
AsksOf In Fresh (Search name query) = (v : Settings _ _) × In v × (name ≡ v.version)
AsksOf In Fresh (Bulk name writes) = (v : Settings _ _) × In v × (name ≡ v.version) × FreshWrites (Fresh v) writes
AsksOf In Fresh _ = ⊥

-- In: the sets. Fresh: for each set, its fresh documents. Sound: what clients keep.
pub record RaceLaws {D Q C : Type 0} (race : Race D Q C) (current : Text) (In : Settings D Q → Type 0) (Fresh : Settings D Q → Text → D → Type 0) (Sound : C → Type 0) : Type 0 where
  pub names : NamesApart current In
  pub order : VersionsInOrder In
  -- the set of each instance
  pub runs : (i : ℕ) → In (race.settings i)
  -- a page of rows in order is a front of those after the key, and empty only where there are none
  pub page : (v : Settings D Q) → In v → (before rest : Rows D) → IsSorted (before ++ rest) →
      (front back : Rows D) × (rest ≡ front ++ back) × (race.select.rows (v.page (last_key None before)) (before ++ rest) ≡ front) × (front ≡ [] → rest ≡ [])
  -- a query selects rows that are there
  pub selects_fresh : (v : Settings D Q) → In v → (query : Q) (rows : Rows D) → Each (Fresh v) rows → Each (Fresh v) (race.select.rows query rows)
  -- fresh documents aren't outdated, and outputs are fresh
  pub not_outdated : (i : ℕ) (after : Option Text) (rows : Rows D) → Each (Fresh (race.settings i)) rows → race.select.rows ((race.settings i).outdated after) rows ≡ []
  pub fresh_outputs : (v : Settings D Q) → In v → (raw : Text) (doc : D) (out : Text × D) → Has out (outputs_of (v.outcome raw doc)) → Fresh v out.0 out.1
  -- what clients ask, and what they keep
  pub asks : (c : C) (ask : Request D Q) → Sound c → race.clients.asks c ≡ Some ask → AsksOf In Fresh ask
  pub told : (c : C) (ask : Request D Q) (reply : Reply D) → Sound c → race.clients.asks c ≡ Some ask → ((v : Settings D Q) → In v → IsOf v.version ask → FreshReply (Fresh v) reply) → Sound (race.clients.told c reply)

-- pages rows is how many pages rows have: each page that isn't empty leaves fewer
pub record Paged {D Q : Type 0} (select : Select D Q) (v : Settings D Q) (pages : Rows D → ℕ) : Type 0 where
  pub fewer : (before rest : Rows D) → IsSorted (before ++ rest) →
      (front back : Rows D) × (rest ≡ front ++ back) × (select.rows (v.page (last_key None before)) (before ++ rest) ≡ front) × ((front ≡ []) ⊎ (suc (pages back) ≤ pages rest))

-- the test holds of each script
unfoldable pub AllSound : {C : Type 0} → (C → Bool) → List C → Type 0
AllSound is_sound [] = Unit {0}
AllSound is_sound (c ∷ cs) = IsTrue (is_sound c) × AllSound is_sound cs

-- an opening generation is of one of the sets, in order, and fresh for its version
abbrev pub IsOpening : {D Q : Type 0} → List (Settings D Q) → (Fresh : Settings D Q → Text → D → Type 0) → Opening D Q → Type 0
IsOpening sets Fresh NoGeneration = Unit {0}
IsOpening sets Fresh (OneGeneration set table) = Has set sets × IsSorted table.rows × Each (Fresh set) table.rows

-- the premises of a scenario, by its list of sets and by tests
pub record IsFair {D Q C : Type 0} (s : Scenario D Q C) (is_fresh : Settings D Q → Text → D → Bool) (is_sound : C → Bool) : Type 0 where
  pub laws : RaceLaws s.race s.current (λ v. Has v s.sets) (λ v raw doc. IsTrue (is_fresh v raw doc)) (λ c. IsTrue (is_sound c))
  pub opens : IsOpening s.sets (λ v raw doc. IsTrue (is_fresh v raw doc)) s.opening
  pub sound : AllSound is_sound s.scripts
