-- What every schedule of a race leaves.
use Rattle.std.specs.Prelude.{◌≡◌, ◌≢◌, ℕ, ◌+◌, ◌*◌, ◌≤◌, ◌⊎◌, Bool, true, false, List, [], ◌∷◌, Option, Some, None, IsTrue}
use Rattle.base_model.specs.Keyed.{Text, at, put}
use Rattle.race_model.specs.Stores.{Rows, Table, Index, Store, Write, empty_table}
use Rattle.race_model.specs.Stores.Request.{Bulk}
use Rattle.race_model.specs.Machines.{Settings, Cause, Machine, End}
use Rattle.race_model.specs.Machines.Cause.{UnknownObjects, CorruptObjects, NewerObjects, Collision, NewerIndex, OtherVersion, Leftover}
use Rattle.race_model.specs.Machines.End.{Fatal}
use Rattle.race_model.specs.Machines.State.{Init, Ended}
use Rattle.race_model.specs.Generations.{Generation, Generations, of_alias}
use Rattle.race_model.specs.History.{Fact}
use Rattle.race_model.specs.Worlds.{Race, Entry, Node, World, nth}
use Rattle.race_model.specs.Worlds.Actor.{Instance}
use Rattle.race_model.specs.Journals.{Has, Past, Trace, state_of, heard_of}
use Rattle.race_model.specs.Migrated.{outs, migrated, IsClean}
use Rattle.race_model.specs.Sorted.{Each}

-- n is the index of an installed version
pub record IsInstalled {D Q : Type 0} (sets : List (Settings D Q)) (st : Store D) (n : Text) : Type 0 where
  pub set : Settings D Q
  pub is_in : Has set sets
  pub name : n ≡ set.target
  pub installed : at set.version st.aliases ≡ Some n

-- n is the blocked index of a version below v, with this table
pub record IsSource {D Q : Type 0} (sets : List (Settings D Q)) (v : Settings D Q) (st : Store D) (n : Text) (table : Table D) : Type 0 where
  pub installed : IsInstalled sets st n
  pub not_later : v.is_later n ≡ false
  pub not_same : v.is_same n ≡ false
  pub index : Index D
  pub there : at n st.indices ≡ Some index
  pub blocked : index.blocked ≡ true
  pub table_is : index.table ≡ table

-- the index is open, and its table is exactly the migrated table of a blocked source, which is clean
pub record IsMigrated {D Q : Type 0} (sets : List (Settings D Q)) (v : Settings D Q) (st : Store D) (index : Index D) : Type 0 where
  pub source : Text
  pub table : Table D
  pub from : IsSource sets v st source table
  pub clean : IsClean v table.rows
  pub is : index ≡ record { blocked = false; source = Some source; table = migrated v table.rows }

-- a target before its version's switch: migrated, or, in a store that opened empty, an empty open index without a source
abbrev pub IsMade : {D Q : Type 0} → List (Settings D Q) → (IsEmpty : Type 0) → Settings D Q → Store D → Index D → Type 0
IsMade sets IsEmpty v st index = (IsEmpty × (index ≡ record { blocked = false; source = None; table = empty_table })) ⊎ IsMigrated sets v st index

-- a temporary index: it holds outputs of its blocked source alone
pub record IsTemporary {D Q : Type 0} (sets : List (Settings D Q)) (v : Settings D Q) (st : Store D) (index : Index D) : Type 0 where
  pub source : Text
  pub table : Table D
  pub from : IsSource sets v st source table
  pub of : index.source ≡ Some source
  pub outputs : Each (λ raw doc. Has (raw, doc) (outs v table.rows)) index.table.rows

-- what a cause says of the store
abbrev pub IsCause : {D Q : Type 0} → List (Settings D Q) → Settings D Q → Store D → Cause → Type 0
IsCause sets v st (UnknownObjects raws) = Unit {0}
IsCause sets v st (CorruptObjects raws) = Unit {0}
IsCause sets v st (NewerObjects raws) = Unit {0}
IsCause sets v st (Collision first second raw) = Unit {0}
IsCause sets v st (NewerIndex n) = (v.is_later n ≡ true) × IsInstalled sets st n
IsCause sets v st (OtherVersion (Some n)) = (n ≢ v.target) × IsInstalled sets st n
IsCause sets v st (Leftover n its from) = ((n ≡ v.temp) ⊎ (n ≡ v.target)) × (its ≢ Some from)
IsCause sets v st _ = ⊥

-- what every schedule leaves
pub record Raced {D Q C : Type 0} (race : Race D Q C) (sets : List (Settings D Q)) (IsEmpty : Type 0) (w : World D Q C) : Type 0 where
  -- whoever is done names its version's one target, on which the version's alias is
  pub done : (i : ℕ) (node : Node D Q) (m : Machine D) (target : Text) → nth w.nodes i ≡ Some node → node.machine ≡ Some m → m.state ≡ Ended (End.Done target) →
      (target ≡ (race.settings i).target) × (at (race.settings i).version w.store.aliases ≡ Some target)
  pub causes : (i : ℕ) (node : Node D Q) (m : Machine D) (cause : Cause) → nth w.nodes i ≡ Some node → node.machine ≡ Some m → m.state ≡ Ended (Fatal cause) → IsCause sets (race.settings i) w.store cause
  -- no instance writes documents anywhere but into its temporary index, which is no version's target
  pub bulks : (e : Entry D Q) (i : ℕ) (name : Text) (writes : List (Write D)) → Has e w.journal → e.actor ≡ Instance i → e.request ≡ Bulk name writes → (name ≡ (race.settings i).temp) × ((v : Settings D Q) → Has v sets → name ≢ v.target)
  -- until a version's switch its target is exactly the migrated table, and nobody touches it
  pub made : (v : Settings D Q) → Has v sets → at v.version w.store.aliases ≡ None → (index : Index D) → at v.target w.store.indices ≡ Some index → IsMade sets IsEmpty v w.store index
  pub temporary : (v : Settings D Q) → Has v sets → at v.version w.store.aliases ≡ None → (index : Index D) → at v.temp w.store.indices ≡ Some index → IsTemporary sets v w.store index
