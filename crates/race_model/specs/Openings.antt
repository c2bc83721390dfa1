-- How a store opens, and a whole scenario: what a theorem of a race is about.
use Rattle.std.specs.Prelude.{ℕ, List, [], ◌∷◌, Option, Some, None, false}
use Rattle.base_model.specs.Keyed.{Text, put}
use Rattle.race_model.specs.Stores.{Table, Store}
use Rattle.race_model.specs.Machines.{Settings}
use Rattle.race_model.specs.Generations.{Generations, new_generation}
use Rattle.race_model.specs.History.{Fact, FoundSoFar, found_after_all, facts_from}
use Rattle.race_model.specs.Worlds.{Race, World, Entry, Event, run, open_world}
use Rattle.race_model.specs.Journals.{Trace, Conforms, all_followed, open_trace}

-- a store opens empty, or with one generation: a version and its table
pub data Opening (D Q : Type 0) : Type 0 where
  NoGeneration : Opening D Q
  OneGeneration : (set : Settings D Q) → (table : Table D) → Opening D Q

-- the store: the generation's one open index, with both aliases on it
abbrev pub opening_store : {D Q : Type 0} → (current : Text) → Opening D Q → Store D
opening_store current NoGeneration = record { indices = []; aliases = []; opened = 0; pits = [] }
opening_store current (OneGeneration set table) =
    record {
      indices = (set.target, record { blocked = false; source = None; table = table }) ∷ [];
      aliases = put current set.target ((set.version, set.target) ∷ []);
      opened = 0;
      pits = [];
    }

-- the store opens empty
abbrev pub IsEmptyOpening : {D Q : Type 0} → Opening D Q → Type 0
IsEmptyOpening NoGeneration = Unit {0}
IsEmptyOpening (OneGeneration set table) = ⊥

-- its generations
abbrev pub opening_generations : {D Q : Type 0} → Opening D Q → Generations D
opening_generations NoGeneration = []
opening_generations (OneGeneration set table) = new_generation set table ∷ []

-- the index that the current alias names
abbrev pub opening_index : {D Q : Type 0} → Opening D Q → Option Text
opening_index NoGeneration = None
opening_index (OneGeneration set table) = Some set.target

-- what is found before the first entry
abbrev pub found_at_opening : {D Q : Type 0} → Opening D Q → FoundSoFar
found_at_opening opening = record { on = opening_index opening; blocked = []; place = 1 }

-- the current alias, the target sets (also those of the opening's and of the clients' versions), how the store opens, the number of instances and the clients' scripts
pub record Scenario (D Q C : Type 0) : Type 0 where
  pub race : Race D Q C
  pub current : Text
  pub sets : List (Settings D Q)
  pub opening : Opening D Q
  pub instances : ℕ
  pub scripts : List C

-- the world before any event
abbrev pub first_world : {D Q C : Type 0} → Scenario D Q C → World D Q C
first_world s = open_world (opening_store s.current s.opening) s.instances s.scripts

-- the world after these events
abbrev pub world_after : {D Q C : Type 0} → Scenario D Q C → List Event → World D Q C
world_after s events = run s.race (first_world s) events

-- what is there before the first entry
abbrev pub first_trace : {D Q C : Type 0} → Scenario D Q C → Trace D Q C
first_trace s = open_trace (opening_store s.current s.opening) s.instances s.scripts

-- what these entries leave
abbrev pub trace_after : {D Q C : Type 0} → Scenario D Q C → List (Entry D Q) → Trace D Q C
trace_after s journal = all_followed s.race (first_trace s) journal

-- the journal conforms to the scenario
abbrev pub IsJournal : {D Q C : Type 0} → Scenario D Q C → List (Entry D Q) → Type 0
IsJournal s journal = Conforms s.race (first_trace s) journal

-- the facts of a journal of the scenario
abbrev pub facts_of_journal : {D Q C : Type 0} → Scenario D Q C → (version_in : Text → Option Text) → List (Entry D Q) → List Fact
facts_of_journal s version_in journal = facts_from s.current version_in (found_at_opening s.opening) journal

-- the facts of its later entries, after those before
abbrev pub facts_since : {D Q C : Type 0} → Scenario D Q C → (version_in : Text → Option Text) → (before after : List (Entry D Q)) → List Fact
facts_since s version_in before after = facts_from s.current version_in (found_after_all s.current (found_at_opening s.opening) before) after
