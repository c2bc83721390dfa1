-- The generations that a store shows, and the fact of a version.
use Rattle.std.specs.Prelude.{◌≡◌, ℕ, ◌⊎◌, List, Option, Some, None}
use Rattle.base_model.specs.Keyed.{Text, at}
use Rattle.race_model.specs.Stores.{Index, Store}
use Rattle.race_model.specs.Machines.{Settings}
use Rattle.race_model.specs.Generations.{Generation, Generations, of_alias}
use Rattle.race_model.specs.History.{Fact}
use Rattle.race_model.specs.Journals.{Has}

-- the generation that the store shows of a version
abbrev pub seen_as : {D Q : Type 0} → Settings D Q → Option Text → Option (Index D) → Option (Generation D)
seen_as v None o = None
seen_as v (Some i) None = None
seen_as v (Some i) (Some ix) = Some (record { alias = v.version; index = v.target; blocked = ix.blocked; table = ix.table })

-- the generation of this set, by its alias and its index
abbrev pub shown_of : {D Q : Type 0} → Settings D Q → Store D → Option (Generation D)
shown_of v st = seen_as v (at v.version st.aliases) (at v.target st.indices)

-- each version's generation has its index's table and flag
abbrev pub AreShown : {D Q : Type 0} → List (Settings D Q) → Generations D → Store D → Type 0
AreShown sets gs st = (v : Settings _ _) → Has v sets → of_alias v.version gs ≡ shown_of v st

-- a migration or an install to this target stands among the facts
abbrev pub HasFact : (target version : Text) → List Fact → Type 0
HasFact target version fs = (place : ℕ) × (Has (Fact.Migrate place target version) fs ⊎ Has (Fact.Install place target version) fs)
