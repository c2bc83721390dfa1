-- The facts of a journal: its blocks, migrations and installs, by playing the aliases.
use Rattle.std.specs.Prelude.{ℕ, ◌+◌, Bool, true, false, List, [], ◌∷◌, ◌++◌, Option, Some, None, if◌then◌else◌}
use Rattle.base_model.specs.Keyed.{Text, same}
use Rattle.race_model.specs.Stores.{Action, Request, Reply}
use Rattle.race_model.specs.Stores.Action.{RemoveMustExist, Add, RemoveIndex}
use Rattle.race_model.specs.Stores.Request.{Aliases}
use Rattle.race_model.specs.Stores.Reply.{Done}
use Rattle.race_model.specs.Machines.{is_on}
use Rattle.race_model.specs.Worlds.{Entry}

-- a fact, with the place of its entry
pub data Fact : Type 0 where
  Block : (place : ℕ) → Fact
  Migrate : (place : ℕ) → (target version : Text) → Fact
  Install : (place : ℕ) → (target version : Text) → Fact

-- the index that the current alias names after an action
abbrev pub named_after : (current : Text) → Option Text → Action → Option Text
named_after current on (RemoveMustExist alias index) = if same alias current then None else on
named_after current on (Add alias index) = if same alias current then Some index else on
named_after current on (RemoveIndex index) = if is_on index on then None else on

-- the index that the current alias names after these actions
unfoldable pub named_after_all : (current : Text) → Option Text → List Action → Option Text
named_after_all current on [] = on
named_after_all current on (a ∷ actions) = named_after_all current (named_after current on a) actions

-- the index of the last Add of the current alias
abbrev pub later_or : Option Text → Option Text → Option Text
later_or (Some later) index = Some later
later_or None index = index

-- the index that these actions add the current alias to last
unfoldable pub last_add : (current : Text) → List Action → Option Text
last_add current [] = None
last_add current (Add alias index ∷ actions) = later_or (last_add current actions) (if same alias current then Some index else None)
last_add current (a ∷ actions) = last_add current actions

-- the name is in the list
unfoldable pub is_listed : Text → List Text → Bool
is_listed name [] = false
is_listed name (n ∷ names) = if same name n then true else is_listed name names

-- what was found so far: where the current alias is, which indices were blocked, and how many entries there were
pub record FoundSoFar : Type 0 where
  pub on : Option Text
  pub blocked : List Text
  pub place : ℕ

-- the fact of a first block
abbrev pub block_fact : Bool → ℕ → List Fact
block_fact true place = Fact.Block place ∷ []
block_fact false place = []

-- a block is a fact where the current alias names the index, for the first time
abbrev pub is_first_block : FoundSoFar → Text → Bool
is_first_block f index = if is_on index f.on then (if is_listed index f.blocked then false else true) else false

-- a fact with a version is one where the target's name has a version
abbrev pub migrated_fact : Option Text → ℕ → Text → List Fact
migrated_fact None place target = []
migrated_fact (Some version) place target = Fact.Migrate place target version ∷ []

-- the fact of an install, likewise
abbrev pub installed_fact : Option Text → ℕ → Text → List Fact
installed_fact None place target = []
installed_fact (Some version) place target = Fact.Install place target version ∷ []

-- the fact of an alias request: from where the alias was, to where it was added
abbrev pub alias_fact : (version_in : Text → Option Text) → (was added : Option Text) → ℕ → List Fact
alias_fact version_in was None place = []
alias_fact version_in None (Some target) place = installed_fact (version_in target) place target
alias_fact version_in (Some index) (Some target) place = if same index target then [] else migrated_fact (version_in target) place target

-- the facts of one request with its reply
abbrev pub facts_of : {D Q : Type 0} → (current : Text) → (version_in : Text → Option Text) → FoundSoFar → Request D Q → Reply D → List Fact
facts_of current version_in f (Request.Block index) Done = block_fact (is_first_block f index) f.place
facts_of current version_in f (Aliases actions) Done = alias_fact version_in f.on (last_add current actions) f.place
facts_of current version_in f _ _ = []

-- what is found after one more request with its reply
abbrev pub found_after : {D Q : Type 0} → (current : Text) → FoundSoFar → Request D Q → Reply D → FoundSoFar
found_after current f (Request.Block index) Done = record { on = f.on; blocked = if is_first_block f index then index ∷ f.blocked else f.blocked; place = f.place + 1 }
found_after current f (Aliases actions) Done = record { on = named_after_all current f.on actions; blocked = f.blocked; place = f.place + 1 }
found_after current f _ _ = record { on = f.on; blocked = f.blocked; place = f.place + 1 }

-- what is found after these entries
unfoldable pub found_after_all : {D Q : Type 0} → (current : Text) → FoundSoFar → List (Entry D Q) → FoundSoFar
found_after_all current f [] = f
found_after_all current f (e ∷ es) = found_after_all current (found_after current f e.request e.reply) es

-- the facts in order of their places
unfoldable pub facts_from : {D Q : Type 0} → (current : Text) → (version_in : Text → Option Text) → FoundSoFar → List (Entry D Q) → List Fact
facts_from current version_in f [] = []
facts_from current version_in f (e ∷ es) = facts_of current version_in f e.request e.reply ++ facts_from current version_in (found_after current f e.request e.reply) es

-- the facts of a journal, with places from 1, where the current alias named this index before it
abbrev pub facts : {D Q : Type 0} → (current : Text) → (version_in : Text → Option Text) → (opening : Option Text) → List (Entry D Q) → List Fact
facts current version_in opening j = facts_from current version_in (record { on = opening; blocked = []; place = 1 }) j
