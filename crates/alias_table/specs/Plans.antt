-- What an alias request does to aliases and to the names of indices.
use Rattle.std.specs.Prelude.{ℕ, Bool, true, false, List, [], ◌∷◌, ◌++◌, map, filter, not, Option, Some, None}
use Rattle.base_model.specs.Keyed.{Text, same, Keyed}
use Rattle.race_model.specs.Stores.{Index, Store, Refusal, empty_table, act_all}
use Rattle.race_model.specs.Stores as stores
use Rattle.race_model.specs.Stores.Acted.{Now}
use Rattle.alias_table.specs.declared.pair.Pair.{Pair}
use Rattle.alias_table.specs.declared.action.Action.{Action}
use Rattle.alias_table.specs.declared.action.Action.TheVariants.{RemoveMustExist, Add, RemoveIndex}
use Rattle.alias_table.specs.declared.error.PlanError.{PlanError}
use Rattle.alias_table.specs.declared.error.PlanError.TheVariants.{Memory, AliasMissing, AliasTaken, NameTaken, NoIndex}

-- an alias with its index
abbrev pub entry_of : Pair → Text × Text
entry_of p = (p.alias, p.index)

-- the index of each alias, by its name
abbrev pub keyed_of : List Pair → Keyed Text
keyed_of pairs = map entry_of pairs

-- the names without this one
abbrev pub names_without : Text → List Text → List Text
names_without name names = filter (λ n. not (same name n)) names

-- an index of which nothing but the name matters
abbrev pub bare_index : Index ℕ
bare_index = record { blocked = false; source = None; table = empty_table }

-- an index of this name
abbrev pub bare_entry : Text → Text × Index ℕ
bare_entry name = (name, bare_index)

-- indices of these names
abbrev pub bare_indices : List Text → Keyed (Index ℕ)
bare_indices names = map bare_entry names

-- a store of these indices and aliases
abbrev pub bare_store : List Text → List Pair → Store ℕ
bare_store names pairs = record { indices = bare_indices names; aliases = keyed_of pairs; opened = 0; pits = [] }

-- the action as the store's definitions have it
abbrev pub action_of : Action → stores.Action
action_of (RemoveMustExist alias index) = stores.Action.RemoveMustExist alias index
action_of (Add alias index) = stores.Action.Add alias index
action_of (RemoveIndex index) = stores.Action.RemoveIndex index

-- the index that an action removes, if any
abbrev pub removed_one : Action → List Text
removed_one (RemoveMustExist alias index) = []
removed_one (Add alias index) = []
removed_one (RemoveIndex index) = index ∷ []

-- the indices that actions remove, in their order
unfoldable pub removed_by : List Action → List Text
removed_by [] = []
removed_by (a ∷ actions) = removed_one a ++ removed_by actions

-- the names of the indices that are left, each of these removed
unfoldable pub names_after : List Text → (removed : List Text) → List Text
names_after names [] = names
names_after names (r ∷ removed) = names_after (names_without r names) removed

-- the index that a test found, or none
abbrev pub index_if : Bool → Option (Index ℕ)
index_if true = Some bare_index
index_if false = None

-- the refusal that an error stands for; want of memory stands for none
abbrev pub refusal_of : PlanError → Option Refusal
refusal_of Memory = None
refusal_of (AliasMissing alias index) = Some (Refusal.AliasMissing alias index)
refusal_of (AliasTaken alias index) = Some (Refusal.AliasTaken alias index)
refusal_of (NameTaken name) = Some (Refusal.NameTaken name)
refusal_of (NoIndex name) = Some (Refusal.NoIndex name)

-- what actions do to these indices and aliases
abbrev pub acted_on : List Text → List Pair → List Action → stores.Acted ℕ
acted_on names pairs actions = act_all (Now (bare_store names pairs)) (map action_of actions)
