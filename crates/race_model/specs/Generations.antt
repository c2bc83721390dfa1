-- The store as the clients know it: one table for each version.
use Rattle.std.specs.Prelude.{Bool, true, false, List, [], ◌∷◌, Option, Some, None, if◌then◌else◌}
use Rattle.base_model.specs.Keyed.{Text, same, at}
use Rattle.race_model.specs.Stores.{Table, empty_table, Index, Store, Select, Write, Request, Reply, found, items_of, write_all}
use Rattle.race_model.specs.Stores.Request.{Get, Search, Bulk}
use Rattle.race_model.specs.Stores.Reply.{Done, Selected, Found, Items, Refused}
use Rattle.race_model.specs.Stores.Refusal.{NoIndex, Blocked}
use Rattle.race_model.specs.Machines.{Settings}
use Rattle.race_model.specs.Migrated.{migrated}

-- the alias of a version, its index, and what stands in it
pub record Generation (D : Type 0) : Type 0 where
  pub alias : Text
  pub index : Text
  pub blocked : Bool
  pub table : Table D

-- the oldest first
abbrev pub Generations : Type 0 → Type 0
Generations D = List (Generation D)

-- the generation of a version
unfoldable pub of_alias : {D : Type 0} → Text → Generations D → Option (Generation D)
of_alias name [] = None
of_alias name (g ∷ gs) = if same name g.alias then Some g else of_alias name gs

-- a get of a generation
abbrev pub get_in : {D : Type 0} → Option (Generation D) → Text → List Text → Reply D
get_in None name raws = Refused (NoIndex name)
get_in (Some g) name raws = Found (found g.table.rows raws)

-- a search of a generation
abbrev pub search_in : {D Q : Type 0} → Select D Q → Option (Generation D) → Text → Q → Reply D
search_in sel None name query = Refused (NoIndex name)
search_in sel (Some g) name query = Selected (sel.total query g.table.rows) (sel.rows query g.table.rows)

-- a bulk is refused by a blocked generation
abbrev pub bulk_reply : {D : Type 0} → Bool → Generation D → List (Write D) → Reply D
bulk_reply true g writes = Refused (Blocked g.index)
bulk_reply false g writes = Items (items_of g.table writes)

-- a bulk of a generation
abbrev pub bulk_in_one : {D : Type 0} → Option (Generation D) → Text → List (Write D) → Reply D
bulk_in_one None name writes = Refused (NoIndex name)
bulk_in_one (Some g) name writes = bulk_reply g.blocked g writes

-- the reply to a client's request
unfoldable pub told_by : {D Q : Type 0} → Select D Q → Generations D → Request D Q → Reply D
told_by sel gs (Get name raws) = get_in (of_alias name gs) name raws
told_by sel gs (Search name query) = search_in sel (of_alias name gs) name query
told_by sel gs (Bulk name writes) = bulk_in_one (of_alias name gs) name writes
told_by sel gs _ = Done

-- a generation after writes, where it is open
abbrev pub with_table : {D : Type 0} → Bool → Generation D → List (Write D) → Generation D
with_table true g writes = g
with_table false g writes = record { alias = g.alias; index = g.index; blocked = false; table = write_all g.table writes }

-- the generations after writes under an alias
unfoldable pub written_in : {D : Type 0} → Text → List (Write D) → Generations D → Generations D
written_in name writes [] = []
written_in name writes (g ∷ gs) = if same name g.alias then with_table g.blocked g writes ∷ gs else g ∷ written_in name writes gs

-- what a client's request leaves
unfoldable pub left_by : {D Q : Type 0} → Generations D → Request D Q → Generations D
left_by gs (Bulk name writes) = written_in name writes gs
left_by gs _ = gs

-- one move of the history
pub data Move (D Q : Type 0) : Type 0 where
  Stay : Move D Q
  Block : Move D Q
  Migrate : Settings D Q → Move D Q
  Install : Settings D Q → Move D Q
  Ask : Request D Q → Move D Q

-- the last generation is blocked
unfoldable pub block_last : {D : Type 0} → Generations D → Generations D
block_last [] = []
block_last (g ∷ []) = record { alias = g.alias; index = g.index; blocked = true; table = g.table } ∷ []
block_last (g ∷ h ∷ gs) = g ∷ block_last (h ∷ gs)

-- a new generation, open
abbrev pub new_generation : {D Q : Type 0} → Settings D Q → Table D → Generation D
new_generation s t = record { alias = s.version; index = s.target; blocked = false; table = t }

-- the next generation has exactly the migrated rows of the last one
unfoldable pub migrate : {D Q : Type 0} → Settings D Q → Generations D → Generations D
migrate s [] = []
migrate s (g ∷ []) = g ∷ new_generation s (migrated s g.table.rows) ∷ []
migrate s (g ∷ h ∷ gs) = g ∷ migrate s (h ∷ gs)

-- the first generation is empty
abbrev pub install : {D Q : Type 0} → Settings D Q → Generations D → Generations D
install s [] = new_generation s empty_table ∷ []
install s (g ∷ gs) = g ∷ gs

-- the generations after a move
abbrev pub move : {D Q : Type 0} → Generations D → Move D Q → Generations D
move gs Stay = gs
move gs Move.Block = block_last gs
move gs (Migrate s) = migrate s gs
move gs (Install s) = install s gs
move gs (Move.Ask ask) = left_by gs ask
