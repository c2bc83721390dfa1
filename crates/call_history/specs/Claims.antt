-- What the laws along histories speak of.
use Rattle.std.specs.Prelude.{◌≡◌, ◌≢◌, ℕ, List, [], ◌∷◌, Option, Some, None}
use Rattle.base_model.specs.Keyed.{Text}
use Rattle.race_model.specs.Stores.{Write, Request}
use Rattle.race_model.specs.Machines.{Settings}
use Rattle.race_model.specs.Generations.{Generation, Generations, Move, of_alias}
use Rattle.race_model.specs.Worlds.{nth}
use Rattle.race_model.specs.Openings.{Opening, Scenario}
use Rattle.document_model.specs.Documents.{Doc}
use Rattle.document_model.specs.Registries.{Registry}
use Rattle.query_model.specs.Queries.{Query}
use Rattle.call_model.specs.declared.refuse.Refuse.TheVariants.{Busy}
use Rattle.call_model.specs.Calls.{NewObject, One}
use Rattle.call_model.specs.Acts.{raw_of}
use Rattle.call_model.specs.Words.{Words}
use Rattle.call_model.specs.Scripts.{Script}
use Rattle.call_model.specs.Upgrades.{call_race}
use Rattle.call_laws.specs.Meanings.{Numbered}

-- the tables of all generations are numbered
abbrev pub AreNumbered : {D : Type 0} → Generations D → Type 0
AreNumbered gs = (name : Text) (g : Generation _) → of_alias name gs ≡ Some g → Numbered g.table

-- each script begins with its first call
abbrev pub AreFresh : {A O : Type 0} → List (Script A O) → Type 0
AreFresh scripts = (k : ℕ) (script : Script _ _) → nth scripts k ≡ Some script → (script.heard ≡ None) × (script.number ≡ 1)

-- a race of these settings with these clients, and how its store opens
abbrev pub scenario : {A O F : Type 0} → Words A O F → (settings : ℕ → Settings (Doc A) (Query F)) → (sets : List (Settings (Doc A) (Query F))) → (current : Text) → Opening (Doc A) (Query F) → (instances : ℕ) → List (Script A O) → Scenario (Doc A) (Query F) (Script A O)
scenario w settings sets current opening instances scripts = record {
  race = call_race w settings;
  current = current;
  sets = sets;
  opening = opening;
  instances = instances;
  scripts = scripts;
}

-- the raw id that a write is of
abbrev pub raw_written : {D : Type 0} → Write D → Text
raw_written (Write.Create raw doc) = raw
raw_written (Write.Put raw doc expect) = raw
raw_written (Write.Delete raw expect) = raw

-- all writes are of other raw ids
unfoldable pub OtherRaws : {D : Type 0} → Text → List (Write D) → Type 0
OtherRaws raw [] = Unit {0}
OtherRaws raw (x ∷ writes) = (raw ≢ raw_written x) × OtherRaws raw writes

-- a move that doesn't write this raw id under this alias
abbrev pub LeavesAlone : {D Q : Type 0} → (alias raw : Text) → Move D Q → Type 0
LeavesAlone alias raw (Move.Ask (Request.Bulk name writes)) = name ≡ alias → OtherRaws raw writes
LeavesAlone alias raw _ = Unit {0}

-- no move writes this raw id under this alias
unfoldable pub Untouched : {D Q : Type 0} → (alias raw : Text) → List (Move D Q) → Type 0
Untouched alias raw [] = Unit {0}
Untouched alias raw (m ∷ ms) = LeavesAlone alias raw m × Untouched alias raw ms

-- no item of this raw id is busy
abbrev pub NeverBusyAt : {A O : Type 0} → Registry O → (space raw : Text) → List (NewObject A) → List (One A) → Type 0
NeverBusyAt reg space raw [] [] = Unit {0}
NeverBusyAt reg space raw (o ∷ os) (one ∷ ones) = (raw_of reg space (record { type_name = o.type_name; id = o.id }) ≡ raw → (a b : Option ℕ) → one ≢ One.Refused (Busy a b)) × NeverBusyAt reg space raw os ones
NeverBusyAt reg space raw _ _ = ⊥
