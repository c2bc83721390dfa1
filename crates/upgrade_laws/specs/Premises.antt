-- What a rollout takes for granted: the product's names, registries that are well formed, and scripts that begin.
use Rattle.std.specs.Prelude.{◌≡◌, ◌≢◌, ◌<◌, ◌⊎◌, ℕ, ◌+◌, ◌-◌, ◌/◌, length, true, List, [], ◌∷◌, Some, None, IsTrue}
use Rattle.race_model.specs.Stores.{Rows}
use Rattle.race_model.specs.Sorted.{IsSorted}
use Rattle.race_model.specs.Journals.{Has}
use Rattle.version_token.specs.declared.Ver.{Ver}
use Rattle.version_token.specs.Version.{ver_text, IsVer}
use Rattle.document_model.specs.Documents.{ver_lt}
use Rattle.document_model.specs.Registries.{Registry, names_apart}
use Rattle.raw_id.specs.IndexNames.{current_alias, version_alias, target, temp, version_in}
use Rattle.call_model.specs.Words.{Words}
use Rattle.call_model.specs.Scripts.{Script}
use Rattle.call_model.specs.Upgrades.{Named, TargetSet, Start, Rollout}
use Rattle.call_model.specs.Upgrades.Start.{Empty, Holding}
use Rattle.call_laws.specs.Meanings.{Numbered}

-- no type's name stands twice
abbrev pub IsRegistry : {O : Type 0} → Registry O → Type 0
IsRegistry reg = IsTrue (names_apart reg.types)

-- the product's names of the current alias and of indices
abbrev pub product_names : Named
product_names = record { current = current_alias; target = target; temp = temp; version_in = version_in; text = ver_text }

-- the names are the product's, its versions have numbers of 64 bits, and there is one set for each version
pub record HasProductNames {A O F : Type 0} (w : Words A O F) (names : Named) (sets : List (TargetSet O)) : Type 0 where
  pub product : names ≡ product_names
  pub alias : (v : Ver) → w.version_alias v ≡ version_alias v
  pub bounded : (s : TargetSet O) → Has s sets → IsVer s.registry.version
  pub one_each : (s t : TargetSet O) → Has s sets → Has t sets → s.registry.version ≡ t.registry.version → s ≡ t

-- the names of all versions are apart, and a target's name has its version
pub record NamesApart {A O F : Type 0} (w : Words A O F) (names : Named) (sets : List (TargetSet O)) : Type 0 where
  pub current_alias : (s : TargetSet O) → Has s sets → names.current ≢ w.version_alias s.registry.version
  pub current_target : (s : TargetSet O) → Has s sets → names.current ≢ names.target s.registry.version
  pub current_temp : (s : TargetSet O) → Has s sets → names.current ≢ names.temp s.registry.version
  pub alias_target : (s t : TargetSet O) → Has s sets → Has t sets → w.version_alias s.registry.version ≢ names.target t.registry.version
  pub alias_temp : (s t : TargetSet O) → Has s sets → Has t sets → w.version_alias s.registry.version ≢ names.temp t.registry.version
  pub target_temp : (s t : TargetSet O) → Has s sets → Has t sets → names.target s.registry.version ≢ names.temp t.registry.version
  -- one set for each version
  pub one_each : (s t : TargetSet O) → Has s sets → Has t sets →
      (s ≡ t) ⊎ ((w.version_alias s.registry.version ≢ w.version_alias t.registry.version) × (names.target s.registry.version ≢ names.target t.registry.version) × (names.temp s.registry.version ≢ names.temp t.registry.version))
  pub version_named : (s : TargetSet O) → Has s sets → names.version_in (names.target s.registry.version) ≡ Some s.registry.version

-- the documents of the opening are of one of the sets, which no instance has, in order of raw id, each number below the next
abbrev pub StartsWell : {A O : Type 0} → List (TargetSet O) → (ℕ → TargetSet O) → Start A O → Type 0
StartsWell sets set_of Empty = Unit {0}
StartsWell sets set_of (Holding set table) = Has set sets × ((i : ℕ) → set_of i ≢ set) × IsSorted table.rows × Numbered table

-- a script begins with its first call, under the registry of one of the sets
pub record Begins {A O : Type 0} (sets : List (TargetSet O)) (c : Script A O) : Type 0 where
  pub unheard : c.heard ≡ None
  pub first : c.number ≡ 1
  pub set : TargetSet O
  pub is_in : Has set sets
  pub registry : c.registry ≡ set.registry

-- each script begins
unfoldable pub AllBegin : {A O : Type 0} → List (TargetSet O) → List (Script A O) → Type 0
AllBegin sets [] = Unit {0}
AllBegin sets (c ∷ cs) = Begins sets c × AllBegin sets cs

-- all that a rollout takes for granted
pub record IsRollout {A O F : Type 0} (r : Rollout A O F) : Type 0 where
  pub names : HasProductNames r.words r.names r.sets
  pub registries : (s : TargetSet O) → Has s r.sets → IsRegistry s.registry
  pub batches : (s : TargetSet O) → Has s r.sets → 0 < s.batch
  pub runs : (i : ℕ) → Has (r.set_of i) r.sets
  pub start : StartsWell r.sets r.set_of r.start
  pub scripts : AllBegin r.sets r.scripts

-- the store opens empty, or with the documents of a version below the set's
abbrev pub StartsBelow : {A O : Type 0} → TargetSet O → Start A O → Type 0
StartsBelow set Empty = Unit {0}
StartsBelow set (Holding first table) = ver_lt first.registry.version set.registry.version ≡ true

-- every instance is of this set, whose version is above the opening's
pub record IsOfOneSet {A O F : Type 0} (r : Rollout A O F) (set : TargetSet O) : Type 0 where
  pub all : (i : ℕ) → r.set_of i ≡ set
  pub above : StartsBelow set r.start

-- how many pages of this size rows fill
abbrev pub pages_by : {D : Type 0} → ℕ → Rows D → ℕ
pages_by batch rows = (length rows + (batch - 1)) / batch
