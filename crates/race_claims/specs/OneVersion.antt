-- A race of one settings line: every instance is of one version, above the opening's.
use Rattle.std.specs.Prelude.{◌≡◌, ℕ, false}
use Rattle.race_model.specs.Machines.{Settings, Cause}
use Rattle.race_model.specs.Machines.Cause.{UnknownObjects, CorruptObjects, NewerObjects, Collision}
use Rattle.race_model.specs.Openings.{Opening, Scenario}
use Rattle.race_model.specs.Openings.Opening.{NoGeneration, OneGeneration}

-- the opening's version is below
abbrev pub IsAbove : {D Q : Type 0} → Settings D Q → Opening D Q → Type 0
IsAbove v NoGeneration = Unit {0}
IsAbove v (OneGeneration first table) = (v.is_later first.target ≡ false) × (v.is_same first.target ≡ false)

-- every instance is of the set v, above the opening
pub record IsOneVersion {D Q C : Type 0} (scenario : Scenario D Q C) (v : Settings D Q) : Type 0 where
  pub all : (i : ℕ) → scenario.race.settings i ≡ v
  pub above : IsAbove v scenario.opening

-- the causes that documents alone bring
abbrev pub IsByDocuments : Cause → Type 0
IsByDocuments (UnknownObjects raws) = Unit {0}
IsByDocuments (CorruptObjects raws) = Unit {0}
IsByDocuments (NewerObjects raws) = Unit {0}
IsByDocuments (Collision first second raw) = Unit {0}
IsByDocuments _ = ⊥
