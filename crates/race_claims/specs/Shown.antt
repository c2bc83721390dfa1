-- What the store shows at the moment when a machine ends as fatal.
use Rattle.std.specs.Prelude.{◌≡◌, ◌≢◌, ◌⊎◌, true, false, List, [], ◌∷◌, ◌++◌, map, Option, Some}
use Rattle.base_model.specs.Keyed.{Text, at}
use Rattle.race_model.specs.Stores.{Cell, Rows, Index, Store, Select}
use Rattle.race_model.specs.Machines.{Settings, Cause, State, batch}
use Rattle.race_model.specs.Machines.Batch.{Bad}
use Rattle.race_model.specs.Machines.Cause.{UnknownObjects, NewerIndex, OtherVersion, Leftover}
use Rattle.race_model.specs.Migrated.{IsClean}
use Rattle.race_model.specs.Machines.State.{Init, CheckUnknown, CreateTemp, ReindexRead, CloneTemp, MarkReadyConflict}

-- the index is there, with this source, which isn't the one
pub record LeftBy {D : Type 0} (st : Store D) (n : Text) (its : Option Text) (source : Text) : Type 0 where
  pub index : Index D
  pub there : at n st.indices ≡ Some index
  pub from : index.source ≡ its
  pub other : its ≢ Some source

-- the rows that a search for unknown documents selects
pub record SelectsUnknown {D Q : Type 0} (select : Select D Q) (v : Settings D Q) (st : Store D) (source : Text) (raws : List Text) : Type 0 where
  pub index : Index D
  pub there : at source st.indices ≡ Some index
  pub first : Text × Cell D
  pub rest : Rows D
  pub selected : select.rows v.unknown index.table.rows ≡ first ∷ rest
  pub raws_are : raws ≡ map (λ x. x.0) (first ∷ rest)

-- a page of the blocked source that can't be migrated: the source isn't clean
pub record BadPage {D Q : Type 0} (v : Settings D Q) (st : Store D) (source : Text) (cause : Cause) : Type 0 where
  pub index : Index D
  pub there : at source st.indices ≡ Some index
  pub blocked : index.blocked ≡ true
  pub before : Rows D
  pub page : Rows D
  pub after : Rows D
  pub rows : index.table.rows ≡ before ++ (page ++ after)
  pub pass : List (Text × Text)
  pub bad : batch v pass page ≡ Bad cause
  pub not_clean : IsClean v index.table.rows → ⊥

-- the cause, where a machine of the set v is in this state
abbrev pub IsShown : {D Q : Type 0} → Select D Q → (cur : Text) → Settings D Q → Store D → State D → Cause → Type 0
IsShown select cur v st Init (NewerIndex n) = (at cur st.aliases ≡ Some n) × (v.is_later n ≡ true)
IsShown select cur v st Init (Leftover n its source) = (at cur st.aliases ≡ Some source) × ((n ≡ v.temp) ⊎ (n ≡ v.target)) × LeftBy st n its source
IsShown select cur v st (CheckUnknown source) (UnknownObjects raws) = SelectsUnknown select v st source raws
IsShown select cur v st (CreateTemp from) (Leftover n its source) = (n ≡ v.temp) × (source ≡ from) × LeftBy st n its source
IsShown select cur v st (CloneTemp from) (Leftover n its source) = (n ≡ v.target) × (source ≡ from) × LeftBy st n its source
IsShown select cur v st (ReindexRead source p after pass) cause = BadPage v st source cause
IsShown select cur v st MarkReadyConflict (OtherVersion (Some n)) = (at cur st.aliases ≡ Some n) × (n ≢ v.target)
IsShown select cur v st _ _ = ⊥

-- each index under these names that is there has this source
abbrev pub OwnSource : {D Q : Type 0} → Settings D Q → Store D → Text → Type 0
OwnSource v st source = (n : Text) (index : Index _) → (n ≡ v.temp) ⊎ (n ≡ v.target) → at n st.indices ≡ Some index → index.source ≡ Some source

-- nothing stands against a machine of the set v in this state
abbrev pub IsCalm : {D Q : Type 0} → Select D Q → (cur : Text) → Settings D Q → Store D → State D → Type 0
IsCalm select cur v st Init = (source : Text) → at cur st.aliases ≡ Some source → (v.is_later source ≡ false) × OwnSource v st source
IsCalm select cur v st (CheckUnknown source) = (index : Index _) → at source st.indices ≡ Some index → select.rows v.unknown index.table.rows ≡ []
IsCalm select cur v st (CreateTemp source) = OwnSource v st source
IsCalm select cur v st (ReindexRead source p after pass) = (index : Index _) → at source st.indices ≡ Some index → IsClean v index.table.rows
IsCalm select cur v st (CloneTemp source) = OwnSource v st source
IsCalm select cur v st MarkReadyConflict = (n : Text) → at cur st.aliases ≡ Some n → n ≡ v.target
IsCalm select cur v st _ = Unit {0}
