-- Where nothing stands against a machine it doesn't end as fatal.
use Rattle.std.proofs.Common.{◌≡◌, ◌⊎◌, List, [], ◌∷◌, true, false, Option, Some, sym, ◌∙◌, subst}
use mathlib.Core.Logic.◌⊎◌.{inl, inr}
use Rattle.base_model.specs.Keyed.{Text, at}
use Rattle.race_model.specs.Stores.{Index, Store, Select}
use Rattle.race_model.specs.Machines.{Settings, Cause, State}
use Rattle.race_model.specs.Machines.Cause.{UnknownObjects, NewerIndex, OtherVersion, Leftover}
use Rattle.race_model.specs.Machines.State.{Init, CheckUnknown, CreateTemp, ReindexRead, CloneTemp, MarkReadyConflict}
use Rattle.race_claims.specs.Shown.{LeftBy, SelectsUnknown, IsShown, OwnSource, IsCalm}

module _ {D Q : Type 0} (select : Select D Q) (cur : Text) (v : Settings D Q) (st : Store D) where
  none_left : (n : Text) (its : Option Text) (source : Text) → (n ≡ v.temp) ⊎ (n ≡ v.target) → OwnSource v st source → LeftBy st n its source → ⊥
  none_left n its source kind own l = l.other (sym l.from ∙ own n l.index kind l.there)

  none_unknown : (source : Text) (raws : List Text) → ((index : Index D) → at source st.indices ≡ Some index → select.rows v.unknown index.table.rows ≡ []) → SelectsUnknown select v st source raws → ⊥
  none_unknown source raws none s = let x : s.first ∷ s.rest ≡ [] = sym s.selected ∙ none s.index s.there in cc

  pub calm_ends_well : (state : State D) (cause : Cause) → IsCalm select cur v st state → IsShown select cur v st state cause → ⊥
  calm_ends_well Init (NewerIndex n) c k = let x : true ≡ false = sym k.1 ∙ (c n k.0).0 in cc
  calm_ends_well Init (Leftover n its source) c k = none_left n its source k.1 (c source k.0).1 k.2
  calm_ends_well (CheckUnknown from) (UnknownObjects raws) c k = none_unknown from raws c k
  calm_ends_well (CreateTemp from) (Leftover n its source) c k = none_left n its source (inl k.0) (subst (OwnSource v st) (sym k.1) c) k.2
  calm_ends_well (CloneTemp from) (Leftover n its source) c k = none_left n its source (inr k.0) (subst (OwnSource v st) (sym k.1) c) k.2
  calm_ends_well (ReindexRead source p after pass) cause c k = k.not_clean (c k.index k.there)
  calm_ends_well MarkReadyConflict (OtherVersion (Some n)) c k = k.1 (c n k.0)
  calm_ends_well _ _ c k = absurd k
