-- The sends of a start that failed.
use Rattle.std.specs.Prelude.{◌≡◌, ℕ, ◌+◌, ◌⊎◌, true, List, [], ◌∷◌, ◌++◌, replicate, Some}
use Rattle.race_model.specs.Stores.{Request}
use Rattle.race_model.specs.Machines.{Settings, State, StateName, name_of, request}
use Rattle.race_model.specs.Worlds.{Sent, Node}

-- one of the sends of the start with this tag failed
unfoldable pub HasFailed : {D Q : Type 0} → (tag : ℕ) → List (Sent D Q) → Type 0
HasFailed tag [] = ⊥
HasFailed tag (x ∷ xs) = ((x.tag ≡ tag) × (x.failed ≡ true)) ⊎ HasFailed tag xs

-- the last sends, as many as this, were this request of the start with this tag, and failed
abbrev pub LastFailed : {D Q : Type 0} → (tag : ℕ) → Request D Q → (faults : ℕ) → List (Sent D Q) → Type 0
LastFailed tag ask faults sent = (before : List (Sent _ _)) × (sent ≡ before ++ replicate faults (record { tag = tag; request = ask; failed = true }))

-- a start gave up in the state of this name: the sends of this state's request failed once more than it may try, in a row and last of all
pub record GaveUpAfter {D Q : Type 0} (v : Settings D Q) (node : Node D Q) (name : StateName) (faults : ℕ) : Type 0 where
  pub state : State D
  pub named : name ≡ name_of state
  pub ask : Request D Q
  pub asks : request v state ≡ Some ask
  pub count : faults ≡ v.attempts + 1
  pub last : LastFailed node.starts ask faults node.sent
