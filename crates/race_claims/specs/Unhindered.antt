-- What is asked of a start of an instance so that it ends as done, and how it then goes.
use Rattle.std.specs.Prelude.{◌≡◌, ℕ, ◌+◌, ◌*◌, ◌≤◌, ◌⊎◌, false, true, List, [], ◌∷◌, Option, Some, None}
use Rattle.base_model.specs.Keyed.{Text, at}
use Rattle.race_model.specs.Stores.{Rows, Index, Store, Select, Request}
use Rattle.race_model.specs.Stores.Request.{Create, Clone}
use Rattle.race_model.specs.Machines.{Settings, End, State, request}
use Rattle.race_model.specs.Machines.State.{Ended}
use Rattle.race_model.specs.Sorted.{Each}
use Rattle.race_model.specs.Migrated.{IsGoodOutcome, IsClean}
use Rattle.race_model.specs.History.{Fact}
use Rattle.race_model.specs.Worlds.{Race, Entry}
use Rattle.race_model.specs.Worlds.Actor.{Instance}
use Rattle.race_model.specs.Worlds.How.{Heard}
use Rattle.race_model.specs.Journals.{Trace, followed}
use Rattle.race_claims.specs.Shown.{OwnSource}

-- the entry is one of the start's own, and was heard
abbrev pub IsOwn : {D Q : Type 0} → (instance tag : ℕ) → Entry D Q → Type 0
IsOwn instance tag e = (e.actor ≡ Instance instance) × (e.how ≡ Heard) × (e.tag ≡ tag)

-- something holds of the store and the request at each of the start's own entries
unfoldable pub AtOwn : {D Q C : Type 0} → Race D Q C → (instance tag : ℕ) → (Store D → Request D Q → Type 0) → Trace D Q C → List (Entry D Q) → Type 0
AtOwn race instance tag P t [] = Unit {0}
AtOwn race instance tag P t (e ∷ es) = (IsOwn instance tag e → P t.store e.request) × AtOwn race instance tag P (followed race t e) es

-- the requests at which a start looks whether an index is there
abbrev pub LooksAtNames : {D Q : Type 0} → Request D Q → Type 0
LooksAtNames Request.State = Unit {0}
LooksAtNames (Create index source) = Unit {0}
LooksAtNames (Clone source goal) = Unit {0}
LooksAtNames _ = ⊥

-- nothing stands against a start of the set v with the source s, where it makes this request
pub record IsClear {D Q : Type 0} (v : Settings D Q) (s : Text) (st : Store D) (ask : Request D Q) : Type 0 where
  -- an index named as v's temporary index or target has s as its source
  pub own_source : LooksAtNames ask → OwnSource v st s
  -- no unknown, corrupt or newer document stands in s
  pub good : (index : Index D) → at s st.indices ≡ Some index → Each (λ raw doc. IsGoodOutcome (v.outcome raw doc)) index.table.rows
  -- s is clean once it is blocked
  pub clean : (index : Index D) → at s st.indices ≡ Some index → index.blocked ≡ true → IsClean v index.table.rows

-- each migration and install among the facts is to this target
unfoldable pub OnlyTo : Text → List Fact → Type 0
OnlyTo target [] = Unit {0}
OnlyTo target (Fact.Block place ∷ fs) = OnlyTo target fs
OnlyTo target (Fact.Migrate place index version ∷ fs) = (index ≡ target) × OnlyTo target fs
OnlyTo target (Fact.Install place index version ∷ fs) = (index ≡ target) × OnlyTo target fs

-- a start of the set v is unhindered, by the index that the current alias named at its first entry: its version's target; or an index below with no other migration or install since and nothing against it; or none, and no other migration or install since
abbrev pub IsUnhindered : {D Q C : Type 0} → Race D Q C → (instance tag : ℕ) → Settings D Q → (since : List Fact) → Trace D Q C → List (Entry D Q) → Option Text → Type 0
IsUnhindered race instance tag v since t entries None = OnlyTo v.target since
IsUnhindered race instance tag v since t entries (Some s) = (s ≡ v.target) ⊎ ((v.is_later s ≡ false) × OnlyTo v.target since × AtOwn race instance tag (λ st ask. IsClear v s st ask) t entries)

-- the query for unknown documents selects none of good rows
abbrev pub FindsUnknown : {D Q : Type 0} → Select D Q → Settings D Q → Type 0
FindsUnknown select v = (rows : Rows _) → Each (λ raw doc. IsGoodOutcome (v.outcome raw doc)) rows → select.rows v.unknown rows ≡ []

-- at most fourteen replies, and two more for each page of the source, once it is blocked; fourteen where the alias was on the version's target or nowhere
abbrev pub IsWithinPages : {D : Type 0} → (pages : Rows D → ℕ) → Store D → Text → ℕ → Type 0
IsWithinPages pages st s k = (k ≤ 14) ⊎ ((index : Index _) × (at s st.indices ≡ Some index) × (index.blocked ≡ true) × (k ≤ 14 + 2 * pages index.table.rows))

-- the bound, by the index that the current alias named at the first entry
abbrev pub IsWithin : {D Q : Type 0} → (pages : Rows D → ℕ) → Settings D Q → Store D → Option Text → ℕ → Type 0
IsWithin pages v st None k = k ≤ 14
IsWithin pages v st (Some s) k = ((s ≡ v.target) × (k ≤ 14)) ⊎ IsWithinPages pages st s k

-- the start is done with its version's one target, or it has a further request within the bound
abbrev pub GoesWell : {D Q : Type 0} → (pages : Rows D → ℕ) → Settings D Q → Store D → Option Text → (heard : ℕ) → State D → Type 0
GoesWell pages v st named heard state =
    ((state ≡ Ended (End.Done v.target)) × IsWithin pages v st named heard)
    ⊎ ((ask : Request _ _) × (request v state ≡ Some ask) × IsWithin pages v st named (heard + 1))
