-- Every start of an instance is short.
use Rattle.std.specs.Prelude.{◌≡◌, ℕ, ◌+◌, ◌*◌, ◌≤◌, ◌⊎◌, true, false, List, Some}
use Rattle.base_model.specs.Keyed.{Text, at}
use Rattle.race_model.specs.Stores.{Rows, Index, Store}
use Rattle.race_model.specs.Machines.{Settings}
use Rattle.race_model.specs.Machines.State.{Init}
use Rattle.race_model.specs.Worlds.{Race, nth}
use Rattle.race_model.specs.Journals.{Past, Trace, state_of, heard_of}
use Rattle.race_facts.specs.Raced.{IsInstalled}

-- at most fourteen replies, or two more for each page of a blocked generation of a version below v
pub record ShortBy {D Q : Type 0} (pages : Rows D → ℕ) (sets : List (Settings D Q)) (v : Settings D Q) (st : Store D) (k : ℕ) : Type 0 where
  pub source : Text
  pub installed : IsInstalled sets st source
  pub not_later : v.is_later source ≡ false
  pub not_same : v.is_same source ≡ false
  pub index : Index D
  pub there : at source st.indices ≡ Some index
  pub blocked : index.blocked ≡ true
  pub few : k ≤ 14 + 2 * pages index.table.rows

-- at most fourteen replies, or as many as its source allows
abbrev pub IsShort : {D Q : Type 0} → (Rows D → ℕ) → List (Settings D Q) → Settings D Q → Store D → ℕ → Type 0
IsShort pages sets v st k = (k ≤ 14) ⊎ ShortBy pages sets v st k

-- every start is short, by the pages of its instance, and looks at the store once
pub record AllShort {D Q C : Type 0} (race : Race D Q C) (pages : (instance : ℕ) → Rows D → ℕ) (sets : List (Settings D Q)) (t : Trace D Q C) : Type 0 where
  pub short : (i : ℕ) (past : Past D Q) (tag : ℕ) → nth t.pasts i ≡ Some past → IsShort (pages i) sets (race.settings i) t.store (heard_of tag past.runs)
  pub looks_once : (i : ℕ) (past : Past D Q) (tag : ℕ) → nth t.pasts i ≡ Some past → state_of tag past.runs ≡ Init → heard_of tag past.runs ≡ 0
