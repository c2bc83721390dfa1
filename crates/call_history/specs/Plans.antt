-- What the plans of calls owe on all generations that an opening may become.
use Rattle.std.specs.Prelude.{◌≡◌, ◌⊎◌, ℕ, List, [], ◌∷◌, Some, None}
use Rattle.race_model.specs.Stores.{Request}
use Rattle.race_model.specs.Machines.{Settings}
use Rattle.race_model.specs.Generations.{Generations, Move, told_by, left_by, move}
use Rattle.race_model.specs.Runs.{MayMove}
use Rattle.document_model.specs.Documents.{Doc}
use Rattle.query_model.specs.Queries.{Query, select}
use Rattle.call_model.specs.Words.{Words}
use Rattle.call_model.specs.Scripts.{Script, clients, decided, outcome, left}
use Rattle.call_laws.specs.Meanings.{Keeps}

-- a move that a history may make: one of an instance, or a client's request that keeps alias documents
abbrev pub MayBeMade : {A F : Type 0} → (settings : ℕ → Settings (Doc A) (Query F)) → Generations (Doc A) → Move (Doc A) (Query F) → Type 0
MayBeMade settings gs (Move.Ask ask) = Keeps gs ask
MayBeMade settings gs m = (i : ℕ) × MayMove (settings i) gs m

-- the moves in order lead there, each one that may be made
unfoldable pub Path : {A F : Type 0} → (settings : ℕ → Settings (Doc A) (Query F)) → Generations (Doc A) → List (Move (Doc A) (Query F)) → Generations (Doc A) → Type 0
Path settings gs [] later = gs ≡ later
Path settings gs (m ∷ ms) later = MayBeMade settings gs m × Path settings (move gs m) ms later

-- the generations may become these
abbrev pub Reaches : {A F : Type 0} → (settings : ℕ → Settings (Doc A) (Query F)) → Generations (Doc A) → Generations (Doc A) → Type 0
Reaches settings gs later = (ms : List (Move (Doc _) (Query _))) × Path settings gs ms later

-- the request on these generations decides the call that began as `first` on the generations seen: with the answer and the generations that the call means
pub record Decides {A O F : Type 0} (w : Words A O F) (first script : Script A O) (seen now : Generations (Doc A)) (ask : Request (Doc A) (Query F)) : Type 0 where
  pub keeps : Keeps now ask
  pub answer : decided w script (told_by (select w.holds) now ask) ≡ Some (outcome w first seen now).1
  pub effect : left_by now ask ≡ left w first seen now
  pub next : ((clients w).told script (told_by (select w.holds) now ask)).heard ≡ None

-- the request reads and changes nothing, and the next one decides, however much later
pub record GoesOn {A O F : Type 0} (w : Words A O F) (settings : ℕ → Settings (Doc A) (Query F)) (script : Script A O) (seen : Generations (Doc A)) (ask : Request (Doc A) (Query F)) : Type 0 where
  pub keeps : Keeps seen ask
  pub undecided : decided w script (told_by (select w.holds) seen ask) ≡ None
  pub reads : left_by seen ask ≡ seen
  pub then : (later : Generations (Doc A)) (second : Request (Doc A) (Query F)) → Reaches settings seen later → (clients w).asks ((clients w).told script (told_by (select w.holds) seen ask)) ≡ Some second
      → Decides w script ((clients w).told script (told_by (select w.holds) seen ask)) seen later second

-- on all generations that the opening may become, a call makes one request, or two
abbrev pub Plans : {A O F : Type 0} → Words A O F → (settings : ℕ → Settings (Doc A) (Query F)) → Generations (Doc A) → Type 0
Plans {O = O} w settings opening =
    (script : Script _ O) (ask : Request (Doc _) (Query _)) (gs : Generations (Doc _)) → Reaches settings opening gs → script.heard ≡ None → (clients w).asks script ≡ Some ask
    → Decides w script script gs gs ask ⊎ GoesOn w settings script gs ask
