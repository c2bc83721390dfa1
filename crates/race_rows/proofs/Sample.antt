-- A sample for the worked rows: texts of one or two numbers as names, numbers as documents.
use Rattle.std.proofs.Common.{ℕ, zero, suc, ◌+◌, List, [], ◌∷◌, ◌++◌, length, take, Bool, false, Option, Some, None, if◌then◌else◌, nat_lt, ◌==◌}
use Rattle.base_model.specs.Keyed.{Text, same, text_lt}
use Rattle.race_model.specs.Stores.{Rows, Index, Store, Reply, Refusal}
use Rattle.race_model.specs.Machines.{Settings, State, Machine, End}
use Rattle.race_model.specs.Machines.State.{Ended}
use Rattle.race_model.specs.Worlds.{Race, Entry, Node, World, Event}
use Rattle.race_model.specs.History.{Fact, facts}
use Rattle.base_model.specs.Outcomes.Outcome.{Outputs}
use Rattle.race_model.specs.Stores.Reply.{Refused}
use Rattle.race_model.specs.Worlds.{Clients}
use Rattle.race_model.specs.Openings.{opening_store}
use Rattle.race_model.specs.Openings.Opening.{NoGeneration, OneGeneration}

abbrev pub Q : Type 0
Q = ℕ × Option Text

-- the rows above a raw id
abbrev pub above : Option Text → Rows ℕ → Rows ℕ
above None rows = rows
above (Some a) [] = []
above (Some a) (r ∷ rs) = if text_lt a r.0 then r ∷ above (Some a) rs else above (Some a) rs

-- a query of size 0 selects nothing, another one so many rows after a raw id
abbrev pub chosen : ℕ → Option Text → Rows ℕ → Rows ℕ
chosen zero after rows = []
chosen (suc size) after rows = take (suc size) (above after rows)

-- the names of version 7.v.0
abbrev pub current : Text
current = 1 ∷ []

abbrev pub alias_of : ℕ → Text
alias_of v = 2 ∷ v ∷ []

abbrev pub target_of : ℕ → Text
target_of v = 3 ∷ v ∷ []

abbrev pub temp_of : ℕ → Text
temp_of v = 4 ∷ v ∷ []

abbrev pub version_in : Text → Option Text
version_in (k ∷ v ∷ []) = if k == 3 then Some (v ∷ []) else None
version_in _ = None

abbrev pub is_above : ℕ → Text → Bool
is_above v (k ∷ w ∷ []) = if k == 3 then nat_lt v w else false
is_above v _ = false

-- the target set of a version with a batch of so many rows
abbrev pub set_of : (size version : ℕ) → Settings ℕ Q
set_of size v = record {
  current = current;
  version = alias_of v;
  target = target_of v;
  temp = temp_of v;
  is_later = λ n. is_above v n;
  is_same = λ n. same n (target_of v);
  unknown = (0, None);
  page = λ a. (size, a);
  outdated = λ a. (0, a);
  outcome = λ raw doc. Outputs ((raw, doc + 100) ∷ []);
  attempts = 15;
}

-- no client
abbrev pub nobody : Clients ℕ Q ℕ
nobody = record { asks = λ c. None; told = λ c r. c; call = λ c. 0 }

abbrev pub race_of : {C : Type 0} → Clients ℕ Q C → (ℕ → Settings ℕ Q) → Race ℕ Q C
race_of clients sets = record { select = record { rows = λ q rows. chosen q.0 q.1 rows; total = λ q rows. length rows }; settings = sets; clients = clients }

-- instances of version 7.12.0
abbrev pub upgrade : ℕ → Race ℕ Q ℕ
upgrade size = race_of nobody (λ i. set_of size 12)

-- instance 1 of version 7.12.0, the others of 7.13.0
abbrev pub two_versions : Race ℕ Q ℕ
two_versions = race_of nobody (λ i. if i == 1 then set_of 1000 12 else set_of 1000 13)

-- version 7.11.0 with these rows
abbrev pub opening : Rows ℕ → Store ℕ
opening rows = opening_store current (OneGeneration (set_of 1000 11) (record { rows = rows; next = length rows }))

abbrev pub empty : Store ℕ
empty = opening_store {Q = Q} current NoGeneration

-- dashboards a and b, and what they become
abbrev pub a : Text
a = 10 ∷ []

abbrev pub two : Rows ℕ
two = (a, record { seq = 0; doc = 1 }) ∷ (11 ∷ [], record { seq = 1; doc = 2 }) ∷ []

abbrev pub moved_two : Rows ℕ
moved_two = (a, record { seq = 0; doc = 101 }) ∷ (11 ∷ [], record { seq = 1; doc = 102 }) ∷ []

abbrev pub times : ℕ → List Event → List Event
times zero es = []
times (suc n) es = es ++ times n es

abbrev pub ends : List (Node ℕ Q) → List (Option (State ℕ))
ends [] = []
ends (n ∷ ns) = state n.machine ∷ ends ns
  where
    state : Option (Machine ℕ) → Option (State ℕ)
    state None = None
    state (Some m) = Some m.state

abbrev pub delays : List (Node ℕ Q) → List ℕ
delays [] = []
delays (n ∷ ns) = delay n.machine ∷ delays ns
  where
    delay : Option (Machine ℕ) → ℕ
    delay None = 0
    delay (Some m) = m.delay_ms

abbrev pub done : ℕ → Option (State ℕ)
done v = Some (Ended (End.Done (target_of v)))

-- the facts of a world over 7.11.0
abbrev pub history : {C : Type 0} → World ℕ Q C → List Fact
history w = facts current version_in (Some (target_of 11)) w.journal

-- the refusals in a journal, with their places
abbrev pub refusals : ℕ → List (Entry ℕ Q) → List (ℕ × Refusal)
refusals n [] = []
refusals n (e ∷ es) = refusal n e.reply (refusals (n + 1) es)
  where
    refusal : ℕ → Reply ℕ → List (ℕ × Refusal) → List (ℕ × Refusal)
    refusal n (Refused why) rest = (n, why) ∷ rest
    refusal n _ rest = rest

-- an index with these rows
abbrev pub index_of : Bool → Option Text → Rows ℕ → ℕ → Index ℕ
index_of blocked source rows next = record { blocked = blocked; source = source; table = record { rows = rows; next = next } }
