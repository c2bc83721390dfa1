-- Which journals conform: what each entry may be, after the entries before it.
use Rattle.std.specs.Prelude.{◌≡◌, ℕ, ◌+◌, ◌≤◌, ◌⊎◌, true, false, List, [], ◌∷◌, Option, Some, None, if◌then◌else◌, ◌==◌, replicate}
use Rattle.race_model.specs.Stores.{Store, Request, Reply, serve}
use Rattle.race_model.specs.Machines.{Settings, State, request, moved}
use Rattle.race_model.specs.Machines.State.{Init}
use Rattle.race_model.specs.Worlds.{Clients, Race, Actor, How, Entry, Caller, nth, with_nth, asked_of, callers_of}
use Rattle.race_model.specs.Worlds.Actor.{Instance, Client}
use Rattle.race_model.specs.Worlds.How.{Heard, Unheard, Late}

-- one start of an instance, as the entries tell of it
pub record Run (D : Type 0) : Type 0 where
  pub tag : ℕ
  pub state : State D
  -- how many of its replies it heard
  pub heard : ℕ

-- what the entries so far tell of an instance: its starts that made an entry, newest first, and the requests of its entries
pub record Past (D Q : Type 0) : Type 0 where
  pub runs : List (Run D)
  pub asked : List (Request D Q)

-- what the entries so far leave
pub record Trace (D Q C : Type 0) : Type 0 where
  pub store : Store D
  pub pasts : List (Past D Q)
  pub callers : List (Caller C)

-- the state of the start with this tag: Init where it made no entry yet
unfoldable pub state_of : {D : Type 0} → ℕ → List (Run D) → State D
state_of tag [] = Init
state_of tag (r ∷ rs) = if tag == r.tag then r.state else state_of tag rs

-- how many replies the start with this tag heard
unfoldable pub heard_of : {D : Type 0} → ℕ → List (Run D) → ℕ
heard_of tag [] = 0
heard_of tag (r ∷ rs) = if tag == r.tag then r.heard else heard_of tag rs

-- the newest tag
abbrev pub newest : {D : Type 0} → List (Run D) → ℕ
newest [] = 0
newest (r ∷ rs) = r.tag

-- the list has this element
unfoldable pub Has : {A : Type 0} → A → List A → Type 0
Has x [] = ⊥
Has x (y ∷ ys) = (x ≡ y) ⊎ Has x ys

-- a late request repeats one of an entry, or is the next of one of the starts
abbrev pub IsKnown : {D Q : Type 0} → Settings D Q → Past D Q → Request D Q → Type 0
IsKnown s past ask = Has ask past.asked ⊎ ((tag : ℕ) × (request s (state_of tag past.runs) ≡ Some ask))

-- what an instance may do: its Heard and Unheard entries are the requests of its starts, with tags that never fall
abbrev pub MayInstance : {D Q : Type 0} → Settings D Q → How → Option (Past D Q) → ℕ → Request D Q → Type 0
MayInstance s how None tag ask = ⊥
MayInstance s Late (Some past) tag ask = IsKnown s past ask
MayInstance s Heard (Some past) tag ask = (newest past.runs ≤ tag) × (request s (state_of tag past.runs) ≡ Some ask)
MayInstance s Unheard (Some past) tag ask = (newest past.runs ≤ tag) × (request s (state_of tag past.runs) ≡ Some ask)

-- what a client may do: the requests of its script in order, until it is cut
abbrev pub MayClient : {D Q C : Type 0} → Clients D Q C → How → Option (Caller C) → ℕ → Request D Q → Type 0
MayClient clients how None tag ask = ⊥
MayClient clients Late (Some caller) tag ask = ⊥
MayClient clients Heard (Some caller) tag ask = (asked_of clients caller.cut caller.script ≡ Some ask) × (tag ≡ clients.call caller.script)
MayClient clients Unheard (Some caller) tag ask = (asked_of clients caller.cut caller.script ≡ Some ask) × (tag ≡ clients.call caller.script)

-- the entry is one that its actor may make
abbrev pub MayMake : {D Q C : Type 0} → Race D Q C → Trace D Q C → Actor → How → ℕ → Request D Q → Type 0
MayMake race t (Instance i) how tag ask = MayInstance (race.settings i) how (nth t.pasts i) tag ask
MayMake race t (Client k) how tag ask = MayClient race.clients how (nth t.callers k) tag ask

-- the past after an entry
abbrev pub past_after : {D Q : Type 0} → Settings D Q → How → Past D Q → ℕ → Request D Q → Reply D → Past D Q
past_after s Late past tag ask reply = record { runs = past.runs; asked = ask ∷ past.asked }
past_after s Heard past tag ask reply = record { runs = record { tag = tag; state = moved s (state_of tag past.runs) reply; heard = heard_of tag past.runs + 1 } ∷ past.runs; asked = ask ∷ past.asked }
past_after s Unheard past tag ask reply = record { runs = record { tag = tag; state = state_of tag past.runs; heard = heard_of tag past.runs } ∷ past.runs; asked = ask ∷ past.asked }

-- the pasts of all instances after an entry of instance i
abbrev pub pasts_after : {D Q : Type 0} → Settings D Q → List (Past D Q) → ℕ → Option (Past D Q) → How → ℕ → Request D Q → Reply D → List (Past D Q)
pasts_after s pasts i None how tag ask reply = pasts
pasts_after s pasts i (Some past) how tag ask reply = with_nth pasts i (past_after s how past tag ask reply)

-- a client after one of its entries
abbrev pub caller_after : {D Q C : Type 0} → Clients D Q C → How → Caller C → Reply D → Caller C
caller_after clients Heard caller reply = record { script = clients.told caller.script reply; cut = false }
caller_after clients Unheard caller reply = record { script = caller.script; cut = true }
caller_after clients Late caller reply = caller

-- all clients after an entry of client k
abbrev pub callers_after : {D Q C : Type 0} → Clients D Q C → List (Caller C) → ℕ → Option (Caller C) → How → Reply D → List (Caller C)
callers_after clients callers k None how reply = callers
callers_after clients callers k (Some caller) how reply = with_nth callers k (caller_after clients how caller reply)

-- what one more entry leaves
abbrev pub follow_over : {D Q C : Type 0} → Race D Q C → Trace D Q C → Actor → How → ℕ → Request D Q → Reply D → Store D → Trace D Q C
follow_over race t (Instance i) how tag ask reply st =
    record { store = st; pasts = pasts_after (race.settings i) t.pasts i (nth t.pasts i) how tag ask reply; callers = t.callers }
follow_over race t (Client k) how tag ask reply st =
    record { store = st; pasts = t.pasts; callers = callers_after race.clients t.callers k (nth t.callers k) how reply }

-- what is left after one more entry
unfoldable pub followed : {D Q C : Type 0} → Race D Q C → Trace D Q C → Entry D Q → Trace D Q C
followed race t e = follow_over race t e.actor e.how e.tag e.request e.reply (serve race.select t.store e.request).0

-- the entry may come next, with the reply of the store
unfoldable pub MayCome : {D Q C : Type 0} → Race D Q C → Trace D Q C → Entry D Q → Type 0
MayCome race t e = MayMake race t e.actor e.how e.tag e.request × (e.reply ≡ (serve race.select t.store e.request).1)

-- each entry may come after those before it
unfoldable pub Conforms : {D Q C : Type 0} → Race D Q C → Trace D Q C → List (Entry D Q) → Type 0
Conforms race t [] = Unit {0}
Conforms race t (e ∷ es) = MayCome race t e × Conforms race (followed race t e) es

-- what is left after these entries
unfoldable pub all_followed : {D Q C : Type 0} → Race D Q C → Trace D Q C → List (Entry D Q) → Trace D Q C
all_followed race t [] = t
all_followed race t (e ∷ es) = all_followed race (followed race t e) es

-- before the first entry
abbrev pub open_trace : {D Q C : Type 0} → Store D → ℕ → List C → Trace D Q C
open_trace st instances scripts = record { store = st; pasts = replicate instances (record { runs = []; asked = [] }); callers = callers_of scripts }
