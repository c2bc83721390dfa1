-- A world of instances and clients over one store: what each event does.
use Rattle.std.specs.Prelude.{ℕ, zero, suc, ◌+◌, Bool, true, false, List, [], ◌∷◌, ◌++◌, replicate, Option, Some, None}
use Rattle.race_model.specs.Stores.{Store, Select, Request, Reply, serve}
use Rattle.race_model.specs.Machines.{Settings, Machine, request, started, answered, failed}

-- what clients do: C is a client's script with what it was told so far
pub record Clients (D Q C : Type 0) : Type 0 where
  -- the next request, none where the calls are used up
  pub asks : C → Option (Request D Q)
  pub told : C → Reply D → C
  -- the number of the call that the next request is of
  pub call : C → ℕ

-- all that a race is about: each instance has the settings of its target set
pub record Race (D Q C : Type 0) : Type 0 where
  pub select : Select D Q
  pub settings : (instance : ℕ) → Settings D Q
  pub clients : Clients D Q C

-- who makes an entry
pub data Actor : Type 0 where
  Instance : ℕ → Actor
  Client : ℕ → Actor

-- the number of an actor
abbrev pub number_of : Actor → ℕ
number_of (Instance i) = i
number_of (Client k) = 100 + k

-- whether the reply was heard, or the request came late
pub data How : Type 0 where
  Heard : How
  Unheard : How
  Late : How

-- a request that was done, with its reply
pub record Entry (D Q : Type 0) : Type 0 where
  pub actor : Actor
  pub tag : ℕ
  pub how : How
  pub request : Request D Q
  pub reply : Reply D

-- a request that an instance sent, under which start, and whether the send failed
pub record Sent (D Q : Type 0) : Type 0 where
  pub tag : ℕ
  pub request : Request D Q
  pub failed : Bool

-- an instance: its machine between a start and a stop, the number of starts, all that it ever sent
pub record Node (D Q : Type 0) : Type 0 where
  pub machine : Option (Machine D)
  pub starts : ℕ
  pub sent : List (Sent D Q)

-- a client: its script, and whether it was cut
pub record Caller (C : Type 0) : Type 0 where
  pub script : C
  pub cut : Bool

-- a store, its journal, the instances and the clients
pub record World (D Q C : Type 0) : Type 0 where
  pub store : Store D
  pub journal : List (Entry D Q)
  pub nodes : List (Node D Q)
  pub callers : List (Caller C)

-- what may happen next
pub data Event : Type 0 where
  Step : (instance : ℕ) → Event
  Lost : (instance : ℕ) → (done : Bool) → Event
  Again : (instance send : ℕ) → Event
  Stop : (instance : ℕ) → Event
  Start : (instance : ℕ) → Event
  Client : (client : ℕ) → Event
  Cut : (client : ℕ) → (done : Bool) → Event

-- the element at a place, from 1
unfoldable pub nth : {A : Type 0} → List A → ℕ → Option A
nth [] n = None
nth (x ∷ xs) zero = None
nth (x ∷ xs) (suc zero) = Some x
nth (x ∷ xs) (suc (suc n)) = nth xs (suc n)

-- the list with another element at a place
unfoldable pub with_nth : {A : Type 0} → List A → ℕ → A → List A
with_nth [] n y = []
with_nth (x ∷ xs) zero y = x ∷ xs
with_nth (x ∷ xs) (suc zero) y = y ∷ xs
with_nth (x ∷ xs) (suc (suc n)) y = x ∷ with_nth xs (suc n) y

-- the request done, with its entry at the journal's end
abbrev pub done : {D Q C : Type 0} → Race D Q C → World D Q C → Actor → ℕ → How → Request D Q → World D Q C
done race w actor tag how ask =
    record {
      store = (serve race.select w.store ask).0;
      journal = w.journal ++ record { actor = actor; tag = tag; how = how; request = ask; reply = (serve race.select w.store ask).1 } ∷ [];
      nodes = w.nodes;
      callers = w.callers;
    }

-- done, or lost on the way
abbrev pub done_where : {D Q C : Type 0} → Bool → Race D Q C → World D Q C → Actor → ℕ → How → Request D Q → World D Q C
done_where true race w actor tag how ask = done race w actor tag how ask
done_where false race w actor tag how ask = w

-- the world with this instance at place i
abbrev pub with_node : {D Q C : Type 0} → World D Q C → ℕ → Node D Q → World D Q C
with_node w i node = record { store = w.store; journal = w.journal; nodes = with_nth w.nodes i node; callers = w.callers }

-- the world with this client at place k
abbrev pub with_caller : {D Q C : Type 0} → World D Q C → ℕ → Caller C → World D Q C
with_caller w k caller = record { store = w.store; journal = w.journal; nodes = w.nodes; callers = with_nth w.callers k caller }

-- the node after its machine sent a request and is m now
abbrev pub sent_by : {D Q : Type 0} → Node D Q → Machine D → Request D Q → Bool → Node D Q
sent_by node m ask failed =
    record { machine = Some m; starts = node.starts; sent = node.sent ++ record { tag = node.starts; request = ask; failed = failed } ∷ [] }

-- the request is done and its reply moves the machine
abbrev pub stepped : {D Q C : Type 0} → Race D Q C → World D Q C → ℕ → Node D Q → Machine D → Option (Request D Q) → World D Q C
stepped race w i node m None = w
stepped race w i node m (Some ask) =
    with_node (done race w (Instance i) node.starts Heard ask) i (sent_by node (answered (race.settings i) m (serve race.select w.store ask).1) ask false)

-- nothing where no machine runs
abbrev pub step_machine : {D Q C : Type 0} → Race D Q C → World D Q C → ℕ → Node D Q → Option (Machine D) → World D Q C
step_machine race w i node None = w
step_machine race w i node (Some m) = stepped race w i node m (request (race.settings i) m.state)

-- Step
abbrev pub step : {D Q C : Type 0} → Race D Q C → World D Q C → ℕ → Option (Node D Q) → World D Q C
step race w i None = w
step race w i (Some node) = step_machine race w i node node.machine

-- the send fails, whether or not the request was done
abbrev pub lost : {D Q C : Type 0} → Race D Q C → World D Q C → ℕ → Bool → Node D Q → Machine D → Option (Request D Q) → World D Q C
lost race w i was_done node m None = w
lost race w i was_done node m (Some ask) =
    with_node (done_where was_done race w (Instance i) node.starts Unheard ask) i (sent_by node (failed (race.settings i) m) ask true)

-- nothing where no machine runs
abbrev pub lose_machine : {D Q C : Type 0} → Race D Q C → World D Q C → ℕ → Bool → Node D Q → Option (Machine D) → World D Q C
lose_machine race w i was_done node None = w
lose_machine race w i was_done node (Some m) = lost race w i was_done node m (request (race.settings i) m.state)

-- Lost
abbrev pub lose : {D Q C : Type 0} → Race D Q C → World D Q C → ℕ → Bool → Option (Node D Q) → World D Q C
lose race w i was_done None = w
lose race w i was_done (Some node) = lose_machine race w i was_done node node.machine

-- a request that was sent is done late
abbrev pub repeat : {D Q C : Type 0} → Race D Q C → World D Q C → ℕ → Option (Sent D Q) → World D Q C
repeat race w i None = w
repeat race w i (Some sent) = done race w (Instance i) sent.tag Late sent.request

-- Again
abbrev pub again : {D Q C : Type 0} → Race D Q C → World D Q C → ℕ → ℕ → Option (Node D Q) → World D Q C
again race w i send None = w
again race w i send (Some node) = repeat race w i (nth node.sent send)

-- the request of a machine where there is one
abbrev pub asked_by : {D Q : Type 0} → Settings D Q → Option (Machine D) → Option (Request D Q)
asked_by s None = None
asked_by s (Some m) = request s m.state

-- an instance is running where it has a request
abbrev pub stop_running : {D Q C : Type 0} → World D Q C → ℕ → Node D Q → Option (Request D Q) → World D Q C
stop_running w i node None = w
stop_running w i node (Some ask) = with_node w i (record { machine = None; starts = node.starts; sent = node.sent })

-- Stop
abbrev pub stop : {D Q C : Type 0} → Race D Q C → World D Q C → ℕ → Option (Node D Q) → World D Q C
stop race w i None = w
stop race w i (Some node) = stop_running w i node (asked_by (race.settings i) node.machine)

-- a new machine with the next tag, where none runs
abbrev pub start_idle : {D Q C : Type 0} → World D Q C → ℕ → Node D Q → Option (Request D Q) → World D Q C
start_idle w i node (Some ask) = w
start_idle w i node None = with_node w i (record { machine = Some started; starts = node.starts + 1; sent = node.sent })

-- Start
abbrev pub start : {D Q C : Type 0} → Race D Q C → World D Q C → ℕ → Option (Node D Q) → World D Q C
start race w i None = w
start race w i (Some node) = start_idle w i node (asked_by (race.settings i) node.machine)

-- the next request of a client, none where it was cut
abbrev pub asked_of : {D Q C : Type 0} → Clients D Q C → Bool → C → Option (Request D Q)
asked_of clients true script = None
asked_of clients false script = clients.asks script

-- the client's request is done and its reply told
abbrev pub called : {D Q C : Type 0} → Race D Q C → World D Q C → ℕ → C → Option (Request D Q) → World D Q C
called race w k script None = w
called race w k script (Some ask) =
    with_caller (done race w (Client k) (race.clients.call script) Heard ask) k
    (record { script = race.clients.told script (serve race.select w.store ask).1; cut = false })

-- Client
abbrev pub call : {D Q C : Type 0} → Race D Q C → World D Q C → ℕ → Option (Caller C) → World D Q C
call race w k None = w
call race w k (Some caller) = called race w k caller.script (asked_of race.clients caller.cut caller.script)

-- the client ends, whether or not its request was done
abbrev pub cut_off : {D Q C : Type 0} → Race D Q C → World D Q C → ℕ → Bool → C → Option (Request D Q) → World D Q C
cut_off race w k was_done script None = w
cut_off race w k was_done script (Some ask) =
    with_caller (done_where was_done race w (Client k) (race.clients.call script) Unheard ask) k (record { script = script; cut = true })

-- Cut
abbrev pub cut : {D Q C : Type 0} → Race D Q C → World D Q C → ℕ → Bool → Option (Caller C) → World D Q C
cut race w k was_done None = w
cut race w k was_done (Some caller) = cut_off race w k was_done caller.script (asked_of race.clients caller.cut caller.script)

-- what an event does
unfoldable pub happens : {D Q C : Type 0} → Race D Q C → World D Q C → Event → World D Q C
happens race w (Step i) = step race w i (nth w.nodes i)
happens race w (Lost i was_done) = lose race w i was_done (nth w.nodes i)
happens race w (Again i send) = again race w i send (nth w.nodes i)
happens race w (Stop i) = stop race w i (nth w.nodes i)
happens race w (Start i) = start race w i (nth w.nodes i)
happens race w (Event.Client k) = call race w k (nth w.callers k)
happens race w (Cut k was_done) = cut race w k was_done (nth w.callers k)

-- a whole schedule
unfoldable pub run : {D Q C : Type 0} → Race D Q C → World D Q C → List Event → World D Q C
run race w [] = w
run race w (e ∷ es) = run race (happens race w e) es

-- what has run nothing
abbrev pub idle : {D Q : Type 0} → Node D Q
idle = record { machine = None; starts = 0; sent = [] }

-- clients that nothing cut
abbrev pub callers_of : {C : Type 0} → List C → List (Caller C)
callers_of [] = []
callers_of (c ∷ cs) = record { script = c; cut = false } ∷ callers_of cs

-- nothing has happened
abbrev pub open_world : {D Q C : Type 0} → Store D → ℕ → List C → World D Q C
open_world st instances scripts = record { store = st; journal = []; nodes = replicate instances idle; callers = callers_of scripts }
