-- What each event keeps of every instance holds of them in every world.
use Rattle.std.proofs.Common.{◌≡◌, ℕ, ◌+◌, List, [], ◌∷◌, Bool, true, false, Option, Some, None, refl, subst, replicate, zero, suc}
use Rattle.race_model.specs.Stores.{Store, Request, Reply, serve}
use Rattle.race_model.specs.Machines.{Machine, request, started, answered, failed}
use Rattle.race_model.specs.Worlds.{Race, Sent, Node, Caller, World, Event, nth, sent_by, stepped, step_machine, step, lost, lose_machine, lose, repeat, again, asked_by, stop_running, stop, start_idle, start, called, call, cut_off, cut, asked_of, happens, run, idle, open_world}
use Rattle.race_model.specs.Worlds.Event.{Step, Lost, Again, Stop, Start, Cut}
use Rattle.race_facts.proofs.Racing.{EachPlace, place_with, place_at}

module _ {D Q C : Type 0} (race : Race D Q C) (P : ℕ → Node D Q → Type 0)
    (at_first : (i : ℕ) → P i idle)
    (at_step : (i : ℕ) (node : Node D Q) (m : Machine D) (ask : Request D Q) (reply : Reply D) → P i node → node.machine ≡ Some m → request (race.settings i) m.state ≡ Some ask → P i (sent_by node (answered (race.settings i) m reply) ask false))
    (at_loss : (i : ℕ) (node : Node D Q) (m : Machine D) (ask : Request D Q) → P i node → node.machine ≡ Some m → request (race.settings i) m.state ≡ Some ask → P i (sent_by node (failed (race.settings i) m) ask true))
    (at_stop : (i : ℕ) (node : Node D Q) → P i (record { machine = None; starts = node.starts; sent = node.sent }))
    (at_start : (i : ℕ) (node : Node D Q) → P i (record { machine = Some started; starts = node.starts + 1; sent = node.sent })) where
  All : World D Q C → Type 0
  All w = EachPlace P w.nodes

  stepped_all : (w : World D Q C) (i : ℕ) (node : Node D Q) (m : Machine D) (o : Option (Request D Q)) → All w → nth w.nodes i ≡ Some node → node.machine ≡ Some m → request (race.settings i) m.state ≡ o → All (stepped race w i node m o)
  unfolding All
  stepped_all w i node m None a e f q = a
  stepped_all w i node m (Some ask) a e f q =
      place_with P w.nodes i node (sent_by node (answered (race.settings i) m (serve race.select w.store ask).1) ask false) a e
      (at_step i node m ask (serve race.select w.store ask).1 (place_at P w.nodes i node a e) f q)

  step_all : (w : World D Q C) (i : ℕ) (o : Option (Node D Q)) → All w → nth w.nodes i ≡ o → All (step race w i o)
  step_all w i None a e = a
  step_all w i (Some node) a e = by node.machine refl
    where
      by : (x : Option (Machine D)) → node.machine ≡ x → All (step_machine race w i node x)
      by None f = a
      by (Some m) f = stepped_all w i node m (request (race.settings i) m.state) a e f refl

  lost_all : (w : World D Q C) (i : ℕ) (was_done : Bool) (node : Node D Q) (m : Machine D) (o : Option (Request D Q)) → All w → nth w.nodes i ≡ Some node → node.machine ≡ Some m → request (race.settings i) m.state ≡ o → All (lost race w i was_done node m o)
  unfolding All
  lost_all w i was_done node m None a e f q = a
  lost_all w i true node m (Some ask) a e f q = place_with P w.nodes i node (sent_by node (failed (race.settings i) m) ask true) a e (at_loss i node m ask (place_at P w.nodes i node a e) f q)
  lost_all w i false node m (Some ask) a e f q = place_with P w.nodes i node (sent_by node (failed (race.settings i) m) ask true) a e (at_loss i node m ask (place_at P w.nodes i node a e) f q)

  lose_all : (w : World D Q C) (i : ℕ) (was_done : Bool) (o : Option (Node D Q)) → All w → nth w.nodes i ≡ o → All (lose race w i was_done o)
  lose_all w i was_done None a e = a
  lose_all w i was_done (Some node) a e = by node.machine refl
    where
      by : (x : Option (Machine D)) → node.machine ≡ x → All (lose_machine race w i was_done node x)
      by None f = a
      by (Some m) f = lost_all w i was_done node m (request (race.settings i) m.state) a e f refl

  again_all : (w : World D Q C) (i send : ℕ) (o : Option (Node D Q)) → All w → All (again race w i send o)
  unfolding All
  again_all w i send None a = a
  again_all w i send (Some node) a = by (nth node.sent send)
    where
      by : (x : Option (Sent D Q)) → EachPlace P (repeat race w i x).nodes
      by None = a
      by (Some sent) = a

  stop_all : (w : World D Q C) (i : ℕ) (o : Option (Node D Q)) → All w → nth w.nodes i ≡ o → All (stop race w i o)
  unfolding All
  stop_all w i None a e = a
  stop_all w i (Some node) a e = by (asked_by (race.settings i) node.machine)
    where
      by : (x : Option (Request D Q)) → EachPlace P (stop_running w i node x).nodes
      by None = a
      by (Some ask) = place_with P w.nodes i node (record { machine = None; starts = node.starts; sent = node.sent }) a e (at_stop i node)

  start_all : (w : World D Q C) (i : ℕ) (o : Option (Node D Q)) → All w → nth w.nodes i ≡ o → All (start race w i o)
  unfolding All
  start_all w i None a e = a
  start_all w i (Some node) a e = by (asked_by (race.settings i) node.machine)
    where
      by : (x : Option (Request D Q)) → EachPlace P (start_idle w i node x).nodes
      by (Some ask) = a
      by None = place_with P w.nodes i node (record { machine = Some started; starts = node.starts + 1; sent = node.sent }) a e (at_start i node)

  call_all : (w : World D Q C) (k : ℕ) (o : Option (Caller C)) → All w → All (call race w k o)
  unfolding All
  call_all w k None a = a
  call_all w k (Some caller) a = by (asked_of race.clients caller.cut caller.script)
    where
      by : (x : Option (Request D Q)) → EachPlace P (called race w k caller.script x).nodes
      by None = a
      by (Some ask) = a

  cut_all : (w : World D Q C) (k : ℕ) (was_done : Bool) (o : Option (Caller C)) → All w → All (cut race w k was_done o)
  unfolding All
  cut_all w k was_done None a = a
  cut_all w k was_done (Some caller) a = by was_done (asked_of race.clients caller.cut caller.script)
    where
      by : (b : Bool) (x : Option (Request D Q)) → EachPlace P (cut_off race w k b caller.script x).nodes
      by b None = a
      by true (Some ask) = a
      by false (Some ask) = a

  event_all : (w : World D Q C) (e : Event) → All w → All (happens race w e)
  unfolding happens
  event_all w (Step i) a = step_all w i (nth w.nodes i) a refl
  event_all w (Lost i was_done) a = lose_all w i was_done (nth w.nodes i) a refl
  event_all w (Again i send) a = again_all w i send (nth w.nodes i) a
  event_all w (Stop i) a = stop_all w i (nth w.nodes i) a refl
  event_all w (Start i) a = start_all w i (nth w.nodes i) a refl
  event_all w (Event.Client k) a = call_all w k (nth w.callers k) a
  event_all w (Cut k was_done) a = cut_all w k was_done (nth w.callers k) a

  run_all : (w : World D Q C) (es : List Event) → All w → All (run race w es)
  unfolding run
  run_all w [] a = a
  run_all w (e ∷ es) a = run_all (happens race w e) es (event_all w e a)

  idle_all : (n i k : ℕ) (node : Node D Q) → nth (replicate n idle) i ≡ Some node → P k node
  unfolding nth
  idle_all zero i k node e = absurd (cc)
  idle_all (suc n) zero k node e = absurd (cc)
  idle_all (suc n) (suc zero) k node e = let is : idle ≡ node = cc in subst (P k) is (at_first k)
  idle_all (suc n) (suc (suc i)) k node e = idle_all n (suc i) k node e

  open_all : (st : Store D) (instances : ℕ) (scripts : List C) → All (open_world st instances scripts)
  unfolding All EachPlace
  open_all st instances scripts = λ i node e. idle_all instances i i node e

  pub every_node : (st : Store D) (instances : ℕ) (scripts : List C) (es : List Event) (i : ℕ) (node : Node D Q) → nth (run race (open_world st instances scripts) es).nodes i ≡ Some node → P i node
  unfolding All
  every_node st instances scripts es i node e = place_at P (run race (open_world st instances scripts) es).nodes i node (run_all (open_world st instances scripts) es (open_all st instances scripts)) e
