-- A machine gives up only where one of its start's sends failed.
use Rattle.std.proofs.Common.{◌≡◌, ℕ, ◌+◌, List, [], ◌∷◌, ◌++◌, Bool, true, false, Option, Some, None, refl, sym, ◌∙◌, ap, subst, if◌then◌else◌}
use mathlib.Core.Logic.◌⊎◌.{inl, inr}
use Rattle.base_model.specs.Keyed.{Text, at}
use Rattle.race_model.specs.Stores.{IndexSeen, Store, Request, Reply}
use Rattle.race_model.specs.Stores.Reply.{Seen}
use Rattle.race_model.specs.Machines.{Settings, State, StateName, Machine, request, moved, started, answered, is_on, unless_left, unless_legacy, by_index, by_aliases, from_state}
use Rattle.race_model.specs.Machines.Cause.{NewerIndex, VersionAliasMissing, Leftover}
use Rattle.race_model.specs.Machines.End.{Fatal, GaveUp}
use Rattle.race_model.specs.Machines.Finish.{Stands, Switch}
use Rattle.race_model.specs.Machines.State.{Init, CreateNewTarget, CheckUnknown, SetSourceBlock, CreateTemp, ReindexOpen, ReindexRead, ReindexBulk, ReindexClose, SetTempBlock, CloneTemp, OutdatedOpen, OutdatedRead, OutdatedBulk, OutdatedClose, MarkReady, MarkReadyConflict, Ended}
use Rattle.race_model.specs.Worlds.{Race, Sent, Node, Event, nth, sent_by, run, open_world}
use Rattle.race_model.specs.Journals.{Past, Trace, state_of}
use Rattle.race_follow.proofs.Following.{places_at, NodeAgrees, Agrees}
use Rattle.race_claims.specs.Unfailing.{HasFailed}
use Rattle.race_claims.proofs.Nodes.{every_node}
use Rattle.race_claims.proofs.Ways.{Way, Next, nexts}
use Rattle.race_claims.proofs.Ways.Way.{Fresh, Standing, Below}

-- the machine didn't give up
abbrev pub Sane : {D : Type 0} → State D → Type 0
Sane (Ended (GaveUp name faults)) = ⊥
Sane _ = Unit {0}

next_sane : {D : Type 0} (w : Way) (x y : State D) → Next w x y → Sane y
next_sane w x (Ended (GaveUp name faults)) k = k
next_sane w x _ k = tt

-- a way that a state is on
abbrev way_of : {D : Type 0} → State D → Way
way_of (CheckUnknown n) = Below n
way_of (SetSourceBlock n) = Below n
way_of (CreateTemp n) = Below n
way_of (ReindexOpen n) = Below n
way_of (ReindexRead n p after pass) = Below n
way_of (ReindexBulk n p last pass outputs) = Below n
way_of (ReindexClose n p) = Below n
way_of (SetTempBlock n) = Below n
way_of (CloneTemp n) = Below n
way_of (OutdatedOpen (Stands index)) = Standing
way_of (OutdatedOpen (Switch n)) = Below n
way_of (OutdatedRead (Stands index) p after) = Standing
way_of (OutdatedRead (Switch n) p after) = Below n
way_of (OutdatedBulk (Stands index) p last writes) = Standing
way_of (OutdatedBulk (Switch n) p last writes) = Below n
way_of (OutdatedClose (Stands index) p) = Standing
way_of (OutdatedClose (Switch n) p) = Below n
way_of (MarkReady (Some n)) = Below n
way_of _ = Fresh

module _ {D Q : Type 0} (v : Settings D Q) where
  left_sane : (n : Text) (o : Option IndexSeen) (from : Text) (next : State D) → Sane next → Sane (unless_left n o from next)
  left_sane n None from next k = k
  left_sane n (Some ix) from next k = by (is_on from ix.source)
    where
      by : (b : Bool) → Sane (if b then next else Ended (Fatal (Leftover n ix.source from)))
      by true = k
      by false = tt

  index_sane : (index : Text) (on : Bool) (temp target : Option IndexSeen) → Sane (by_index {D = D} v index on temp target)
  index_sane index true temp target = tt
  index_sane index false temp target = by (v.is_later index) (v.is_same index)
    where
      next : State D
      next = unless_left v.temp temp index (unless_left v.target target index (CheckUnknown index))

      by : (later equal : Bool) → Sane (if later then Ended (Fatal (NewerIndex index)) else if equal then Ended (Fatal (VersionAliasMissing index)) else next)
      by true equal = tt
      by false true = tt
      by false false = left_sane v.temp temp index (unless_left v.target target index (CheckUnknown index)) (left_sane v.target target index (CheckUnknown index) tt)

  first_sane : (legacy : Option IndexSeen) (on ver : Option Text) (temp target : Option IndexSeen) → Sane (unless_legacy {D = D} v legacy (by_aliases v on ver temp target))
  first_sane (Some ix) on ver temp target = tt
  first_sane None None ver temp target = tt
  first_sane None (Some index) ver temp target = index_sane index (is_on index ver) temp target

  from_state_sane : (reply : Reply D) → Sane (from_state v reply)
  from_state_sane (Seen indices aliases) = first_sane (at v.current indices) (at v.current aliases) (at v.version aliases) (at v.temp indices) (at v.target indices)
  from_state_sane _ = tt

  -- no reply makes a running machine give up
  pub moved_sane : (x : State D) (ask : Request D Q) (reply : Reply D) → request v x ≡ Some ask → Sane (moved v x reply)
  unfolding moved request
  moved_sane Init ask reply e = from_state_sane reply
  moved_sane (Ended end) ask reply e = absurd (cc)
  moved_sane (OutdatedOpen (Stands index)) ask reply e = next_sane Standing (OutdatedOpen (Stands index)) _ (nexts v Standing (OutdatedOpen (Stands index)) reply tt (λ end f. cc))
  moved_sane (OutdatedOpen (Switch n)) ask reply e = next_sane (Below n) (OutdatedOpen (Switch n)) _ (nexts v (Below n) (OutdatedOpen (Switch n)) reply refl (λ end f. cc))
  moved_sane (OutdatedRead (Stands index) p after) ask reply e = next_sane Standing (OutdatedRead (Stands index) p after) _ (nexts v Standing (OutdatedRead (Stands index) p after) reply tt (λ end f. cc))
  moved_sane (OutdatedRead (Switch n) p after) ask reply e = next_sane (Below n) (OutdatedRead (Switch n) p after) _ (nexts v (Below n) (OutdatedRead (Switch n) p after) reply refl (λ end f. cc))
  moved_sane (OutdatedBulk (Stands index) p last writes) ask reply e = next_sane Standing (OutdatedBulk (Stands index) p last writes) _ (nexts v Standing (OutdatedBulk (Stands index) p last writes) reply tt (λ end f. cc))
  moved_sane (OutdatedBulk (Switch n) p last writes) ask reply e = next_sane (Below n) (OutdatedBulk (Switch n) p last writes) _ (nexts v (Below n) (OutdatedBulk (Switch n) p last writes) reply refl (λ end f. cc))
  moved_sane (OutdatedClose (Stands index) p) ask reply e = next_sane Standing (OutdatedClose (Stands index) p) _ (nexts v Standing (OutdatedClose (Stands index) p) reply tt (λ end f. cc))
  moved_sane (OutdatedClose (Switch n) p) ask reply e = next_sane (Below n) (OutdatedClose (Switch n) p) _ (nexts v (Below n) (OutdatedClose (Switch n) p) reply refl (λ end f. cc))
  moved_sane (MarkReady None) ask reply e = next_sane Fresh (MarkReady None) _ (nexts v Fresh (MarkReady None) reply tt (λ end f. cc))
  moved_sane (MarkReady (Some n)) ask reply e = next_sane (Below n) (MarkReady (Some n)) _ (nexts v (Below n) (MarkReady (Some n)) reply refl (λ end f. cc))
  moved_sane CreateNewTarget ask reply e = next_sane Fresh CreateNewTarget _ (nexts v Fresh CreateNewTarget reply tt (λ end f. cc))
  moved_sane MarkReadyConflict ask reply e = next_sane Fresh MarkReadyConflict _ (nexts v Fresh MarkReadyConflict reply tt (λ end f. cc))
  moved_sane x ask reply e = next_sane (way_of x) x _ (nexts v (way_of x) x reply refl (λ end f. cc))

failed_end : {D Q : Type 0} (tag : ℕ) (xs : List (Sent D Q)) (ask : Request D Q) → HasFailed tag (xs ++ record { tag = tag; request = ask; failed = true } ∷ [])
unfolding HasFailed
failed_end tag [] ask = inl (refl, refl)
failed_end tag (x ∷ xs) ask = inr (failed_end tag xs ask)

module _ {D Q C : Type 0} (race : Race D Q C) where
  -- who gave up has a send that failed
  abbrev Told : ℕ → Node D Q → Type 0
  Told i node = (m : Machine D) (name : StateName) (faults : ℕ) → node.machine ≡ Some m → m.state ≡ Ended (GaveUp name faults) → HasFailed node.starts node.sent

  step_told : (i : ℕ) (node : Node D Q) (m : Machine D) (ask : Request D Q) (reply : Reply D) → Told i node → node.machine ≡ Some m → request (race.settings i) m.state ≡ Some ask → Told i (sent_by node (answered (race.settings i) m reply) ask false)
  step_told i node m ask reply a e q = λ m' name faults f g.
      let is : answered (race.settings i) m reply ≡ m' = (let z : Some (answered (race.settings i) m reply) ≡ Some m' = f in cc) in
      let s : Sane {D = D} (Ended (GaveUp name faults)) = subst (Sane {D = D}) (ap (λ (x : Machine D). x.state) is ∙ g) (moved_sane (race.settings i) m.state ask reply q) in
      absurd s

  start_told : (i : ℕ) (node : Node D Q) → Told i (record { machine = Some started; starts = node.starts + 1; sent = node.sent })
  start_told i node = λ m name faults f g.
      let is : started ≡ m = (let z : Some started ≡ Some m = f in cc) in
      absurd (let x : Init ≡ Ended (GaveUp name faults) = subst (λ (y : Machine D). y.state ≡ Ended (GaveUp name faults)) (sym is) g in cc)

  told : (st : Store D) (instances : ℕ) (scripts : List C) (es : List Event) (i : ℕ) (node : Node D Q) → nth (run race (open_world st instances scripts) es).nodes i ≡ Some node → Told i node
  told = every_node race Told
      (λ i m name faults f g. absurd (let z : None ≡ Some m = f in cc))
      step_told
      (λ i node m ask a e q m' name faults f g. failed_end node.starts node.sent ask)
      (λ i node m name faults f g. absurd (let z : None ≡ Some m = f in cc))
      start_told

  -- a machine none of whose sends failed is in the state that its entries tell
  pub unfailing : (st : Store D) (instances : ℕ) (scripts : List C) (es : List Event) (t : Trace D Q C) → Agrees race t (run race (open_world st instances scripts) es) → (i : ℕ) (node : Node D Q) (m : Machine D) → nth (run race (open_world st instances scripts) es).nodes i ≡ Some node → node.machine ≡ Some m
      → (HasFailed node.starts node.sent → ⊥) → (past : Past D Q) × (nth t.pasts i ≡ Some past) × (state_of node.starts past.runs ≡ m.state)
  unfailing st instances scripts es t g i node m e f none =
      let agreed = places_at (NodeAgrees race) t.pasts (run race (open_world st instances scripts) es).nodes i node g.nodes e in
      elim (agreed.2.state m f) [
        | inl is ↦ (agreed.0, agreed.1, is)
        | inr gave ↦ absurd (none (told st instances scripts es i node e m gave.0 gave.1 f gave.2))
      ]
