-- What a world does conforms.
use Rattle.std.proofs.Common.{◌≡◌, ℕ, zero, suc, ◌+◌, ◌<◌, ◌≤◌, ◌⊎◌, List, [], ◌∷◌, ◌++◌, replicate, Bool, true, false, Option, Some, None, refl, sym, ap, subst, if◌then◌else◌, nat_le, ◌≢◌, ◌==◌, ◌*◌, ◌^◌, min, arith}
use Rattle.std.proofs.lemmas.Bool.Decides.{nat_tests}
use mathlib.Core.Logic.◌⊎◌.{inl, inr}
use Rattle.race_model.specs.Stores.{Store, Request, Reply, serve}
use Rattle.race_model.specs.Machines.{State, StateName, name_of, Machine, request, moved, started, answered, failed}
use Rattle.race_model.specs.Machines.End.{GaveUp}
use Rattle.race_model.specs.Machines.State.{Init, Ended}
use Rattle.race_model.specs.Worlds.{Race, Actor, How, Entry, Sent, Node, Caller, World, Event, nth, with_nth, with_node, sent_by, stepped, step_machine, step, lost, lose_machine, lose, repeat, again, stop_running, stop, start_idle, start, asked_by, called, call, cut_off, cut, asked_of, happens, run, open_world, idle, callers_of}
use Rattle.race_model.specs.Worlds.Actor.{Instance, Client}
use Rattle.race_model.specs.Worlds.How.{Heard, Unheard, Late}
use Rattle.race_model.specs.Worlds.Event.{Step, Lost, Again, Stop, Start, Cut}
use Rattle.race_model.specs.Journals.{Run, Past, Trace, state_of, heard_of, newest, Has, IsKnown, followed, MayCome, Conforms, all_followed, open_trace}

-- two lists of one length, related element by element
unfoldable pub Both : {A B : Type 0} → (A → B → Type 0) → List A → List B → Type 0
Both R [] [] = Unit {0}
Both R (x ∷ xs) (y ∷ ys) = R x y × Both R xs ys
Both R [] (y ∷ ys) = ⊥
Both R (x ∷ xs) [] = ⊥

pub both_at : {A B : Type 0} (R : A → B → Type 0) (xs : List A) (ys : List B) (i : ℕ) (y : B) → Both R xs ys → nth ys i ≡ Some y → (x : A) × (nth xs i ≡ Some x) × R x y
unfolding Both nth
both_at R [] [] i y a e = absurd (cc)
both_at R (p ∷ ps) (n ∷ ns) zero y a e = absurd (cc)
both_at R (p ∷ ps) (n ∷ ns) (suc zero) y a e = let same : n ≡ y = cc in (p, refl, subst (R p) same a.0)
both_at R (p ∷ ps) (n ∷ ns) (suc (suc i)) y a e = both_at R ps ns (suc i) y a.1 e
both_at R [] (n ∷ ns) i y a e = absurd a
both_at R (p ∷ ps) [] i y a e = absurd a

pub both_with : {A B : Type 0} (R : A → B → Type 0) (xs : List A) (ys : List B) (i : ℕ) (x : A) (y : B) → Both R xs ys → R x y → Both R (with_nth xs i x) (with_nth ys i y)
unfolding Both with_nth
both_with R [] [] i p n a b = tt
both_with R (x ∷ ps) (y ∷ ns) zero p n a b = a
both_with R (x ∷ ps) (y ∷ ns) (suc zero) p n a b = (b, a.1)
both_with R (x ∷ ps) (y ∷ ns) (suc (suc i)) p n a b = (a.0, both_with R ps ns (suc i) p n a.1 b)
both_with R [] (y ∷ ns) i p n a b = absurd a
both_with R (x ∷ ps) [] i p n a b = absurd a

with_same : {A : Type 0} (xs : List A) (i : ℕ) (x : A) → nth xs i ≡ Some x → with_nth xs i x ≡ xs
unfolding nth with_nth
with_same [] i x e = refl
with_same (y ∷ xs) zero x e = refl
with_same (y ∷ xs) (suc zero) x e = let same : y ≡ x = cc in ap (λ z. z ∷ xs) (sym same)
with_same (y ∷ xs) (suc (suc i)) x e = ap (λ zs. y ∷ zs) (with_same xs (suc i) x e)

pub nth_other : {A : Type 0} (xs : List A) (i j : ℕ) (y : A) → i ≢ j → nth (with_nth xs i y) j ≡ nth xs j
unfolding nth with_nth
nth_other [] i j y n = refl
nth_other (x ∷ xs) zero j y n = refl
nth_other (x ∷ xs) (suc zero) zero y n = refl
nth_other (x ∷ xs) (suc zero) (suc zero) y n = absurd (n refl)
nth_other (x ∷ xs) (suc zero) (suc (suc j)) y n = refl
nth_other (x ∷ xs) (suc (suc i)) zero y n = refl
nth_other (x ∷ xs) (suc (suc i)) (suc zero) y n = refl
nth_other (x ∷ xs) (suc (suc i)) (suc (suc j)) y n = nth_other xs (suc i) (suc j) y (λ e. n (ap suc e))

pub nth_here : {A : Type 0} (xs : List A) (i : ℕ) (x y : A) → nth xs i ≡ Some x → nth (with_nth xs i y) i ≡ Some y
unfolding nth with_nth
nth_here [] i x y e = absurd (cc)
nth_here (z ∷ xs) zero x y e = absurd (cc)
nth_here (z ∷ xs) (suc zero) x y e = refl
nth_here (z ∷ xs) (suc (suc i)) x y e = nth_here xs (suc i) x y e

-- both have no element at this place, or these two
abbrev pub Pair : {A B : Type 0} → (A → B → Type 0) → Option A → Option B → Type 0
Pair R None None = Unit {0}
Pair R (Some x) (Some y) = R x y
Pair R None (Some y) = ⊥
Pair R (Some x) None = ⊥

-- two lists related place by place
unfoldable pub Places : {A B : Type 0} → (ℕ → A → B → Type 0) → List A → List B → Type 0
Places R xs ys = (i : ℕ) → Pair (R i) (nth xs i) (nth ys i)

pub places_at : {A B : Type 0} (R : ℕ → A → B → Type 0) (xs : List A) (ys : List B) (i : ℕ) (y : B) → Places R xs ys → nth ys i ≡ Some y → (x : A) × (nth xs i ≡ Some x) × R i x y
unfolding Places
places_at {A = A} R xs ys i y a e = by (nth xs i) refl (subst (Pair (R i) (nth xs i)) e (a i))
  where
    by : (o : Option A) → nth xs i ≡ o → Pair (R i) o (Some y) → (x : A) × (nth xs i ≡ Some x) × R i x y
    by None f p = absurd p
    by (Some x) f p = (x, f, p)

places_with : {A B : Type 0} (R : ℕ → A → B → Type 0) (xs : List A) (ys : List B) (i : ℕ) (x0 x : A) (y0 y : B) → Places R xs ys → nth xs i ≡ Some x0 → nth ys i ≡ Some y0 → R i x y → Places R (with_nth xs i x) (with_nth ys i y)
unfolding Places
places_with R xs ys i x0 x y0 y a e f r = λ j. by j (i == j) refl
  where
    by : (j : ℕ) (t : Bool) → (i == j) ≡ t → Pair (R j) (nth (with_nth xs i x) j) (nth (with_nth ys i y) j)
    by j true q = let same_place : i ≡ j = grind (arith, nat_tests) in subst (λ k. Pair (R k) (nth (with_nth xs i x) k) (nth (with_nth ys i y) k)) same_place (rw (nth_here xs i x0 x e, nth_here ys i y0 y f) r)
    by j false q = let other : i ≢ j = λ z. grind (arith, nat_tests) in rw (nth_other xs i j x other, nth_other ys i j y other) (a j)

places_replicate : {A B : Type 0} (R : ℕ → A → B → Type 0) (n : ℕ) (x : A) (y : B) → ((i : ℕ) → R i x y) → Places R (replicate n x) (replicate n y)
unfolding Places nth
places_replicate R n x y r = λ i. by n i i
  where
    by : (n i k : ℕ) → Pair (R k) (nth (replicate n x) i) (nth (replicate n y) i)
    by zero i k = tt
    by (suc n) zero k = tt
    by (suc n) (suc zero) k = r k
    by (suc n) (suc (suc i)) k = by n (suc i) k

module _ {D Q C : Type 0} (race : Race D Q C) where
  -- an entry that may come next may stand at the end
  conforms_end : (t : Trace D Q C) (j : List (Entry D Q)) (e : Entry D Q) → Conforms race t j → MayCome race (all_followed race t j) e → Conforms race t (j ++ e ∷ [])
  unfolding Conforms all_followed
  conforms_end t [] e c m = (m, tt)
  conforms_end t (x ∷ j) e c m = (c.0, conforms_end (followed race t x) j e c.1 m)

  followed_end : (t : Trace D Q C) (j : List (Entry D Q)) (e : Entry D Q) → all_followed race t (j ++ e ∷ []) ≡ followed race (all_followed race t j) e
  unfolding all_followed
  followed_end t [] e = refl
  followed_end t (x ∷ j) e = followed_end (followed race t x) j e

  -- a request that was sent is one of an entry, or the next of its start
  abbrev pub IsSent : ℕ → Past D Q → Sent D Q → Type 0
  IsSent i past x = Has x.request past.asked ⊎ (request (race.settings i) (state_of x.tag past.runs) ≡ Some x.request)

  pub AllSent : ℕ → Past D Q → List (Sent D Q) → Type 0
  AllSent i past [] = Unit {0}
  AllSent i past (x ∷ xs) = IsSent i past x × AllSent i past xs

  -- the entries tell the machine's state, or it gave up
  abbrev pub IsToldState : State D → State D → Type 0
  IsToldState told state = (told ≡ state) ⊎ ((name : StateName) × (faults : ℕ) × (state ≡ Ended (GaveUp name faults)))

  -- the entries tell the truth of an instance
  pub record NodeAgrees (i : ℕ) (past : Past D Q) (node : Node D Q) : Type 0 where
    pub newest_tag : newest past.runs ≤ node.starts
    pub fresh : (tag : ℕ) → node.starts < tag → state_of tag past.runs ≡ Init
    pub state : (m : Machine D) → node.machine ≡ Some m → IsToldState (state_of node.starts past.runs) m.state
    pub sent : AllSent i past node.sent

  -- the caller is as the entries tell, but that it may have been cut with no entry
  pub record CallerAgrees (told : Caller C) (caller : Caller C) : Type 0 where
    pub script : told.script ≡ caller.script
    pub uncut : caller.cut ≡ false → told.cut ≡ false

  pub record Agrees (t : Trace D Q C) (w : World D Q C) : Type 0 where
    pub store : t.store ≡ w.store
    pub callers : Both CallerAgrees t.callers w.callers
    pub nodes : Places NodeAgrees t.pasts w.nodes

  running : (i : ℕ) (past : Past D Q) (node : Node D Q) (m : Machine D) (ask : Request D Q) → NodeAgrees i past node → node.machine ≡ Some m → request (race.settings i) m.state ≡ Some ask → state_of node.starts past.runs ≡ m.state
  unfolding request
  running i past node m ask a e q = elim (a.state m e) [
    | inl same ↦ same
    | inr gave ↦ absurd (let f : None ≡ Some ask = subst (λ ph. request (race.settings i) ph ≡ Some ask) gave.2 q in cc)
  ]

  still_asks : (told caller : Caller C) (ask : Request D Q) → CallerAgrees told caller → asked_of race.clients caller.cut caller.script ≡ Some ask → asked_of race.clients told.cut told.script ≡ Some ask
  still_asks told caller ask a q = by_cut caller.cut refl q
    where
      by_cut : (b : Bool) → caller.cut ≡ b → asked_of race.clients b caller.script ≡ Some ask → asked_of race.clients told.cut told.script ≡ Some ask
      by_cut true e r = absurd (cc)
      by_cut false e r = rw (a.uncut e, a.script) r

  known_of : (i : ℕ) (p : Past D Q) (x : Sent D Q) → IsSent i p x → IsKnown (race.settings i) p x.request
  known_of i p x (inl h) = inl h
  known_of i p x (inr e) = inr (x.tag, e)

  all_sent_end : (i : ℕ) (p : Past D Q) (xs : List (Sent D Q)) (x : Sent D Q) → AllSent i p xs → IsSent i p x → AllSent i p (xs ++ x ∷ [])
  unfolding AllSent
  all_sent_end i p [] x a b = (b, tt)
  all_sent_end i p (y ∷ xs) x a b = (a.0, all_sent_end i p xs x a.1 b)

  all_sent_more : (i : ℕ) (p q : Past D Q) (xs : List (Sent D Q)) → ((x : Sent D Q) → IsSent i p x → IsSent i q x) → AllSent i p xs → AllSent i q xs
  unfolding AllSent
  all_sent_more i p q [] f a = tt
  all_sent_more i p q (x ∷ xs) f a = (f x a.0, all_sent_more i p q xs f a.1)

  sent_at : (i : ℕ) (p : Past D Q) (xs : List (Sent D Q)) (n : ℕ) (x : Sent D Q) → AllSent i p xs → nth xs n ≡ Some x → IsSent i p x
  unfolding AllSent nth
  sent_at i p [] n x a e = absurd (cc)
  sent_at i p (y ∷ xs) zero x a e = absurd (cc)
  sent_at i p (y ∷ xs) (suc zero) x a e = let same : y ≡ x = cc in subst (IsSent i p) same a.0
  sent_at i p (y ∷ xs) (suc (suc n)) x a e = sent_at i p xs (suc n) x a.1 e

  -- the past after an entry that this start made, which is in state ph then
  abbrev entered : Past D Q → ℕ → Request D Q → State D → ℕ → Past D Q
  entered p tag ask ph heard = record { runs = record { tag = tag; state = ph; heard = heard } ∷ p.runs; asked = ask ∷ p.asked }

  sent_entered : (i : ℕ) (p : Past D Q) (tag : ℕ) (ask : Request D Q) (ph : State D) (heard : ℕ) → request (race.settings i) (state_of tag p.runs) ≡ Some ask → (x : Sent D Q) → IsSent i p x → IsSent i (entered p tag ask ph heard) x
  unfolding Has state_of
  sent_entered i p tag ask ph heard e x a = grind (arith, nat_tests)

  state_here : (tag : ℕ) (ph : State D) (heard : ℕ) (runs : List (Run D)) → state_of tag (record { tag = tag; state = ph; heard = heard } ∷ runs) ≡ ph
  unfolding state_of
  state_here tag ph heard runs = grind (arith, nat_tests)

  node_entered : (i : ℕ) (p : Past D Q) (node : Node D Q) (m m' : Machine D) (ask : Request D Q) (failed : Bool) (ph : State D) (heard : ℕ) → NodeAgrees i p node → node.machine ≡ Some m → request (race.settings i) m.state ≡ Some ask
      → IsToldState ph m'.state
      → NodeAgrees i (entered p node.starts ask ph heard) (sent_by node m' ask failed)
  unfolding Has state_of
  node_entered i p node m m' ask failed ph heard a e q run =
      let known : request (race.settings i) (state_of node.starts p.runs) ≡ Some ask = rw (running i p node m ask a e q) q in
      record {
        newest_tag = omega arith;
        fresh = λ tag lt. grind (arith, nat_tests, a.fresh tag);
        state = λ k i. let same_machine : m' ≡ k = cc in subst (λ x. IsToldState (state_of node.starts (entered p node.starts ask ph heard).runs) x.state) same_machine (rw (state_here node.starts ph heard p.runs) run);
        sent = all_sent_end i (entered p node.starts ask ph heard) node.sent (record { tag = node.starts; request = ask; failed = failed })
            (all_sent_more i p (entered p node.starts ask ph heard) node.sent (sent_entered i p node.starts ask ph heard known) a.sent) (inl (inl refl));
      }

  -- a late entry adds its request
  node_late : (i : ℕ) (p : Past D Q) (node : Node D Q) (ask : Request D Q) → NodeAgrees i p node → NodeAgrees i (record { runs = p.runs; asked = ask ∷ p.asked }) node
  unfolding Has
  node_late i p node ask a = record {
    newest_tag = a.newest_tag;
    fresh = a.fresh;
    state = a.state;
    sent = all_sent_more i p (record { runs = p.runs; asked = ask ∷ p.asked }) node.sent (λ x. elim [ inl h ↦ inl (inr h) | inr e ↦ inr e ]) a.sent;
  }

  -- a send that failed and made no entry
  node_failed : (i : ℕ) (p : Past D Q) (node : Node D Q) (m m' : Machine D) (ask : Request D Q) (failed : Bool) → NodeAgrees i p node → node.machine ≡ Some m → request (race.settings i) m.state ≡ Some ask
      → IsToldState m.state m'.state
      → NodeAgrees i p (sent_by node m' ask failed)
  node_failed i p node m m' ask failed a e q run =
      let known : request (race.settings i) (state_of node.starts p.runs) ≡ Some ask = rw (running i p node m ask a e q) q in
      let was : state_of node.starts p.runs ≡ m.state = running i p node m ask a e q in
      record {
        newest_tag = a.newest_tag;
        fresh = a.fresh;
        state = λ k i. let same_machine : m' ≡ k = cc in subst (λ x. IsToldState (state_of node.starts p.runs) x.state) same_machine (rw was run);
        sent = all_sent_end i p node.sent (record { tag = node.starts; request = ask; failed = failed }) a.sent (inr known);
      }

  node_stopped : (i : ℕ) (p : Past D Q) (node : Node D Q) → NodeAgrees i p node → NodeAgrees i p (record { machine = None; starts = node.starts; sent = node.sent })
  node_stopped i p node a = record { newest_tag = a.newest_tag; fresh = a.fresh; state = λ m i. absurd (cc); sent = a.sent }

  node_started : (i : ℕ) (p : Past D Q) (node : Node D Q) → NodeAgrees i p node → NodeAgrees i p (record { machine = Some started; starts = node.starts + 1; sent = node.sent })
  node_started i p node a = record {
    newest_tag = omega arith;
    fresh = λ tag lt. a.fresh tag (omega arith);
    state = λ m i. let same_machine : started ≡ m = cc in inl (subst (λ x. state_of (node.starts + 1) p.runs ≡ x.state) same_machine (a.fresh (node.starts + 1) (omega arith)));
    sent = a.sent;
  }

  -- where an event leads: no entry, or one that may come next
  Leads : Trace D Q C → World D Q C → World D Q C → Type 0
  Leads t w w' = ((w'.journal ≡ w.journal) × Agrees t w') ⊎ ((e : Entry D Q) × (w'.journal ≡ w.journal ++ e ∷ []) × MayCome race t e × Agrees (followed race t e) w')

  nothing : (t : Trace D Q C) (w : World D Q C) → Agrees t w → Leads t w w
  unfolding Leads
  nothing t w a = inl (refl, a)

  -- the entry of a request that is done
  abbrev entry_of : World D Q C → Actor → ℕ → How → Request D Q → Entry D Q
  entry_of w actor tag how ask = record { actor = actor; tag = tag; how = how; request = ask; reply = (serve race.select w.store ask).1 }

  stepped_leads : (t : Trace D Q C) (w : World D Q C) (i : ℕ) (node : Node D Q) (m : Machine D) (o : Option (Request D Q)) → Agrees t w → nth w.nodes i ≡ Some node → node.machine ≡ Some m → request (race.settings i) m.state ≡ o → Leads t w (stepped race w i node m o)
  unfolding Leads MayCome followed
  stepped_leads t w i node m None a e f q = nothing t w a
  stepped_leads t w i node m (Some ask) a e f q =
      let past = places_at NodeAgrees t.pasts w.nodes i node a.nodes e in
      let p : Past D Q = past.0 in
      let reply : Reply D = (serve race.select w.store ask).1 in
      let was : state_of node.starts p.runs ≡ m.state = running i p node m ask past.2 f q in
      inr (
        entry_of w (Instance i) node.starts Heard ask,
        refl,
        (rw past.1 (past.2.newest_tag, rw was q), ap (λ st. (serve race.select st ask).1) (sym a.store)),
        record {
          store = rw a.store refl;
          callers = a.callers;
          nodes = rw past.1 (
              places_with NodeAgrees t.pasts w.nodes i p (entered p node.starts ask (moved (race.settings i) (state_of node.starts p.runs) reply) (heard_of node.starts p.runs + 1)) node (sent_by node (answered (race.settings i) m reply) ask false) a.nodes past.1 e
              (node_entered i p node m (answered (race.settings i) m reply) ask false (moved (race.settings i) (state_of node.starts p.runs) reply) (heard_of node.starts p.runs + 1) past.2 f q (inl (ap (λ ph. moved (race.settings i) ph reply) was))));
        },
      )

  -- a machine that has a request after a fault is in the state that it was in
  failed_state : (i : ℕ) (m : Machine D) → IsToldState m.state (failed (race.settings i) m).state
  failed_state i m = by (nat_le (m.faults + 1) (race.settings i).attempts)
    where
      by : (b : Bool) → IsToldState m.state (if◌then◌else◌ {A = Machine D} b (record { state = m.state; faults = m.faults + 1; delay_ms = m.delay_ms + 1000 * min (2 ^ (m.faults + 1)) 64 }) (record { state = Ended (GaveUp (name_of m.state) (m.faults + 1)); faults = m.faults + 1; delay_ms = m.delay_ms })).state
      by true = inl refl
      by false = inr (name_of m.state, m.faults + 1, refl)

  lost_leads : (t : Trace D Q C) (w : World D Q C) (i : ℕ) (was_done : Bool) (node : Node D Q) (m : Machine D) (o : Option (Request D Q)) → Agrees t w → nth w.nodes i ≡ Some node → node.machine ≡ Some m → request (race.settings i) m.state ≡ o → Leads t w (lost race w i was_done node m o)
  unfolding Leads MayCome followed
  lost_leads t w i was_done node m None a e f q = nothing t w a
  lost_leads t w i true node m (Some ask) a e f q =
      let past = places_at NodeAgrees t.pasts w.nodes i node a.nodes e in
      let p : Past D Q = past.0 in
      let was : state_of node.starts p.runs ≡ m.state = running i p node m ask past.2 f q in
      inr (
        entry_of w (Instance i) node.starts Unheard ask,
        refl,
        (rw past.1 (past.2.newest_tag, rw was q), ap (λ st. (serve race.select st ask).1) (sym a.store)),
        record {
          store = rw a.store refl;
          callers = a.callers;
          nodes = rw past.1 (
              places_with NodeAgrees t.pasts w.nodes i p (entered p node.starts ask (state_of node.starts p.runs) (heard_of node.starts p.runs)) node (sent_by node (failed (race.settings i) m) ask true) a.nodes past.1 e
              (node_entered i p node m (failed (race.settings i) m) ask true (state_of node.starts p.runs) (heard_of node.starts p.runs) past.2 f q (rw was (failed_state i m))));
        },
      )
  lost_leads t w i false node m (Some ask) a e f q =
      let past = places_at NodeAgrees t.pasts w.nodes i node a.nodes e in
      let p : Past D Q = past.0 in
      inl (
        refl,
        record {
          store = a.store;
          callers = a.callers;
          nodes = subst (λ ps. Places NodeAgrees ps (with_nth w.nodes i (sent_by node (failed (race.settings i) m) ask true))) (with_same t.pasts i p past.1)
              (places_with NodeAgrees t.pasts w.nodes i p p node (sent_by node (failed (race.settings i) m) ask true) a.nodes past.1 e (node_failed i p node m (failed (race.settings i) m) ask true past.2 f q (failed_state i m)));
        },
      )

  again_leads : (t : Trace D Q C) (w : World D Q C) (i : ℕ) (node : Node D Q) (o : Option (Sent D Q)) (send : ℕ) → Agrees t w → nth w.nodes i ≡ Some node → nth node.sent send ≡ o → Leads t w (repeat race w i o)
  unfolding Leads MayCome followed
  again_leads t w i node None send a e q = nothing t w a
  again_leads t w i node (Some x) send a e q =
      let past = places_at NodeAgrees t.pasts w.nodes i node a.nodes e in
      let p : Past D Q = past.0 in
      inr (
        entry_of w (Instance i) x.tag Late x.request,
        refl,
        (rw past.1 (known_of i p x (sent_at i p node.sent send x past.2.sent q)), ap (λ st. (serve race.select st x.request).1) (sym a.store)),
        record {
          store = rw a.store refl;
          callers = a.callers;
          nodes = rw past.1 (
              subst (λ ns. Places NodeAgrees (with_nth t.pasts i (record { runs = p.runs; asked = x.request ∷ p.asked })) ns) (with_same w.nodes i node e)
              (places_with NodeAgrees t.pasts w.nodes i p (record { runs = p.runs; asked = x.request ∷ p.asked }) node node a.nodes past.1 e (node_late i p node x.request past.2)));
        },
      )

  -- a node changes with no entry
  changed_leads : (t : Trace D Q C) (w : World D Q C) (i : ℕ) (node node' : Node D Q) → Agrees t w → nth w.nodes i ≡ Some node → ((p : Past D Q) → NodeAgrees i p node → NodeAgrees i p node') → Leads t w (with_node w i node')
  unfolding Leads
  changed_leads t w i node node' a e keeps =
      let past = places_at NodeAgrees t.pasts w.nodes i node a.nodes e in
      let p : Past D Q = past.0 in
      inl (
        refl,
        record {
          store = a.store;
          callers = a.callers;
          nodes = subst (λ ps. Places NodeAgrees ps (with_nth w.nodes i node')) (with_same t.pasts i p past.1) (places_with NodeAgrees t.pasts w.nodes i p p node node' a.nodes past.1 e (keeps p past.2));
        },
      )

  stop_leads : (t : Trace D Q C) (w : World D Q C) (i : ℕ) (node : Node D Q) (o : Option (Request D Q)) → Agrees t w → nth w.nodes i ≡ Some node → Leads t w (stop_running w i node o)
  stop_leads t w i node None a e = nothing t w a
  stop_leads t w i node (Some ask) a e = changed_leads t w i node (record { machine = None; starts = node.starts; sent = node.sent }) a e (λ p. node_stopped i p node)

  start_leads : (t : Trace D Q C) (w : World D Q C) (i : ℕ) (node : Node D Q) (o : Option (Request D Q)) → Agrees t w → nth w.nodes i ≡ Some node → Leads t w (start_idle w i node o)
  start_leads t w i node (Some ask) a e = nothing t w a
  start_leads t w i node None a e = changed_leads t w i node (record { machine = Some started; starts = node.starts + 1; sent = node.sent }) a e (λ p. node_started i p node)

  called_leads : (t : Trace D Q C) (w : World D Q C) (k : ℕ) (caller : Caller C) (o : Option (Request D Q)) → Agrees t w → nth w.callers k ≡ Some caller → asked_of race.clients caller.cut caller.script ≡ o → Leads t w (called race w k caller.script o)
  unfolding Leads MayCome followed
  called_leads t w k caller None a e q = nothing t w a
  called_leads t w k caller (Some ask) a e q =
      let told = both_at CallerAgrees t.callers w.callers k caller a.callers e in
      let reply : Reply D = (serve race.select w.store ask).1 in
      inr (
        entry_of w (Client k) (race.clients.call caller.script) Heard ask,
        refl,
        (rw told.1 (still_asks told.0 caller ask told.2 q, rw told.2.script refl), ap (λ st. (serve race.select st ask).1) (sym a.store)),
        record {
          store = rw a.store refl;
          nodes = a.nodes;
          callers = rw told.1
              (both_with CallerAgrees t.callers w.callers k (record { script = race.clients.told told.0.script reply; cut = false }) (record { script = race.clients.told caller.script reply; cut = false }) a.callers
              (record { script = rw told.2.script refl; uncut = λ e. e }));
        },
      )

  cut_leads : (t : Trace D Q C) (w : World D Q C) (k : ℕ) (was_done : Bool) (caller : Caller C) (o : Option (Request D Q)) → Agrees t w → nth w.callers k ≡ Some caller → asked_of race.clients caller.cut caller.script ≡ o → Leads t w (cut_off race w k was_done caller.script o)
  unfolding Leads MayCome followed
  cut_leads t w k was_done caller None a e q = nothing t w a
  cut_leads t w k true caller (Some ask) a e q =
      let told = both_at CallerAgrees t.callers w.callers k caller a.callers e in
      inr (
        entry_of w (Client k) (race.clients.call caller.script) Unheard ask,
        refl,
        (rw told.1 (still_asks told.0 caller ask told.2 q, rw told.2.script refl), ap (λ st. (serve race.select st ask).1) (sym a.store)),
        record {
          store = rw a.store refl;
          nodes = a.nodes;
          callers = rw told.1
              (both_with CallerAgrees t.callers w.callers k (record { script = told.0.script; cut = true }) (record { script = caller.script; cut = true }) a.callers
              (record { script = told.2.script; uncut = λ e. e }));
        },
      )
  cut_leads t w k false caller (Some ask) a e q =
      let told = both_at CallerAgrees t.callers w.callers k caller a.callers e in
      inl (
        refl,
        record {
          store = a.store;
          nodes = a.nodes;
          callers = subst (λ cs. Both CallerAgrees cs (with_nth w.callers k (record { script = caller.script; cut = true }))) (with_same t.callers k told.0 told.1)
              (both_with CallerAgrees t.callers w.callers k told.0 (record { script = caller.script; cut = true }) a.callers (record { script = told.2.script; uncut = λ e. absurd (cc) }));
        },
      )

  -- one event
  event_leads : (t : Trace D Q C) (w : World D Q C) (e : Event) → Agrees t w → Leads t w (happens race w e)
  unfolding happens
  event_leads t w (Step i) a = at_node (nth w.nodes i) refl
    where
      at_machine : (node : Node D Q) (o : Option (Machine D)) → nth w.nodes i ≡ Some node → node.machine ≡ o → Leads t w (step_machine race w i node o)
      at_machine node None e f = nothing t w a
      at_machine node (Some m) e f = stepped_leads t w i node m (request (race.settings i) m.state) a e f refl

      at_node : (o : Option (Node D Q)) → nth w.nodes i ≡ o → Leads t w (step race w i o)
      at_node None e = nothing t w a
      at_node (Some node) e = at_machine node node.machine e refl
  event_leads t w (Lost i was_done) a = at_node (nth w.nodes i) refl
    where
      at_machine : (node : Node D Q) (o : Option (Machine D)) → nth w.nodes i ≡ Some node → node.machine ≡ o → Leads t w (lose_machine race w i was_done node o)
      at_machine node None e f = nothing t w a
      at_machine node (Some m) e f = lost_leads t w i was_done node m (request (race.settings i) m.state) a e f refl

      at_node : (o : Option (Node D Q)) → nth w.nodes i ≡ o → Leads t w (lose race w i was_done o)
      at_node None e = nothing t w a
      at_node (Some node) e = at_machine node node.machine e refl
  event_leads t w (Again i send) a = at_node (nth w.nodes i) refl
    where
      at_node : (o : Option (Node D Q)) → nth w.nodes i ≡ o → Leads t w (again race w i send o)
      at_node None e = nothing t w a
      at_node (Some node) e = again_leads t w i node (nth node.sent send) send a e refl
  event_leads t w (Stop i) a = at_node (nth w.nodes i) refl
    where
      at_node : (o : Option (Node D Q)) → nth w.nodes i ≡ o → Leads t w (stop race w i o)
      at_node None e = nothing t w a
      at_node (Some node) e = stop_leads t w i node (asked_by (race.settings i) node.machine) a e
  event_leads t w (Start i) a = at_node (nth w.nodes i) refl
    where
      at_node : (o : Option (Node D Q)) → nth w.nodes i ≡ o → Leads t w (start race w i o)
      at_node None e = nothing t w a
      at_node (Some node) e = start_leads t w i node (asked_by (race.settings i) node.machine) a e
  event_leads t w (Event.Client k) a = at_caller (nth w.callers k) refl
    where
      at_caller : (o : Option (Caller C)) → nth w.callers k ≡ o → Leads t w (call race w k o)
      at_caller None e = nothing t w a
      at_caller (Some caller) e = called_leads t w k caller (asked_of race.clients caller.cut caller.script) a e refl
  event_leads t w (Cut k was_done) a = at_caller (nth w.callers k) refl
    where
      at_caller : (o : Option (Caller C)) → nth w.callers k ≡ o → Leads t w (cut race w k was_done o)
      at_caller None e = nothing t w a
      at_caller (Some caller) e = cut_leads t w k was_done caller (asked_of race.clients caller.cut caller.script) a e refl

  -- the journal so far conforms and tells the truth
  pub record Kept (t : Trace D Q C) (w : World D Q C) : Type 0 where
    pub conforms : Conforms race t w.journal
    pub agrees : Agrees (all_followed race t w.journal) w

  kept_event : (t : Trace D Q C) (w w' : World D Q C) → Kept t w → Leads (all_followed race t w.journal) w w' → Kept t w'
  unfolding Leads
  kept_event t w w' k (inl same) = record { conforms = rw same.0 k.conforms; agrees = subst (λ j. Agrees (all_followed race t j) w') (sym same.0) same.1 }
  kept_event t w w' k (inr made) = record {
    conforms = rw made.1 (conforms_end t w.journal made.0 k.conforms made.2);
    agrees = subst (λ j. Agrees (all_followed race t j) w') (sym made.1) (rw (followed_end t w.journal made.0) made.3);
  }

  kept_run : (t : Trace D Q C) (w : World D Q C) (es : List Event) → Kept t w → Kept t (run race w es)
  unfolding run
  kept_run t w [] k = k
  kept_run t w (e ∷ es) k = kept_run t (happens race w e) es (kept_event t w (happens race w e) k (event_leads (all_followed race t w.journal) w e k.agrees))

  idle_agrees : (i : ℕ) → NodeAgrees i (record { runs = []; asked = [] }) idle
  unfolding AllSent state_of
  idle_agrees i = record { newest_tag = omega arith; fresh = λ tag lt. refl; state = λ m e. absurd (cc); sent = tt }

  callers_agree : (cs : List C) → Both CallerAgrees (callers_of cs) (callers_of cs)
  unfolding Both
  callers_agree [] = tt
  callers_agree (c ∷ cs) = (record { script = refl; uncut = λ e. e }, callers_agree cs)

  -- whatever happens, the journal tells the truth
  pub worlds_kept : (st : Store D) (instances : ℕ) (scripts : List C) (es : List Event) → Kept (open_trace st instances scripts) (run race (open_world st instances scripts) es)
  unfolding Conforms all_followed
  worlds_kept st instances scripts es = kept_run (open_trace st instances scripts) (open_world st instances scripts) es (record {
    conforms = tt;
    agrees = record { store = refl; callers = callers_agree scripts; nodes = places_replicate NodeAgrees instances (record { runs = []; asked = [] }) idle idle_agrees };
  })

  -- whatever happens, the journal conforms
  pub events_conform : (st : Store D) (instances : ℕ) (scripts : List C) (es : List Event) → Conforms race (open_trace st instances scripts) (run race (open_world st instances scripts) es).journal
  events_conform st instances scripts es = (worlds_kept st instances scripts es).conforms
