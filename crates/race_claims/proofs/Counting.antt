-- Whoever gave up had one fault more in a row than it may try.
use Rattle.std.proofs.Common.{◌≡◌, ℕ, zero, suc, ◌+◌, ◌≤◌, ◌<◌, List, [], ◌∷◌, ◌++◌, Bool, true, false, Some, None, refl, sym, ◌∙◌, ap, subst, replicate, append_assoc, append-nil, nat_le, arith}
use Rattle.std.proofs.lemmas.Bool.Decides.{nat_tests}
use Rattle.race_model.specs.Stores.{Store, Request, Reply}
use Rattle.race_model.specs.Machines.{Settings, State, StateName, Machine, name_of, request, started, answered, failed}
use Rattle.race_model.specs.Machines.End.{GaveUp}
use Rattle.race_model.specs.Machines.State.{Ended}
use Rattle.race_model.specs.Worlds.{Race, Sent, Node, Event, nth, sent_by, run, open_world}
use Rattle.race_claims.specs.Unfailing.{LastFailed, GaveUpAfter}
use Rattle.race_claims.proofs.Nodes.{every_node}
use Rattle.race_claims.proofs.Unfailing.{Sane, moved_sane}

one_more : {A : Type 0} (n : ℕ) (x : A) → replicate n x ++ (x ∷ []) ≡ replicate (suc n) x
one_more zero x = refl
one_more (suc n) x = ap (λ xs. x ∷ xs) (one_more n x)

last_more : {D Q : Type 0} (tag : ℕ) (ask : Request D Q) (n : ℕ) (sent : List (Sent D Q)) → LastFailed tag ask n sent → LastFailed tag ask (suc n) (sent ++ record { tag = tag; request = ask; failed = true } ∷ [])
last_more {D = D} {Q = Q} tag ask n sent l =
    let x : Sent D Q = record { tag = tag; request = ask; failed = true } in
    (l.0, ap (λ z. z ++ (x ∷ [])) l.1 ∙ append_assoc l.0 (replicate n x) (x ∷ []) ∙ ap (λ z. l.0 ++ z) (one_more n x))

last_none : {D Q : Type 0} (tag : ℕ) (ask : Request D Q) (sent : List (Sent D Q)) → LastFailed tag ask 0 sent
last_none tag ask sent = (sent, sym (append-nil sent))

no_end : {D Q : Type 0} (v : Settings D Q) (x : State D) (ask : Request D Q) (name : StateName) (faults : ℕ) → request v x ≡ Some ask → x ≡ Ended (GaveUp name faults) → ⊥
unfolding request
no_end {D = D} {Q = Q} v x ask name faults q e = let z : None ≡ Some ask = subst (λ (y : State D). request v y ≡ Some ask) e q in cc

same_ask : {D Q : Type 0} (v : Settings D Q) (x : State D) (a b : Request D Q) → request v x ≡ Some a → request v x ≡ Some b → a ≡ b
same_ask v x a b e f = let z : Some a ≡ Some b = sym e ∙ f in cc

-- what is known of a machine: the faults that it counts are its last sends
pub record Counts {D Q : Type 0} (v : Settings D Q) (node : Node D Q) (m : Machine D) : Type 0 where
  pub goes_on : (ask : Request D Q) → request v m.state ≡ Some ask → (m.faults ≤ v.attempts) × LastFailed node.starts ask m.faults node.sent
  pub gave_up : (name : StateName) (faults : ℕ) → m.state ≡ Ended (GaveUp name faults) → GaveUpAfter v node name faults

module _ {D Q C : Type 0} (race : Race D Q C) where
  abbrev Counted : ℕ → Node D Q → Type 0
  Counted i node = (m : Machine D) → node.machine ≡ Some m → Counts (race.settings i) node m

  none_counted : (i : ℕ) (node : Node D Q) → node.machine ≡ None → Counted i node
  none_counted i node n = λ m f. absurd (let z : None ≡ Some m = sym n ∙ f in cc)

  step_counted : (i : ℕ) (node : Node D Q) (m : Machine D) (ask : Request D Q) (reply : Reply D) → Counted i node → node.machine ≡ Some m → request (race.settings i) m.state ≡ Some ask → Counted i (sent_by node (answered (race.settings i) m reply) ask false)
  step_counted i node m ask reply a e q = λ m' f.
      let is : answered (race.settings i) m reply ≡ m' = (let z : Some (answered (race.settings i) m reply) ≡ Some m' = f in cc) in
      subst (Counts (race.settings i) (sent_by node (answered (race.settings i) m reply) ask false)) is (record {
        goes_on = λ next r. (omega arith, last_none node.starts next (node.sent ++ record { tag = node.starts; request = ask; failed = false } ∷ []));
        gave_up = λ name faults g. absurd (subst (Sane {D = D}) g (moved_sane (race.settings i) m.state ask reply q));
      })

  -- one more fault, by whether it may try again
  loss_counts : (v : Settings D Q) (node : Node D Q) (m : Machine D) (ask : Request D Q) → Counts v node m → request v m.state ≡ Some ask → Counts v (sent_by node (failed v m) ask true) (failed v m)
  loss_counts v node m ask c q = by (nat_le (m.faults + 1) v.attempts) refl
    where
      before : (m.faults ≤ v.attempts) × LastFailed node.starts ask m.faults node.sent
      before = c.goes_on ask q

      last : LastFailed node.starts ask (m.faults + 1) (node.sent ++ record { tag = node.starts; request = ask; failed = true } ∷ [])
      last = let one : suc m.faults ≡ m.faults + 1 = omega arith in subst (λ z. LastFailed node.starts ask z (node.sent ++ record { tag = node.starts; request = ask; failed = true } ∷ [])) one (last_more node.starts ask m.faults node.sent before.1)

      by : (b : Bool) → nat_le (m.faults + 1) v.attempts ≡ b → Counts v (sent_by node (failed v m) ask true) (failed v m)
      by true e = let few : m.faults + 1 ≤ v.attempts = grind (arith, nat_tests) in rw e (record {
        goes_on = λ next r. (few, subst (λ z. LastFailed node.starts z (m.faults + 1) (node.sent ++ record { tag = node.starts; request = ask; failed = true } ∷ [])) (same_ask v m.state ask next q r) last);
        gave_up = λ name faults g. absurd (no_end v m.state ask name faults q g);
      })
      by false e = let many : v.attempts < m.faults + 1 = grind (arith, nat_tests) in let least : m.faults ≤ v.attempts = before.0 in rw e (record {
        goes_on = λ next r. absurd (no_end v (Ended (GaveUp (name_of m.state) (m.faults + 1))) next (name_of m.state) (m.faults + 1) r refl);
        gave_up = λ name faults g. given (record { state = Ended (GaveUp (name_of m.state) (m.faults + 1)); faults = m.faults + 1; delay_ms = m.delay_ms }) name faults (omega arith) g;
      })
        where
          given : (x : Machine D) (name : StateName) (faults : ℕ) → m.faults + 1 ≡ v.attempts + 1 → ◌≡◌ {A = State D} (Ended (GaveUp (name_of m.state) (m.faults + 1))) (Ended (GaveUp name faults)) → GaveUpAfter v (sent_by node x ask true) name faults
          given x name faults count g =
              let n : name_of m.state ≡ name = cc in
              let k : m.faults + 1 ≡ faults = cc in
              record { state = m.state; named = sym n; ask = ask; asks = q; count = sym k ∙ count; last = subst (λ z. LastFailed node.starts ask z (node.sent ++ record { tag = node.starts; request = ask; failed = true } ∷ [])) k last }

  loss_counted : (i : ℕ) (node : Node D Q) (m : Machine D) (ask : Request D Q) → Counted i node → node.machine ≡ Some m → request (race.settings i) m.state ≡ Some ask → Counted i (sent_by node (failed (race.settings i) m) ask true)
  loss_counted i node m ask a e q = λ m' f.
      let is : failed (race.settings i) m ≡ m' = (let z : Some (failed (race.settings i) m) ≡ Some m' = f in cc) in
      subst (Counts (race.settings i) (sent_by node (failed (race.settings i) m) ask true)) is (loss_counts (race.settings i) node m ask (a m e) q)

  start_counted : (i : ℕ) (node : Node D Q) → Counted i (record { machine = Some started; starts = node.starts + 1; sent = node.sent })
  start_counted i node = λ m f.
      let is : started ≡ m = (let z : Some started ≡ Some m = f in cc) in
      subst (Counts (race.settings i) (record { machine = Some started; starts = node.starts + 1; sent = node.sent })) is (record {
        goes_on = λ ask r. (omega arith, last_none (node.starts + 1) ask node.sent);
        gave_up = λ name faults g. absurd (cc);
      })

  pub counted : (st : Store D) (instances : ℕ) (scripts : List C) (es : List Event) (i : ℕ) (node : Node D Q) → nth (run race (open_world st instances scripts) es).nodes i ≡ Some node → Counted i node
  counted = every_node race Counted (λ i. none_counted i _ refl) step_counted loss_counted (λ i node. none_counted i _ refl) start_counted
