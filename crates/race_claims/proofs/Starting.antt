-- What an entry leaves of a start of an instance.
use Rattle.std.proofs.Common.{◌≡◌, ◌≢◌, ℕ, ◌+◌, List, [], ◌∷◌, ◌++◌, Bool, true, false, Option, Some, None, refl, sym, ◌∙◌, ap, subst, if◌then◌else◌, ◌==◌, arith}
use Rattle.std.proofs.lemmas.Bool.Decides.{nat_tests}
use Rattle.race_model.specs.Stores.{Store, Request, Reply}
use Rattle.race_model.specs.Machines.{moved}
use Rattle.race_model.specs.Worlds.{Race, Actor, How, Entry, nth, with_nth}
use Rattle.race_model.specs.Worlds.Actor.{Instance, Client}
use Rattle.race_model.specs.Worlds.How.{Heard, Unheard, Late}
use Rattle.race_model.specs.Journals.{Run, Past, Trace, state_of, heard_of, past_after, pasts_after, follow_over, followed, Conforms, all_followed}
use Rattle.race_follow.proofs.Following.{nth_other, nth_here}
use Rattle.race_tables.proofs.Lists.{none_some}

same_number : (a b : ℕ) → (a == b) ≡ true → a ≡ b
same_number a b e = grind (arith, nat_tests)

other_number : (a b : ℕ) → (a == b) ≡ false → a ≢ b
other_number a b e f = grind (arith, nat_tests)

equal_number : (a : ℕ) → (a == a) ≡ true
equal_number a = grind (arith, nat_tests)

-- an unheard entry changes no state and no count
unheard_state : {D : Type 0} (g tag : ℕ) (runs : List (Run D)) → state_of g (record { tag = tag; state = state_of tag runs; heard = heard_of tag runs } ∷ runs) ≡ state_of g runs
unfolding state_of
unheard_state g tag runs = by (g == tag) refl
  where
    by : (b : Bool) → (g == tag) ≡ b → (if b then state_of tag runs else state_of g runs) ≡ state_of g runs
    by true e = ap (λ x. state_of x runs) (sym (same_number g tag e))
    by false e = refl

unheard_heard : {D : Type 0} (g tag : ℕ) (runs : List (Run D)) → heard_of g (record { tag = tag; state = state_of tag runs; heard = heard_of tag runs } ∷ runs) ≡ heard_of g runs
unfolding heard_of
unheard_heard g tag runs = by (g == tag) refl
  where
    by : (b : Bool) → (g == tag) ≡ b → (if b then heard_of tag runs else heard_of g runs) ≡ heard_of g runs
    by true e = ap (λ x. heard_of x runs) (sym (same_number g tag e))
    by false e = refl

module _ {D Q C : Type 0} (race : Race D Q C) where
  -- a journal in two parts
  pub conforms_front : (t : Trace D Q C) (xs ys : List (Entry D Q)) → Conforms race t (xs ++ ys) → Conforms race t xs
  unfolding Conforms
  conforms_front t [] ys c = tt
  conforms_front t (x ∷ xs) ys c = (c.0, conforms_front (followed race t x) xs ys c.1)

  pub conforms_back : (t : Trace D Q C) (xs ys : List (Entry D Q)) → Conforms race t (xs ++ ys) → Conforms race (all_followed race t xs) ys
  unfolding Conforms all_followed
  conforms_back t [] ys c = c
  conforms_back t (x ∷ xs) ys c = conforms_back (followed race t x) xs ys c.1

  pub followed_append : (t : Trace D Q C) (xs ys : List (Entry D Q)) → all_followed race t (xs ++ ys) ≡ all_followed race (all_followed race t xs) ys
  unfolding all_followed
  followed_append t [] ys = refl
  followed_append t (x ∷ xs) ys = followed_append (followed race t x) xs ys

  -- the start with this tag moved by the entry, or is as before
  pub data Went (i tag : ℕ) (actor : Actor) (how : How) (own : ℕ) (reply : Reply D) (past next : Past D Q) : Type 0 where
    Moves : actor ≡ Instance i → how ≡ Heard → own ≡ tag → state_of tag next.runs ≡ moved (race.settings i) (state_of tag past.runs) reply → heard_of tag next.runs ≡ heard_of tag past.runs + 1 → Went i tag actor how own reply past next
    Stays : (actor ≡ Instance i → how ≡ Heard → own ≡ tag → ⊥) → state_of tag next.runs ≡ state_of tag past.runs → heard_of tag next.runs ≡ heard_of tag past.runs → Went i tag actor how own reply past next

  went_by : (i tag : ℕ) (how : How) (own : ℕ) (ask : Request D Q) (reply : Reply D) (past : Past D Q) → Went i tag (Instance i) how own reply past (past_after (race.settings i) how past own ask reply)
  unfolding state_of heard_of
  went_by i tag Late own ask reply past = Stays (λ a h g. cc) refl refl
  went_by i tag Unheard own ask reply past = Stays (λ a h g. cc) (unheard_state tag own past.runs) (unheard_heard tag own past.runs)
  went_by i tag Heard own ask reply past = by (tag == own) refl
    where
      by : (b : Bool) → (tag == own) ≡ b → Went i tag (Instance i) Heard own reply past (past_after (race.settings i) Heard past own ask reply)
      by true e = let is : tag ≡ own = same_number tag own e in Moves refl refl (sym is) (rw e (ap (λ x. moved (race.settings i) (state_of x past.runs) reply) (sym is))) (rw e (ap (λ x. heard_of x past.runs + 1) (sym is)))
      by false e = Stays (λ a h g. other_number tag own e (sym g)) (rw e refl) (rw e refl)

  -- where the start stood before the entry
  pub record Before (t : Trace D Q C) (i tag : ℕ) (actor : Actor) (how : How) (own : ℕ) (reply : Reply D) (next : Past D Q) : Type 0 where
    pub past : Past D Q
    pub there : nth t.pasts i ≡ Some past
    pub went : Went i tag actor how own reply past next

  pub went_over : (t : Trace D Q C) (i tag : ℕ) (actor : Actor) (how : How) (own : ℕ) (ask : Request D Q) (reply : Reply D) (st : Store D) (next : Past D Q) → nth (follow_over race t actor how own ask reply st).pasts i ≡ Some next → Before t i tag actor how own reply next
  went_over t i tag (Client k) how own ask reply st next f = record { past = next; there = f; went = Stays (λ a h g. cc) refl refl }
  went_over t i tag (Instance j) how own ask reply st next f = by (nth t.pasts j) refl f
    where
      by : (o : Option (Past D Q)) → nth t.pasts j ≡ o → nth (pasts_after (race.settings j) t.pasts j o how own ask reply) i ≡ Some next → Before t i tag (Instance j) how own reply next
      by None e g = record { past = next; there = g; went = Stays (λ a h q. none_some next (nth t.pasts i) (subst (λ k. nth t.pasts k ≡ None) (let z : j ≡ i = cc in z) e) g) refl refl }
      by (Some past) e g = here (j == i) refl
        where
          here : (b : Bool) → (j == i) ≡ b → Before t i tag (Instance j) how own reply next
          here true q =
              let is : j ≡ i = same_number j i q in
              let at_i : nth (with_nth t.pasts j (past_after (race.settings j) how past own ask reply)) i ≡ Some (past_after (race.settings j) how past own ask reply) = subst (λ k. nth (with_nth t.pasts j (past_after (race.settings j) how past own ask reply)) k ≡ Some (past_after (race.settings j) how past own ask reply)) is (nth_here t.pasts j past (past_after (race.settings j) how past own ask reply) e) in
              let one : past_after (race.settings j) how past own ask reply ≡ next = (let z : Some (past_after (race.settings j) how past own ask reply) ≡ Some next = sym at_i ∙ g in cc) in
              record {
                past = past;
                there = subst (λ k. nth t.pasts k ≡ Some past) is e;
                went = subst (λ (x : Past D Q). Went i tag (Instance j) how own reply past x) one (subst (λ k. Went i tag (Instance k) how own reply past (past_after (race.settings k) how past own ask reply)) (sym is) (went_by i tag how own ask reply past));
              }
          here false q = record { past = next; there = sym (nth_other t.pasts j i (past_after (race.settings j) how past own ask reply) (other_number j i q)) ∙ g; went = Stays (λ a h k. other_number j i q (let z : j ≡ i = cc in z)) refl refl }
