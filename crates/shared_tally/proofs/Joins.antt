-- The passes of many actors are joined into the first one.
use Rattle.std.proofs.Common.{◌≡◌, ◌≢◌, ℕ, zero, suc, ◌+◌, ◌<◌, ◌||◌, max, Bool, true, false, if◌then◌else◌, List, [], ◌∷◌, ◌++◌, length, get_or, Vec, Ok, Err, sym, ap, ap₂, subst, refl, ◌∙◌, arith, eq-eqb, ne_eqb}
use native.Mathlib.Decide.{ℕ_discrete}
use mathlib.Core.Logic.{dite}
use Rattle.std.specs.List.{AllZip}
use Rattle.std.specs.Global.{Global}
use Rattle.turn_gate.specs.declared.view.Record.{Record}
use Rattle.turn_gate.specs.Lists.{Turn, entries_by}
use Rattle.turn_gate.specs.Views.{has_record, recorded}
use Rattle.turn_gate.specs.Passes.{GateState, PassState, IsPassOf, first_pass, join_of, has_pass, own_of, AllJoined, IsMadeBy}
use Rattle.shared_tally.specs.Tallied.{Tallied}
use Rattle.shared_tally.specs.declared.actors.Job.{Job}
use Rattle.shared_tally.specs.Jobs.{Done, split_times, jobs_of, DoesJob, AreOf, Joins, JoinsAll, HasLists, IsTallyOf}

pub joins-snoc : (h m w p : PassState Tallied ℕ) (rs : List Done) → JoinsAll h rs m → Joins m p w → JoinsAll h (rs ++ Ok p ∷ []) w
joins-snoc h m w p [] j t = (w, subst (λ (x : PassState Tallied ℕ). Joins x p w) j t, refl)
joins-snoc h m w p (Err e ∷ rs) j t = j
joins-snoc h m w p (Ok q ∷ rs) j t = (j.0, j.1, joins-snoc j.0 m w p rs j.2 t)

-- the first pass is of its gate
pub first_of_gate : (gate : GateState Tallied ℕ) (h : PassState Tallied ℕ) → h ≡ first_pass gate → IsPassOf gate h
first_of_gate gate h is = (ap (λ (p : PassState Tallied ℕ). p.table) is, ap (λ (p : PassState Tallied ℕ). p.opening) is)

-- a pass that others were joined into is of the same gate
pub joins_of_gate : (gate : GateState Tallied ℕ) (h p w : PassState Tallied ℕ) → IsPassOf gate h → w ≡ join_of h p → IsPassOf gate w
joins_of_gate gate h p w of is = subst (IsPassOf gate) (sym is) of

-- the passes that come back are of the gate
pub are_of_zip : (gate : GateState Tallied ℕ) (h : PassState Tallied ℕ) (n : ℕ) (lists : List (Vec ℕ Global)) (rs : List Done) → IsPassOf gate h → AllZip DoesJob (jobs_of h n lists) rs → AreOf gate rs
are_of_zip gate h n [] [] p a = tt
are_of_zip gate h n [] (r ∷ rs) p a = elim a [ ]
are_of_zip gate h n (x ∷ xs) [] p a = elim a [ ]
are_of_zip gate h n (x ∷ xs) (Err e ∷ rs) p a = (tt, are_of_zip gate h (n + 1) xs rs p a.1)
are_of_zip gate h n (x ∷ xs) (Ok q ∷ rs) p a = ((a.0.0.table ∙ p.0, a.0.0.opening ∙ p.1), are_of_zip gate h (n + 1) xs rs p a.1)

-- each job's pass is of the gate
pub jobs_of_gate : (gate : GateState Tallied ℕ) (h : PassState Tallied ℕ) (n : ℕ) (lists : List (Vec ℕ Global)) (js : List Job) → IsPassOf gate h → js ≡ jobs_of h n lists
    → (k : ℕ) (d : Job) → k < length js → IsPassOf gate (get_or js k d).pass
jobs_of_gate gate h n lists js p is k d l = subst (λ (l : List Job). k < length l → IsPassOf gate (get_or l k d).pass) (sym is) (go n lists k) l
  where
    go : (n : ℕ) (lists : List (Vec ℕ Global)) (k : ℕ) → k < length (jobs_of h n lists) → IsPassOf gate (get_or (jobs_of h n lists) k d).pass
    go n [] k l = absurd (omega arith)
    go n (x ∷ xs) zero l = p
    go n (x ∷ xs) (suc k) l = go (n + 1) xs k (omega arith)

-- the pass has those named up to n, and no others
pub record HasNames (h : PassState Tallied ℕ) (n : ℕ) : Type 0 where
  pub named : (j : ℕ) → j < n + 1 → has_pass h j ≡ true
  pub others : (j : ℕ) → n < j → has_pass h j ≡ false

-- the pass n + 1 added the first list, the pass n + 2 the second, and so on
abbrev pub OwnLists : PassState Tallied ℕ → ℕ → List (Vec ℕ Global) → Type 0
OwnLists w n [] = Unit {0}
OwnLists w n (x ∷ xs) = (own_of w (n + 1) ≡ x.items) × OwnLists w (n + 1) xs

max_zero : (n : ℕ) → max n 0 ≡ n
max_zero n = omega arith

either_true : (a b : Bool) → a ≡ true → a || b ≡ true
either_true true b e = refl
either_true false b e = absurd (cc (e))

both_false : (a b : Bool) → a ≡ false → b ≡ false → a || b ≡ false
both_false true b e f = absurd (cc (e))
both_false false b e f = f

-- one pass more was joined
pub names_more : (h p w : PassState Tallied ℕ) (n : ℕ) → HasNames h n → p.name ≡ n + 1 → p.joined ≡ [] → Joins h p w → HasNames w (n + 1)
names_more h p w n has name joined t = record {
  named = λ j l. t.names j ∙ dite (ℕ_discrete j (n + 1))
      (λ (e : j ≡ n + 1). ap₂ (λ (a b : Bool). a || b) (has.others j (omega arith)) (ap (λ (b : Bool). b || has_record p.joined j) (eq-eqb p.name j (name ∙ sym e))))
      (λ (ne : j ≢ n + 1). either_true _ _ (has.named j (omega arith)));
  others = λ j l. t.names j ∙ both_false _ _ (has.others j (omega arith))
      (both_false _ _ (ne_eqb p.name j (λ e. omega arith)) (ap (λ (rs : List (Record ℕ)). has_record rs j) joined));
}

own_more : (h p w : PassState Tallied ℕ) (n : ℕ) → HasNames h n → p.name ≡ n + 1 → Joins h p w → own_of w (n + 1) ≡ p.own
own_more h p w n has name t =
    t.owns (n + 1)
    ∙ (ap (λ (b : Bool). if b then own_of h (n + 1) else own_of p (n + 1)) (has.others (n + 1) (omega arith)) ∙ ap (λ (b : Bool). if b then p.own else recorded p.joined (n + 1)) (eq-eqb p.name (n + 1) name))

own_kept : (h p w : PassState Tallied ℕ) (j : ℕ) → has_pass h j ≡ true → Joins h p w → own_of w j ≡ own_of h j
own_kept h p w j has t = t.owns j ∙ ap (λ (b : Bool). if b then own_of h j else own_of p j) has

-- what the first pass has when all were joined
pub record Gathers (h w : PassState Tallied ℕ) (n : ℕ) (lists : List (Vec ℕ Global)) : Type 0 where
  pub splits : w.splits ≡ h.splits
  pub names : HasNames w (n + length lists)
  pub kept : (j : ℕ) → j < n + 1 → own_of w j ≡ own_of h j
  pub lists_are : OwnLists w n lists

pub gathers : (h0 h w : PassState Tallied ℕ) (n : ℕ) (lists : List (Vec ℕ Global)) (rs : List Done) → AllZip DoesJob (jobs_of h0 n lists) rs → JoinsAll h rs w → HasNames h n → Gathers h w n lists
gathers h0 h w n [] [] a j has = record {
  splits = ap (λ (x : PassState Tallied ℕ). x.splits) j;
  names = subst (λ (p : PassState Tallied ℕ × ℕ). HasNames p.0 p.1) (λ i. (sym j i, back i)) has;
  kept = λ m l. ap (λ (x : PassState Tallied ℕ). own_of x m) j;
  lists_are = tt;
}
  where
    back : n ≡ n + 0
    back = omega arith
gathers h0 h w n [] (r ∷ rs) a j has = elim a [ ]
gathers h0 h w n (x ∷ xs) [] a j has = elim a [ ]
gathers h0 h w n (x ∷ xs) (Err e ∷ rs) a j has = elim j [ ]
gathers h0 h w n (x ∷ xs) (Ok p ∷ rs) a j has =
    let m = j.0 in
    let joins = j.1 in
    let same = a.0.0 in
    let names = names_more h p m n has same.name same.joined joins in
    let rest = gathers h0 m w (n + 1) xs rs a.1 j.2 names in
    let size : (n + 1) + length xs ≡ n + length (x ∷ xs) = omega arith in
    record {
      splits = rest.splits ∙ (ap (λ (q : PassState Tallied ℕ). q.splits) joins.joined ∙ (ap (λ (k : ℕ). max h.splits k) same.splits ∙ max_zero h.splits));
      names = subst (HasNames w) size rest.names;
      kept = λ i l. rest.kept i (omega arith) ∙ own_kept h p m i (has.named i l) joins;
      lists_are = (rest.kept (n + 1) (omega arith) ∙ (own_more h p m n has same.name joins ∙ a.0.1), rest.lists_are);
    }

has_lists : (w : PassState Tallied ℕ) (log : List (Turn ℕ)) (n m : ℕ) (lists : List (Vec ℕ Global)) → n + length lists ≡ m → HasNames w m → ((i : ℕ) → has_pass w i ≡ true → entries_by i log ≡ own_of w i) → OwnLists w n lists → HasLists log n lists
has_lists w log n m [] size has each own = tt
has_lists w log n m (x ∷ xs) size has each own = (each (n + 1) (has.named (n + 1) (omega arith)) ∙ own.0, has_lists w log (n + 1) m xs (omega arith) has each own.1)

-- the tally of many actors
pub tallied : (h0 w : PassState Tallied ℕ) (lists : List (Vec ℕ Global)) (rs : List Done) (gate : GateState Tallied ℕ) (es : List ℕ) → h0 ≡ first_pass gate
    → AllZip DoesJob (jobs_of h0 0 lists) rs → JoinsAll (split_times h0 (length lists)) rs w → gate.entries ≡ [] → (AllJoined w → (made : List ℕ) × (es ≡ gate.entries ++ made) × IsMadeBy made w) → IsTallyOf es lists
tallied h0 w lists rs gate es is zip all none whole =
    let name : h0.name ≡ 0 = ap (λ (p : PassState Tallied ℕ). p.name) is in
    let own : h0.own ≡ [] = ap (λ (p : PassState Tallied ℕ). p.own) is in
    let joined : h0.joined ≡ [] = ap (λ (p : PassState Tallied ℕ). p.joined) is in
    let h : PassState Tallied ℕ = split_times h0 (length lists) in
    let first : HasNames h 0 = record {
      named = λ j l. ap (λ (b : Bool). b || has_record h0.joined j) (eq-eqb h0.name j (name ∙ (let z : 0 ≡ j = omega arith in z)));
      others = λ j l. both_false _ _ (ne_eqb h0.name j (λ e. omega arith)) (ap (λ (rs : List (Record ℕ)). has_record rs j) joined);
    } in
    let got = gathers h0 h w 0 lists rs zip all first in
    let made = whole (λ n l. let s = got.splits in got.names.named n (omega arith)) in (
      made.2.log,
      made.1 ∙ (ap (λ (l : List ℕ). l ++ made.0) none ∙ made.2.all),
      has_lists w made.2.log 0 (0 + length lists) lists refl got.names made.2.each got.lists_are,
      made.2.each 0 (got.names.named 0 (omega arith)) ∙ (got.kept 0 (omega arith) ∙ (ap (λ (b : Bool). if b then h0.own else recorded h0.joined 0) (eq-eqb h0.name 0 name) ∙ own)),
      λ n l. made.2.no_others n (got.names.others n (omega arith)),
    )
