-- What a batch that is good says of its rows.
use Rattle.std.proofs.Common.{◌≡◌, ◌⊎◌, List, [], ◌∷◌, ◌++◌, Bool, true, false, Option, Some, None, refl, sym, ◌∙◌, ap, subst, if◌then◌else◌, arith, append_assoc, append-nil}
use mathlib.Core.Logic.◌⊎◌.{inl, inr}
use Rattle.base_model.specs.Keyed.{Text, Keyed, same, at, put}
use Rattle.race_model.specs.Stores.{Rows}
use Rattle.race_model.specs.Machines.{Settings, Cause, Pass, Batch, is_unknown, is_corrupt, is_newer, outputs_of, raws_where, met, collision, pass_after, with_front, unless, gathered, where_none, batch, last_of}
use Rattle.base_model.specs.Outcomes.Outcome.{Removed, Unknown, TooNew, Corrupt, Outputs}
use Rattle.race_model.specs.Machines.Cause.{UnknownObjects, CorruptObjects, NewerObjects, Collision}
use Rattle.race_model.specs.Machines.Batch.{Good, Bad}
use Rattle.race_model.specs.Migrated.{outs, NoneHas, AllApart, IsGoodOutcome}
use Rattle.race_model.specs.Sorted.{Each, last_key}
use Rattle.race_tables.proofs.Keys.{same_is, same_refl, at_put}
use Rattle.race_tables.proofs.Outputs.{AllGood, PassOf, MayFail}
use Rattle.base_model.specs.Outcomes.{Outcome}

same_sym_false : (a b : Text) → same a b ≡ false → same b a ≡ false
same_sym_false a b e = grind (arith, same_is b a, same_refl a)

lacks_end : {D : Type 0} (raw : Text) (os : List (Text × D)) (o : Text × D) → NoneHas raw os → same raw o.0 ≡ false → NoneHas raw (os ++ o ∷ [])
unfolding NoneHas
lacks_end raw [] o l e = (e, tt)
lacks_end raw (x ∷ os) o l e = (l.0, lacks_end raw os o l.1 e)

distinct_end : {D : Type 0} (os : List (Text × D)) (o : Text × D) → AllApart os → NoneHas o.0 os → AllApart (os ++ o ∷ [])
unfolding AllApart NoneHas
distinct_end [] o d l = (tt, tt)
distinct_end (x ∷ os) o d l = (lacks_end x.0 os o d.0 (same_sym_false o.0 x.0 l.0), distinct_end os o d.1 l.1)

pass_end : {D : Type 0} (pass : Pass) (source : Text) (os : List (Text × D)) (o : Text × D) → PassOf pass os → PassOf (put o.0 source pass) (os ++ o ∷ [])
pass_end pass source os o k raw e = by (same raw o.0) refl (sym (at_put raw o.0 source pass) ∙ e)
  where
    by : (t : Bool) → same raw o.0 ≡ t → (if t then Some source else at raw pass) ≡ None → NoneHas raw (os ++ o ∷ [])
    by true q f = absurd (cc)
    by false q f = lacks_end raw os o (k raw f) q

-- outputs that meet none before
pub no_collision : {D : Type 0} (pass : Pass) (source : Text) (done os : List (Text × D)) → collision pass source os ≡ None → AllApart done → PassOf pass done
    → AllApart (done ++ os) × PassOf (pass_after pass source os) (done ++ os)
unfolding collision pass_after
no_collision pass source done [] e d k = rw append-nil (d, k)
no_collision pass source done (o ∷ os) e d k = by (at o.0 pass) refl e
    (λ none rest. rw (← (append_assoc done (o ∷ []) os)) (no_collision (put o.0 source pass) source (done ++ o ∷ []) os rest (distinct_end done o d (k o.0 none)) (pass_end pass source done o k)))
  where
    by : (x : Option Text) → at o.0 pass ≡ x → met x source o.0 (collision (put o.0 source pass) source os) ≡ None
        → (at o.0 pass ≡ None → collision (put o.0 source pass) source os ≡ None → AllApart (done ++ (o ∷ os)) × PassOf (pass_after (put o.0 source pass) source os) (done ++ (o ∷ os)))
        → AllApart (done ++ (o ∷ os)) × PassOf (pass_after (put o.0 source pass) source os) (done ++ (o ∷ os))
    by (Some first) q f rest = absurd (cc)
    by None q f rest = rest q f

-- what a good batch says
pub record GoodBatch {D Q : Type 0} (s : Settings D Q) (done : List (Text × D)) (rows : Rows D) (os : List (Text × D)) (pass : Pass) : Type 0 where
  pub outputs : os ≡ outs s rows
  pub apart : AllApart (done ++ outs s rows)
  pub known : PassOf pass (done ++ outs s rows)

unless_good : {D : Type 0} (x : Option Cause) (b : Batch D) (os : List (Text × D)) (pass : Pass) → unless x b ≡ Good os pass → (x ≡ None) × (b ≡ Good os pass)
unless_good None b os pass e = (refl, e)
unless_good (Some c) b os pass e = absurd (cc)

front_good : {D : Type 0} (front : List (Text × D)) (b : Batch D) (os : List (Text × D)) (pass : Pass) → with_front front b ≡ Good os pass → (rest : List (Text × D)) × (b ≡ Good rest pass) × (os ≡ front ++ rest)
front_good front (Good rest p) os pass e =
    let same_pass : p ≡ pass = cc in
    let same_os : front ++ rest ≡ os = cc in
    (rest, ap (Good rest) same_pass, sym same_os)
front_good front (Bad c) os pass e = absurd (cc)

pub gathered_good : {D Q : Type 0} (s : Settings D Q) (pass : Pass) (done : List (Text × D)) (rows : Rows D) (os : List (Text × D)) (after : Pass) → gathered s pass rows ≡ Good os after → AllApart done → PassOf pass done → GoodBatch s done rows os after
unfolding gathered outs
gathered_good s pass done [] os after e d k =
    let same_os : [] ≡ os = cc in
    let same_pass : pass ≡ after = cc in
    record { outputs = sym same_os; apart = rw append-nil d; known = rw append-nil (subst (λ p. PassOf p done) same_pass k) }
gathered_good {D = D} s pass done (r ∷ rows) os after e d k =
    let front : List (Text × D) = outputs_of (s.outcome r.0 r.1.doc) in
    let u = unless_good (collision pass r.0 front) (with_front front (gathered s (pass_after pass r.0 front) rows)) os after e in
    let f = front_good front (gathered s (pass_after pass r.0 front) rows) os after u.1 in
    let c = no_collision pass r.0 done front u.0 d k in
    let g = gathered_good s (pass_after pass r.0 front) (done ++ front) rows f.0 after f.1 c.0 c.1 in
    record {
      outputs = f.2 ∙ ap (λ x. front ++ x) g.outputs;
      apart = rw (← (append_assoc done front (outs s rows))) g.apart;
      known = rw (← (append_assoc done front (outs s rows))) g.known;
    }

good_outcome : {D : Type 0} (o : Outcome D) → is_unknown o ≡ false → is_corrupt o ≡ false → is_newer o ≡ false → IsGoodOutcome o
good_outcome Removed u c n = tt
good_outcome Unknown u c n = absurd (cc)
good_outcome TooNew u c n = absurd (cc)
good_outcome Corrupt u c n = absurd (cc)
good_outcome (Outputs os) u c n = tt

none_where : {D : Type 0} (test : Text → D → Bool) (rows : Rows D) → raws_where test rows ≡ [] → Each (λ raw doc. test raw doc ≡ false) rows
unfolding raws_where Each
none_where test [] e = tt
none_where test (r ∷ rows) e = by (test r.0 r.1.doc) refl e (none_where test rows)
  where
    by : (t : Bool) → test r.0 r.1.doc ≡ t → (if t then r.0 ∷ raws_where test rows else raws_where test rows) ≡ [] → (raws_where test rows ≡ [] → Each (λ raw doc. test raw doc ≡ false) rows)
        → (test r.0 r.1.doc ≡ false) × Each (λ raw doc. test raw doc ≡ false) rows
    by true q f rest = absurd (cc)
    by false q f rest = (q, rest f)

each_three : {D : Type 0} (P R S T : Text → D → Type 0) (rows : Rows D) → ((raw : Text) (doc : D) → P raw doc → R raw doc → S raw doc → T raw doc) → Each P rows → Each R rows → Each S rows → Each T rows
unfolding Each
each_three P R S T [] f a b c = tt
each_three P R S T (r ∷ rows) f a b c = (f r.0 r.1.doc a.0 b.0 c.0, each_three P R S T rows f a.1 b.1 c.1)

where_none_good : {D : Type 0} (raws : List Text) (cause : List Text → Cause) (rest : Batch D) (os : List (Text × D)) (pass : Pass) → where_none raws cause rest ≡ Good os pass → (raws ≡ []) × (rest ≡ Good os pass)
where_none_good [] cause rest os pass e = (refl, e)
where_none_good (raw ∷ raws) cause rest os pass e = absurd (cc)

pub batch_good : {D Q : Type 0} (s : Settings D Q) (pass : Pass) (done : List (Text × D)) (rows : Rows D) (os : List (Text × D)) (after : Pass) → batch s pass rows ≡ Good os after → AllApart done → PassOf pass done → GoodBatch s done rows os after × AllGood s rows
unfolding batch
batch_good s pass done rows os after e d k =
    let u = where_none_good (raws_where (λ raw doc. is_unknown (s.outcome raw doc)) rows) UnknownObjects _ os after e in
    let c = where_none_good (raws_where (λ raw doc. is_corrupt (s.outcome raw doc)) rows) CorruptObjects _ os after u.1 in
    let n = where_none_good (raws_where (λ raw doc. is_newer (s.outcome raw doc)) rows) NewerObjects _ os after c.1 in (
      gathered_good s pass done rows os after n.1 d k,
      each_three (λ raw doc. is_unknown (s.outcome raw doc) ≡ false) (λ raw doc. is_corrupt (s.outcome raw doc) ≡ false) (λ raw doc. is_newer (s.outcome raw doc) ≡ false) (λ raw doc. IsGoodOutcome (s.outcome raw doc)) rows
          (λ raw doc. good_outcome (s.outcome raw doc)) (none_where (λ raw doc. is_unknown (s.outcome raw doc)) rows u.0) (none_where (λ raw doc. is_corrupt (s.outcome raw doc)) rows c.0) (none_where (λ raw doc. is_newer (s.outcome raw doc)) rows n.0),
    )

where_none_bad : {D : Type 0} (raws : List Text) (cause : List Text → Cause) (rest : Batch D) (c : Cause) → ((rs : List Text) → MayFail (cause rs)) → where_none raws cause rest ≡ Bad c → MayFail c ⊎ (rest ≡ Bad c)
where_none_bad [] cause rest c f e = inr e
where_none_bad (raw ∷ raws) cause rest c f e = let same_cause : cause (raw ∷ raws) ≡ c = cc in inl (subst MayFail same_cause (f (raw ∷ raws)))

collision_fails : {D : Type 0} (pass : Pass) (source : Text) (os : List (Text × D)) (c : Cause) → collision pass source os ≡ Some c → MayFail c
unfolding collision
collision_fails pass source [] c e = absurd (cc)
collision_fails pass source (o ∷ os) c e = by (at o.0 pass) e (collision_fails (put o.0 source pass) source os c)
  where
    by : (x : Option Text) → met x source o.0 (collision (put o.0 source pass) source os) ≡ Some c → (collision (put o.0 source pass) source os ≡ Some c → MayFail c) → MayFail c
    by (Some first) f rest = let same_cause : Collision first source o.0 ≡ c = cc in subst MayFail same_cause tt
    by None f rest = rest f

unless_bad : {D : Type 0} (x : Option Cause) (b : Batch D) (c : Cause) → unless x b ≡ Bad c → (x ≡ Some c) ⊎ (b ≡ Bad c)
unless_bad None b c e = inr e
unless_bad (Some d) b c e = let same_cause : d ≡ c = cc in inl (ap Some same_cause)

front_bad : {D : Type 0} (front : List (Text × D)) (b : Batch D) (c : Cause) → with_front front b ≡ Bad c → b ≡ Bad c
front_bad front (Good rest p) c e = absurd (cc)
front_bad front (Bad d) c e = let same_cause : d ≡ c = cc in ap Bad same_cause

gathered_bad : {D Q : Type 0} (s : Settings D Q) (pass : Pass) (rows : Rows D) (c : Cause) → gathered s pass rows ≡ Bad c → MayFail c
unfolding gathered
gathered_bad s pass [] c e = absurd (cc)
gathered_bad {D = D} s pass (r ∷ rows) c e =
    let front : List (Text × D) = outputs_of (s.outcome r.0 r.1.doc) in
    elim (unless_bad (collision pass r.0 front) (with_front front (gathered s (pass_after pass r.0 front) rows)) c e) [
      | inl m ↦ collision_fails pass r.0 front c m
      | inr f ↦ gathered_bad s (pass_after pass r.0 front) rows c (front_bad front (gathered s (pass_after pass r.0 front) rows) c f)
    ]

pub batch_bad : {D Q : Type 0} (s : Settings D Q) (pass : Pass) (rows : Rows D) (c : Cause) → batch s pass rows ≡ Bad c → MayFail c
unfolding batch
batch_bad s pass rows c e = elim (where_none_bad (raws_where (λ raw doc. is_unknown (s.outcome raw doc)) rows) UnknownObjects _ c (λ rs. tt) e) [
  | inl m ↦ m
  | inr f ↦ elim (where_none_bad (raws_where (λ raw doc. is_corrupt (s.outcome raw doc)) rows) CorruptObjects _ c (λ rs. tt) f) [
    | inl m ↦ m
    | inr g ↦ elim (where_none_bad (raws_where (λ raw doc. is_newer (s.outcome raw doc)) rows) NewerObjects _ c (λ rs. tt) g) [
      | inl m ↦ m
      | inr h ↦ gathered_bad s pass rows c h
    ]
  ]
]

pub last_key_append : {V : Type 0} (start : Option Text) (xs ys : Keyed V) → last_key start (xs ++ ys) ≡ last_key (last_key start xs) ys
unfolding last_key
last_key_append start [] ys = refl
last_key_append start (x ∷ xs) ys = last_key_append (Some x.0) xs ys

pub last_of_key : {D : Type 0} (raw : Text) (rows : Rows D) → Some (last_of raw rows) ≡ last_key (Some raw) rows
unfolding last_key last_of
last_of_key raw [] = refl
last_of_key raw (r ∷ rows) = last_of_key r.0 rows
