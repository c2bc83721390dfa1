-- A page of clean rows makes a good batch.
use Rattle.std.proofs.Common.{◌≡◌, List, [], ◌∷◌, ◌++◌, Bool, false, Option, Some, None, refl, sym, ◌∙◌, ap, subst, append_assoc, append-nil}
use Rattle.base_model.specs.Keyed.{Text, same, at, put}
use Rattle.race_model.specs.Stores.{Rows}
use Rattle.race_model.specs.Machines.{Settings, Cause, Pass, Batch, outputs_of, is_unknown, is_corrupt, is_newer, raws_where, collision, pass_after, with_front, unless, where_none, gathered, batch}
use Rattle.base_model.specs.Outcomes.Outcome.{Removed, Unknown, TooNew, Corrupt, Outputs}
use Rattle.race_model.specs.Machines.Cause.{UnknownObjects, CorruptObjects, NewerObjects}
use Rattle.race_model.specs.Machines.Batch.{Good, Bad}
use Rattle.race_model.specs.Migrated.{outs, NoneHas, AllApart, IsGoodOutcome}
use Rattle.race_model.specs.Sorted.{Each}
use Rattle.race_tables.proofs.Keys.{same_false, at_put_other, apart_from_false}
use Rattle.race_tables.proofs.Outputs.{AllGood}
use Rattle.race_tables.proofs.Lists.{apart}
use Rattle.base_model.specs.Outcomes.{Outcome}

-- the pass knows no other raw ids than these
abbrev pub Exact : {D : Type 0} → Pass → List (Text × D) → Type 0
Exact pass os = (raw : Text) → NoneHas raw os → at raw pass ≡ None

lacks_left : {D : Type 0} (raw : Text) (xs ys : List (Text × D)) → NoneHas raw (xs ++ ys) → NoneHas raw xs
unfolding NoneHas
lacks_left raw [] ys a = tt
lacks_left raw (x ∷ xs) ys a = (a.0, lacks_left raw xs ys a.1)

lacks_right : {D : Type 0} (raw : Text) (xs ys : List (Text × D)) → NoneHas raw (xs ++ ys) → NoneHas raw ys
unfolding NoneHas
lacks_right raw [] ys a = a
lacks_right raw (x ∷ xs) ys a = lacks_right raw xs ys a.1

same_turned : (a b : Text) → same a b ≡ false → same b a ≡ false
same_turned a b e = same_false b a (apart (apart_from_false a b e))

-- one in the middle isn't among those before
middle : {D : Type 0} (done : List (Text × D)) (o : Text × D) (os : List (Text × D)) → AllApart (done ++ (o ∷ os)) → NoneHas o.0 done
unfolding AllApart NoneHas
middle [] o os d = tt
middle (x ∷ done) o os d = (same_turned x.0 o.0 (lacks_right x.0 done (o ∷ os) d.0).0, middle done o os d.1)

pub distinct_left : {D : Type 0} (xs ys : List (Text × D)) → AllApart (xs ++ ys) → AllApart xs
unfolding AllApart
distinct_left [] ys d = tt
distinct_left (x ∷ xs) ys d = (lacks_left x.0 xs ys d.0, distinct_left xs ys d.1)

exact_put : {D : Type 0} (pass : Pass) (source : Text) (done : List (Text × D)) (o : Text × D) → Exact pass done → Exact (put o.0 source pass) (done ++ o ∷ [])
unfolding NoneHas
exact_put pass source done o e raw a =
    let last : same raw o.0 ≡ false = (lacks_right raw done (o ∷ []) a).0 in
    at_put_other raw o.0 source pass (apart_from_false raw o.0 last) ∙ e raw (lacks_left raw done (o ∷ []) a)

pub exact_after : {D : Type 0} (pass : Pass) (source : Text) (done os : List (Text × D)) → Exact pass done → Exact (pass_after pass source os) (done ++ os)
unfolding pass_after
exact_after pass source done [] e = λ raw a. e raw (subst (NoneHas raw) (append-nil done) a)
exact_after pass source done (o ∷ os) e =
    λ raw a. exact_after (put o.0 source pass) source (done ++ o ∷ []) os (exact_put pass source done o e) raw (subst (NoneHas raw) (sym (append_assoc done (o ∷ []) os)) a)

no_meeting : {D : Type 0} (pass : Pass) (source : Text) (done os : List (Text × D)) → Exact pass done → AllApart (done ++ os) → collision pass source os ≡ None
unfolding collision
no_meeting pass source done [] e d = refl
no_meeting pass source done (o ∷ os) e d =
    rw (e o.0 (middle done o os d)) (no_meeting (put o.0 source pass) source (done ++ o ∷ []) os (exact_put pass source done o e) (subst AllApart (sym (append_assoc done (o ∷ []) os)) d))

clean_gathered : {D Q : Type 0} (s : Settings D Q) (pass : Pass) (done : List (Text × D)) (rows : Rows D) → Exact pass done → AllApart (done ++ outs s rows) → (os : List (Text × D)) × (next : Pass) × (gathered s pass rows ≡ Good os next)
unfolding gathered outs
clean_gathered s pass done [] e d = ([], pass, refl)
clean_gathered {D = D} s pass done (r ∷ rows) e d =
    let front : List (Text × D) = outputs_of (s.outcome r.0 r.1.doc) in
    let turned : AllApart ((done ++ front) ++ outs s rows) = subst AllApart (sym (append_assoc done front (outs s rows))) d in
    let rest = clean_gathered s (pass_after pass r.0 front) (done ++ front) rows (exact_after pass r.0 done front e) turned in
    (front ++ rest.0, rest.1, rw (no_meeting pass r.0 done front e (distinct_left (done ++ front) (outs s rows) turned), rest.2) refl)

none_listed : {D : Type 0} (test : Text → D → Bool) (rows : Rows D) → Each (λ raw doc. test raw doc ≡ false) rows → raws_where test rows ≡ []
unfolding raws_where Each
none_listed test [] a = refl
none_listed test (r ∷ rows) a = rw a.0 (none_listed test rows a.1)

each_of : {D : Type 0} (P R : Text → D → Type 0) (rows : Rows D) → ((raw : Text) (doc : D) → P raw doc → R raw doc) → Each P rows → Each R rows
unfolding Each
each_of P R [] f a = tt
each_of P R (r ∷ rows) f a = (f r.0 r.1.doc a.0, each_of P R rows f a.1)

known : {D : Type 0} (o : Outcome D) → IsGoodOutcome o → is_unknown o ≡ false
known Removed g = refl
known (Outputs os) g = refl
known Unknown g = absurd g
known TooNew g = absurd g
known Corrupt g = absurd g

fits : {D : Type 0} (o : Outcome D) → IsGoodOutcome o → is_corrupt o ≡ false
fits Removed g = refl
fits (Outputs os) g = refl
fits Unknown g = absurd g
fits TooNew g = absurd g
fits Corrupt g = absurd g

not_newer : {D : Type 0} (o : Outcome D) → IsGoodOutcome o → is_newer o ≡ false
not_newer Removed g = refl
not_newer (Outputs os) g = refl
not_newer Unknown g = absurd g
not_newer TooNew g = absurd g
not_newer Corrupt g = absurd g

pub clean_batch : {D Q : Type 0} (s : Settings D Q) (pass : Pass) (done : List (Text × D)) (rows : Rows D) → Exact pass done → AllGood s rows → AllApart (done ++ outs s rows) → (os : List (Text × D)) × (next : Pass) × (batch s pass rows ≡ Good os next)
unfolding batch
clean_batch s pass done rows e g d =
    let made = clean_gathered s pass done rows e d in
    let u : raws_where (λ raw doc. is_unknown (s.outcome raw doc)) rows ≡ [] = none_listed (λ raw doc. is_unknown (s.outcome raw doc)) rows (each_of (λ raw doc. IsGoodOutcome (s.outcome raw doc)) _ rows (λ raw doc. known (s.outcome raw doc)) g) in
    let c : raws_where (λ raw doc. is_corrupt (s.outcome raw doc)) rows ≡ [] = none_listed (λ raw doc. is_corrupt (s.outcome raw doc)) rows (each_of (λ raw doc. IsGoodOutcome (s.outcome raw doc)) _ rows (λ raw doc. fits (s.outcome raw doc)) g) in
    let n : raws_where (λ raw doc. is_newer (s.outcome raw doc)) rows ≡ [] = none_listed (λ raw doc. is_newer (s.outcome raw doc)) rows (each_of (λ raw doc. IsGoodOutcome (s.outcome raw doc)) _ rows (λ raw doc. not_newer (s.outcome raw doc)) g) in
    (made.0, made.1, rw (u, c, n) made.2)

-- a good batch keeps the pass exact
unless_good : {D : Type 0} (x : Option Cause) (b : Batch D) (os : List (Text × D)) (pass : Pass) → unless x b ≡ Good os pass → b ≡ Good os pass
unless_good None b os pass e = e
unless_good (Some c) b os pass e = absurd (cc)

front_good : {D : Type 0} (front : List (Text × D)) (b : Batch D) (os : List (Text × D)) (pass : Pass) → with_front front b ≡ Good os pass → (rest : List (Text × D)) × (b ≡ Good rest pass)
front_good front (Good rest p) os pass e = let same_pass : p ≡ pass = cc in (rest, ap (Good rest) same_pass)
front_good front (Bad c) os pass e = absurd (cc)

gathered_exact : {D Q : Type 0} (s : Settings D Q) (pass : Pass) (done : List (Text × D)) (rows : Rows D) (os : List (Text × D)) (after : Pass) → gathered s pass rows ≡ Good os after → Exact pass done → Exact after (done ++ outs s rows)
unfolding gathered outs
gathered_exact s pass done [] os after e k = λ raw a. let same_pass : pass ≡ after = cc in subst (λ p. at raw p ≡ None) same_pass (k raw (subst (NoneHas raw) (append-nil done) a))
gathered_exact {D = D} s pass done (r ∷ rows) os after e k =
    let front : List (Text × D) = outputs_of (s.outcome r.0 r.1.doc) in
    let f = front_good front (gathered s (pass_after pass r.0 front) rows) os after (unless_good (collision pass r.0 front) (with_front front (gathered s (pass_after pass r.0 front) rows)) os after e) in
    λ raw a. gathered_exact s (pass_after pass r.0 front) (done ++ front) rows f.0 after f.1 (exact_after pass r.0 done front k) raw (subst (NoneHas raw) (sym (append_assoc done front (outs s rows))) a)

where_none_good : {D : Type 0} (raws : List Text) (cause : List Text → Cause) (rest : Batch D) (os : List (Text × D)) (pass : Pass) → where_none raws cause rest ≡ Good os pass → rest ≡ Good os pass
where_none_good [] cause rest os pass e = e
where_none_good (raw ∷ raws) cause rest os pass e = absurd (cc)

pub batch_exact : {D Q : Type 0} (s : Settings D Q) (pass : Pass) (done : List (Text × D)) (rows : Rows D) (os : List (Text × D)) (after : Pass) → batch s pass rows ≡ Good os after → Exact pass done → Exact after (done ++ outs s rows)
unfolding batch
batch_exact s pass done rows os after e k = gathered_exact s pass done rows os after
    (where_none_good (raws_where (λ raw doc. is_newer (s.outcome raw doc)) rows) NewerObjects _ os after
    (where_none_good (raws_where (λ raw doc. is_corrupt (s.outcome raw doc)) rows) CorruptObjects _ os after
    (where_none_good (raws_where (λ raw doc. is_unknown (s.outcome raw doc)) rows) UnknownObjects _ os after e))) k
