-- Look-ups after a change.
use Rattle.std.proofs.Common.{◌≡◌, ◌≢◌, ℕ, ◌⊎◌, List, [], ◌∷◌, Bool, true, false, Some, None, refl, if◌then◌else◌, arith, ◌==◌}
use Rattle.std.proofs.lemmas.Slice.Eq.{bytes_eq-Decides}
use Rattle.std.proofs.lemmas.Bool.Decides.{nat_tests}
use mathlib.Core.Logic.◌⊎◌.{inl, inr}
use Rattle.base_model.specs.Keyed.{Text, Keyed, same, text_lt, at, put, without}
use Rattle.race_model.specs.Stores.{Rows, pit_at, close, aliases_without}

pub same_true : (a b : Text) → same a b ≡ true → a ≡ b
unfolding same
same_true a b e = (bytes_eq-Decides a b).0 e

pub same_refl : (a : Text) → same a a ≡ true
unfolding same
same_refl a = (bytes_eq-Decides a a).1 refl

pub same_false : (a b : Text) → a ≢ b → same a b ≡ false
same_false a b n = by (same a b) refl
  where
    by : (t : Bool) → same a b ≡ t → same a b ≡ false
    by true e = absurd (n (same_true a b e))
    by false e = e

pub apart_from_false : (a b : Text) → same a b ≡ false → a ≢ b
apart_from_false a b e same_text = grind (arith, same_refl a)

-- how a test of two texts comes out, for grind
pub same_is : (a b : Text) → ((same a b ≡ true) × (a ≡ b)) ⊎ ((same a b ≡ false) × (a ≢ b))
same_is a b = by (same a b) refl
  where
    by : (t : Bool) → same a b ≡ t → ((same a b ≡ true) × (a ≡ b)) ⊎ ((same a b ≡ false) × (a ≢ b))
    by true e = inl (e, same_true a b e)
    by false e = inr (e, apart_from_false a b e)

pub at_put : {V : Type 0} → (q k : Text) (v : V) (es : Keyed V) → at q (put k v es) ≡ (if same q k then Some v else at q es)
unfolding at put
at_put q k v [] = refl
at_put q k v (e ∷ es) = grind (arith, at_put q k v es, same_is)

pub at_put_same : {V : Type 0} → (k : Text) (v : V) (es : Keyed V) → at k (put k v es) ≡ Some v
at_put_same k v es = grind (arith, at_put k k v es, same_refl k)

pub at_put_other : {V : Type 0} → (q k : Text) (v : V) (es : Keyed V) → q ≢ k → at q (put k v es) ≡ at q es
at_put_other q k v es n = grind (arith, at_put q k v es, same_false q k n)

pub at_without : {V : Type 0} → (q k : Text) (es : Keyed V) → at q (without k es) ≡ (if same q k then None else at q es)
unfolding at without
at_without q k [] = grind arith
at_without q k (e ∷ es) = grind (arith, at_without q k es, same_is)

pub at_without_same : {V : Type 0} → (k : Text) (es : Keyed V) → at k (without k es) ≡ None
at_without_same k es = grind (arith, at_without k k es, same_refl k)

pub at_without_other : {V : Type 0} → (q k : Text) (es : Keyed V) → q ≢ k → at q (without k es) ≡ at q es
at_without_other q k es n = grind (arith, at_without q k es, same_false q k n)

pub pit_at_close : {D : Type 0} → (q p : ℕ) (es : List (ℕ × Rows D)) → pit_at q (close p es) ≡ (if q == p then None else pit_at q es)
unfolding pit_at close
pit_at_close q p [] = grind (arith, nat_tests)
pit_at_close q p (e ∷ es) = grind (arith, nat_tests, pit_at_close q p es)

-- no entry has this value
unfoldable pub NoneOn : Text → Keyed Text → Type 0
NoneOn i [] = Unit {0}
NoneOn i (e ∷ es) = (same e.1 i ≡ false) × NoneOn i es

pub none_on_kept : (i : Text) (es : Keyed Text) → NoneOn i es → aliases_without i es ≡ es
unfolding NoneOn aliases_without
none_on_kept i [] n = refl
none_on_kept i (e ∷ es) n = rw (n.0, none_on_kept i es n.1) refl

pub none_on_put : (i k v : Text) (es : Keyed Text) → v ≢ i → NoneOn i es → NoneOn i (put k v es)
unfolding NoneOn put
none_on_put i k v [] a n = (same_false v i a, tt)
none_on_put i k v (e ∷ es) a n = by (same k e.0) (text_lt k e.0) (none_on_put i k v es a n.1)
  where
    by : (s t : Bool) → NoneOn i (put k v es) → NoneOn i (if s then (k, v) ∷ es else if t then (k, v) ∷ e ∷ es else e ∷ put k v es)
    by true t h = (same_false v i a, n.1)
    by false true h = (same_false v i a, n)
    by false false h = (n.0, h)

pub none_on_without : (i k : Text) (es : Keyed Text) → NoneOn i es → NoneOn i (without k es)
unfolding NoneOn without
none_on_without i k [] n = tt
none_on_without i k (e ∷ es) n = by (same k e.0) (none_on_without i k es n.1)
  where
    by : (s : Bool) → NoneOn i (without k es) → NoneOn i (if s then without k es else e ∷ without k es)
    by true h = h
    by false h = (n.0, h)
