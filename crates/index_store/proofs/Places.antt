-- Where an index stands among those that rise, and what another in its place leaves.
use Rattle.std.proofs.Common.{◌≡◌, ℕ, suc, ◌+◌, ◌<◌, List, [], ◌∷◌, Bool, true, false, Some, None, refl, ap, sym, ◌∙◌, subst, length, get_or, set, if◌then◌else◌, arith}
use Rattle.std.specs.Prelude.{not, zero, cond}
use Rattle.std.proofs.lemmas.List.{get_or_default}
use Rattle.std.specs.Str.{bytes_eq}
use Rattle.std.specs.List.{insert, filter, position_or_len}
use Rattle.base_model.specs.Keyed.{Text, Keyed, same, text_lt, at, put, without}
use Rattle.document_model.specs.Documents.{Doc}
use Rattle.so_js.specs.declared.js.Js.{Js}
use Rattle.race_model.specs.Stores.{Index}
use Rattle.race_model.specs.Sorted.{AllAbove, IsSorted}
use Rattle.race_tables.proofs.Keys.{same_true, same_refl}
use Rattle.race_tables.proofs.Tables.{lt_trans, lt_irrefl, sorted_put}
use Rattle.index_store.specs.declared.held.Held.{Held}
use Rattle.index_store.specs.Indices.{index_of, entry_of, indices_of, IsPlace}

-- a lower text is another
pub other_of_lower : (a b : Text) → text_lt a b ≡ true → same b a ≡ false
other_of_lower a b l = by (same b a) refl
  where
    by : (t : Bool) → same b a ≡ t → same b a ≡ false
    by true e = absurd (let h = subst (λ (x : Text). text_lt a x ≡ true) (same_true b a e) l in let n = lt_irrefl a in cc)
    by false e = e

-- and not higher
pub lower_once : (a b : Text) → text_lt a b ≡ true → text_lt b a ≡ false
lower_once a b l = by (text_lt b a) refl
  where
    by : (t : Bool) → text_lt b a ≡ t → text_lt b a ≡ false
    by true e = absurd (let h = lt_trans a b a l e in let n = lt_irrefl a in cc)
    by false e = e

-- ---- one step of the look-ups

at_here : (k : Text) (h : Held) (es : Keyed (Index (Doc Js))) → h.name ≡ k → at k (entry_of h ∷ es) ≡ Some (index_of h)
unfolding at
at_here k h es e = rw (subst (λ (t : Text). same t h.name ≡ true) e (same_refl h.name)) refl

at_later : (k : Text) (h : Held) (es : Keyed (Index (Doc Js))) → same k h.name ≡ false → at k (entry_of h ∷ es) ≡ at k es
unfolding at
at_later k h es e = rw e refl

put_here : (k : Text) (v : Index (Doc Js)) (h : Held) (es : Keyed (Index (Doc Js))) → h.name ≡ k → put k v (entry_of h ∷ es) ≡ (k, v) ∷ es
unfolding put
put_here k v h es e = rw (subst (λ (t : Text). same t h.name ≡ true) e (same_refl h.name)) refl

put_before : (k : Text) (v : Index (Doc Js)) (h : Held) (es : Keyed (Index (Doc Js))) → same k h.name ≡ false → text_lt k h.name ≡ true → put k v (entry_of h ∷ es) ≡ (k, v) ∷ entry_of h ∷ es
unfolding put
put_before k v h es e l = rw (e, l) refl

put_later : (k : Text) (v : Index (Doc Js)) (h : Held) (es : Keyed (Index (Doc Js))) → same k h.name ≡ false → text_lt k h.name ≡ false → put k v (entry_of h ∷ es) ≡ entry_of h ∷ put k v es
unfolding put
put_later k v h es e l = rw (e, l) refl

-- ---- an index that is there

above_at : (k : Text) (hs : List Held) (i : ℕ) (d : Held) → AllAbove k (indices_of hs) → i < length hs → text_lt k (get_or hs i d).name ≡ true
unfolding AllAbove
above_at k [] i d a l = absurd (omega arith)
above_at k (h ∷ hs) zero d a l = a.0
above_at k (h ∷ hs) (suc i) d a l = above_at k hs i d a.1 (omega arith)

pub at_place : (k : Text) (hs : List Held) (i : ℕ) (d : Held) → IsSorted (indices_of hs) → i < length hs → (get_or hs i d).name ≡ k → at k (indices_of hs) ≡ Some (index_of (get_or hs i d))
unfolding IsSorted
at_place k [] i d s l e = absurd (omega arith)
at_place k (h ∷ hs) zero d s l e = at_here k h (indices_of hs) e
at_place k (h ∷ hs) (suc i) d s l e =
    let below : text_lt h.name k ≡ true = subst (λ (t : Text). text_lt h.name t ≡ true) e (above_at h.name hs i d s.0 (omega arith)) in
    at_later k h (indices_of hs) (other_of_lower h.name k below) ∙ at_place k hs i d s.1 (omega arith) e

pub put_place : (k : Text) (hs : List Held) (i : ℕ) (d new : Held) → IsSorted (indices_of hs) → i < length hs → (get_or hs i d).name ≡ k → new.name ≡ k → indices_of (set hs i new) ≡ put k (index_of new) (indices_of hs)
unfolding IsSorted
put_place k [] i d new s l e n = absurd (omega arith)
put_place k (h ∷ hs) zero d new s l e n = ap (λ (t : Text). (t, index_of new) ∷ indices_of hs) n ∙ sym (put_here k (index_of new) h (indices_of hs) e)
put_place k (h ∷ hs) (suc i) d new s l e n =
    let below : text_lt h.name k ≡ true = subst (λ (t : Text). text_lt h.name t ≡ true) e (above_at h.name hs i d s.0 (omega arith)) in
    ap (λ (es : Keyed (Index (Doc Js))). entry_of h ∷ es) (put_place k hs i d new s.1 (omega arith) e n)
    ∙ sym (put_later k (index_of new) h (indices_of hs) (other_of_lower h.name k below) (lower_once h.name k below))

pub is_place : (k : Text) (hs : List Held) (i : ℕ) (x : Held) → IsSorted (indices_of hs) → i < length hs → x ≡ get_or hs i x → x.name ≡ k → IsPlace k hs i
is_place k hs i x s l e n = record {
  within = l;
  named = named;
  held = λ d. at_place k hs i d s l (named d);
  replaced = λ h m. put_place k hs i x h s l (named x) m;
}
  where
    named : (d : Held) → (get_or hs i d).name ≡ k
    named d = ap (λ (h : Held). h.name) (get_or_default hs i d x l ∙ sym e) ∙ n

pub sorted_set : (k : Text) (hs : List Held) (i : ℕ) (h : Held) → IsPlace k hs i → h.name ≡ k → IsSorted (indices_of hs) → IsSorted (indices_of (set hs i h))
sorted_set k hs i h p n s = subst IsSorted (sym (p.replaced h n)) (sorted_put k (index_of h) (indices_of hs) s)

-- ---- an index that is not there

none_here : (k : Text) (h : Held) (es : Keyed (Index (Doc Js))) → at k (entry_of h ∷ es) ≡ None → same k h.name ≡ false
unfolding at
none_here k h es n = by (same k h.name) refl
  where
    by : (t : Bool) → same k h.name ≡ t → same k h.name ≡ false
    by true e = absurd (let m : Some (index_of h) ≡ None = rw e at n in cc)
    by false e = e

insert_later : (h new : Held) (hs : List Held) (n : ℕ) → insert (h ∷ hs) (1 + n) new ≡ h ∷ insert hs n new
insert_later h new hs n = let e : 1 + n ≡ suc n = omega arith in rw e refl

pub put_seat : (k : Text) (hs : List Held) (new : Held) → new.name ≡ k → at k (indices_of hs) ≡ None → indices_of (insert hs (position_or_len (λ h. text_lt k h.name) hs) new) ≡ put k (index_of new) (indices_of hs)
unfolding put
put_seat k [] new n o = ap (λ (t : Text). (t, index_of new) ∷ []) n
put_seat k (h ∷ hs) new n o = let other = none_here k h (indices_of hs) o in by other (put_seat k hs new n (sym (at_later k h (indices_of hs) other) ∙ o)) (text_lt k h.name) refl
  where
    by :
        same k h.name ≡ false → indices_of (insert hs (position_or_len (λ h. text_lt k h.name) hs) new) ≡ put k (index_of new) (indices_of hs) → (t : Bool) → text_lt k h.name ≡ t →
        indices_of (insert (h ∷ hs) (cond (not t) (1 + position_or_len (λ h. text_lt k h.name) hs) 0) new) ≡ put k (index_of new) (indices_of (h ∷ hs))
    by other rest true e = ap (λ (t : Text). (t, index_of new) ∷ entry_of h ∷ indices_of hs) n ∙ sym (put_before k (index_of new) h (indices_of hs) other e)
    by other rest false e =
        ap indices_of (insert_later h new hs (position_or_len (λ h. text_lt k h.name) hs))
        ∙ ap (λ (es : Keyed (Index (Doc Js))). entry_of h ∷ es) rest
        ∙ sym (put_later k (index_of new) h (indices_of hs) other e)

-- ---- an index that goes

pub without_filter : (k : Text) (hs : List Held) → without k (indices_of hs) ≡ indices_of (filter (λ h. not (bytes_eq k h.name)) hs)
unfolding without same
without_filter k [] = refl
without_filter k (h ∷ hs) = by (bytes_eq k h.name) (without_filter k hs)
  where
    by : (t : Bool) → without k (indices_of hs) ≡ indices_of (filter (λ h. not (bytes_eq k h.name)) hs) → (if t then without k (indices_of hs) else entry_of h ∷ without k (indices_of hs)) ≡ indices_of (if not t then h ∷ filter (λ h. not (bytes_eq k h.name)) hs else filter (λ h. not (bytes_eq k h.name)) hs)
    by true e = e
    by false e = ap (λ es. entry_of h ∷ es) e
