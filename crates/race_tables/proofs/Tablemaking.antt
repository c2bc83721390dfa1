-- A whole temporary table, numbered anew, is the migrated table.
use Rattle.std.proofs.Common.{◌≡◌, ◌≢◌, ℕ, suc, ◌+◌, List, [], ◌∷◌, length, Bool, true, false, Option, Some, None, refl, sym, ◌∙◌, ap, subst, if◌then◌else◌, arith}
use mathlib.Core.Logic.◌⊎◌.{inl, inr}
use Rattle.base_model.specs.Keyed.{Text, Keyed, same, text_lt, at, put}
use Rattle.race_model.specs.Stores.{Cell, Rows, Table, numbered, renumbered}
use Rattle.race_model.specs.Machines.{Settings}
use Rattle.race_model.specs.Migrated.{outs, collected, cells, migrated, NoneHas, AllApart}
use Rattle.race_model.specs.Journals.{Has}
use Rattle.race_model.specs.Sorted.{AllAbove, IsSorted}
use Rattle.race_tables.proofs.Keys.{same_is, same_true, same_refl, same_false, at_put, at_put_same, at_put_other}
use Rattle.race_tables.proofs.Tables.{Holds, sorted_put, lt_trans, lt_irrefl, each_at}
use Rattle.race_tables.proofs.Outputs.{Whole}

above_at : {V : Type 0} (k q : Text) (v : V) (es : Keyed V) → AllAbove k es → at q es ≡ Some v → text_lt k q ≡ true
unfolding AllAbove at
above_at k q v [] a e = absurd (cc)
above_at k q v (x ∷ es) a e = by (same q x.0) refl e (above_at k q v es a.1)
  where
    by : (t : Bool) → same q x.0 ≡ t → (if t then Some x.1 else at q es) ≡ Some v → (at q es ≡ Some v → text_lt k q ≡ true) → text_lt k q ≡ true
    by true p f rest = rw (same_true q x.0 p) a.0
    by false p f rest = rest f

none_at : {V : Type 0} (k : Text) (es : Keyed V) → AllAbove k es → at k es ≡ None
none_at {V = V} k es a = by (at k es) refl
  where
    by : (o : Option V) → at k es ≡ o → at k es ≡ None
    by None e = e
    by (Some v) e = absurd (let up : text_lt k k ≡ true = above_at k k v es a e in let no : text_lt k k ≡ false = lt_irrefl k in cc)

at_head : {V : Type 0} (x : Text × V) (xs : Keyed V) → at x.0 (x ∷ xs) ≡ Some x.1
unfolding at
at_head x xs = rw (same_refl x.0) refl

at_tail : {V : Type 0} (q : Text) (x : Text × V) (xs : Keyed V) → q ≢ x.0 → at q (x ∷ xs) ≡ at q xs
unfolding at
at_tail q x xs n = rw (same_false q x.0 n) refl

nothing_is_head : {V : Type 0} {B : Type 0} (z : Text × V) (zs : Keyed V) → at z.0 [] ≡ at z.0 (z ∷ zs) → B
unfolding at
nothing_is_head z zs e = absurd (let f : None ≡ Some z.1 = e ∙ at_head z zs in cc)

-- a key that is another's is there, among those above it
head_above : {V : Type 0} (x y : Text × V) (xs ys : Keyed V) → AllAbove y.0 ys → x.0 ≢ y.0 → at x.0 (x ∷ xs) ≡ at x.0 (y ∷ ys) → text_lt y.0 x.0 ≡ true
head_above x y xs ys a n e = above_at y.0 x.0 x.1 ys a (sym (at_tail x.0 y ys n) ∙ sym e ∙ at_head x xs)

same_head : {V : Type 0} (x y : Text × V) (xs ys : Keyed V) → AllAbove x.0 xs → AllAbove y.0 ys → ((q : Text) → at q (x ∷ xs) ≡ at q (y ∷ ys)) → x.0 ≡ y.0
same_head x y xs ys a b f = elim (same_is x.0 y.0) [
  | inl p ↦ p.1
  | inr p ↦ absurd (
      let up : text_lt y.0 x.0 ≡ true = head_above x y xs ys b p.1 (f x.0) in
      let down : text_lt x.0 y.0 ≡ true = head_above y x ys xs a (λ e. p.1 (sym e)) (sym (f y.0)) in
      let round : text_lt x.0 x.0 ≡ true = lt_trans x.0 y.0 x.0 down up in
      let no : text_lt x.0 x.0 ≡ false = lt_irrefl x.0 in cc)
]

same_tails : {V : Type 0} (x y : Text × V) (xs ys : Keyed V) → AllAbove x.0 xs → AllAbove y.0 ys → x.0 ≡ y.0 → ((q : Text) → at q (x ∷ xs) ≡ at q (y ∷ ys)) → (q : Text) → at q xs ≡ at q ys
same_tails x y xs ys a b e f q = elim (same_is q x.0) [
  | inl p ↦ rw p.1 (none_at x.0 xs a ∙ sym (rw e (none_at y.0 ys b)))
  | inr p ↦ sym (at_tail q x xs p.1) ∙ f q ∙ at_tail q y ys (λ r. p.1 (r ∙ sym e))
]

pair_same : {V : Type 0} (x y : Text × V) → x.0 ≡ y.0 → Some x.1 ≡ Some y.1 → x ≡ y
pair_same x y e f = let g : x.1 ≡ y.1 = cc in grind arith

-- two lists in order with the same look-ups are one
pub same_lists : {V : Type 0} (xs ys : Keyed V) → IsSorted xs → IsSorted ys → ((q : Text) → at q xs ≡ at q ys) → xs ≡ ys
unfolding IsSorted
same_lists [] [] a b f = refl
same_lists [] (y ∷ ys) a b f = nothing_is_head y ys (f y.0)
same_lists (x ∷ xs) [] a b f = nothing_is_head x xs (sym (f x.0))
same_lists (x ∷ xs) (y ∷ ys) a b f =
    let e : x.0 ≡ y.0 = same_head x y xs ys a.0 b.0 f in
    let one : x ≡ y = pair_same x y e (sym (at_head x xs) ∙ f x.0 ∙ rw e (at_head y ys)) in
    let rest : xs ≡ ys = same_lists xs ys a.1 b.1 (same_tails x y xs ys a.0 b.0 e f) in
    cc

-- rows without their numbers
docs : {D : Type 0} → Rows D → Keyed D
docs [] = []
docs (r ∷ rs) = (r.0, r.1.doc) ∷ docs rs

doc_of : {D : Type 0} → Option (Cell D) → Option D
doc_of None = None
doc_of (Some c) = Some c.doc

at_docs : {D : Type 0} (q : Text) (rows : Rows D) → at q (docs rows) ≡ doc_of (at q rows)
unfolding docs doc_of at
at_docs q [] = refl
at_docs q (r ∷ rows) = by (same q r.0) (at_docs q rows)
  where
    by : (t : Bool) → at q (docs rows) ≡ doc_of (at q rows) → (if t then Some r.1.doc else at q (docs rows)) ≡ doc_of (if t then Some r.1 else at q rows)
    by true h = refl
    by false h = h

above_docs : {D : Type 0} (k : Text) (rows : Rows D) → AllAbove k rows → AllAbove k (docs rows)
unfolding docs AllAbove
above_docs k [] a = tt
above_docs k (r ∷ rows) a = (a.0, above_docs k rows a.1)

sorted_docs : {D : Type 0} (rows : Rows D) → IsSorted rows → IsSorted (docs rows)
unfolding docs IsSorted
sorted_docs [] a = tt
sorted_docs (r ∷ rows) a = (above_docs r.0 rows a.0, sorted_docs rows a.1)

numbered_docs : {D : Type 0} (n : ℕ) (rows : Rows D) → numbered n rows ≡ cells n (docs rows)
unfolding docs numbered cells
numbered_docs n [] = refl
numbered_docs n (r ∷ rows) = ap (λ x. (r.0, record { seq = n; doc = r.1.doc }) ∷ x) (numbered_docs (n + 1) rows)

length_docs : {D : Type 0} (rows : Rows D) → length rows ≡ length (docs rows)
unfolding docs
length_docs [] = refl
length_docs (r ∷ rows) = ap suc (length_docs rows)

sorted_collected : {D : Type 0} (os : List (Text × D)) → IsSorted (collected os)
unfolding collected IsSorted
sorted_collected [] = tt
sorted_collected (o ∷ os) = sorted_put o.0 o.1 (collected os) (sorted_collected os)

lacks_collected : {D : Type 0} (q : Text) (os : List (Text × D)) → NoneHas q os → at q (collected os) ≡ None
unfolding collected NoneHas at
lacks_collected q [] l = refl
lacks_collected q (o ∷ os) l = rw (at_put q o.0 o.1 (collected os), l.0) (lacks_collected q os l.1)

-- an output that is there isn't lacking
has_lacks : {D : Type 0} {B : Type 0} (q : Text) (d : D) (os : List (Text × D)) → Has (q, d) os → NoneHas q os → B
unfolding Has NoneHas
has_lacks q d [] h l = absurd h
has_lacks q d (o ∷ os) (inl e) l = absurd (let f : q ≡ o.0 = ap (λ x. x.0) e in let g : same q q ≡ false = subst (λ k. same q k ≡ false) (sym f) l.0 in let k : same q q ≡ true = same_refl q in cc)
has_lacks q d (o ∷ os) (inr h) l = has_lacks q d os h l.1

has_collected : {D : Type 0} (q : Text) (d : D) (os : List (Text × D)) → AllApart os → Has (q, d) os → at q (collected os) ≡ Some d
unfolding Has AllApart collected
has_collected q d [] a h = absurd h
has_collected q d (o ∷ os) a (inl e) = subst (λ x. at x.0 (put o.0 o.1 (collected os)) ≡ Some x.1) (sym e) (at_put_same o.0 o.1 (collected os))
has_collected q d (o ∷ os) a (inr h) = elim (same_is q o.0) [
  | inl p ↦ has_lacks o.0 d os (subst (λ k. Has (k, d) os) p.1 h) a.0
  | inr p ↦ at_put_other q o.0 o.1 (collected os) p.1 ∙ has_collected q d os a.1 h
]

holds_lacks : {D : Type 0} (q : Text) (os : List (Text × D)) (rows : Rows D) → Holds os rows → at q rows ≡ None → NoneHas q os
unfolding Holds NoneHas
holds_lacks q [] rows h e = tt
holds_lacks q (o ∷ os) rows h e = (
  elim (same_is q o.0) [
    | inl p ↦ absurd (let f : at o.0 rows ≡ None = subst (λ k. at k rows ≡ None) p.1 e in let g : at o.0 rows ≡ Some h.0.0 = h.0.1 in cc)
    | inr p ↦ p.0
  ],
  holds_lacks q os rows h.1 e,
)

-- the theorem of the copy
pub whole_migrated : {D Q : Type 0} (s : Settings D Q) (rows : Rows D) (t : Table D) → Whole s rows t → renumbered t ≡ migrated s rows
unfolding doc_of
whole_migrated {D = D} s rows t w = rw (numbered_docs 0 t.rows, length_docs t.rows, same) refl
  where
    by : (q : Text) (o : Option (Cell D)) → at q t.rows ≡ o → doc_of o ≡ at q (collected (outs s rows))
    by q None e = sym (lacks_collected q (outs s rows) (holds_lacks q (outs s rows) t.rows w.holds e))
    by q (Some c) e = sym (has_collected q c.doc (outs s rows) w.clean.apart (each_at (λ raw doc. Has (raw, doc) (outs s rows)) q c t.rows w.only e))

    same : docs t.rows ≡ collected (outs s rows)
    same = same_lists (docs t.rows) (collected (outs s rows)) (sorted_docs t.rows w.sorted) (sorted_collected (outs s rows)) (λ q. at_docs q t.rows ∙ by q (at q t.rows) refl)
