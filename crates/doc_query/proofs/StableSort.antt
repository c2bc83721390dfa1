-- A stable sort is an insertion sort: two lists that rise, of which each keeps the order of what ties, are equal.
use Rattle.std.proofs.Common.{◌≡◌, ℕ, ◌<◌, suc, get_or, length, Bool, true, false, ◌&&◌, not, cond, List, [], ◌∷◌, refl, sym, ap, ◌∙◌, arith}
use native.Mathlib.Numerals.{unary_clauses}
use Rattle.std.specs.List.{filter}
use Rattle.std.specs.List.Sorted.{IsSortedBy, IsStableBy, ties}
use Rattle.std.specs.Cmp.{IsStrictWeakOrder}
use Rattle.std.proofs.lemmas.List.Sorted.{sorted_far}

module _ {X : Type 0} (lt : X → X → Bool) where
  -- an item is put before the first that it isn't above
  abbrev pub inserted : X → List X → List X
  inserted r [] = r ∷ []
  inserted r (s ∷ rows) = cond (not (lt s r)) (r ∷ s ∷ rows) (s ∷ inserted r rows)

  abbrev pub insertion_sort : List X → List X
  insertion_sort [] = []
  insertion_sort (r ∷ rows) = inserted r (insertion_sort rows)

  -- no item is below x
  abbrev pub Low : X → List X → Type 0
  Low x [] = Unit {0}
  Low x (y ∷ ys) = (lt y x ≡ false) × Low x ys

  abbrev pub Rises : List X → Type 0
  Rises [] = Unit {0}
  Rises (x ∷ xs) = Low x xs × Rises xs

  low-at : (x : X) (ys : List X) → ((j : ℕ) (d : X) → j < length ys → lt (get_or ys j d) x ≡ false) → Low x ys
  low-at x [] h = tt
  low-at x (y ∷ ys) h = (h 0 y (omega arith), low-at x ys (λ j d small. h (suc j) d (omega arith)))

  low-filter : (x : X) (p : X → Bool) (ys : List X) → Low x ys → Low x (filter p ys)
  low-filter x p [] h = tt
  low-filter x p (y ∷ ys) h = by_test (p y) (h.0, low-filter x p ys h.1)
    where
      by_test : (t : Bool) → Low x (y ∷ filter p ys) → Low x (cond t (y ∷ filter p ys) (filter p ys))
      by_test true g = g
      by_test false g = g.1

  module _ (o : IsStrictWeakOrder lt) where
    itself : (x : X) → lt x x ≡ false
    itself x = by_test (lt x x) refl
      where
        by_test : (t : Bool) → lt x x ≡ t → lt x x ≡ false
        by_test true e = o.one_way x x e
        by_test false e = e

    rises : (xs : List X) → IsSortedBy lt xs → Rises xs
    rises [] h = tt
    rises (x ∷ xs) h = (
      low-at x xs (λ j d small. sorted_far lt o (x ∷ xs) h 0 (suc j) d (omega arith) (omega arith)),
      rises xs (λ k d low high. simp unary_clauses (simp unary_clauses at (h (suc k) d (omega arith) (omega arith)))),
    )

    -- ---- the insertion sort rises

    low-chain : (s r : X) (rows : List X) → lt s r ≡ false → Low s rows → Low r rows
    low-chain s r [] h low = tt
    low-chain s r (u ∷ rows) h low = (o.chain u s r low.0 h, low-chain s r rows h low.1)

    low-inserted : (x r : X) (rows : List X) → lt r x ≡ false → Low x rows → Low x (inserted r rows)
    low-inserted x r [] h low = (h, tt)
    low-inserted x r (s ∷ rows) h low = by_test (not (lt s r)) (h, low) (low.0, low-inserted x r rows h low.1)
      where
        by_test : (t : Bool) → Low x (r ∷ s ∷ rows) → Low x (s ∷ inserted r rows) → Low x (cond t (r ∷ s ∷ rows) (s ∷ inserted r rows))
        by_test true g k = g
        by_test false g k = k

    rises-inserted : (r : X) (rows : List X) → Rises rows → Rises (inserted r rows)
    rises-inserted r [] h = (tt, tt)
    rises-inserted r (s ∷ rows) h = by_test (lt s r) refl (rises-inserted r rows h.1)
      where
        by_test : (t : Bool) → lt s r ≡ t → Rises (inserted r rows) → Rises (cond (not t) (r ∷ s ∷ rows) (s ∷ inserted r rows))
        by_test true e more = (low-inserted s r rows (o.one_way s r e) h.0, more)
        by_test false e more = ((e, low-chain s r rows e h.0), h)

    rises-sort : (rows : List X) → Rises (insertion_sort rows)
    rises-sort [] = tt
    rises-sort (r ∷ rows) = rises-inserted r (insertion_sort rows) (rises-sort rows)

    -- ---- it keeps the order of what ties

    -- an item passes one that is below it, which ties with nothing that it ties with
    passed : (a b : Bool) (r s : X) (rows : List X) → (a ≡ true → b ≡ true → ⊥) → cond b (s ∷ cond a (r ∷ rows) rows) (cond a (r ∷ rows) rows) ≡ cond a (r ∷ cond b (s ∷ rows) rows) (cond b (s ∷ rows) rows)
    passed true true r s rows h = absurd (h refl refl)
    passed true false r s rows h = refl
    passed false true r s rows h = refl
    passed false false r s rows h = refl

    tied_below : (x y : X) → ties lt x y ≡ true → (lt x y ≡ false) × (lt y x ≡ false)
    tied_below x y e = by_tests (lt x y) (lt y x) refl refl e
      where
        by_tests : (s t : Bool) → lt x y ≡ s → lt y x ≡ t → (not s && not t) ≡ true → (lt x y ≡ false) × (lt y x ≡ false)
        by_tests false false p q e = (p, q)
        by_tests true t p q e = cc
        by_tests false true p q e = cc

    apart : (x r s : X) → lt s r ≡ true → ties lt x r ≡ true → ties lt x s ≡ true → ⊥
    apart x r s e tr ts =
        let f : lt s r ≡ false = o.chain s x r (tied_below x s ts).1 (tied_below x r tr).0 in
        cc

    stable-inserted : (r : X) (rows : List X) → IsStableBy lt (r ∷ rows) (inserted r rows)
    stable-inserted r [] x = refl
    stable-inserted r (s ∷ rows) x = by_test (lt s r) refl (stable-inserted r rows x)
      where
        by_test : (t : Bool) → lt s r ≡ t → filter (ties lt x) (inserted r rows) ≡ filter (ties lt x) (r ∷ rows) → filter (ties lt x) (cond (not t) (r ∷ s ∷ rows) (s ∷ inserted r rows)) ≡ filter (ties lt x) (r ∷ s ∷ rows)
        by_test true e more =
            ap (λ (l : List X). cond (ties lt x s) (s ∷ l) l) more
            ∙ passed (ties lt x r) (ties lt x s) r s (filter (ties lt x) rows) (apart x r s e)
        by_test false e more = refl

    stable-sort : (rows : List X) → IsStableBy lt rows (insertion_sort rows)
    stable-sort [] x = refl
    stable-sort (r ∷ rows) x =
        stable-inserted r (insertion_sort rows) x
        ∙ ap (λ (l : List X). cond (ties lt x r) (r ∷ l) l) (stable-sort rows x)

    -- ---- there is one such list

    tied_itself : (x : X) → ties lt x x ≡ true
    tied_itself x = rw (itself x) refl

    tied : (x y : X) → lt x y ≡ false → lt y x ≡ false → ties lt x y ≡ true
    tied x y e f = rw (e, f) refl

    kept : (p : X → Bool) (y : X) (ys : List X) → p y ≡ true → filter p (y ∷ ys) ≡ y ∷ filter p ys
    kept p y ys e = rw e refl

    -- the least of one list isn't above the least of the other
    not_above : (y z : X) (ys zs : List X) → Low y ys → filter (ties lt z) (y ∷ ys) ≡ filter (ties lt z) (z ∷ zs) → lt z y ≡ false
    not_above y z ys zs low e =
        let all : Low y (filter (ties lt z) (y ∷ ys)) = low-filter y (ties lt z) (y ∷ ys) (itself y, low) in
        let f : filter (ties lt z) (y ∷ ys) ≡ z ∷ filter (ties lt z) zs = e ∙ kept (ties lt z) z zs (tied_itself z) in
        let there : Low y (z ∷ filter (ties lt z) zs) = rw f at all in
        there.0

    rests : (t : Bool) (y : X) (a b : List X) → cond t (y ∷ a) a ≡ cond t (y ∷ b) b → a ≡ b
    rests true y a b e = cc
    rests false y a b e = e

    one_list : (ys zs : List X) → Rises ys → Rises zs → ((x : X) → filter (ties lt x) ys ≡ filter (ties lt x) zs) → ys ≡ zs
    one_list [] [] ry rz same = refl
    one_list [] (z ∷ zs) ry rz same =
        let e : [] ≡ z ∷ filter (ties lt z) zs = same z ∙ kept (ties lt z) z zs (tied_itself z) in
        cc
    one_list (y ∷ ys) [] ry rz same =
        let e : [] ≡ y ∷ filter (ties lt y) ys = sym (same y) ∙ kept (ties lt y) y ys (tied_itself y) in
        cc
    one_list (y ∷ ys) (z ∷ zs) ry rz same =
        let zy : lt z y ≡ false = not_above y z ys zs ry.0 (same z) in
        let yz : lt y z ≡ false = not_above z y zs ys rz.0 (sym (same y)) in
        let first : filter (ties lt y) (y ∷ ys) ≡ y ∷ filter (ties lt y) ys = kept (ties lt y) y ys (tied_itself y) in
        let second : filter (ties lt y) (z ∷ zs) ≡ z ∷ filter (ties lt y) zs = kept (ties lt y) z zs (tied y z yz zy) in
        let heads : y ∷ filter (ties lt y) ys ≡ z ∷ filter (ties lt y) zs = sym first ∙ same y ∙ second in
        let e : y ≡ z = cc in
        let more : ys ≡ zs = one_list ys zs ry.1 rz.1 (λ x. rests (ties lt x y) y (filter (ties lt x) ys) (filter (ties lt x) zs) (same x ∙ ap (λ (w : X). filter (ties lt x) (w ∷ zs)) (sym e))) in
        cc

    -- what a stable sort leaves
    pub sorted_is : (xs ys : List X) → IsSortedBy lt ys → IsStableBy lt xs ys → ys ≡ insertion_sort xs
    sorted_is xs ys up stable = one_list ys (insertion_sort xs) (rises ys up) (rises-sort xs) (λ x. stable x ∙ sym (stable-sort xs x))
