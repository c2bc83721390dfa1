-- The writers keep a table a table.
use Rattle.std.proofs.Common.{◌≡◌, ◌≢◌, ℕ, ◌+◌, ◌<◌, true, List, [], ◌∷◌, ◌++◌, refl, sym, arith}
use Rattle.std.specs.Ordering.{is_lt, is_gt}
use Rattle.std.specs.declared.cmp.Ordering.{Ordering}
use Rattle.std.specs.declared.cmp.Ordering.TheVariants.{Less, Equal, Greater}
use Rattle.saved_doc.specs.declared.doc.Row.{Row}
use Rattle.doc_table.specs.RowLists.{IsNumbered, Each, IsRising, IsApart, order, below, above, with_row}
use Rattle.doc_table.specs.Place.{IsBelow, IsAbove}
use Rattle.doc_table.proofs.Order.{each_weaker, each_append, each_filter, each_filter_passes, each_of_each, pairwise_append, pairwise_filter, pairwise_filters}
use Rattle.doc_table.proofs.Places.{flip_greater, less_chain}

less-is_lt : (o : Ordering) → is_lt o ≡ true → o ≡ Less
less-is_lt Less e = refl
less-is_lt Equal e = cc
less-is_lt Greater e = cc

pub greater-is_gt : (o : Ordering) → is_gt o ≡ true → o ≡ Greater
greater-is_gt Less e = cc
greater-is_gt Equal e = cc
greater-is_gt Greater e = refl

pub not_both : (o : Ordering) → is_lt o ≡ true → is_gt o ≡ true → ⊥
not_both Less e f = cc
not_both Equal e f = cc
not_both Greater e f = cc

pub each_below : (r : List ℕ) (rows : List Row) → Each (IsBelow r) (below r rows)
each_below r rows = each_weaker (λ x. is_lt (order x.raw r) ≡ true) (IsBelow r) (λ x e. less-is_lt (order x.raw r) e) (below r rows) (each_filter_passes (λ x. is_lt (order x.raw r)) rows)

pub each_above : (r : List ℕ) (rows : List Row) → Each (IsAbove r) (above r rows)
each_above r rows = each_weaker (λ x. is_gt (order x.raw r) ≡ true) (IsAbove r) (λ x e. greater-is_gt (order x.raw r) e) (above r rows) (each_filter_passes (λ x. is_gt (order x.raw r)) rows)

rising_across : (r : List ℕ) (rows : List Row) → Each (λ x. Each (λ y. order x.raw y.raw ≡ Less) (above r rows)) (below r rows)
rising_across r rows = each_of_each (IsBelow r) (IsAbove r) (λ x y. order x.raw y.raw ≡ Less) (λ x y p q. less_chain x.raw r y.raw p (flip_greater y.raw r q)) (below r rows) (above r rows) (each_below r rows) (each_above r rows)

apart_across : (r : List ℕ) (rows : List Row) → IsApart rows → Each (λ x. Each (λ y. x.seq ≢ y.seq) (above r rows)) (below r rows)
apart_across r rows a = pairwise_filters (λ x y. x.seq ≢ y.seq) (λ x. is_lt (order x.raw r)) (λ x. is_gt (order x.raw r)) (λ x y n e. n (sym e)) (λ x. not_both (order x.raw r)) rows a

each_cons : (R : Row → Row → Type 0) (xs : List Row) (y : Row) (ys : List Row) → Each (λ x. R x y) xs → Each (λ x. Each (R x) ys) xs → Each (λ x. Each (R x) (y ∷ ys)) xs
each_cons R [] y ys a b = tt
each_cons R (x ∷ xs) y ys a b = ((a.0, b.0), each_cons R xs y ys a.1 b.1)

pub with_rising : (x : Row) (rows : List Row) → IsRising rows → IsRising (with_row x rows)
with_rising x rows s =
    let L : Row → Row → Type 0 = λ a b. order a.raw b.raw ≡ Less in
    pairwise_append L (below x.raw rows) (x ∷ above x.raw rows) (pairwise_filter L _ rows s)
    (each_weaker (IsAbove x.raw) (L x) (λ y g. flip_greater y.raw x.raw g) (above x.raw rows) (each_above x.raw rows), pairwise_filter L _ rows s)
    (each_cons L (below x.raw rows) x (above x.raw rows) (each_below x.raw rows) (rising_across x.raw rows))

without_rising : (r : List ℕ) (rows : List Row) → IsRising rows → IsRising (below r rows ++ above r rows)
without_rising r rows s =
    let L : Row → Row → Type 0 = λ a b. order a.raw b.raw ≡ Less in
    pairwise_append L (below r rows) (above r rows) (pairwise_filter L _ rows s) (pairwise_filter L _ rows s) (rising_across r rows)

with_apart : (x : Row) (rows : List Row) → Each (λ y. y.seq < x.seq) rows → IsApart rows → IsApart (with_row x rows)
with_apart x rows f s =
    let D : Row → Row → Type 0 = λ a b. a.seq ≢ b.seq in
    pairwise_append D (below x.raw rows) (x ∷ above x.raw rows) (pairwise_filter D _ rows s)
    (each_weaker (λ y. y.seq < x.seq) (D x) (λ y l. omega arith) (above x.raw rows) (each_filter _ _ rows f), pairwise_filter D _ rows s)
    (each_cons D (below x.raw rows) x (above x.raw rows) (each_weaker (λ y. y.seq < x.seq) (λ y. D y x) (λ y l. omega arith) (below x.raw rows) (each_filter _ _ rows f)) (apart_across x.raw rows s))

without_apart : (r : List ℕ) (rows : List Row) → IsApart rows → IsApart (below r rows ++ above r rows)
without_apart r rows s =
    let D : Row → Row → Type 0 = λ a b. a.seq ≢ b.seq in
    pairwise_append D (below r rows) (above r rows) (pairwise_filter D _ rows s) (pairwise_filter D _ rows s) (apart_across r rows s)

fresher : (n : ℕ) (rows : List Row) → Each (λ x. x.seq < n) rows → Each (λ x. x.seq < n + 1) rows
fresher n rows f = each_weaker (λ x. x.seq < n) (λ x. x.seq < n + 1) (λ x l. omega arith) rows f

pub numbered_with : (x : Row) (rows : List Row) → IsNumbered rows x.seq → IsNumbered (with_row x rows) (x.seq + 1)
numbered_with x rows s =
    let f : Each (λ y. y.seq < x.seq + 1) rows = fresher x.seq rows s.fresh in
    record {
      rising = with_rising x rows s.rising;
      apart = with_apart x rows s.fresh s.apart;
      fresh = each_append (λ y. y.seq < x.seq + 1) (below x.raw rows) (x ∷ above x.raw rows) (each_filter _ _ rows f) (omega arith, each_filter _ _ rows f);
    }

pub numbered_without : (r : List ℕ) (rows : List Row) (next : ℕ) → IsNumbered rows next → IsNumbered (below r rows ++ above r rows) (next + 1)
numbered_without r rows next s =
    let f : Each (λ x. x.seq < next + 1) rows = fresher next rows s.fresh in
    record {
      rising = without_rising r rows s.rising;
      apart = without_apart r rows s.apart;
      fresh = each_append (λ x. x.seq < next + 1) (below r rows) (above r rows) (each_filter _ _ rows f) (each_filter _ _ rows f);
    }
