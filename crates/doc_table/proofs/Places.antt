-- Where a raw id stands among rows that rise.
use Rattle.std.proofs.Common.{◌≡◌, ℕ, ◌+◌, ◌<◌, ◌≤◌, List, [], ◌∷◌, ◌++◌, length, take, drop, get_or, Ok, Err, refl, sym, ◌∙◌, ap, subst, arith}
use Rattle.std.specs.Cmp.Lexicographic.{nat_list_cmp_total}
use Rattle.std.specs.Ordering.{ordering_reverse}
use Rattle.std.specs.declared.cmp.Ordering.TheVariants.{Less, Equal, Greater}
use Rattle.std.proofs.lemmas.List.{take-append-drop, drop_more, take_more, drop_all}
use Rattle.std.proofs.lemmas.Option.{slice_get_read}
use Rattle.saved_doc.specs.declared.doc.Row.{Row}
use Rattle.doc_table.specs.RowLists.{Each, IsRising, order}
use Rattle.doc_table.specs.Place.{IsBelow, IsAbove, IsPlace}
use Rattle.std.specs.declared.cmp.Ordering.{Ordering}
use Rattle.doc_table.proofs.Order.{each_weaker, each_append, pairwise_back, pairwise_across}

pub flip_less : (a b : List ℕ) → order a b ≡ Less → order b a ≡ Greater
flip_less a b e = nat_list_cmp_total.antisymm b a ∙ ap ordering_reverse e

pub flip_greater : (a b : List ℕ) → order a b ≡ Greater → order b a ≡ Less
flip_greater a b e = nat_list_cmp_total.antisymm b a ∙ ap ordering_reverse e

pub less_chain : (a b c : List ℕ) → order a b ≡ Less → order b c ≡ Less → order a c ≡ Less
less_chain a b c = nat_list_cmp_total.trans a b c

pub later_than_at : (x r y : List ℕ) → order x r ≡ Equal → order x y ≡ Less → order y r ≡ Greater
later_than_at x r y e l = flip_less r y (sym (nat_list_cmp_total.congr x r y e) ∙ l)

pub later_than_above : (x r y : List ℕ) → order x r ≡ Greater → order x y ≡ Less → order y r ≡ Greater
later_than_above x r y g l = flip_less r y (less_chain r x y (flip_greater x r g) l)

pub each_more : {X : Type 0} (P : X → Type 0) (xs : List X) (i : ℕ) (x : X) → i < length xs → x ≡ get_or xs i x → Each P (take i xs) → P x → Each P (take (i + 1) xs)
each_more P xs i x h e a p = rw (take_more xs i x h) (each_append P (take i xs) (get_or xs i x ∷ []) a (subst P e p, tt))

split_read : (rows : List Row) (i : ℕ) (x : Row) → i < length rows → x ≡ get_or rows i x → rows ≡ take i rows ++ x ∷ drop (i + 1) rows
split_read rows i x h e =
    sym (take-append-drop i rows) ∙ ap (λ (t : List Row). take i rows ++ t) (drop_more rows i x h ∙ ap (λ (y : Row). y ∷ drop (i + 1) rows) (sym e))

later : (rows : List Row) (i : ℕ) (x : Row) → IsRising rows → rows ≡ take i rows ++ x ∷ drop (i + 1) rows → Each (λ y. order x.raw y.raw ≡ Less) (drop (i + 1) rows)
later rows i x s e = (pairwise_back (λ x y. order x.raw y.raw ≡ Less) (take i rows) (x ∷ drop (i + 1) rows) (subst IsRising e s)).0

pub place_here : (r : List ℕ) (rows : List Row) (i : ℕ) (x : Row) → IsRising rows → i < length rows → x ≡ get_or rows i x → Each (IsBelow r) (take i rows) → order x.raw r ≡ Equal → IsPlace r rows (Ok i)
place_here r rows i x s h e a q =
    let w = split_read rows i x h e in
    let o = slice_get_read rows (length rows) i x refl h e in (
      h,
      record {
        whole = rw o w;
        lower = a;
        same = rw o q;
        higher = each_weaker (λ y. order x.raw y.raw ≡ Less) (IsAbove r) (λ y l. later_than_at x.raw r y.raw q l) (drop (i + 1) rows) (later rows i x s w);
      },
    )

pub place_gap : (r : List ℕ) (rows : List Row) (i : ℕ) (x : Row) → IsRising rows → i < length rows → x ≡ get_or rows i x → Each (IsBelow r) (take i rows) → order x.raw r ≡ Greater → IsPlace r rows (Err i)
place_gap r rows i x s h e a q =
    let w = split_read rows i x h e in
    let t : Each (IsAbove r) (x ∷ drop (i + 1) rows) = (q, each_weaker (λ y. order x.raw y.raw ≡ Less) (IsAbove r) (λ y l. later_than_above x.raw r y.raw q l) (drop (i + 1) rows) (later rows i x s w)) in (
      omega arith,
      record {
        whole = sym (take-append-drop i rows);
        lower = a;
        same = tt;
        higher = rw (drop_more rows i x h) (rw (← e) t);
      },
    )

pub place_end : (r : List ℕ) (rows : List Row) (i : ℕ) → length rows ≤ i → i ≤ length rows → Each (IsBelow r) (take i rows) → IsPlace r rows (Err i)
place_end r rows i h k a = (k, record { whole = sym (take-append-drop i rows); lower = a; same = tt; higher = rw (drop_all i rows h) tt })

earlier_by : (y x r : List ℕ) (o : Ordering) → order x r ≡ o → order y x ≡ Less → (o ≡ Greater → ⊥) → order y r ≡ Less
earlier_by y x r Less f e q = less_chain y x r e f
earlier_by y x r Equal f e q = flip_greater r y (sym (nat_list_cmp_total.congr x r y f) ∙ flip_less y x e)
earlier_by y x r Greater f e q = absurd (q refl)

-- what is before a row that is not above r is below r
pub lower_across : (r : List ℕ) (low : List Row) (x : Row) (high : List Row) → IsRising (low ++ x ∷ high) → (order x.raw r ≡ Greater → ⊥) → Each (IsBelow r) low
lower_across r low x high s q =
    each_weaker (λ y. Each (λ z. order y.raw z.raw ≡ Less) (x ∷ high)) (IsBelow r) (λ y l. earlier_by y.raw x.raw r (order x.raw r) refl l.0 q) low
    (pairwise_across (λ x y. order x.raw y.raw ≡ Less) low (x ∷ high) s)

-- a row that is above r, and those after it
pub higher_across : (r : List ℕ) (low : List Row) (x : Row) (high : List Row) → IsRising (low ++ x ∷ high) → order x.raw r ≡ Greater → Each (IsAbove r) (x ∷ high)
higher_across r low x high s g =
    (g, each_weaker (λ y. order x.raw y.raw ≡ Less) (IsAbove r) (λ y l. later_than_above x.raw r y.raw g l) high (pairwise_back (λ x y. order x.raw y.raw ≡ Less) low (x ∷ high) s).0)

pub lower_before : (r : List ℕ) (rows : List Row) (i : ℕ) (x : Row) → IsRising rows → i < length rows → x ≡ get_or rows i x → (order x.raw r ≡ Greater → ⊥) → Each (IsBelow r) (take i rows)
lower_before r rows i x s h e q = lower_across r (take i rows) x (drop (i + 1) rows) (subst IsRising (split_read rows i x h e) s) q

pub lower_to : (r : List ℕ) (rows : List Row) (i : ℕ) (x : Row) → IsRising rows → i < length rows → x ≡ get_or rows i x → order x.raw r ≡ Less → Each (IsBelow r) (take (i + 1) rows)
lower_to r rows i x s h e l = each_more (IsBelow r) rows i x h e (lower_before r rows i x s h e (λ g. cc)) l

pub higher_from : (r : List ℕ) (rows : List Row) (i : ℕ) (x : Row) → IsRising rows → i < length rows → x ≡ get_or rows i x → order x.raw r ≡ Greater → Each (IsAbove r) (drop i rows)
higher_from r rows i x s h e g = rw (drop_more rows i x h) (rw (← e) (higher_across r (take i rows) x (drop (i + 1) rows) (subst IsRising (split_read rows i x h e) s) g))

pub place_between : (r : List ℕ) (rows : List Row) (low high : ℕ) → high ≤ low → low ≤ high → low ≤ length rows → Each (IsBelow r) (take low rows) → Each (IsAbove r) (drop high rows) → IsPlace r rows (Err low)
place_between r rows low high a b k l h =
    let e : high ≡ low = omega arith in
    (k, record { whole = sym (take-append-drop low rows); lower = l; same = tt; higher = subst (λ (n : ℕ). Each (IsAbove r) (drop n rows)) e h })
