-- What the readers give.
use Rattle.std.proofs.Common.{◌≡◌, ◌≢◌, ℕ, ◌+◌, ◌<◌, ◌≤◌, suc, zero, Bool, true, false, cond, ◌&&◌, not, inl, inr, List, [], ◌∷◌, ◌++◌, length, take, drop, get_or, Option, refl, sym, ◌∙◌, ap, arith, append_assoc, append-nil, length-append}
use Rattle.std.specs.Prelude.{◌==◌}
use Rattle.std.specs.List.{filter}
use Rattle.std.proofs.lemmas.List.{take_all, take-append-le, take_more, length-take, take-append-drop}
use Rattle.std.proofs.lemmas.List.Elements.{filter-append}
use Rattle.std.specs.declared.cmp.Ordering.TheVariants.{Less}
use Rattle.saved_doc.specs.declared.doc.Row.{Row}
use Rattle.doc_table.specs.RowLists.{IsNumbered, Each, IsRising, IsApart, order, above, rows_after, is_after, counted_from}
use Rattle.std.specs.Int.{bit_at}
use Rattle.std.specs.Ordering.{is_gt}
use Rattle.std.proofs.lemmas.Bool.{cases_eq, eqb-true, eqb-false, ne_eqb, not-true}
use Rattle.doc_table.specs.declared.page.SharedPage.{SharedPage}
use Rattle.doc_table.specs.Place.{IsBelow}
use Rattle.doc_table.specs.Pages.{live_from, live_rows, rows_of, all_rows}
use Rattle.doc_table.proofs.Order.{each_weaker, each_both, each_filter, each_filter_passes, pairwise_filter, filter_all, filter_none}
use Rattle.doc_table.proofs.Live.{live_more, live_append, length-live}
use Rattle.doc_table.proofs.PageLists.{flat_append, flat_split, each_live_rows}

pub take_take_append : {X : Type 0} (n : ℕ) (xs ys : List X) → take n (take n xs ++ ys) ≡ take n (xs ++ ys)
take_take_append zero xs ys = refl
take_take_append (suc n) [] ys = refl
take_take_append {X = X} (suc n) (x ∷ xs) ys = ap (λ (t : List X). x ∷ t) (take_take_append n xs ys)

pub take_none_more : {X : Type 0} (n : ℕ) (xs : List X) → length xs ≤ n → xs ≡ take n (xs ++ [])
take_none_more n xs h = sym (ap (take n) (append-nil xs) ∙ take_all n xs h)

pub take_enough : {X : Type 0} (n : ℕ) (xs ys : List X) → length xs ≤ n → n ≤ length xs → xs ≡ take n (xs ++ ys)
take_enough n xs ys h k = sym (take-append-le n xs ys k ∙ take_all n xs h)

pub take_one_more : {X : Type 0} (n : ℕ) (xs : List X) (x : X) → length xs < n → xs ++ x ∷ [] ≡ take n (xs ++ x ∷ [])
take_one_more n xs x h = let e = length-append xs (x ∷ []) in sym (take_all n (xs ++ x ∷ []) (omega arith))

-- ---- numbers that count

pub counted_push : (n : ℕ) (xs : List Row) (x : Row) (m : ℕ) → m ≡ n + length xs → counted_from n (xs ++ x ∷ []) ≡ counted_from n xs ++ record x { seq = m } ∷ []
counted_push n [] x m e = let q : n ≡ m = omega arith in ap (λ (k : ℕ). record x { seq = k } ∷ []) q
counted_push n (y ∷ ys) x m e = ap (λ (t : List Row). record y { seq = n } ∷ t) (counted_push (n + 1) ys x m (omega arith))

pub length-counted : (n : ℕ) (xs : List Row) → length (counted_from n xs) ≡ length xs
length-counted n [] = refl
length-counted n (x ∷ xs) = ap suc (length-counted (n + 1) xs)

pub counted_append : (n m : ℕ) (xs ys : List Row) → m ≡ n + length xs → counted_from n (xs ++ ys) ≡ counted_from n xs ++ counted_from m ys
counted_append n m [] ys e = let q : n ≡ m = omega arith in ap (λ (k : ℕ). counted_from k ys) q
counted_append n m (x ∷ xs) ys e = ap (λ (t : List Row). record x { seq = n } ∷ t) (counted_append (n + 1) m xs ys (omega arith))

each_counted : (P : List ℕ → Type 0) (n : ℕ) (xs : List Row) → Each (λ x. P x.raw) xs → Each (λ x. P x.raw) (counted_from n xs)
each_counted P n [] e = tt
each_counted P n (x ∷ xs) e = (e.0, each_counted P (n + 1) xs e.1)

pub rising_counted : (n : ℕ) (xs : List Row) → IsRising xs → IsRising (counted_from n xs)
rising_counted n [] s = tt
rising_counted n (x ∷ xs) s = (each_counted (λ r. order x.raw r ≡ Less) (n + 1) xs s.0, rising_counted (n + 1) xs s.1)

between : (n m : ℕ) (xs : List Row) → n + length xs ≤ m → Each (λ x. (n ≤ x.seq) × (x.seq < m)) (counted_from n xs)
between n m [] h = tt
between n m (x ∷ xs) h = ((omega arith, omega arith), each_weaker (λ x. (n + 1 ≤ x.seq) × (x.seq < m)) (λ x. (n ≤ x.seq) × (x.seq < m)) (λ x w. (omega arith, w.1)) (counted_from (n + 1) xs) (between (n + 1) m xs (omega arith)))

apart_counted : (n : ℕ) (xs : List Row) → IsApart (counted_from n xs)
apart_counted n [] = tt
apart_counted n (x ∷ xs) = (each_weaker (λ x. (n + 1 ≤ x.seq) × (x.seq < n + 1 + length xs)) (λ y. n ≢ y.seq) (λ y w e. absurd (omega arith)) (counted_from (n + 1) xs) (between (n + 1) (n + 1 + length xs) xs (omega arith)), apart_counted (n + 1) xs)

pub numbered_counted : (rows : List Row) → IsRising rows → IsNumbered (counted_from 0 rows) (length rows)
numbered_counted rows s = record {
  rising = rising_counted 0 rows s;
  apart = apart_counted 0 rows;
  fresh = each_weaker (λ x. (0 ≤ x.seq) × (x.seq < length rows)) (λ x. x.seq < length rows) (λ x w. w.1) (counted_from 0 rows) (between 0 (length rows) rows (omega arith));
}

-- ---- one step of a loop

pub counted_more : (n i : ℕ) (rows : List Row) (x : Row) (m : ℕ) → i < length rows → x ≡ get_or rows i x → m ≡ n + length (counted_from n (take i rows)) → counted_from n (take (i + 1) rows) ≡ counted_from n (take i rows) ++ record x { seq = m } ∷ []
counted_more n i rows x m h e q =
    let l = length-counted n (take i rows) in
    ap (counted_from n) (take_more rows i x h ∙ ap (λ (y : Row). take i rows ++ y ∷ []) (sym e)) ∙ counted_push n (take i rows) x m (omega arith)

kept : (p : Row → Bool) (x : Row) → filter p (x ∷ []) ≡ cond (p x) (x ∷ []) []
kept p x = refl

pub after_more : (a : Option (List ℕ)) (n i : ℕ) (rows out new : List Row) (x : Row) (keep : Bool) → i < length rows → x ≡ get_or rows i x → keep ≡ is_after a x → out ≡ take n (rows_after a (take i rows)) → new ≡ take n (out ++ cond keep (x ∷ []) []) → new ≡ take n (rows_after a (take (i + 1) rows))
after_more a n i rows out new x keep h e k q w =
    let t : take (i + 1) rows ≡ take i rows ++ x ∷ [] = take_more rows i x h ∙ ap (λ (y : Row). take i rows ++ y ∷ []) (sym e) in
    w ∙ (λ j. take n (q j ++ cond (k j) (x ∷ []) [])) ∙ take_take_append n (rows_after a (take i rows)) (cond (is_after a x) (x ∷ []) [])
    ∙ sym (ap (λ (y : List Row). take n (rows_after a y)) t ∙ ap (take n) (filter-append (is_after a) (take i rows) (x ∷ [])))

enough_by : (n : ℕ) (xs ys out : List Row) → out ≡ take n xs → n ≤ length out → length (take n xs) ≤ n → out ≡ take n (xs ++ ys)
enough_by n xs ys out e h k =
    let l = ap length e in
    take_enough n out ys (omega arith) h ∙ ap (λ (t : List Row). take n (t ++ ys)) e ∙ take_take_append n xs ys

pub length-take-bound : (n : ℕ) (xs : List Row) → length (take n xs) ≤ n
length-take-bound n xs = omega (arith, length-take n xs)

pub enough : (n : ℕ) (xs ys out : List Row) → out ≡ take n xs → n ≤ length out → out ≡ take n (xs ++ ys)
enough n xs ys out e h = enough_by n xs ys out e h (length-take-bound n xs)

filter_one : (p : Row → Bool) (t : Bool) (x : Row) → filter p (cond t (x ∷ []) []) ≡ cond (t && p x) (x ∷ []) []
filter_one p true x = refl
filter_one p false x = refl

pub page_more : (a : Option (List ℕ)) (n b i : ℕ) (rows old out new : List Row) (x : Row) (keep : Bool) → i < length rows → x ≡ get_or rows i x → keep ≡ ((bit_at b i == 1) && is_after a x)
    → out ≡ take n (old ++ rows_after a (live_from b 0 (take i rows))) → new ≡ take n (out ++ cond keep (x ∷ []) []) → new ≡ take n (old ++ rows_after a (live_from b 0 (take (i + 1) rows)))
page_more a n b i rows old out new x keep h e k q w =
    let f = rows_after a (live_from b 0 (take i rows)) in
    let c = cond ((bit_at b i == 1) && is_after a x) (x ∷ []) [] in
    w ∙ (λ j. take n (q j ++ cond (k j) (x ∷ []) [])) ∙ take_take_append n (old ++ f) c ∙ ap (take n) (append_assoc old f c)
    ∙ sym (ap (λ (t : List Row). take n (old ++ rows_after a t)) (live_more b i rows x h e) ∙ ap (λ (t : List Row). take n (old ++ t)) (filter-append (is_after a) (live_from b 0 (take i rows)) (cond (bit_at b i == 1) (x ∷ []) []) ∙ ap (λ (t : List Row). f ++ t) (filter_one (is_after a) (bit_at b i == 1) x)))

counted_one : (n m : ℕ) (t : Bool) (xs : List Row) (x : Row) → m ≡ n + length xs → counted_from n (xs ++ cond t (x ∷ []) []) ≡ counted_from n xs ++ cond t (record x { seq = m } ∷ []) []
counted_one n m true xs x e = counted_push n xs x m e
counted_one n m false xs x e = ap (counted_from n) (append-nil xs) ∙ sym (append-nil (counted_from n xs))

pub counted_page_more : (n b i m : ℕ) (rows out new : List Row) (x : Row) (t : Bool) → i < length rows → x ≡ get_or rows i x → t ≡ (bit_at b i == 1) → m ≡ n + length out
    → out ≡ counted_from n (live_from b 0 (take i rows)) → new ≡ out ++ cond t (record x { seq = m } ∷ []) [] → new ≡ counted_from n (live_from b 0 (take (i + 1) rows))
counted_page_more n b i m rows out new x t h e k q w z =
    let l = ap length w in
    let d = length-counted n (live_from b 0 (take i rows)) in
    z ∙ (λ j. w j ++ cond (k j) (record x { seq = m } ∷ []) [])
    ∙ sym (ap (counted_from n) (live_more b i rows x h e) ∙ counted_one n m (bit_at b i == 1) (live_from b 0 (take i rows)) x (omega arith))

-- ---- at most as many rows as numbers

without_number : (n : ℕ) (x : Row) (xs : List Row) (b : Bool) → (x.seq == n) ≡ b → Each (λ y. x.seq ≢ y.seq) xs → length xs ≤ suc (length (filter (λ y. not (y.seq == n)) xs)) → suc (length xs) ≤ suc (length (cond (not b) (x ∷ filter (λ y. not (y.seq == n)) xs) (filter (λ y. not (y.seq == n)) xs)))
without_number n x xs true e a h =
    let q : x.seq ≡ n = eqb-true x.seq n e in
    let f = ap length (filter_all (λ y. not (y.seq == n)) xs (each_weaker (λ y. x.seq ≢ y.seq) (λ y. not (y.seq == n) ≡ true) (λ y d. ap not (ne_eqb y.seq n (λ u. d (q ∙ sym u)))) xs a)) in
    omega arith
without_number n x xs false e a h = omega arith

one_less : (n : ℕ) (xs : List Row) → IsApart xs → length xs ≤ suc (length (filter (λ y. not (y.seq == n)) xs))
one_less n [] a = omega arith
one_less n (x ∷ xs) a = without_number n x xs (x.seq == n) refl a.0 (one_less n xs a.1)

less_by_one : (n : ℕ) (x : Row) → (not (x.seq == n) ≡ true) × (x.seq < suc n) → x.seq < n
less_by_one n x w = let d = eqb-false x.seq n (not-true (x.seq == n) w.0) in let l = w.1 in elim (cases_eq x.seq n) [ inl e ↦ absurd (d e) | inr e ↦ omega arith ]

pub few_numbers : (n : ℕ) (xs : List Row) → IsApart xs → Each (λ x. x.seq < n) xs → length xs ≤ n
few_numbers zero [] a f = omega arith
few_numbers zero (x ∷ xs) a f = let l = f.0 in absurd (omega arith)
few_numbers (suc n) xs a f =
    let p : Row → Bool = λ y. not (y.seq == n) in
    let l = one_less n xs a in
    let e = each_weaker (λ x. (p x ≡ true) × (x.seq < suc n)) (λ x. x.seq < n) (λ x w. less_by_one n x w) (filter p xs) (each_both (λ x. p x ≡ true) (λ x. x.seq < suc n) (filter p xs) (each_filter_passes p xs) (each_filter (λ x. x.seq < suc n) p xs f)) in
    let h = few_numbers n (filter p xs) (pairwise_filter (λ x y. x.seq ≢ y.seq) p xs a) e in
    omega arith

-- ---- pages

pub start_rest : (r : List ℕ) (ps : List SharedPage) (p : ℕ) → Each (IsBelow r) (all_rows (take p ps)) → above r (rows_of (drop p ps)) ≡ above r (rows_of ps)
start_rest r ps p l =
    let a = filter_none (λ x. is_gt (order x.raw r)) (rows_of (take p ps)) (each_weaker (IsBelow r) (λ x. is_gt (order x.raw r) ≡ false) (λ x e. ap is_gt e) (rows_of (take p ps)) (each_live_rows (IsBelow r) (take p ps) l)) in
    sym (ap (λ (t : List SharedPage). above r (rows_of t)) (sym (take-append-drop p ps)) ∙ ap (above r) (flat_append live_rows (take p ps) (drop p ps)) ∙ filter-append (λ x. is_gt (order x.raw r)) (rows_of (take p ps)) (rows_of (drop p ps)) ∙ ap (λ (t : List Row). t ++ above r (rows_of (drop p ps))) a)

pub rows_rest : (a : Option (List ℕ)) (ps : List SharedPage) (i : ℕ) → rows_after a (rows_of ps) ≡ rows_after a (rows_of (take i ps)) ++ rows_after a (rows_of (drop i ps))
rows_rest a ps i = ap (λ (t : List SharedPage). rows_after a (rows_of t)) (sym (take-append-drop i ps)) ∙ ap (rows_after a) (flat_append live_rows (take i ps) (drop i ps)) ∙ filter-append (is_after a) (rows_of (take i ps)) (rows_of (drop i ps))

live_prefix : (b i : ℕ) (rows : List Row) → length (live_from b 0 (take i rows)) ≤ length (live_from b 0 rows)
live_prefix b i rows =
    let e = ap length (ap (live_from b 0) (sym (take-append-drop i rows)) ∙ live_append b 0 (0 + length (take i rows)) (take i rows) (drop i rows) refl) in
    let l = length-append (live_from b 0 (take i rows)) (live_from b (0 + length (take i rows)) (drop i rows)) in
    omega arith

pub counted_fits : (n b i m : ℕ) (rows out : List Row) → out ≡ counted_from n (live_from b 0 (take i rows)) → n + length (live_from b 0 rows) < m → n + length out < m
counted_fits n b i m rows out e h =
    let l = ap length e in
    let c = length-counted n (live_from b 0 (take i rows)) in
    let p = live_prefix b i rows in
    omega arith

pub counted_few : (n b i m : ℕ) (rows out : List Row) → out ≡ counted_from n (live_from b 0 (take i rows)) → length rows ≤ m → length out ≤ m
counted_few n b i m rows out e h =
    let l = ap length e in
    let c = length-counted n (live_from b 0 (take i rows)) in
    let p = live_prefix b i rows in
    let q = length-live b 0 rows in
    omega arith

pub page_fits : (ps : List SharedPage) (i : ℕ) (h : SharedPage) → i < length ps → h ≡ get_or ps i h → length (rows_of (take i ps)) + length (live_rows h) ≤ length (rows_of ps)
page_fits ps i h l e =
    let q = ap length (flat_split live_rows ps i h l e) in
    let a = length-append (rows_of (take i ps)) (live_rows h ++ rows_of (drop (i + 1) ps)) in
    let b = length-append (live_rows h) (rows_of (drop (i + 1) ps)) in
    omega arith

pub rows_more : (ps : List SharedPage) (i : ℕ) (h : SharedPage) → i < length ps → h ≡ get_or ps i h → rows_of (take (i + 1) ps) ≡ rows_of (take i ps) ++ live_rows h
rows_more ps i h l e = ap rows_of (take_more ps i h l ∙ ap (λ (y : SharedPage). take i ps ++ y ∷ []) (sym e)) ∙ flat_append live_rows (take i ps) (h ∷ []) ∙ ap (λ (t : List Row). rows_of (take i ps) ++ t) (append-nil (live_rows h))

pub count_more : (ps : List SharedPage) (i : ℕ) (h : SharedPage) (count : ℕ) (old rows new : List Row) → i < length ps → h ≡ get_or ps i h → count ≡ length (rows_of (take i ps)) → old ≡ counted_from 0 (rows_of (take i ps)) → rows ≡ counted_from count (live_rows h) → new ≡ old ++ rows → new ≡ counted_from 0 (rows_of (take (i + 1) ps))
count_more ps i h count old rows new l e n a b w =
    w ∙ (λ j. a j ++ b j) ∙ sym (ap (counted_from 0) (rows_more ps i h l e) ∙ counted_append 0 count (rows_of (take i ps)) (live_rows h) (omega arith))
