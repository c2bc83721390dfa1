-- The live rows of a page.
use Rattle.std.proofs.Common.{◌≡◌, ◌≢◌, ℕ, ◌+◌, ◌-◌, ◌^◌, ◌<◌, ◌≤◌, ◌⊎◌, inl, inr, Bool, true, false, cond, List, [], ◌∷◌, ◌++◌, length, take, drop, get_or, Result, Option, Some, None, Ok, Err, refl, sym, ◌∙◌, ap, subst, arith, append_assoc, length-append, suc, ⊎_elim}
use Rattle.std.specs.Prelude.{◌==◌, slice_get, IfSome}
use Rattle.std.specs.Option.{option_to_list}
use Rattle.std.specs.List.{remove}
use Rattle.std.specs.Int.{bit_at}
use Rattle.std.proofs.lemmas.Nat.Bits.{bit_at_ones, bit_at-zero}
use Rattle.std.proofs.lemmas.List.{take_more, take-append-drop, length-take-le, length-drop, drop_more, take_at, drop_at}
use Rattle.std.proofs.lemmas.Option.{slice_get_cases}
use Rattle.saved_doc.specs.declared.doc.Row.{Row}
use Rattle.doc_table.specs.RowLists.{Each, Pairwise, found, below, above}
use Rattle.doc_table.specs.Place.{IsPlace, Splits, IsBelow, IsAt, IsAbove}
use Rattle.doc_table.specs.Pages.{live_from}
use Rattle.doc_table.proofs.Order.{each_append, each_front, each_back}
use Rattle.doc_table.proofs.Split.{below-Splits, above-Splits, found-Splits}

pub live_append : (b i j : ℕ) (xs ys : List Row) → j ≡ i + length xs → live_from b i (xs ++ ys) ≡ live_from b i xs ++ live_from b j ys
live_append b i j [] ys e = let q : i ≡ j = omega arith in ap (λ (n : ℕ). live_from b n ys) q
live_append b i j (x ∷ xs) ys e =
    let h = live_append b (i + 1) j xs ys (omega arith) in
    elim (bit_at b i == 1) as (λ t. cond t (x ∷ live_from b (i + 1) (xs ++ ys)) (live_from b (i + 1) (xs ++ ys)) ≡ cond t (x ∷ live_from b (i + 1) xs) (live_from b (i + 1) xs) ++ live_from b j ys) [
      | true ↦ ap (λ (t : List Row). x ∷ t) h
      | false ↦ h
    ]

pub live_full : (i : ℕ) (xs : List Row) → i + length xs ≤ 64 → live_from (2 ^ 64 - 1) i xs ≡ xs
live_full i [] h = refl
live_full i (x ∷ xs) h = rw (bit_at_ones 64 i (omega arith)) (ap (λ (t : List Row). x ∷ t) (live_full (i + 1) xs (omega arith)))

pub each_live : (P : Row → Type 0) (b i : ℕ) (xs : List Row) → Each P xs → Each P (live_from b i xs)
each_live P b i [] e = tt
each_live P b i (x ∷ xs) e = elim (bit_at b i == 1) as (λ t. Each P (cond t (x ∷ live_from b (i + 1) xs) (live_from b (i + 1) xs))) [ true ↦ (e.0, each_live P b (i + 1) xs e.1) | false ↦ each_live P b (i + 1) xs e.1 ]

each_live_front : (P : Row → Type 0) (b i : ℕ) (xs ys : List Row) → Each P (xs ++ ys) → Each P (live_from b i xs ++ ys)
each_live_front P b i xs ys e = each_append P (live_from b i xs) ys (each_live P b i xs (each_front P xs ys e)) (each_back P xs ys e)

pairwise_live_front : (R : Row → Row → Type 0) (b i : ℕ) (xs ys : List Row) → Pairwise R (xs ++ ys) → Pairwise R (live_from b i xs ++ ys)
pairwise_live_front R b i [] ys p = p
pairwise_live_front R b i (x ∷ xs) ys p =
    elim (bit_at b i == 1) as (λ t. Pairwise R (cond t (x ∷ live_from b (i + 1) xs) (live_from b (i + 1) xs) ++ ys)) [
      | true ↦ (each_live_front (R x) b (i + 1) xs ys p.0, pairwise_live_front R b (i + 1) xs ys p.1)
      | false ↦ pairwise_live_front R b (i + 1) xs ys p.1
    ]

each_live_middle : (P : Row → Type 0) (b i : ℕ) (ws xs ys : List Row) → Each P (ws ++ (xs ++ ys)) → Each P (ws ++ (live_from b i xs ++ ys))
each_live_middle P b i ws xs ys e = each_append P ws (live_from b i xs ++ ys) (each_front P ws (xs ++ ys) e) (each_live_front P b i xs ys (each_back P ws (xs ++ ys) e))

pub pairwise_live_middle : (R : Row → Row → Type 0) (b i : ℕ) (ws xs ys : List Row) → Pairwise R (ws ++ (xs ++ ys)) → Pairwise R (ws ++ (live_from b i xs ++ ys))
pairwise_live_middle R b i [] xs ys p = pairwise_live_front R b i xs ys p
pairwise_live_middle R b i (w ∷ ws) xs ys p = (each_live_middle (R w) b i ws xs ys p.0, pairwise_live_middle R b i ws xs ys p.1)

pub live_more : (b i : ℕ) (xs : List Row) (x : Row) → i < length xs → x ≡ get_or xs i x → live_from b 0 (take (i + 1) xs) ≡ live_from b 0 (take i xs) ++ cond (bit_at b i == 1) (x ∷ []) []
live_more b i xs x h e =
    let k : length (take i xs) ≡ i = length-take-le i xs (omega arith) in
    ap (live_from b 0) (take_more xs i x h ∙ ap (λ (y : Row). take i xs ++ y ∷ []) (sym e)) ∙ live_append b 0 i (take i xs) (x ∷ []) (omega arith)

-- ---- a place among all rows, and among those that are live

splits_here : (r : List ℕ) (rows : List Row) (i : ℕ) → IsPlace r rows (Ok i) → (x : Row) × (slice_get rows i ≡ Some x) × Splits r rows (take i rows) (Some x) (drop (i + 1) rows)
splits_here r rows i s =
    let within : i < length rows = s.0 in
    elim (slice_get_cases rows i).1 [
      | inl w ↦ (w.0, w.2, subst (λ (o : Option Row). Splits r rows (take i rows) o (drop (i + 1) rows)) w.2 s.1)
      | inr w ↦ absurd (omega arith)
    ]

abbrev alive : Bool → Row → Option Row
alive t x = cond t (Some x) None

alive_list : (t : Bool) (x : Row) (xs ys : List Row) → cond t (x ∷ ys) ys ≡ option_to_list (alive t x) ++ ys
alive_list true x xs ys = refl
alive_list false x xs ys = refl

alive_same : (r : List ℕ) (t : Bool) (x : Row) → IsAt r x → IfSome (alive t x) (IsAt r)
alive_same r true x s = s
alive_same r false x s = tt

live_here : (b i : ℕ) (r : List ℕ) (rows low : List Row) (x : Row) (high : List Row) → length low ≡ i → Splits r rows low (Some x) high → Splits r (live_from b 0 rows) (live_from b 0 low) (alive (bit_at b i == 1) x) (live_from b (i + 1) high)
live_here b i r rows low x high e s = record {
  whole = ap (live_from b 0) s.whole ∙ live_append b 0 i low (x ∷ high) (omega arith) ∙ ap (λ (t : List Row). live_from b 0 low ++ t) (alive_list (bit_at b i == 1) x [] (live_from b (i + 1) high));
  lower = each_live (IsBelow r) b 0 low s.lower;
  same = alive_same r (bit_at b i == 1) x s.same;
  higher = each_live (IsAbove r) b (i + 1) high s.higher;
}

live_gap : (b i : ℕ) (r : List ℕ) (rows low high : List Row) → length low ≡ i → Splits r rows low None high → Splits r (live_from b 0 rows) (live_from b 0 low) None (live_from b i high)
live_gap b i r rows low high e s = record {
  whole = ap (live_from b 0) s.whole ∙ live_append b 0 i low high (omega arith);
  lower = each_live (IsBelow r) b 0 low s.lower;
  same = tt;
  higher = each_live (IsAbove r) b i high s.higher;
}

pub look_here : (b : ℕ) (r : List ℕ) (rows : List Row) (p : Result ℕ ℕ) (i : ℕ) → p ≡ Ok i → IsPlace r rows p → (bit_at b i == 1) ≡ true → slice_get rows i ≡ found r (live_from b 0 rows)
look_here b r rows p i e h t =
    let s = subst (IsPlace r rows) e h in
    let within : i < length rows = s.0 in
    let w = splits_here r rows i s in
    let f = found-Splits (live_here b i r rows (take i rows) w.0 (drop (i + 1) rows) (length-take-le i rows (omega arith)) w.2) in
    w.1 ∙ sym (f ∙ ap (λ (v : Bool). alive v w.0) t)

pub look_dead : (b : ℕ) (r : List ℕ) (rows : List Row) (p : Result ℕ ℕ) (i : ℕ) → p ≡ Ok i → IsPlace r rows p → (bit_at b i == 1) ≡ false → None ≡ found r (live_from b 0 rows)
look_dead b r rows p i e h t =
    let s = subst (IsPlace r rows) e h in
    let within : i < length rows = s.0 in
    let w = splits_here r rows i s in
    let f = found-Splits (live_here b i r rows (take i rows) w.0 (drop (i + 1) rows) (length-take-le i rows (omega arith)) w.2) in
    sym (f ∙ ap (λ (v : Bool). alive v w.0) t)

pub look_gap : (b : ℕ) (r : List ℕ) (rows : List Row) (p : Result ℕ ℕ) (i : ℕ) → p ≡ Err i → IsPlace r rows p → None ≡ found r (live_from b 0 rows)
look_gap b r rows p i e h =
    let s = subst (IsPlace r rows) e h in
    let within : i ≤ length rows = s.0 in
    sym (found-Splits (live_gap b i r rows (take i rows) (drop i rows) (length-take-le i rows within) s.1))

-- ---- a bit that is cleared

-- c is b without bit k
abbrev Others : ℕ → ℕ → ℕ → Type 0
Others b c k = (i : ℕ) → i < 64 → i ≢ k → bit_at c i ≡ bit_at b i

live_others : (b c k i : ℕ) (xs : List Row) → Others b c k → i + length xs ≤ 64 → (i + length xs ≤ k) ⊎ (k < i) → live_from c i xs ≡ live_from b i xs
live_others b c k i [] o h w = refl
live_others b c k i (x ∷ xs) o h w =
    let ne : i ≢ k = ⊎_elim (λ (l : i + suc (length xs) ≤ k). λ (e : i ≡ k). absurd (omega arith)) (λ (l : k < i). λ (e : i ≡ k). absurd (omega arith)) w in
    let v : (i + 1 + length xs ≤ k) ⊎ (k < i + 1) = ⊎_elim (λ (l : i + suc (length xs) ≤ k). inl (omega arith)) (λ (l : k < i). inr (omega arith)) w in
    let e = o i (omega arith) ne in
    ap (λ (n : ℕ). cond (n == 1) (x ∷ live_from c (i + 1) xs) (live_from c (i + 1) xs)) e ∙ ap (λ (t : List Row). cond (bit_at b i == 1) (x ∷ t) t) (live_others b c k (i + 1) xs o (omega arith) v)

pub clear_here : (b c : ℕ) (r : List ℕ) (rows : List Row) (p : Result ℕ ℕ) (k : ℕ) → p ≡ Ok k → IsPlace r rows p → length rows ≤ 64 → bit_at c k ≡ 0 → Others b c k → live_from c 0 rows ≡ below r (live_from b 0 rows) ++ above r (live_from b 0 rows)
clear_here b c r rows p k e h n z o =
    let s = subst (IsPlace r rows) e h in
    let within : k < length rows = s.0 in
    let w = splits_here r rows k s in
    let l : length (take k rows) ≡ k = length-take-le k rows (omega arith) in
    let m : length (drop (k + 1) rows) ≡ length rows - (k + 1) = length-drop (k + 1) rows in
    let t = live_here b k r rows (take k rows) w.0 (drop (k + 1) rows) l w.2 in
    let front : live_from c 0 (take k rows) ≡ live_from b 0 (take k rows) = live_others b c k 0 (take k rows) o (omega arith) (inl (omega arith)) in
    let back : live_from c (k + 1) (drop (k + 1) rows) ≡ live_from b (k + 1) (drop (k + 1) rows) = live_others b c k (k + 1) (drop (k + 1) rows) o (omega arith) (inr (omega arith)) in
    let whole = ap (live_from c 0) (w.2).whole ∙ live_append c 0 k (take k rows) (w.0 ∷ drop (k + 1) rows) (omega arith) in
    whole ∙ ap (λ (n : ℕ). live_from c 0 (take k rows) ++ cond (n == 1) (w.0 ∷ live_from c (k + 1) (drop (k + 1) rows)) (live_from c (k + 1) (drop (k + 1) rows))) z
    ∙ (λ i. front i ++ back i) ∙ sym (λ i. below-Splits t i ++ above-Splits t i)

pub clear_gap : (b : ℕ) (r : List ℕ) (rows : List Row) (p : Result ℕ ℕ) (k : ℕ) → p ≡ Err k → IsPlace r rows p → live_from b 0 rows ≡ below r (live_from b 0 rows) ++ above r (live_from b 0 rows)
clear_gap b r rows p k e h =
    let s = subst (IsPlace r rows) e h in
    let within : k ≤ length rows = s.0 in
    let t = live_gap b k r rows (take k rows) (drop k rows) (length-take-le k rows within) s.1 in
    t.whole ∙ sym (λ i. below-Splits t i ++ above-Splits t i)

pub length-live : (b i : ℕ) (xs : List Row) → length (live_from b i xs) ≤ length xs
length-live b i [] = omega arith
length-live b i (x ∷ xs) =
    let h = length-live b (i + 1) xs in
    elim (bit_at b i == 1) as (λ t. length (cond t (x ∷ live_from b (i + 1) xs) (live_from b (i + 1) xs)) ≤ suc (length xs)) [ true ↦ omega arith | false ↦ omega arith ]

pub pairwise_live : (R : Row → Row → Type 0) (b i : ℕ) (xs : List Row) → Pairwise R xs → Pairwise R (live_from b i xs)
pairwise_live R b i [] p = tt
pairwise_live R b i (x ∷ xs) p =
    elim (bit_at b i == 1) as (λ t. Pairwise R (cond t (x ∷ live_from b (i + 1) xs) (live_from b (i + 1) xs))) [
      | true ↦ (each_live (R x) b (i + 1) xs p.0, pairwise_live R b (i + 1) xs p.1)
      | false ↦ pairwise_live R b (i + 1) xs p.1
    ]

pub live_none : (i : ℕ) (xs : List Row) → live_from 0 i xs ≡ []
live_none i [] = refl
live_none i (x ∷ xs) = rw (bit_at-zero i) (live_none (i + 1) xs)

pub dead_more : (b i : ℕ) (xs : List Row) → i < length xs → (bit_at b i == 1) ≡ false → live_from b 0 (take i xs) ≡ [] → live_from b 0 (take (i + 1) xs) ≡ []
dead_more b i xs h t e =
    elim (slice_get_cases xs i).1 [
      | inl w ↦ live_more b i xs w.0 h (sym w.3) ∙ (λ j. e j ++ cond (t j) (w.0 ∷ []) [])
      | inr w ↦ absurd (omega arith)
    ]

-- from the end: the row at i is kept, or removed
pub keep_step : (b i : ℕ) (xs rows : List Row) → i < length xs → rows ≡ take (i + 1) xs ++ live_from b (i + 1) (drop (i + 1) xs) → (bit_at b i == 1) ≡ true → rows ≡ take i xs ++ live_from b i (drop i xs)
keep_step b i xs rows h e t =
    elim (slice_get_cases xs i).1 [
      | inl w ↦ e ∙ ap (λ (y : List Row). y ++ live_from b (i + 1) (drop (i + 1) xs)) (take_more xs i w.0 h) ∙ append_assoc (take i xs) (get_or xs i w.0 ∷ []) (live_from b (i + 1) (drop (i + 1) xs))
          ∙ sym (ap (λ (y : List Row). take i xs ++ live_from b i y) (drop_more xs i w.0 h) ∙ ap (λ (v : Bool). take i xs ++ cond v (get_or xs i w.0 ∷ live_from b (i + 1) (drop (i + 1) xs)) (live_from b (i + 1) (drop (i + 1) xs))) t)
      | inr w ↦ absurd (omega arith)
    ]

remove_at : (p q : List Row) (y : Row) (n : ℕ) → length p ≡ n → remove (p ++ y ∷ q) n ≡ p ++ q
remove_at p q y n e =
    let l = length-append p (y ∷ []) in
    (λ j. take_at p (y ∷ q) n e j ++ (ap (drop (suc n)) (sym (append_assoc p (y ∷ []) q)) ∙ drop_at (p ++ y ∷ []) q (suc n) (omega arith)) j)

pub drop_step : (b i : ℕ) (xs rows : List Row) → i < length xs → rows ≡ take (i + 1) xs ++ live_from b (i + 1) (drop (i + 1) xs) → (bit_at b i == 1) ≡ false → remove rows i ≡ take i xs ++ live_from b i (drop i xs)
drop_step b i xs rows h e t =
    let k : length (take i xs) ≡ i = length-take-le i xs (omega arith) in
    elim (slice_get_cases xs i).1 [
      | inl w ↦ ap (λ (y : List Row). remove y i) (e ∙ ap (λ (y : List Row). y ++ live_from b (i + 1) (drop (i + 1) xs)) (take_more xs i w.0 h) ∙ append_assoc (take i xs) (get_or xs i w.0 ∷ []) (live_from b (i + 1) (drop (i + 1) xs)))
          ∙ remove_at (take i xs) (live_from b (i + 1) (drop (i + 1) xs)) (get_or xs i w.0) i k
          ∙ sym (ap (λ (y : List Row). take i xs ++ live_from b i y) (drop_more xs i w.0 h) ∙ ap (λ (v : Bool). take i xs ++ cond v (get_or xs i w.0 ∷ live_from b (i + 1) (drop (i + 1) xs)) (live_from b (i + 1) (drop (i + 1) xs))) t)
      | inr w ↦ absurd (omega arith)
    ]

pub some_live : (b i : ℕ) (xs : List Row) → i < length xs → (bit_at b i == 1) ≡ true → 0 < length (live_from b 0 xs)
some_live b i xs h t =
    elim (slice_get_cases xs i).1 [
      | inl w ↦ (let e = ap length (live_more b i xs w.0 h (sym w.3) ∙ ap (λ (v : Bool). live_from b 0 (take i xs) ++ cond v (w.0 ∷ []) []) t) in
          let l = length-append (live_from b 0 (take i xs)) (w.0 ∷ []) in
          let f = ap length (ap (live_from b 0) (sym (take-append-drop (i + 1) xs)) ∙ live_append b 0 (0 + length (take (i + 1) xs)) (take (i + 1) xs) (drop (i + 1) xs) refl) in
          let m = length-append (live_from b 0 (take (i + 1) xs)) (live_from b (0 + length (take (i + 1) xs)) (drop (i + 1) xs)) in
          omega arith)
      | inr w ↦ absurd (omega arith)
    ]
