-- The marks of texts and of first rows.
use Rattle.std.proofs.Common.{◌≡◌, ℕ, zero, suc, ◌+◌, ◌*◌, ◌^◌, ◌<◌, ◌≤◌, ◌⊎◌, inl, inr, List, [], ◌∷◌, ◌++◌, length, take, drop, get_or, Option, Some, refl, sym, ◌∙◌, ap, subst, arith, true, false}
use Rattle.std.specs.Prelude.{IfSome, slice_get}
use Rattle.std.proofs.Math.Nat.{mul-le-mul_right, pow-suc, pow-le-pow_right, one-le-pow}
use Rattle.std.proofs.lemmas.Grind.{pow_more}
use Rattle.std.proofs.lemmas.List.{drop_all}
use Rattle.std.proofs.lemmas.Nat.{pow-add}
use Rattle.std.proofs.lemmas.Bool.{cases_order}
use Rattle.std.specs.Cmp.{nat_cmp_is}
use Rattle.std.specs.Ordering.{nat_cmp, is_gt, ordering_then}
use Rattle.std.specs.declared.cmp.Ordering.{Ordering}
use Rattle.std.specs.declared.cmp.Ordering.TheVariants.{Less, Equal, Greater}
use Rattle.saved_doc.specs.declared.doc.Row.{Row}
use Rattle.doc_table.specs.declared.mark.Mark.{Mark}
use Rattle.doc_table.specs.RowLists.{Each, order}
use Rattle.doc_table.specs.Marks.{mark_of, IsByte, IsMarkOf, IsMarked, IsWordOf}
use Rattle.doc_table.proofs.Places.{flip_less}

mark_nil : (k : ℕ) → mark_of k [] ≡ 0
unfolding mark_of
mark_nil zero = refl
mark_nil (suc k) = refl

-- the first byte, and the rest
mark_more : (k : ℕ) (r : List ℕ) → mark_of (suc k) r ≡ get_or r 0 0 * 256 ^ k + mark_of k (drop 1 r)
unfolding mark_of
mark_more k [] = let e = mark_nil k in omega arith
mark_more k (b ∷ r) = refl

get_at : (i : ℕ) (r : List ℕ) → get_or (drop i r) 0 0 ≡ get_or r i 0
get_at zero r = refl
get_at (suc i) [] = refl
get_at (suc i) (b ∷ r) = get_at i r

pub mark_zero : (r : List ℕ) → mark_of zero r ≡ 0
unfolding mark_of
mark_zero r = refl

drop_one : (i : ℕ) (r : List ℕ) → drop 1 (drop i r) ≡ drop (suc i) r
drop_one zero r = refl
drop_one (suc i) [] = refl
drop_one (suc i) (b ∷ r) = drop_one i r

-- a byte more at the end of what was read
pub mark_step : (k : ℕ) (r : List ℕ) (i b m : ℕ) → b ≡ get_or r i 0 → (m * 256 + b) * 256 ^ k + mark_of k (drop (i + 1) r) ≡ m * 256 ^ suc k + mark_of (suc k) (drop i r)
mark_step k r i b m e =
    let s : mark_of (suc k) (drop i r) ≡ get_or (drop i r) 0 0 * 256 ^ k + mark_of k (drop 1 (drop i r)) = mark_more k (drop i r) in
    let g : get_or (drop i r) 0 0 ≡ b = get_at i r ∙ sym e in
    let n : suc i ≡ i + 1 = omega arith in
    let d : mark_of k (drop 1 (drop i r)) ≡ mark_of k (drop (i + 1) r) = ap (mark_of k) (drop_one i r ∙ ap (λ (n : ℕ). drop n r) n) in
    let f : get_or (drop i r) 0 0 * 256 ^ k ≡ b * 256 ^ k = ap (λ (n : ℕ). n * 256 ^ k) g in
    let q : m * 256 ^ suc k ≡ m * (256 ^ k * 256) = ap (λ (n : ℕ). m * n) (pow-suc 256 k) in
    omega arith

-- what was read fits
pub read_more : (i m b : ℕ) → m < 256 ^ i → b < 256 → m * 256 + b < 256 ^ (i + 1)
read_more i m b h l = let e = pow_more 256 i in omega arith

pub read_fits : (i m b : ℕ) → m < 256 ^ i → i < 8 → b < 256 → m * 256 + b < 256 ^ 8
read_fits i m b h k l = let e = read_more i m b h l in let a : 0 < 256 = omega arith in let c : i + 1 ≤ 8 = omega arith in let p : 256 ^ (i + 1) ≤ 256 ^ 8 = pow-le-pow_right a c in omega arith

-- a byte less to read
mark_at : (k i : ℕ) (r : List ℕ) → mark_of (suc k) (drop i r) ≡ get_or r i 0 * 256 ^ k + mark_of k (drop (suc i) r)
mark_at k i r =
    let s : mark_of (suc k) (drop i r) ≡ get_or (drop i r) 0 0 * 256 ^ k + mark_of k (drop 1 (drop i r)) = mark_more k (drop i r) in
    let f : get_or (drop i r) 0 0 * 256 ^ k ≡ get_or r i 0 * 256 ^ k = ap (λ (n : ℕ). n * 256 ^ k) (get_at i r) in
    let d : mark_of k (drop 1 (drop i r)) ≡ mark_of k (drop (suc i) r) = ap (mark_of k) (drop_one i r) in
    omega arith

-- eight bytes as the digits of a number
pub mark_eight : (r : List ℕ) (n : ℕ)
    → n ≡ get_or r 0 0 * 256 ^ 7 + get_or r 1 0 * 256 ^ 6 + get_or r 2 0 * 256 ^ 5 + get_or r 3 0 * 256 ^ 4 + get_or r 4 0 * 256 ^ 3 + get_or r 5 0 * 256 ^ 2 + get_or r 6 0 * 256 + get_or r 7 0
    → n ≡ mark_of 8 r
mark_eight r n e =
    let a = mark_at 7 0 r in
    let b = mark_at 6 1 r in
    let c = mark_at 5 2 r in
    let d = mark_at 4 3 r in
    let f = mark_at 3 4 r in
    let g = mark_at 2 5 r in
    let h = mark_at 1 6 r in
    let i = mark_at 0 7 r in
    let z = mark_zero (drop 8 r) in
    omega arith

-- what is read in two parts
pub mark_joined : (j k n : ℕ) (r : List ℕ) → n ≡ j + k → mark_of n r ≡ mark_of j r * 256 ^ k + mark_of k (drop j r)
unfolding mark_of
mark_joined zero k n r e =
    let f : n ≡ k = omega arith in
    let q : mark_of n r ≡ mark_of k r = ap (λ (m : ℕ). mark_of m r) f in
    omega arith
mark_joined (suc j) k zero r e = absurd (omega arith)
mark_joined (suc j) k (suc n) [] e = let z = mark_nil k in omega arith
mark_joined (suc j) k (suc n) (b ∷ r) e =
    let q : n ≡ j + k = omega arith in
    let h = mark_joined j k n r q in
    let p : b * 256 ^ n ≡ b * (256 ^ j * 256 ^ k) = ap (λ (m : ℕ). b * m) (ap (λ (m : ℕ). 256 ^ m) q ∙ pow-add 256 j k) in
    omega arith

pub mark_past : (k i : ℕ) (r : List ℕ) → length r ≤ i → mark_of k (drop i r) ≡ 0
mark_past k i r h = ap (mark_of k) (drop_all i r h) ∙ mark_nil k

pub each_byte : (r : List ℕ) → ((i : ℕ) → get_or r i 0 < 256) → Each IsByte r
each_byte [] h = tt
each_byte (b ∷ r) h = (h 0, each_byte r (λ i. h (suc i)))

mark_bound : (k : ℕ) (r : List ℕ) → Each IsByte r → mark_of k r < 256 ^ k
unfolding mark_of
mark_bound zero r e = omega arith
mark_bound (suc k) [] e = let p = one-le-pow (suc k) 256 (omega arith) in omega arith
mark_bound (suc k) (b ∷ r) e =
    let h = mark_bound k r e.1 in
    let l : b < 256 = e.0 in
    let q = pow-suc 256 k in
    let m : b * 256 ^ k ≤ 255 * 256 ^ k = mul-le-mul_right (256 ^ k) (omega arith) in
    omega arith

order_less : (x y : ℕ) (a b : List ℕ) → x < y → order (x ∷ a) (y ∷ b) ≡ Less
order_less x y a b h = ap (λ (o : Ordering). ordering_then o (order a b)) (sym (nat_cmp_is x y Less h))

order_same : (x y : ℕ) (a b : List ℕ) → x ≡ y → order a b ≡ Less → order (x ∷ a) (y ∷ b) ≡ Less
order_same x y a b h l = ap (λ (o : Ordering). ordering_then o (order a b)) (sym (nat_cmp_is x y Equal h)) ∙ l

pub mark_less : (k : ℕ) (a b : List ℕ) → Each IsByte a → Each IsByte b → mark_of k a < mark_of k b → order a b ≡ Less
unfolding mark_of
mark_less zero a b e f h = absurd (omega arith)
mark_less (suc k) [] [] e f h = absurd (omega arith)
mark_less (suc k) [] (y ∷ b) e f h = refl
mark_less (suc k) (x ∷ a) [] e f h = absurd (omega arith)
mark_less (suc k) (x ∷ a) (y ∷ b) e f h =
    elim (cases_order x y) [
      | inl q ↦ (let p : x * 256 ^ k ≡ y * 256 ^ k = ap (λ (n : ℕ). n * 256 ^ k) q in order_same x y a b q (mark_less k a b e.1 f.1 (omega arith)))
      | inr w ↦ (elim w [
        | inl l ↦ order_less x y a b l
        | inr l ↦ (let n = mark_bound k b f.1 in let m : (y + 1) * 256 ^ k ≤ x * 256 ^ k = mul-le-mul_right (256 ^ k) (omega arith) in absurd (omega arith))
      ])
    ]

-- where the first k bytes are the same, the next j decide
pub mark_after : (k j : ℕ) (a b : List ℕ) → Each IsByte a → Each IsByte b → mark_of k a ≡ mark_of k b → mark_of j (drop k a) < mark_of j (drop k b) → order a b ≡ Less
unfolding mark_of
mark_after zero j a b e f q h = mark_less j a b e f h
mark_after (suc k) j [] [] e f q h = absurd (omega arith)
mark_after (suc k) j [] (y ∷ b) e f q h = refl
mark_after (suc k) j (x ∷ a) [] e f q h = let z = mark_nil j in absurd (omega arith)
mark_after (suc k) j (x ∷ a) (y ∷ b) e f q h =
    let n = mark_bound k b f.1 in
    elim (cases_order x y) [
      | inl s ↦ (let p : x * 256 ^ k ≡ y * 256 ^ k = ap (λ (n : ℕ). n * 256 ^ k) s in order_same x y a b s (mark_after k j a b e.1 f.1 (omega arith) h))
      | inr w ↦ (elim w [
        | inl l ↦ order_less x y a b l
        | inr l ↦ (let m : (y + 1) * 256 ^ k ≤ x * 256 ^ k = mul-le-mul_right (256 ^ k) (omega arith) in absurd (omega arith))
      ])
    ]

-- ---- the order of texts that begin with the same bytes

order_after : (p a b : List ℕ) → order (p ++ a) (p ++ b) ≡ order a b
order_after [] a b = refl
order_after (x ∷ p) a b = ap (λ (o : Ordering). ordering_then o (order (p ++ a) (p ++ b))) (sym (nat_cmp_is x x Equal refl)) ∙ order_after p a b

each_drop : (k : ℕ) (r : List ℕ) → Each IsByte r → Each IsByte (drop k r)
each_drop zero r e = e
each_drop (suc k) [] e = tt
each_drop (suc k) (b ∷ r) e = each_drop k r e.1

pub word_less : (p : List ℕ) (m n : ℕ) (a b : List ℕ) → IsWordOf p m a → IsWordOf p n b → m < n → order a b ≡ Less
word_less p m n a b s t h =
    let x = s.mark in
    let y = t.mark in
    let q : order (drop (length p) a) (drop (length p) b) ≡ Less = mark_less 8 (drop (length p) a) (drop (length p) b) (each_drop (length p) a s.bytes) (each_drop (length p) b t.bytes) (omega arith) in
    ap (λ (l : List ℕ). order l b) s.whole ∙ ap (λ (l : List ℕ). order (p ++ drop (length p) a) l) t.whole ∙ order_after p (drop (length p) a) (drop (length p) b) ∙ q

-- ---- the order of marks

nat_less : (x y : ℕ) → nat_cmp x y ≡ Less → x < y
nat_less x y e = elim (cases_order x y) [
  | inl q ↦ (let f = nat_cmp_is x y Equal q in cc)
  | inr w ↦ (elim w [ inl l ↦ l | inr l ↦ (let f = nat_cmp_is x y Greater l in cc) ])
]

nat_equal : (x y : ℕ) → nat_cmp x y ≡ Equal → x ≡ y
nat_equal x y e = elim (cases_order x y) [
  | inl q ↦ q
  | inr w ↦ (elim w [ inl l ↦ (let f = nat_cmp_is x y Less l in cc) | inr l ↦ (let f = nat_cmp_is x y Greater l in cc) ])
]

nat_greater : (x y : ℕ) → nat_cmp x y ≡ Greater → y < x
nat_greater x y e = elim (cases_order x y) [
  | inl q ↦ (let f = nat_cmp_is x y Equal q in cc)
  | inr w ↦ (elim w [ inl l ↦ (let f = nat_cmp_is x y Less l in cc) | inr l ↦ l ])
]

-- the order of two marks
abbrev pub marks_order : Mark → Mark → Ordering
marks_order m n = ordering_then (nat_cmp m.first n.first) (nat_cmp m.second n.second)

then_less : (o p : Ordering) → ordering_then o p ≡ Less → (o ≡ Less) ⊎ ((o ≡ Equal) × (p ≡ Less))
then_less Less p e = inl refl
then_less Equal p e = inr (refl, e)
then_less Greater p e = cc

then_greater : (o p : Ordering) → ordering_then o p ≡ Greater → (o ≡ Greater) ⊎ ((o ≡ Equal) × (p ≡ Greater))
then_greater Less p e = cc
then_greater Equal p e = inr (refl, e)
then_greater Greater p e = inl refl

first_less : (m n : Mark) (a b : List ℕ) → IsMarkOf m a → IsMarkOf n b → m.first < n.first → order a b ≡ Less
first_less m n a b s t h = let p = s.first in let q = t.first in mark_less 16 a b s.bytes t.bytes (omega arith)

second_less : (m n : Mark) (a b : List ℕ) → IsMarkOf m a → IsMarkOf n b → m.first ≡ n.first → m.second < n.second → order a b ≡ Less
second_less m n a b s t e h = let p = s.second in let q = t.second in mark_after 16 16 a b s.bytes t.bytes (sym s.first ∙ e ∙ t.first) (omega arith)

pub marks_less : (m n : Mark) (a b : List ℕ) → IsMarkOf m a → IsMarkOf n b → marks_order m n ≡ Less → order a b ≡ Less
marks_less m n a b s t e = elim (then_less (nat_cmp m.first n.first) (nat_cmp m.second n.second) e) [
  | inl l ↦ first_less m n a b s t (nat_less m.first n.first l)
  | inr w ↦ second_less m n a b s t (nat_equal m.first n.first w.0) (nat_less m.second n.second w.1)
]

pub marks_greater : (m n : Mark) (a b : List ℕ) → IsMarkOf m a → IsMarkOf n b → marks_order m n ≡ Greater → order a b ≡ Greater
marks_greater m n a b s t e = elim (then_greater (nat_cmp m.first n.first) (nat_cmp m.second n.second) e) [
  | inl l ↦ flip_less b a (first_less n m b a t s (nat_greater m.first n.first l))
  | inr w ↦ flip_less b a (second_less n m b a t s (sym (nat_equal m.first n.first w.0)) (nat_greater m.second n.second w.1))
]

-- ---- first rows

pub first_above : (m key : Mark) (r : List ℕ) (rows : List Row) → IsMarked m rows → IsMarkOf key r → marks_order m key ≡ Greater → IfSome (slice_get rows 0) (λ x. true ≡ is_gt (order x.raw r))
first_above m key r [] s k e = tt
first_above m key r (x ∷ xs) s k e = sym (ap is_gt (marks_greater m key x.raw r s k e))

pub first_below : (m key : Mark) (r : List ℕ) (rows : List Row) → IsMarked m rows → IsMarkOf key r → marks_order m key ≡ Less → IfSome (slice_get rows 0) (λ x. false ≡ is_gt (order x.raw r))
first_below m key r [] s k e = tt
first_below m key r (x ∷ xs) s k e = sym (ap is_gt (marks_less m key x.raw r s k e))

pub marked_take : (m : Mark) (rows : List Row) (i : ℕ) → 0 < i → i ≤ length rows → IsMarked m rows → IsMarked m (take i rows)
marked_take m rows zero p l s = absurd (omega arith)
marked_take m [] (suc i) p l s = absurd (omega arith)
marked_take m (x ∷ xs) (suc i) p l s = s

first_in : (rows : List Row) → 0 < length rows → (x : Row) × (x ≡ get_or rows 0 x) × (slice_get rows 0 ≡ Some x)
first_in [] h = absurd (omega arith)
first_in (x ∷ xs) h = (x, refl, refl)

-- the first row, and what is known of it
pub first_known : (P : Row → Type 0) (rows : List Row) → 0 < length rows → IfSome (slice_get rows 0) P → (x : Row) × (x ≡ get_or rows 0 x) × P x
first_known P rows h k = let w = first_in rows h in (w.0, w.1, subst (λ (o : Option Row). IfSome o P) w.2 k)
