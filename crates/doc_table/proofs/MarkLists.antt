-- The prefix and the marks of rows, and of rows that were changed.
use Rattle.std.proofs.Common.{◌≡◌, ℕ, zero, suc, ◌+◌, ◌<◌, ◌≤◌, true, List, [], ◌∷◌, ◌++◌, length, take, drop, set, get_or, Result, Ok, Err, refl, sym, ◌∙◌, ap, subst, arith}
use Rattle.std.specs.List.{insert, remove}
use Rattle.std.specs.Prelude.{IfSome, slice_get}
use Rattle.std.specs.declared.cmp.Ordering.TheVariants.{Less, Greater}
use Rattle.std.proofs.lemmas.Bool.{ltb-true}
use Rattle.std.proofs.lemmas.List.{take_more, take-take, take-append-drop, length-take-le}
use Rattle.std.proofs.lemmas.List.Edits.{length-insert}
use Rattle.std.proofs.lemmas.Map.Lookups.{exact_bytes}
use Rattle.saved_doc.specs.declared.doc.Row.{Row}
use Rattle.doc_table.specs.RowLists.{Each, IsRising, order, with_row}
use Rattle.doc_table.specs.Marks.{Begins, IsWordOf, AreMarks, ends_below}
use Rattle.doc_table.specs.Place.{IsBelow, IsAt, IsPlace}
use Rattle.doc_table.proofs.Marks.{word_less}
use Rattle.doc_table.proofs.Order.{each_weaker}
use Rattle.doc_table.proofs.Places.{flip_less, lower_to, place_gap, each_more}
use Rattle.doc_table.proofs.Puts.{put_gap}

pub marks_length : (p ms : List ℕ) (xs : List Row) → AreMarks p ms xs → length ms ≡ length xs
marks_length p [] [] s = refl
marks_length p [] (x ∷ xs) s = absurd s
marks_length p (m ∷ ms) [] s = absurd s
marks_length p (m ∷ ms) (x ∷ xs) s = let e = marks_length p ms xs s.1 in omega arith

marks_at : (p ms : List ℕ) (xs : List Row) (i d : ℕ) (x : Row) → AreMarks p ms xs → i < length xs → x ≡ get_or xs i x → IsWordOf p (get_or ms i d) x.raw
marks_at p [] [] i d x s l e = absurd (omega arith)
marks_at p [] (y ∷ ys) i d x s l e = absurd s
marks_at p (m ∷ ms) [] i d x s l e = absurd s
marks_at p (m ∷ ms) (y ∷ ys) zero d x s l e = subst (λ (z : Row). IsWordOf p m z.raw) (sym e) s.0
marks_at p (m ∷ ms) (y ∷ ys) (suc i) d x s l e = marks_at p ms ys i d x s.1 (omega arith) e

pub marks_append : (p ms : List ℕ) (xs : List Row) (ns : List ℕ) (ys : List Row) → AreMarks p ms xs → AreMarks p ns ys → AreMarks p (ms ++ ns) (xs ++ ys)
marks_append p [] [] ns ys s t = t
marks_append p [] (x ∷ xs) ns ys s t = absurd s
marks_append p (m ∷ ms) [] ns ys s t = absurd s
marks_append p (m ∷ ms) (x ∷ xs) ns ys s t = (s.0, marks_append p ms xs ns ys s.1 t)

pub marks_take : (p ms : List ℕ) (xs : List Row) (i : ℕ) → AreMarks p ms xs → AreMarks p (take i ms) (take i xs)
marks_take p ms xs zero s = tt
marks_take p [] [] (suc i) s = tt
marks_take p [] (x ∷ xs) (suc i) s = absurd s
marks_take p (m ∷ ms) [] (suc i) s = absurd s
marks_take p (m ∷ ms) (x ∷ xs) (suc i) s = (s.0, marks_take p ms xs i s.1)

pub marks_drop : (p ms : List ℕ) (xs : List Row) (i : ℕ) → AreMarks p ms xs → AreMarks p (drop i ms) (drop i xs)
marks_drop p ms xs zero s = s
marks_drop p [] [] (suc i) s = tt
marks_drop p [] (x ∷ xs) (suc i) s = absurd s
marks_drop p (m ∷ ms) [] (suc i) s = absurd s
marks_drop p (m ∷ ms) (x ∷ xs) (suc i) s = marks_drop p ms xs i s.1

pub marks_insert : (p ms : List ℕ) (xs : List Row) (i m : ℕ) (x : Row) → AreMarks p ms xs → IsWordOf p m x.raw → AreMarks p (insert ms i m) (insert xs i x)
marks_insert p ms xs i m x s k = marks_append p (take i ms) (take i xs) (m ∷ drop i ms) (x ∷ drop i xs) (marks_take p ms xs i s) (k, marks_drop p ms xs i s)

pub marks_remove : (p ms : List ℕ) (xs : List Row) (i : ℕ) → AreMarks p ms xs → AreMarks p (remove ms i) (remove xs i)
marks_remove p ms xs i s = marks_append p (take i ms) (take i xs) (drop (suc i) ms) (drop (suc i) xs) (marks_take p ms xs i s) (marks_drop p ms xs (suc i) s)

set_same : (p ms : List ℕ) (xs : List Row) (i : ℕ) (x : Row) → AreMarks p ms xs → IfSome (slice_get xs i) (IsAt x.raw) → AreMarks p ms (set xs i x)
set_same p [] [] i x s k = tt
set_same p [] (y ∷ ys) i x s k = absurd s
set_same p (n ∷ ms) [] i x s k = absurd s
set_same p (n ∷ ms) (y ∷ ys) zero x s k = (subst (IsWordOf p n) (exact_bytes y.raw x.raw k) s.0, s.1)
set_same p (n ∷ ms) (y ∷ ys) (suc i) x s k = (s.0, set_same p ms ys i x s.1 k)

-- ---- what a call left

pub marks_by : (p ms ns : List ℕ) (xs ys : List Row) → ns ≡ ms → ys ≡ xs → AreMarks p ms xs → AreMarks p ns ys
marks_by p ms ns xs ys e f s = subst (λ (t : List ℕ). AreMarks p t ys) (sym e) (subst (AreMarks p ms) (sym f) s)

pub marks_next : (p ms ns : List ℕ) (xs : List Row) (i m : ℕ) (x : Row) → i < length xs → x ≡ get_or xs i x → AreMarks p ms (take i xs) → IsWordOf p m x.raw → ns ≡ ms ++ m ∷ [] → AreMarks p ns (take (i + 1) xs)
marks_next p ms ns xs i m x l e s k q =
    let n : IsWordOf p m (get_or xs i x).raw = subst (λ (z : Row). IsWordOf p m z.raw) e k in
    marks_by p (ms ++ m ∷ []) ns (take i xs ++ get_or xs i x ∷ []) (take (i + 1) xs) q (take_more xs i x l) (marks_append p ms (take i xs) (m ∷ []) (get_or xs i x ∷ []) s (n, tt))

-- a row in place of the one with its raw id
pub marks_set : (p ms : List ℕ) (xs : List Row) (i : ℕ) (x : Row) (q : Result ℕ ℕ) → q ≡ Ok i → IsPlace x.raw xs q → AreMarks p ms xs → AreMarks p ms (set xs i x)
marks_set p ms xs i x q e h s = let w = subst (IsPlace x.raw xs) e h in set_same p ms xs i x s w.1.same

-- ---- room

gap_within : (xs : List Row) (x : Row) (q : Result ℕ ℕ) (i : ℕ) → q ≡ Err i → IsPlace x.raw xs q → i ≤ length xs
gap_within xs x q i e h = (subst (IsPlace x.raw xs) e h).0

pub room_for : (xs : List Row) (x : Row) (q : Result ℕ ℕ) (i : ℕ) → q ≡ Err i → IsPlace x.raw xs q → length (with_row x xs) ≤ 64 → length xs < 64
room_for xs x q i e h r =
    let w = gap_within xs x q i e h in
    let a : length (insert xs i x) ≡ length (with_row x xs) = ap length (put_gap xs x q i e h) in
    let b : length (insert xs i x) ≡ length xs + 1 = length-insert xs i x w in
    omega arith

-- ---- what the marks tell of a place

row_in : (xs : List Row) (i : ℕ) → i < length xs → (x : Row) × (x ≡ get_or xs i x)
row_in [] i h = absurd (omega arith)
row_in (x ∷ xs) zero h = (x, refl)
row_in (x ∷ xs) (suc i) h = row_in xs i (omega arith)

pub lower_ends : (p ms : List ℕ) (xs : List Row) (i key : ℕ) (r : List ℕ) → IsRising xs → AreMarks p ms xs → IsWordOf p key r → i ≤ length xs → ends_below ms i key ≡ true → Each (IsBelow r) (take i xs)
lower_ends p ms xs zero key r s a k l e = tt
lower_ends p ms xs (suc i) key r s a k l e =
    let h : i < length xs = omega arith in
    let w = row_in xs i h in
    let o : order w.0.raw r ≡ Less = word_less p (get_or ms i key) key w.0.raw r (marks_at p ms xs i key w.0 a h w.1) k (ltb-true (get_or ms i key) key e) in
    let n : i + 1 ≡ suc i = omega arith in
    subst (λ (n : ℕ). Each (IsBelow r) (take n xs)) n (lower_to r xs i w.0 s h w.1 o)

pub gap_by_mark : (p ms : List ℕ) (xs : List Row) (i d key : ℕ) (r : List ℕ) → IsRising xs → AreMarks p ms xs → IsWordOf p key r → i < length xs → Each (IsBelow r) (take i xs) → key < get_or ms i d → IsPlace r xs (Err i)
gap_by_mark p ms xs i d key r s a k h l g =
    let w = row_in xs i h in
    let o : order w.0.raw r ≡ Greater = flip_less r w.0.raw (word_less p key (get_or ms i d) r w.0.raw k (marks_at p ms xs i d w.0 a h w.1) g) in
    place_gap r xs i w.0 s h w.1 l o

-- ---- bytes that texts have in common

take_less : (k n : ℕ) (a b : List ℕ) → k ≤ n → take n a ≡ take n b → take k a ≡ take k b
take_less k n a b h e = sym (take-take k n a h) ∙ ap (λ (l : List ℕ). take k l) e ∙ take-take k n b h

begins_take : (n : ℕ) (a b : List ℕ) → n ≤ length a → take n a ≡ take n b → Begins (take n a) b
begins_take n a b h e =
    let l : length (take n a) ≡ n = length-take-le n a h in
    sym (take-append-drop n b) ∙ ap (λ (t : List ℕ). t ++ drop n b) (sym e) ∙ ap (λ (k : ℕ). take n a ++ drop k b) (sym l)

pub common_next : (a : List ℕ) (xs : List Row) (i k n : ℕ) (x : Row) → i < length xs → x ≡ get_or xs i x → k ≤ n → Each (λ y. take n a ≡ take n y.raw) (take i xs) → take k a ≡ take k x.raw → Each (λ y. take k a ≡ take k y.raw) (take (i + 1) xs)
common_next a xs i k n x l e h w q =
    each_more (λ y. take k a ≡ take k y.raw) xs i x l e (each_weaker (λ y. take n a ≡ take n y.raw) (λ y. take k a ≡ take k y.raw) (λ y r. take_less k n a y.raw h r) (take i xs) w) q

pub common_begins : (a p : List ℕ) (xs : List Row) (n : ℕ) → n ≤ length a → p ≡ take n a → Each (λ x. take n a ≡ take n x.raw) xs → Each (λ x. Begins p x.raw) xs
common_begins a p xs n h q w =
    each_weaker (λ x. take n a ≡ take n x.raw) (λ x. Begins p x.raw) (λ x e. subst (λ (t : List ℕ). Begins t x.raw) (sym q) (begins_take n a x.raw h e)) xs w

pub each_known : (P : Row → Type 0) (xs : List Row) (i : ℕ) (x : Row) → Each P xs → i < length xs → x ≡ get_or xs i x → P x
each_known P [] i x w l e = absurd (omega arith)
each_known P (y ∷ ys) zero x w l e = subst P (sym e) w.0
each_known P (y ∷ ys) (suc i) x w l e = each_known P ys i x w.1 (omega arith) e
