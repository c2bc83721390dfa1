-- A page's rows and mark after a row is put at its place.
use Rattle.std.proofs.Common.{◌≡◌, ℕ, zero, suc, ◌<◌, ◌≤◌, List, [], ◌∷◌, length, set, get_or, Result, Ok, Err, Option, refl, sym, ap, subst, arith}
use Rattle.std.specs.Prelude.{IfSome, slice_get}
use Rattle.std.specs.List.{insert}
use Rattle.std.proofs.lemmas.List.{length-set}
use Rattle.std.proofs.lemmas.Option.{slice_get_read}
use Rattle.saved_doc.specs.declared.doc.Row.{Row}
use Rattle.doc_table.specs.declared.mark.Mark.{Mark}
use Rattle.doc_table.specs.RowLists.{with_row}
use Rattle.doc_table.specs.Place.{IsPlace}
use Rattle.doc_table.specs.Marks.{IsMarkOf, IsMarked}
use Rattle.doc_table.proofs.Puts.{put_here, put_gap}
use Rattle.doc_table.proofs.PageChanges.{length-with_row}

-- what is said of the item at an index
pub known_at : {X : Type 0} (P : X → Type 0) (xs : List X) (i : ℕ) (x : X) → i < length xs → x ≡ get_or xs i x → IfSome (slice_get xs i) P → P x
known_at {X} P xs i x l e k = subst (λ (o : Option X). IfSome o P) (slice_get_read xs (length xs) i x refl l e) k

pub said_at : {X : Type 0} (P : X → Type 0) (xs : List X) (i : ℕ) (x : X) → i < length xs → x ≡ get_or xs i x → P x → IfSome (slice_get xs i) P
said_at {X} P xs i x l e k = subst (λ (o : Option X). IfSome o P) (sym (slice_get_read xs (length xs) i x refl l e)) k

pub takes_here : (x : Row) (rows : List Row) (p : Result ℕ ℕ) (i : ℕ) → p ≡ Ok i → length rows ≤ 64 → IsPlace x.raw rows p → length (with_row x rows) ≤ 64
takes_here x rows p i e l h = let a = ap length (put_here rows x p i e h) in let b = length-set rows i x in omega arith

pub takes_more : (x : Row) (rows : List Row) → length rows < 64 → length (with_row x rows) ≤ 64
takes_more x rows l = let a = (length-with_row x rows).0 in omega arith

mark_set : (m n : Mark) (x : Row) (rows : List Row) (i : ℕ) → i < length rows → (i ≡ 0 → IsMarkOf n x.raw) → (0 < i → n ≡ m) → IsMarked m rows → IsMarked n (set rows i x)
mark_set m n x [] i l a b s = absurd (omega arith)
mark_set m n x (y ∷ ys) zero l a b s = a refl
mark_set m n x (y ∷ ys) (suc i) l a b s = subst (λ (v : Mark). IsMarkOf v y.raw) (sym (b (omega arith))) s

mark_insert : (m n : Mark) (x : Row) (rows : List Row) (i : ℕ) → i ≤ length rows → (i ≡ 0 → IsMarkOf n x.raw) → (0 < i → n ≡ m) → IsMarked m rows → IsMarked n (insert rows i x)
mark_insert m n x rows zero l a b s = a refl
mark_insert m n x [] (suc i) l a b s = absurd (omega arith)
mark_insert m n x (y ∷ ys) (suc i) l a b s = subst (λ (v : Mark). IsMarkOf v y.raw) (sym (b (omega arith))) s

pub marked_here : (m n : Mark) (r : List ℕ) (p : Result ℕ ℕ) (i : ℕ) → p ≡ Ok i → (i ≡ 0 → IsMarkOf n r) → (0 < i → n ≡ m) → (x : Row) (rows : List Row) → x.raw ≡ r → IsMarked m rows → IsPlace x.raw rows p → IsMarked n (with_row x rows)
marked_here m n r p i e a b x rows q s h =
    let l : IsPlace x.raw rows (Ok i) = subst (IsPlace x.raw rows) e h in
    subst (IsMarked n) (put_here rows x p i e h) (mark_set m n x rows i l.0 (λ z. subst (IsMarkOf n) (sym q) (a z)) b s)

pub marked_gap : (m n : Mark) (r : List ℕ) (p : Result ℕ ℕ) (i : ℕ) → p ≡ Err i → (i ≡ 0 → IsMarkOf n r) → (0 < i → n ≡ m) → (x : Row) (rows : List Row) → x.raw ≡ r → IsMarked m rows → IsPlace x.raw rows p → IsMarked n (with_row x rows)
marked_gap m n r p i e a b x rows q s h =
    let l : IsPlace x.raw rows (Err i) = subst (IsPlace x.raw rows) e h in
    subst (IsMarked n) (put_gap rows x p i e h) (mark_insert m n x rows i l.0 (λ z. subst (IsMarkOf n) (sym q) (a z)) b s)
