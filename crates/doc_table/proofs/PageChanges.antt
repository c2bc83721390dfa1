-- Pages with one of them changed.
use Rattle.std.proofs.Common.{◌≡◌, ℕ, ◌+◌, ◌-◌, ◌^◌, ◌<◌, ◌≤◌, suc, true, cond, Option, Some, None, List, [], ◌∷◌, ◌++◌, length, take, drop, set, get_or, refl, sym, ◌∙◌, ap, subst, arith, append_assoc, append-nil, length-append}
use Rattle.std.specs.List.{flat_map, insert, remove}
use Rattle.std.specs.Option.{is_some}
use Rattle.std.specs.Ordering.{is_lt, is_eq, is_gt}
use Rattle.std.proofs.lemmas.List.{get_or_default, set-get_or, take-append-drop, set_split, take_more, set_at, length-take-le, length-drop, take_at, drop_at}
use Rattle.std.specs.declared.cmp.Ordering.TheVariants.{Less, Equal, Greater}
use Rattle.std.specs.declared.cmp.Ordering.{Ordering}
use Rattle.saved_doc.specs.declared.doc.Row.{Row}
use Rattle.doc_table.specs.declared.page.SharedPage.{SharedPage}
use Rattle.doc_table.specs.RowLists.{Each, IsRising, order, below, above, found, with_row}
use Rattle.doc_table.specs.Place.{IsBelow, IsAbove}
use Rattle.doc_table.specs.Pages.{page_rows, live_rows, live_from, all_rows, rows_of, IsSound, IsPages, IsPageOf, IsHalved}
use Rattle.doc_table.proofs.Order.{each_append, each_front, each_back, pairwise_front, pairwise_back}
use Rattle.doc_table.proofs.Numbered.{with_rising}
use Rattle.doc_table.proofs.Flank.{flank_found, flank_with, flank_without}
use Rattle.doc_table.proofs.Live.{pairwise_live_middle, live_full, length-live}
use Rattle.doc_table.specs.declared.mark.Mark.{Mark}
use Rattle.doc_table.specs.Marks.{IsMarked}
use Rattle.doc_table.proofs.Marks.{marked_take}
use Rattle.doc_table.proofs.PageLists.{flat_append, flat_split, each_live_rows, each_at}

-- ps with hs in place of the page at p
abbrev pub swapped : List SharedPage → ℕ → List SharedPage → List SharedPage
swapped ps p hs = take p ps ++ (hs ++ drop (p + 1) ps)

flat_swapped : (f : SharedPage → List Row) (ps : List SharedPage) (p : ℕ) (hs : List SharedPage) (rows : List Row) → flat_map f hs ≡ rows → flat_map f (swapped ps p hs) ≡ flat_map f (take p ps) ++ (rows ++ flat_map f (drop (p + 1) ps))
flat_swapped f ps p hs rows e =
    flat_append f (take p ps) (hs ++ drop (p + 1) ps) ∙ ap (λ (t : List Row). flat_map f (take p ps) ++ t) (flat_append f hs (drop (p + 1) ps) ∙ ap (λ (t : List Row). t ++ flat_map f (drop (p + 1) ps)) e)

pub swapped_one : (ps : List SharedPage) (p : ℕ) (h : SharedPage) → p < length ps → set ps p h ≡ swapped ps p (h ∷ [])
swapped_one ps p h l = let e : suc p ≡ p + 1 = omega arith in set_split ps p h l ∙ ap (λ (n : ℕ). take p ps ++ h ∷ drop n ps) e

pub swapped_two : (ps : List SharedPage) (p : ℕ) (g h : SharedPage) → (x : SharedPage) → p < length ps → set (insert ps (p + 1) h) p g ≡ swapped ps p (g ∷ h ∷ [])
swapped_two ps p g h x l =
    let a = take_more ps p x l in
    ap (λ (t : List SharedPage). set (t ++ h ∷ drop (p + 1) ps) p g) a ∙ ap (λ (t : List SharedPage). set t p g) (append_assoc (take p ps) (get_or ps p x ∷ []) (h ∷ drop (p + 1) ps))
    ∙ set_at (take p ps) (get_or ps p x) (h ∷ drop (p + 1) ps) g p (length-take-le p ps (omega arith))

pub swapped_none : (ps : List SharedPage) (p : ℕ) → remove ps p ≡ swapped ps p []
swapped_none ps p = let e : suc p ≡ p + 1 = omega arith in ap (λ (n : ℕ). take p ps ++ drop n ps) e

pub rows_put : (x : Row) (ps : List SharedPage) (p : ℕ) (h : SharedPage) (hs : List SharedPage) → IsPageOf x.raw ps p → h ≡ get_or ps p h → rows_of hs ≡ with_row x (live_rows h) → rows_of (swapped ps p hs) ≡ with_row x (rows_of ps)
rows_put x ps p h hs o e q =
    flat_swapped live_rows ps p hs (with_row x (live_rows h)) q
    ∙ sym (ap (with_row x) (flat_split live_rows ps p h o.within e) ∙ flank_with x (rows_of (take p ps)) (live_rows h) (rows_of (drop (p + 1) ps)) (each_live_rows (IsBelow x.raw) (take p ps) o.lower) (each_live_rows (IsAbove x.raw) (drop (p + 1) ps) o.higher))

pub rows_out : (r : List ℕ) (ps : List SharedPage) (p : ℕ) (h : SharedPage) (hs : List SharedPage) → IsPageOf r ps p → h ≡ get_or ps p h → rows_of hs ≡ below r (live_rows h) ++ above r (live_rows h) → rows_of (swapped ps p hs) ≡ below r (rows_of ps) ++ above r (rows_of ps)
rows_out r ps p h hs o e q =
    flat_swapped live_rows ps p hs (below r (live_rows h) ++ above r (live_rows h)) q
    ∙ sym (ap (λ (t : List Row). below r t ++ above r t) (flat_split live_rows ps p h o.within e) ∙ flank_without r (rows_of (take p ps)) (live_rows h) (rows_of (drop (p + 1) ps)) (each_live_rows (IsBelow r) (take p ps) o.lower) (each_live_rows (IsAbove r) (drop (p + 1) ps) o.higher))

pub rows_found : (r : List ℕ) (ps : List SharedPage) (p : ℕ) (h : SharedPage) → IsPageOf r ps p → h ≡ get_or ps p h → found r (live_rows h) ≡ found r (rows_of ps)
rows_found r ps p h o e =
    sym (ap (found r) (flat_split live_rows ps p h o.within e) ∙ flank_found r (rows_of (take p ps)) (live_rows h) (rows_of (drop (p + 1) ps)) (each_live_rows (IsBelow r) (take p ps) o.lower) (each_live_rows (IsAbove r) (drop (p + 1) ps) o.higher))

pub page_rising : (ps : List SharedPage) (p : ℕ) (h : SharedPage) → IsPages ps → p < length ps → h ≡ get_or ps p h → IsRising (page_rows h)
page_rising ps p h s l e =
    let R : Row → Row → Type 0 = λ x y. order x.raw y.raw ≡ Less in
    pairwise_front R (page_rows h) (all_rows (drop (p + 1) ps)) (pairwise_back R (all_rows (take p ps)) (page_rows h ++ all_rows (drop (p + 1) ps)) (subst IsRising (flat_split page_rows ps p h l e) s.rising))

sized_swapped : (ps : List SharedPage) (p : ℕ) (hs : List SharedPage) → Each IsSound ps → Each IsSound hs → Each IsSound (swapped ps p hs)
sized_swapped ps p hs s t =
    let a = subst (Each IsSound) (sym (take-append-drop p ps)) s in
    let b = subst (Each IsSound) (sym (take-append-drop (p + 1) ps)) s in
    each_append IsSound (take p ps) (hs ++ drop (p + 1) ps) (each_front IsSound (take p ps) (drop p ps) a) (each_append IsSound hs (drop (p + 1) ps) t (each_back IsSound (take (p + 1) ps) (drop (p + 1) ps) b))

pub pages_put : (x : Row) (ps : List SharedPage) (p : ℕ) (h : SharedPage) (hs : List SharedPage) → IsPages ps → IsPageOf x.raw ps p → h ≡ get_or ps p h → Each IsSound hs → all_rows hs ≡ with_row x (live_rows h) → IsPages (swapped ps p hs)
pages_put x ps p h hs s o e t q =
    let R : Row → Row → Type 0 = λ x y. order x.raw y.raw ≡ Less in
    let a : IsRising (all_rows (take p ps) ++ (live_rows h ++ all_rows (drop (p + 1) ps))) = pairwise_live_middle R h.live 0 (all_rows (take p ps)) (page_rows h) (all_rows (drop (p + 1) ps)) (subst IsRising (flat_split page_rows ps p h o.within e) s.rising) in
    let b = with_rising x _ a in
    record {
      sound = sized_swapped ps p hs s.sound t;
      rising = subst IsRising (flank_with x (all_rows (take p ps)) (live_rows h) (all_rows (drop (p + 1) ps)) o.lower o.higher ∙ sym (flat_swapped page_rows ps p hs (with_row x (live_rows h)) q)) b;
    }

-- with some of the page's rows
pub pages_out : (ps : List SharedPage) (p : ℕ) (h : SharedPage) (hs : List SharedPage) (bits : ℕ) → IsPages ps → p < length ps → h ≡ get_or ps p h → Each IsSound hs → all_rows hs ≡ live_from bits 0 (page_rows h) → IsPages (swapped ps p hs)
pages_out ps p h hs bits s l e t q =
    let R : Row → Row → Type 0 = λ x y. order x.raw y.raw ≡ Less in
    let a : IsRising (all_rows (take p ps) ++ (live_from bits 0 (page_rows h) ++ all_rows (drop (p + 1) ps))) = pairwise_live_middle R bits 0 (all_rows (take p ps)) (page_rows h) (all_rows (drop (p + 1) ps)) (subst IsRising (flat_split page_rows ps p h l e) s.rising) in
    record {
      sound = sized_swapped ps p hs s.sound t;
      rising = subst IsRising (sym (flat_swapped page_rows ps p hs (live_from bits 0 (page_rows h)) q)) a;
    }

-- ---- how many rows

count_cases : (o : Ordering) (x : Row) (xs ys : List Row) (n : ℕ) → length xs + length ys ≤ n → length (cond (is_lt o) (x ∷ xs) xs) + length (cond (is_gt o) (x ∷ ys) ys) ≤ suc n
count_cases Less x xs ys n h = omega arith
count_cases Equal x xs ys n h = omega arith
count_cases Greater x xs ys n h = omega arith

count_sides : (r : List ℕ) (rows : List Row) → length (below r rows) + length (above r rows) ≤ length rows
count_sides r [] = omega arith
count_sides r (x ∷ xs) = count_cases (order x.raw r) x (below r xs) (above r xs) (length xs) (count_sides r xs)

pub length-with_row : (x : Row) (rows : List Row) → (length (with_row x rows) ≤ length rows + 1) × (0 < length (with_row x rows))
length-with_row x rows = let h = count_sides x.raw rows in let e = length-append (below x.raw rows) (x ∷ above x.raw rows) in (omega arith, omega arith)

pub few_rows : (x : Row) (h : SharedPage) → IsSound h → length (with_row x (live_rows h)) ≤ 65
few_rows x h s = let a = (length-with_row x (live_rows h)).0 in let b = length-live h.live 0 (page_rows h) in omega arith

pub same_item : {X : Type 0} (xs : List X) (i : ℕ) (x y : X) → i < length xs → x ≡ get_or xs i x → y ≡ get_or xs i y → x ≡ y
same_item xs i x y l e f = e ∙ get_or_default xs i x y l ∙ sym f

-- the page's rows kept, and its bits changed
pub pages_kept : (ps : List SharedPage) (p : ℕ) (h g : SharedPage) → IsPages ps → p < length ps → h ≡ get_or ps p h → page_rows g ≡ page_rows h → g.mark ≡ h.mark → IsPages (swapped ps p (g ∷ []))
pages_kept ps p h g s l e q k =
    let t = each_at IsSound ps p h l e s.sound in
    record {
      sound = sized_swapped ps p (g ∷ []) s.sound (subst (λ (m : Mark). (0 < length (page_rows g)) × (length (page_rows g) ≤ 64) × IsMarked m (page_rows g)) (sym k) (subst (λ (t : List Row). (0 < length t) × (length t ≤ 64) × IsMarked h.mark t) (sym q) t), tt);
      rising = subst IsRising (flat_split page_rows ps p h l e ∙ sym (flat_swapped page_rows ps p (g ∷ []) (page_rows h) (append-nil (page_rows g) ∙ q))) s.rising;
    }

-- a page in two halves

pub swapped_halves : (ps : List SharedPage) (p : ℕ) (g h : SharedPage) → p < length ps → insert (set ps p g) (p + 1) h ≡ swapped ps p (g ∷ h ∷ [])
swapped_halves ps p g h l =
    let a = take p ps in
    let d = drop (p + 1) ps in
    let k = length-take-le p ps (omega arith) in
    let n = length-append a (g ∷ []) in
    let m : length (a ++ g ∷ []) ≡ p + 1 = omega arith in
    ap (λ (t : List SharedPage). insert t (p + 1) h) (swapped_one ps p g l ∙ sym (append_assoc a (g ∷ []) d))
    ∙ (λ j. take_at (a ++ g ∷ []) d (p + 1) m j ++ h ∷ drop_at (a ++ g ∷ []) d (p + 1) m j)
    ∙ append_assoc a (g ∷ []) (h ∷ d)

pub rows_halved : (ps : List SharedPage) (p : ℕ) (h g u : SharedPage) → p < length ps → h ≡ get_or ps p h → IsHalved h g u → rows_of (swapped ps p (g ∷ u ∷ [])) ≡ rows_of ps
rows_halved ps p h g u l e s = flat_swapped live_rows ps p (g ∷ u ∷ []) (live_rows h) (ap (λ (t : List Row). live_rows g ++ t) (append-nil (live_rows u)) ∙ s.alive) ∙ sym (flat_split live_rows ps p h l e)

pub pages_halved : (ps : List SharedPage) (p : ℕ) (h g u : SharedPage) → IsPages ps → p < length ps → h ≡ get_or ps p h → IsHalved h g u → IsPages (swapped ps p (g ∷ u ∷ []))
pages_halved ps p h g u s l e q = record {
  sound = sized_swapped ps p (g ∷ u ∷ []) s.sound (q.lower, (q.upper, tt));
  rising = subst IsRising (flat_split page_rows ps p h l e ∙ sym (flat_swapped page_rows ps p (g ∷ u ∷ []) (page_rows h) (ap (λ (t : List Row). page_rows g ++ t) (append-nil (page_rows u)) ∙ q.all))) s.rising;
}

pub is_halved : (h g u : SharedPage) → IsSound h → 64 ≤ length (page_rows h) → h.live ≡ 2 ^ 64 - 1 → g.live ≡ 2 ^ 64 - 1 → u.live ≡ 2 ^ 64 - 1 → page_rows g ≡ take 32 (page_rows h) → page_rows u ≡ drop 32 (page_rows h) → g.mark ≡ h.mark → IsMarked u.mark (page_rows u) → IsHalved h g u
is_halved h g u s n a b c d e k m =
    let full = s.1 in
    let w = take-append-drop 32 (page_rows h) in
    let i : length (page_rows g) ≡ 32 = ap length d ∙ length-take-le 32 (page_rows h) (omega arith) in
    let j : length (page_rows u) ≡ length (page_rows h) - 32 = ap length e ∙ length-drop 32 (page_rows h) in
    let hh : live_rows h ≡ page_rows h = ap (λ (t : ℕ). live_from t 0 (page_rows h)) a ∙ live_full 0 (page_rows h) (omega arith) in
    let gg : live_rows g ≡ page_rows g = ap (λ (t : ℕ). live_from t 0 (page_rows g)) b ∙ live_full 0 (page_rows g) (omega arith) in
    let uu : live_rows u ≡ page_rows u = ap (λ (t : ℕ). live_from t 0 (page_rows u)) c ∙ live_full 0 (page_rows u) (omega arith) in
    let whole : page_rows g ++ page_rows u ≡ page_rows h = (λ k. d k ++ e k) ∙ w in
    record {
      all = whole;
      alive = (λ k. gg k ++ uu k) ∙ whole ∙ sym hh;
      lower = (omega arith, omega arith, subst (λ (v : Mark). IsMarked v (page_rows g)) (sym k) (subst (IsMarked h.mark) (sym d) (marked_take h.mark (page_rows h) 32 (omega arith) (omega arith) s.2)));
      upper = (omega arith, omega arith, m);
    }

-- a page changed in place

pub place_put : (x : Row) (ps : List SharedPage) (p : ℕ) (h g : SharedPage) → IsPages ps → IsPageOf x.raw ps p → h ≡ get_or ps p h → length (with_row x (live_rows h)) ≤ 64 → page_rows g ≡ with_row x (live_rows h) → live_rows g ≡ with_row x (live_rows h) → IsMarked g.mark (page_rows g) → (rows_of (set ps p g) ≡ with_row x (rows_of ps)) × IsPages (set ps p g)
place_put x ps p h g s o e room a b m =
    let w = swapped_one ps p g o.within in
    let n = length-with_row x (live_rows h) in
    let n0 = n.0 in
    let n1 = n.1 in
    let k = length-live h.live 0 (page_rows h) in
    let l = ap length a in
    let t : Each IsSound (g ∷ []) = ((omega arith, omega arith, m), tt) in
    (ap rows_of w ∙ rows_put x ps p h (g ∷ []) o e (append-nil (live_rows g) ∙ b), subst IsPages (sym w) (pages_put x ps p h (g ∷ []) s o e t (append-nil (page_rows g) ∙ a)))

pub place_kept : (ps : List SharedPage) (p : ℕ) (h g : SharedPage) → IsPages ps → p < length ps → h ≡ get_or ps p h → length (page_rows h) ≤ 64 → 0 < length (live_rows h) → page_rows g ≡ live_rows h → live_rows g ≡ live_rows h → IsMarked g.mark (page_rows g) → (rows_of (set ps p g) ≡ rows_of ps) × IsPages (set ps p g)
place_kept ps p h g s w e room some a b m =
    let v = swapped_one ps p g w in
    let k = length-live h.live 0 (page_rows h) in
    let l = ap length a in
    let t : Each IsSound (g ∷ []) = ((omega arith, omega arith, m), tt) in (
      ap rows_of v ∙ flat_swapped live_rows ps p (g ∷ []) (live_rows h) (append-nil (live_rows g) ∙ b) ∙ sym (flat_split live_rows ps p h w e),
      subst IsPages (sym v) (pages_out ps p h (g ∷ []) h.live s w e t (append-nil (page_rows g) ∙ a)),
    )

pub place_same : (ps : List SharedPage) (p : ℕ) (h g : SharedPage) → h ≡ get_or ps p h → g ≡ h → set ps p g ≡ ps
place_same ps p h g e q = ap (λ (t : SharedPage). set ps p t) (q ∙ e) ∙ set-get_or ps p h

pub full_page : (rows new : List Row) → new ≡ rows → length rows ≤ 64 → live_from (2 ^ 64 - 1) 0 new ≡ rows
full_page rows new e h = ap (live_from (2 ^ 64 - 1) 0) e ∙ live_full 0 rows (omega arith)

pub room_for : (x : Row) (h : SharedPage) → length (page_rows h) < 64 → (length (with_row x (live_rows h)) ≤ 64) × (length (live_rows h) ≤ 64)
room_for x h room = let n = (length-with_row x (live_rows h)).0 in let k = length-live h.live 0 (page_rows h) in (omega arith, omega arith)

-- a row that is there is replaced, so no more rows are needed

found_cases : (o : Ordering) (x y : Row) (xs ys zs : List Row) (f : Option Row) → length xs + length ys ≤ length zs → (f ≡ Some y → length xs + length ys < length zs) → cond (is_eq o) (Some x) f ≡ Some y → length (cond (is_lt o) (x ∷ xs) xs) + length (cond (is_gt o) (x ∷ ys) ys) < suc (length zs)
found_cases Less x y xs ys zs f h g e = let k = g e in omega arith
found_cases Equal x y xs ys zs f h g e = omega arith
found_cases Greater x y xs ys zs f h g e = let k = g e in omega arith

count_found : (r : List ℕ) (rows : List Row) (y : Row) → found r rows ≡ Some y → length (below r rows) + length (above r rows) < length rows
count_found r [] y e = cc
count_found r (x ∷ xs) y e = found_cases (order x.raw r) x y (below r xs) (above r xs) xs (found r xs) (count_sides r xs) (count_found r xs y) e

replaced_by : (x : Row) (rows : List Row) (o : Option Row) → found x.raw rows ≡ o → is_some o ≡ true → length (with_row x rows) ≤ length rows
replaced_by x rows None e s = cc
replaced_by x rows (Some y) e s = let h = count_found x.raw rows y e in let l = length-append (below x.raw rows) (x ∷ above x.raw rows) in omega arith

pub room_to_replace : (x : Row) (h : SharedPage) → length (page_rows h) ≤ 64 → is_some (found x.raw (live_rows h)) ≡ true → length (with_row x (live_rows h)) ≤ 64
room_to_replace x h n s = let a = replaced_by x (live_rows h) (found x.raw (live_rows h)) refl s in let b = length-live h.live 0 (page_rows h) in omega arith

pub room_to_add : (x : Row) (h : SharedPage) → length (page_rows h) < 64 → length (with_row x (live_rows h)) ≤ 64
room_to_add x h room = (room_for x h room).0
