-- A reader's steps.
use Rattle.std.proofs.Common.{◌≡◌, ℕ, ◌+◌, ◌<◌, ◌≤◌, true, false, Bool, cond, List, [], ◌∷◌, ◌++◌, length, drop, get_or, inl, inr, Option, refl, sym, ◌∙◌, ap, subst, arith}
use Rattle.std.specs.Prelude.{◌==◌, slice_get, IfSome}
use Rattle.std.specs.Int.{bit_at}
use Rattle.std.proofs.lemmas.List.{drop_more, drop_all}
use Rattle.std.proofs.lemmas.Option.{slice_get_cases, slice_get_read, slice_get_past}
use Rattle.saved_doc.specs.declared.doc.Row.{Row}
use Rattle.doc_table.specs.declared.page.SharedPage.{SharedPage}
use Rattle.doc_table.specs.Pages.{live_from, page_rows, rows_of, rows_left, left_in, IsLiveAt}

pub skip_dead : (b i : ℕ) (xs : List Row) → i < length xs → (bit_at b i == 1) ≡ false → live_from b (i + 1) (drop (i + 1) xs) ≡ live_from b i (drop i xs)
skip_dead b i xs h t =
    elim (slice_get_cases xs i).1 [
      | inl w ↦ sym (ap (live_from b i) (drop_more xs i w.0 h) ∙ ap (λ (v : Bool). cond v (get_or xs i w.0 ∷ live_from b (i + 1) (drop (i + 1) xs)) (live_from b (i + 1) (drop (i + 1) xs))) t)
      | inr w ↦ absurd (omega arith)
    ]

pub take_live : (b i : ℕ) (xs : List Row) (x : Row) → i < length xs → x ≡ get_or xs i x → (bit_at b i == 1) ≡ true → live_from b i (drop i xs) ≡ x ∷ live_from b (i + 1) (drop (i + 1) xs)
take_live b i xs x h e t =
    ap (live_from b i) (drop_more xs i x h) ∙ ap (λ (v : Bool). cond v (get_or xs i x ∷ live_from b (i + 1) (drop (i + 1) xs)) (live_from b (i + 1) (drop (i + 1) xs))) t ∙ ap (λ (y : Row). y ∷ live_from b (i + 1) (drop (i + 1) xs)) (sym e)

pub no_rows_left : (ps : List SharedPage) (p at : ℕ) → length ps ≤ p → rows_left ps p at ≡ []
no_rows_left ps p at l = ap (λ (o : Option SharedPage). left_in o at ++ rows_of (drop (p + 1) ps)) (slice_get_past ps p l) ∙ ap rows_of (drop_all (p + 1) ps (omega arith))

rest_left : (ps : List SharedPage) (p : ℕ) → rows_of (drop p ps) ≡ rows_left ps p 0
rest_left ps p =
    elim (slice_get_cases ps p).1 [
      | inl w ↦ (let l : p < length ps = w.1 in ap rows_of (drop_more ps p w.0 l ∙ ap (λ (y : SharedPage). y ∷ drop (p + 1) ps) w.3) ∙ sym (ap (λ (o : Option SharedPage). left_in o 0 ++ rows_of (drop (p + 1) ps)) w.2))
      | inr w ↦ (let l : length ps ≤ p = w.0 in ap rows_of (drop_all p ps l) ∙ sym (no_rows_left ps p 0 l))
    ]

pub all_left : (ps : List SharedPage) → rows_left ps 0 0 ≡ rows_of ps
all_left [] = refl
all_left (h ∷ ps) = refl

-- nothing is left of this page
pub next_page : (ps : List SharedPage) (p at i : ℕ) (h : SharedPage) → p < length ps → h ≡ get_or ps p h → live_from h.live i (drop i (page_rows h)) ≡ live_from h.live at (drop at (page_rows h)) → length (page_rows h) ≤ i → rows_left ps (p + 1) 0 ≡ rows_left ps p at
next_page ps p at i h l e q k =
    let o = slice_get_read ps (length ps) p h refl l e in
    let z : live_from h.live at (drop at (page_rows h)) ≡ [] = sym q ∙ ap (live_from h.live i) (drop_all i (page_rows h) k) in
    sym (rest_left ps (p + 1)) ∙ sym (ap (λ (t : Option SharedPage). left_in t at ++ rows_of (drop (p + 1) ps)) o ∙ ap (λ (t : List Row). t ++ rows_of (drop (p + 1) ps)) z)

pub same_page : (ps : List SharedPage) (p at i : ℕ) (h : SharedPage) → p < length ps → h ≡ get_or ps p h → live_from h.live i (drop i (page_rows h)) ≡ live_from h.live at (drop at (page_rows h)) → rows_left ps p i ≡ rows_left ps p at
same_page ps p at i h l e q =
    let o = slice_get_read ps (length ps) p h refl l e in
    ap (λ (t : Option SharedPage). left_in t i ++ rows_of (drop (p + 1) ps)) o ∙ ap (λ (t : List Row). t ++ rows_of (drop (p + 1) ps)) q ∙ sym (ap (λ (t : Option SharedPage). left_in t at ++ rows_of (drop (p + 1) ps)) o)

pub one_row : (ps : List SharedPage) (p i : ℕ) (h : SharedPage) (x : Row) → p < length ps → h ≡ get_or ps p h → IfSome (slice_get ps p) (λ g. IsLiveAt g i) → x ≡ get_or (page_rows h) i x → rows_left ps p i ≡ x ∷ rows_left ps p (i + 1)
one_row ps p i h x l e s q =
    let o = slice_get_read ps (length ps) p h refl l e in
    let a : IsLiveAt h i = subst (λ (t : Option SharedPage). IfSome t (λ g. IsLiveAt g i)) o s in
    ap (λ (t : Option SharedPage). left_in t i ++ rows_of (drop (p + 1) ps)) o ∙ ap (λ (t : List Row). t ++ rows_of (drop (p + 1) ps)) (take_live h.live i (page_rows h) x a.0 q a.1)
    ∙ sym (ap (λ (t : Option SharedPage). x ∷ (left_in t (i + 1) ++ rows_of (drop (p + 1) ps))) o)

pub live_there : (ps : List SharedPage) (p i : ℕ) (h : SharedPage) → p < length ps → h ≡ get_or ps p h → IfSome (slice_get ps p) (λ g. IsLiveAt g i) → i < length (page_rows h)
live_there ps p i h l e s =
    let o = slice_get_read ps (length ps) p h refl l e in
    (subst (λ (t : Option SharedPage). IfSome t (λ g. IsLiveAt g i)) o s).0

pub none_there : (ps : List SharedPage) (p i : ℕ) → length ps ≤ p → IfSome (slice_get ps p) (λ g. IsLiveAt g i)
none_there ps p i l = subst (λ (t : Option SharedPage). IfSome t (λ g. IsLiveAt g i)) (sym (slice_get_past ps p l)) tt
