-- Lists of pages.
use Rattle.std.proofs.Common.{◌≡◌, ℕ, ◌+◌, ◌-◌, ◌<◌, ◌≤◌, suc, List, [], ◌∷◌, ◌++◌, length, take, drop, set, get_or, refl, sym, ◌∙◌, ap, subst, arith, append_assoc, inl, inr}
use Rattle.std.proofs.lemmas.Bool.{cases_eq}
use Rattle.std.specs.List.{flat_map}
use Rattle.std.proofs.lemmas.List.{take-append-drop, drop_more, set_split}
use Rattle.std.specs.declared.cmp.Ordering.TheVariants.{Greater}
use Rattle.saved_doc.specs.declared.doc.Row.{Row}
use Rattle.doc_table.specs.declared.page.SharedPage.{SharedPage}
use Rattle.doc_table.specs.RowLists.{Each, IsRising, order}
use Rattle.doc_table.specs.Place.{IsBelow, IsAbove}
use Rattle.doc_table.specs.Pages.{page_rows, live_rows, all_rows, rows_of, IsSound, IsPages, IsPageOf}
use Rattle.doc_table.proofs.Order.{each_append, each_front, each_back}
use Rattle.doc_table.proofs.Places.{lower_across, higher_across}
use Rattle.doc_table.proofs.Live.{each_live}

pub each_at : {X : Type 0} (P : X → Type 0) (xs : List X) (i : ℕ) (x : X) → i < length xs → x ≡ get_or xs i x → Each P xs → P x
each_at P xs i x h e a =
    let t = subst (Each P) (sym (take-append-drop i xs)) a in
    subst P (sym e) (subst (Each P) (drop_more xs i x h) (each_back P (take i xs) (drop i xs) t)).0

pub flat_append : (f : SharedPage → List Row) (xs ys : List SharedPage) → flat_map f (xs ++ ys) ≡ flat_map f xs ++ flat_map f ys
flat_append f [] ys = refl
flat_append f (x ∷ xs) ys = ap (λ (t : List Row). f x ++ t) (flat_append f xs ys) ∙ sym (append_assoc (f x) (flat_map f xs) (flat_map f ys))

pub pages_split : (ps : List SharedPage) (p : ℕ) (h : SharedPage) → p < length ps → h ≡ get_or ps p h → ps ≡ take p ps ++ h ∷ drop (p + 1) ps
pages_split ps p h l e = sym (take-append-drop p ps) ∙ ap (λ (t : List SharedPage). take p ps ++ t) (drop_more ps p h l ∙ ap (λ (y : SharedPage). y ∷ drop (p + 1) ps) (sym e))

pub flat_split : (f : SharedPage → List Row) (ps : List SharedPage) (p : ℕ) (h : SharedPage) → p < length ps → h ≡ get_or ps p h → flat_map f ps ≡ flat_map f (take p ps) ++ (f h ++ flat_map f (drop (p + 1) ps))
flat_split f ps p h l e = ap (flat_map f) (pages_split ps p h l e) ∙ flat_append f (take p ps) (h ∷ drop (p + 1) ps)

pub flat_set : (f : SharedPage → List Row) (ps : List SharedPage) (p : ℕ) (h : SharedPage) → p < length ps → flat_map f (set ps p h) ≡ flat_map f (take p ps) ++ (f h ++ flat_map f (drop (p + 1) ps))
flat_set f ps p h l = ap (flat_map f) (set_split ps p h l) ∙ flat_append f (take p ps) (h ∷ drop (suc p) ps) ∙ (let e : suc p ≡ p + 1 = omega arith in ap (λ (n : ℕ). flat_map f (take p ps) ++ (f h ++ flat_map f (drop n ps))) e)

pub each_live_rows : (P : Row → Type 0) (ps : List SharedPage) → Each P (all_rows ps) → Each P (rows_of ps)
each_live_rows P [] e = tt
each_live_rows P (h ∷ ps) e = each_append P (live_rows h) (rows_of ps) (each_live P h.live 0 (page_rows h) (each_front P (page_rows h) (all_rows ps) e)) (each_live_rows P ps (each_back P (page_rows h) (all_rows ps) e))

head_is : (xs : List Row) (x : Row) → 0 < length xs → x ≡ get_or xs 0 x → (t : List Row) × (xs ≡ x ∷ t)
head_is [] x h e = absurd (omega arith)
head_is (y ∷ t) x h e = (t, ap (λ (z : Row). z ∷ t) (sym e))

rising_at : (ps : List SharedPage) (p : ℕ) (h : SharedPage) (x : Row) → IsPages ps → p < length ps → h ≡ get_or ps p h → x ≡ get_or (page_rows h) 0 x → (t : List Row) × (page_rows h ≡ x ∷ t) × IsRising (all_rows (take p ps) ++ x ∷ (t ++ all_rows (drop (p + 1) ps)))
rising_at ps p h x s l e q =
    let sound = each_at IsSound ps p h l e s.sound in
    let w = head_is (page_rows h) x sound.0 q in
    let r = subst IsRising (flat_split page_rows ps p h l e) s.rising in
    (w.0, w.1, subst (λ (t : List Row). IsRising (all_rows (take p ps) ++ (t ++ all_rows (drop (p + 1) ps)))) w.1 r)

pub pages_lower : (r : List ℕ) (ps : List SharedPage) (p : ℕ) (h : SharedPage) (x : Row) → IsPages ps → p < length ps → h ≡ get_or ps p h → x ≡ get_or (page_rows h) 0 x → (order x.raw r ≡ Greater → ⊥) → Each (IsBelow r) (all_rows (take p ps))
pages_lower r ps p h x s l e q g = let w = rising_at ps p h x s l e q in lower_across r (all_rows (take p ps)) x _ w.2 g

pub pages_higher : (r : List ℕ) (ps : List SharedPage) (p : ℕ) (h : SharedPage) (x : Row) → IsPages ps → p < length ps → h ≡ get_or ps p h → x ≡ get_or (page_rows h) 0 x → order x.raw r ≡ Greater → Each (IsAbove r) (all_rows (drop p ps))
pages_higher r ps p h x s l e q g =
    let w = rising_at ps p h x s l e q in
    let a = higher_across r (all_rows (take p ps)) x (w.0 ++ all_rows (drop (p + 1) ps)) w.2 g in
    let b = subst (λ (t : List Row). Each (IsAbove r) (t ++ all_rows (drop (p + 1) ps))) (sym w.1) a in
    subst (λ (t : List SharedPage). Each (IsAbove r) (all_rows t)) (sym (drop_more ps p h l ∙ ap (λ (y : SharedPage). y ∷ drop (p + 1) ps) (sym e))) b

each_drop : (P : Row → Type 0) (n : ℕ) (ps : List SharedPage) → Each P (all_rows ps) → Each P (all_rows (drop n ps))
each_drop P n ps a = each_back P (all_rows (take n ps)) (all_rows (drop n ps)) (subst (Each P) (ap all_rows (sym (take-append-drop n ps)) ∙ flat_append page_rows (take n ps) (drop n ps)) a)

pub page_of_end : (r : List ℕ) (ps : List SharedPage) (low high p : ℕ) → p ≡ low - 1 → low ≤ high → high ≤ low → high ≤ length ps → 0 < length ps → Each (IsBelow r) (all_rows (take (low - 1) ps)) → Each (IsAbove r) (all_rows (drop high ps)) → IsPageOf r ps p
page_of_end r ps low high p e a b k n l h = record {
  within = omega arith;
  lower = subst (λ (n : ℕ). Each (IsBelow r) (all_rows (take n ps))) (sym e) l;
  higher = elim (cases_eq low 0) [
    | inl z ↦ (let q : high ≡ 0 = omega arith in let d : 1 ≡ p + 1 = omega arith in
        subst (λ (n : ℕ). Each (IsAbove r) (all_rows (drop n ps))) d (each_drop (IsAbove r) 1 ps (subst (λ (n : ℕ). Each (IsAbove r) (all_rows (drop n ps))) q h)))
    | inr z ↦ (let d : high ≡ p + 1 = omega arith in subst (λ (n : ℕ). Each (IsAbove r) (all_rows (drop n ps))) d h)
  ];
}

-- what is read through a reference
pub read_as : {X : Type 0} (xs : List X) (i : ℕ) (x y : X) → y ≡ x → x ≡ get_or xs i x → y ≡ get_or xs i y
read_as xs i x y q e = q ∙ e ∙ ap (get_or xs i) (sym q)
