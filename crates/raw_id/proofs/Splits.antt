-- Texts that are cut at a byte which the front lacks.
use Rattle.std.proofs.Common.{◌≡◌, ◌≢◌, ℕ, ◌<◌, suc, get_or, length, List, [], ◌∷◌, ◌++◌, Bool, true, false, ◌==◌, cond, Option, Some, None, option_map, Bor, refl, sym, ap, ◌∙◌, arith}
use Rattle.std.proofs.lemmas.Bool.{eqb-true, eq-eqb}
use Rattle.std.proofs.lemmas.Bool.Decides.{nat_tests}
use Rattle.std.proofs.lemmas.Str.Pattern.{IsSplitOnceResult, split_parts}
use Rattle.base_model.specs.Keyed.{Text}
use Rattle.document_model.specs.Documents.{after}
use Rattle.raw_id.specs.IndexNames.{cut, cut_behind}

-- no byte of the text is c
abbrev pub Lacks : ℕ → Text → Type 0
Lacks c [] = Unit {0}
Lacks c (b ∷ text) = (b ≢ c) × Lacks c text

pub Lacks-append : (c : ℕ) (a b : Text) → Lacks c a → Lacks c b → Lacks c (a ++ b)
Lacks-append c [] b h g = g
Lacks-append c (x ∷ a) b h g = (h.0, Lacks-append c a b h.1 g)

pub Lacks-at : (c : ℕ) (text : Text) → ((i : ℕ) → i < length text → get_or text i 0 ≢ c) → Lacks c text
Lacks-at c [] h = tt
Lacks-at c (b ∷ text) h = (h 0 (omega arith), Lacks-at c text (λ i small. h (suc i) (omega arith)))

-- it stands in no text that lacks it
pub inside : (c : ℕ) (a b : Text) → Lacks c (a ++ c ∷ b) → ⊥
inside c [] b h = h.0 refl
inside c (x ∷ a) b h = inside c a b h.1

-- two texts that lack it before it, and what follows, are told by the whole
pub one_split : (c : ℕ) (a b x y : Text) → Lacks c a → Lacks c b → a ++ c ∷ x ≡ b ++ c ∷ y → (a ≡ b) × (x ≡ y)
one_split c [] [] x y p q e = let f : x ≡ y = cc in (refl, f)
one_split c [] (b ∷ bs) x y p q e = let f : c ≡ b = cc in absurd (q.0 (sym f))
one_split c (a ∷ as2) [] x y p q e = let f : a ≡ c = cc in absurd (p.0 f)
one_split c (a ∷ as2) (b ∷ bs) x y p q e =
    let f : a ≡ b = cc in
    let g : as2 ++ c ∷ x ≡ bs ++ c ∷ y = cc in
    let h = one_split c as2 bs x y p.1 q.1 g in
    let i : as2 ≡ bs = h.0 in
    let k : (a ∷ as2) ≡ (b ∷ bs) = cc in
    (k, h.1)

eqb-false : (a b : ℕ) → a ≢ b → (a == b) ≡ false
eqb-false a b h = grind (arith, nat_tests)

-- ---- the cut

pub cut-at : (c : ℕ) (a b : Text) → Lacks c a → cut c (a ++ c ∷ b) ≡ Some (a, b)
unfolding cut
cut-at c [] b h = rw (eq-eqb c c refl) refl
cut-at c (x ∷ a) b h = rw (eqb-false x c h.0) (ap (cut_behind x) (cut-at c a b h.1))

pub cut-none : (c : ℕ) (text : Text) → Lacks c text → cut c text ≡ None
unfolding cut
cut-none c [] h = refl
cut-none c (x ∷ text) h = rw (eqb-false x c h.0) (ap (cut_behind x) (cut-none c text h.1))

behind-is : (c x : ℕ) (text : Text) (o : Option (Text × Text)) (a b : Text) → cut_behind x o ≡ Some (a, b) → ((d : Text) → o ≡ Some (d, b) → text ≡ d ++ c ∷ b) → x ∷ text ≡ a ++ c ∷ b
behind-is c x text None a b is later = cc
behind-is c x text (Some parts) a b is later =
    let pair : (x ∷ parts.0, parts.1) ≡ (a, b) = cc in
    let front : x ∷ parts.0 ≡ a = ap (λ (p : Text × Text). p.0) pair in
    let rest : parts.1 ≡ b = ap (λ (p : Text × Text). p.1) pair in
    let whole = later parts.0 (ap (λ r. Some (parts.0, r)) rest) in
    ap (λ t. x ∷ t) whole ∙ ap (λ t. t ++ c ∷ b) front

cut_at : (t : Bool) (c x : ℕ) (text a b : Text) → (x == c) ≡ t → cond t (Some ([], text)) (cut_behind x (cut c text)) ≡ Some (a, b) → ((d : Text) → cut c text ≡ Some (d, b) → text ≡ d ++ c ∷ b) → x ∷ text ≡ a ++ c ∷ b
cut_at true c x text a b test is later =
    let pair : ([], text) ≡ (a, b) = cc in
    let none : [] ≡ a = ap (λ (p : Text × Text). p.0) pair in
    let rest : text ≡ b = ap (λ (p : Text × Text). p.1) pair in
    ap (λ y. y ∷ text) (eqb-true x c test) ∙ ap (λ t. c ∷ t) rest ∙ ap (λ t. t ++ c ∷ b) none
cut_at false c x text a b test is later = behind-is c x text (cut c text) a b is later

pub cut-is : (c : ℕ) (text a b : Text) → cut c text ≡ Some (a, b) → text ≡ a ++ c ∷ b
unfolding cut
cut-is c [] a b is = cc
cut-is c (x ∷ text) a b is = cut_at (x == c) c x text a b refl is (λ d e. cut-is c text d b e)

-- what `split_once` gives at an ASCII character
pub split_is_cut : (c : ℕ) (bs : Text) (r : Option (Bor (List ℕ) × Bor (List ℕ))) → IsSplitOnceResult c bs r → c < 128 → option_map (λ parts. (parts.0.now, parts.1.now)) r ≡ cut c bs
split_is_cut c bs None h small = sym (cut-none c bs (Lacks-at c bs (split_parts c bs None h small)))
split_is_cut c bs (Some x) h small =
    let parts = split_parts c bs (Some x) h small in
    sym (ap (cut c) parts.0 ∙ cut-at c x.0.now x.1.now (Lacks-at c x.0.now parts.1))

-- ---- what follows a front

pub after-append : (p x : Text) → after p (p ++ x) ≡ Some x
unfolding after
after-append [] x = refl
after-append (b ∷ p) x = rw (eq-eqb b b refl) (after-append p x)

after_at : (t : Bool) (a b : ℕ) (p x r : Text) → (a == b) ≡ t → cond t (after p x) None ≡ Some r → (after p x ≡ Some r → x ≡ p ++ r) → b ∷ x ≡ (a ∷ p) ++ r
after_at true a b p x r test is later = ap (λ c. c ∷ x) (sym (eqb-true a b test)) ∙ ap (λ t. a ∷ t) (later is)
after_at false a b p x r test is later = cc

pub after-is : (p x r : Text) → after p x ≡ Some r → x ≡ p ++ r
unfolding after
after-is [] x r is = cc
after-is (a ∷ p) [] r is = cc
after-is (a ∷ p) (b ∷ x) r is = after_at (a == b) a b p x r refl is (after-is p x r)

none_after : (p x : Text) (o : Option Text) → after p x ≡ o → ((r : Text) → x ≢ p ++ r) → o ≡ None
none_after p x None is never = refl
none_after p x (Some r) is never = absurd (never r (after-is p x r is))

pub after-none : (p x : Text) → ((r : Text) → x ≢ p ++ r) → after p x ≡ None
after-none p x never = none_after p x (after p x) refl never
