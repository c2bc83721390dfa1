-- Lists: what is in them, what holds of each element, and options.
use Rattle.std.proofs.Common.{◌≡◌, ◌≢◌, ℕ, ◌⊎◌, List, [], ◌∷◌, ◌++◌, Option, Some, None, sym, ◌∙◌, subst, zero, suc}
use mathlib.Core.Logic.◌⊎◌.{inl, inr}
use Rattle.race_model.specs.Worlds.{nth, with_nth}
use Rattle.race_model.specs.Journals.{Has}

pub apart : {A : Type 0} {a b : A} → a ≢ b → b ≢ a
apart n e = n (sym e)

-- the two sides of an option
pub some_same : {A : Type 0} (a b : A) (o : Option A) → o ≡ Some a → o ≡ Some b → a ≡ b
some_same a b o e f = let g : Some a ≡ Some b = sym e ∙ f in cc

pub none_some : {A B : Type 0} (a : A) (o : Option A) → o ≡ None → o ≡ Some a → B
none_some a o e f = absurd (cc)

pub has_append_cases : {A : Type 0} (x : A) (xs ys : List A) → Has x (xs ++ ys) → Has x xs ⊎ Has x ys
unfolding Has
has_append_cases x [] ys h = inr h
has_append_cases x (y ∷ xs) ys (inl e) = inl (inl e)
has_append_cases x (y ∷ xs) ys (inr h) = elim (has_append_cases x xs ys h) [ inl k ↦ inl (inr k) | inr k ↦ inr k ]

pub has_append_left : {A : Type 0} (x : A) (xs ys : List A) → Has x xs → Has x (xs ++ ys)
unfolding Has
has_append_left x [] ys h = absurd h
has_append_left x (y ∷ xs) ys (inl e) = inl e
has_append_left x (y ∷ xs) ys (inr h) = inr (has_append_left x xs ys h)

pub has_append_right : {A : Type 0} (x : A) (xs ys : List A) → Has x ys → Has x (xs ++ ys)
unfolding Has
has_append_right x [] ys h = h
has_append_right x (y ∷ xs) ys h = inr (has_append_right x xs ys h)

-- something holds of each element
unfoldable pub Every : {A : Type 0} → (A → Type 0) → List A → Type 0
Every P [] = Unit {0}
Every P (x ∷ xs) = P x × Every P xs

pub every_more : {A : Type 0} (P R : A → Type 0) (xs : List A) → ((x : A) → P x → R x) → Every P xs → Every R xs
unfolding Every
every_more P R [] f a = tt
every_more P R (x ∷ xs) f a = (f x a.0, every_more P R xs f a.1)

pub every_nth : {A : Type 0} (P : A → Type 0) (xs : List A) (i : ℕ) (x : A) → Every P xs → nth xs i ≡ Some x → P x
unfolding Every nth
every_nth P [] i x a e = absurd (cc)
every_nth P (y ∷ xs) zero x a e = absurd (cc)
every_nth P (y ∷ xs) (suc zero) x a e = let same_one : y ≡ x = cc in subst P same_one a.0
every_nth P (y ∷ xs) (suc (suc i)) x a e = every_nth P xs (suc i) x a.1 e

pub every_with : {A : Type 0} (P : A → Type 0) (xs : List A) (i : ℕ) (x : A) → Every P xs → P x → Every P (with_nth xs i x)
unfolding Every with_nth
every_with P [] i x a h = tt
every_with P (y ∷ xs) zero x a h = a
every_with P (y ∷ xs) (suc zero) x a h = (h, a.1)
every_with P (y ∷ xs) (suc (suc i)) x a h = (a.0, every_with P xs (suc i) x a.1 h)

pub every_has : {A : Type 0} (P : A → Type 0) (xs : List A) (x : A) → Every P xs → Has x xs → P x
unfolding Every Has
every_has P [] x a h = absurd h
every_has P (y ∷ xs) x a (inl e) = subst P (sym e) a.0
every_has P (y ∷ xs) x a (inr h) = every_has P xs x a.1 h
