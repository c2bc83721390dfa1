-- What follows a front, part after part.
use Rattle.std.proofs.Common.{◌≡◌, ◌≢◌, ℕ, Bool, true, false, ◌==◌, cond, [], ◌∷◌, ◌++◌, Option, Some, None, Bor, MatchOption, option_and_then, refl, sym, ap, ◌∙◌, append_assoc, arith}
use Rattle.std.specs.Option.{option_copied}
use Rattle.std.specs.Str.Pattern.{FindsTextPrefix, FindsCharPrefix, StripsPrefix}
use Rattle.std.proofs.lemmas.Bool.{eqb-true, eq-eqb}
use Rattle.std.proofs.lemmas.Str.Pattern.{strip_prefix_char}
use Rattle.base_model.specs.Keyed.{Text}
use Rattle.document_model.specs.Documents.{after, colon, joined}

after_append : (p x : Text) → after p (p ++ x) ≡ Some x
unfolding after
after_append [] x = refl
after_append (b ∷ p) x = rw (eq-eqb b b refl) (after_append p x)

after_is_at : (t : Bool) (a b : ℕ) (p x r : Text) → (a == b) ≡ t → cond t (after p x) None ≡ Some r → (after p x ≡ Some r → x ≡ p ++ r) → b ∷ x ≡ (a ∷ p) ++ r
after_is_at true a b p x r test is later = ap (λ c. c ∷ x) (sym (eqb-true a b test)) ∙ ap (λ t. a ∷ t) (later is)
after_is_at false a b p x r test is later = cc

after-is : (p x r : Text) → after p x ≡ Some r → x ≡ p ++ r
unfolding after
after-is [] x r is = cc
after-is (a ∷ p) [] r is = cc
after-is (a ∷ p) (b ∷ x) r is = after_is_at (a == b) a b p x r refl is (after-is p x r)

after-none : (p x : Text) → ((r : Text) → x ≢ p ++ r) → after p x ≡ None
after-none p x never = by_case (after p x) refl
  where
    by_case : (o : Option Text) → after p x ≡ o → after p x ≡ None
    by_case None is = is
    by_case (Some r) is = absurd (never r (after-is p x r is))

after_join_at : (t : Bool) (q : Text) (x y : Option Text) → x ≡ option_and_then (after q) y → cond t x None ≡ option_and_then (after q) (cond t y None)
after_join_at true q x y e = e
after_join_at false q x y e = refl

after_join : (p q x : Text) → after (p ++ q) x ≡ option_and_then (after q) (after p x)
unfolding after
after_join [] q x = refl
after_join (a ∷ p) q [] = refl
after_join (a ∷ p) q (b ∷ x) = after_join_at (a == b) q (after (p ++ q) x) (after p x) (after_join p q x)

pub after_joined : (p q x : Text) → after (joined p q) x ≡ option_and_then (after q) (after (joined p []) x)
after_joined p q x = ap (λ (front : Text). after front x) (sym (append_assoc p (colon ∷ []) q)) ∙ after_join (p ++ colon ∷ []) q x

pub after_word : (p x : Text) → after (joined p []) x ≡ option_and_then (after (colon ∷ [])) (after p x)
after_word p x = after_join p (colon ∷ []) x

-- what `strip_prefix` gives at a text
pub after_text : (p x : Text) (r : Option (Bor Text)) → MatchOption r (FindsTextPrefix p x None) (λ y. StripsPrefix (FindsTextPrefix p) x y.now) → option_copied r ≡ after p x
after_text p x None h = sym (after-none p x h)
after_text p x (Some y) h =
    let whole : x ≡ p ++ y.now = h.1.1 ∙ ap (λ (t : Text). p ++ t) (sym h.2) in
    sym (ap (after p) whole ∙ after_append p y.now)

-- and at a colon
pub after_colon : (x : Text) (r : Option (Bor Text)) → MatchOption r (FindsCharPrefix colon x None) (λ y. StripsPrefix (FindsCharPrefix colon) x y.now) → option_copied r ≡ after (colon ∷ []) x
after_colon x None h = sym (after-none (colon ∷ []) x (strip_prefix_char colon x None h (omega arith)))
after_colon x (Some y) h = sym (ap (after (colon ∷ [])) (strip_prefix_char colon x (Some y) h (omega arith)) ∙ after_append (colon ∷ []) y.now)
