-- Operations leave an object an object.
use Rattle.std.proofs.Common.{◌≡◌, ℕ, ℤ, List, Bool, true, sym, ap, ◌∙◌, rules, is_some}
use Rattle.so_js.specs.Tree.{object_of}
use Rattle.so_js.specs.declared.js.Js.{Js, the_lemmas}
use Rattle.so_js.specs.declared.js.Js.TheFolds.{ind-Js}
use Rattle.so_js.specs.declared.js.Js.TheViews.{roll-Js}
use Rattle.so_js.specs.declared.js.Js.TheOpen.{Js-F}
use Rattle.so_js.specs.declared.js.Js.TheVariants.{Null, Bool as Boolean, Whole, Str, Items, Object, rolls-Null, rolls-Bool, rolls-Whole, rolls-Str, rolls-Items, rolls-Object}
use Rattle.so_js.specs.declared.js.Member.{Member}
use Rattle.saved_doc.specs.Trees.{is_object}

abbrev IsForm : Js → Type 0
IsForm js = is_object js ≡ is_some (object_of js)

same_form : (js k : Js) → js ≡ k → IsForm k → IsForm js
same_form js k e h = ap is_object e ∙ h ∙ sym (ap (λ (j : Js). is_some (object_of j)) e)

null_form : IsForm Null
null_form = search (rules, the_lemmas)

bool_form : (b : Bool) → IsForm (Boolean b)
bool_form b = search (rules, the_lemmas)

whole_form : (z : ℤ) → IsForm (Whole z)
whole_form z = search (rules, the_lemmas)

text_form : (s : List ℕ) → IsForm (Str s)
text_form s = search (rules, the_lemmas)

items_form : (items : List Js) → IsForm (Items items)
items_form items = search (rules, the_lemmas)

object_form : (ms : List (Member Js)) → IsForm (Object ms)
object_form ms = search (rules, the_lemmas)

form_at : (x : Js-F Js) → IsForm (roll-Js x)
form_at Js-F.Null = same_form _ _ rolls-Null null_form
form_at (Js-F.Bool b) = same_form _ _ (rolls-Bool b) (bool_form b)
form_at (Js-F.Whole z) = same_form _ _ (rolls-Whole z) (whole_form z)
form_at (Js-F.Str s) = same_form _ _ (rolls-Str s) (text_form s)
form_at (Js-F.Items items) = same_form _ _ (rolls-Items items) (items_form items)
form_at (Js-F.Object ms) = same_form _ _ (rolls-Object ms) (object_form ms)

is_object-form : (js : Js) → IsForm js
is_object-form = ind-Js IsForm (λ x y is. form_at x)

pub still_object : (old new : Js) → is_some (object_of new) ≡ is_some (object_of old) → is_object old ≡ true → is_object new ≡ true
still_object old new same object = is_object-form new ∙ same ∙ sym (is_object-form old) ∙ object
