-- What operations make of sound attributes is sound.
use Rattle.std.proofs.Common.{◌≡◌, ℕ, ℤ, ◌∷◌, [], List, Option, Some, None, Bool, true, false, refl, sym, ap, ◌∙◌, inl, inr, rules, is_some}
use Rattle.std.specs.Option.{unwrap_or}
use Rattle.std.specs.List.{list_all}
use Rattle.std.specs.Str.{bytes_eq}
use Rattle.std.proofs.lemmas.Bool.{cases_Bool, and_parts, and_from}
use Rattle.base_model.specs.Keyed.{Text}
use Rattle.so_js.specs.Tree.{is_sound, object_of, items_of}
use Rattle.so_js.specs.Printing.{members_are_sound}
use Rattle.so_js.specs.declared.js.Js.{Js, the_lemmas}
use Rattle.so_js.specs.declared.js.Js.TheFolds.{ind-Js}
use Rattle.so_js.specs.declared.js.Js.TheViews.{roll-Js}
use Rattle.so_js.specs.declared.js.Js.TheOpen.{Js-F}
use Rattle.so_js.specs.declared.js.Js.TheVariants.{Null, Bool as Boolean, Whole, Str, Items, Object, rolls-Null, rolls-Bool, rolls-Whole, rolls-Str, rolls-Items, rolls-Object}
use Rattle.so_js.specs.declared.js.Member.{Member}
use Rattle.so_js.proofs.TreeLaws.{is_sound-Object, is_sound-Str, is_sound-Items}
use Rattle.transform_ops.specs.Attributes.{named, value_at, without, with_value}
use Rattle.transform_ops.specs.Effects.{op_is_sound, renamed_over, defaulted_over, room_in, moved_over, mapped_over, mapped_value, wrapped_in, wrapped_over, changed}
use Rattle.transform_ops.specs.declared.op.Op.{Op}
use Rattle.transform_ops.specs.declared.op.Op.TheVariants.{Rename, SetDefault, Remove, MoveInto, MapText, WrapList}
use Rattle.transform_ops.proofs.AttributeLaws.{lacks-None, lacks-values-without, sound-without, sound-placed, sound-with_value}

-- ---- objects

object_of-Null : object_of Null ≡ None
object_of-Null = search (rules, the_lemmas)

object_of-Bool : (b : Bool) → object_of (Boolean b) ≡ None
object_of-Bool b = search (rules, the_lemmas)

object_of-Whole : (z : ℤ) → object_of (Whole z) ≡ None
object_of-Whole z = search (rules, the_lemmas)

object_of-Str : (s : List ℕ) → object_of (Str s) ≡ None
object_of-Str s = search (rules, the_lemmas)

object_of-Items : (items : List Js) → object_of (Items items) ≡ None
object_of-Items items = search (rules, the_lemmas)

pub object_of-Object : (ms : List (Member Js)) → object_of (Object ms) ≡ Some ms
object_of-Object ms = search (rules, the_lemmas)

abbrev IsForm : Js → Type 0
IsForm js = (ms : List (Member Js)) → object_of js ≡ Some ms → js ≡ Object ms

no_form : (js : Js) → object_of js ≡ None → IsForm js
no_form js none ms h =
    let wrong : None ≡ Some ms = sym none ∙ h in
    cc wrong

own : (ms ns : List (Member Js)) → Some ms ≡ Some ns → ms ≡ ns
own ms ns e = ap (λ (o : Option (List (Member Js))). unwrap_or o []) e

form_at : (x : Js-F Js) → IsForm (roll-Js x)
form_at Js-F.Null = no_form _ (ap object_of rolls-Null ∙ object_of-Null)
form_at (Js-F.Bool b) = no_form _ (ap object_of (rolls-Bool b) ∙ object_of-Bool b)
form_at (Js-F.Whole z) = no_form _ (ap object_of (rolls-Whole z) ∙ object_of-Whole z)
form_at (Js-F.Str s) = no_form _ (ap object_of (rolls-Str s) ∙ object_of-Str s)
form_at (Js-F.Items items) = no_form _ (ap object_of (rolls-Items items) ∙ object_of-Items items)
form_at (Js-F.Object ms) = λ ns h. rolls-Object ms ∙ ap Object (own ms ns (sym (ap object_of (rolls-Object ms) ∙ object_of-Object ms) ∙ h))

-- a tree with members is their object
pub object_form : (js : Js) (ms : List (Member Js)) → object_of js ≡ Some ms → js ≡ Object ms
object_form = ind-Js IsForm (λ x y is. form_at x)

-- ---- values that were found

pub value-sound : (key : Text) (ms : List (Member Js)) (v : Js) → value_at key ms ≡ Some v → list_all (λ m. is_sound m.value) ms ≡ true → is_sound v ≡ true
value-sound key [] v is all = cc is
value-sound key (n ∷ ms) v is all =
    let parts = and_parts (is_sound n.value) (list_all (λ m. is_sound m.value) ms) all in
    elim (cases_Bool (bytes_eq n.key key)) [
      | inl same ↦
          let here : Some n.value ≡ Some v = rw same at is in
          let own : n.value ≡ v = cc here in
          ap is_sound (sym own) ∙ parts.0
      | inr other ↦ value-sound key ms v (rw other at is) parts.1
    ]

room-sound : (found : Option Js) (room : List (Member Js)) → ((v : Js) → found ≡ Some v → is_sound v ≡ true) → room_in found ≡ Some room → members_are_sound room ≡ true
room-sound None room sound h = ap members_are_sound (sym (own [] room h))
room-sound (Some js) room sound h = sym (is_sound-Object room) ∙ ap is_sound (sym (object_form js room h)) ∙ sound js refl

-- ---- each operation

renamed-sound : (found taken : Option Js) (from to : Text) (ms : List (Member Js)) → value_at from ms ≡ found → value_at to ms ≡ taken → members_are_sound ms ≡ true → members_are_sound (renamed_over found taken from to ms) ≡ true
renamed-sound None None from to ms is none sound = sound
renamed-sound None (Some v) from to ms is none sound = sound
renamed-sound (Some v) (Some w) from to ms is none sound = sound
renamed-sound (Some v) None from to ms is none sound =
    sound-placed (named to v) (without from ms) (value-sound from ms v is (and_parts _ _ sound).0) (lacks-values-without to from ms (lacks-None to ms none)) (sound-without from ms sound)

defaulted-sound : (found : Option Js) (key : Text) (v : Js) (ms : List (Member Js)) → value_at key ms ≡ found → is_sound v ≡ true → members_are_sound ms ≡ true → members_are_sound (defaulted_over found key v ms) ≡ true
defaulted-sound None key v ms none value sound = sound-placed (named key v) ms value (lacks-None key ms none) sound
defaulted-sound (Some w) key v ms none value sound = sound

moved-sound : (same : Bool) (found : Option Js) (room : Option (List (Member Js))) (key into : Text) (ms : List (Member Js)) → value_at key ms ≡ found → room_in (value_at into ms) ≡ room → members_are_sound ms ≡ true → members_are_sound (moved_over same found room key into ms) ≡ true
moved-sound true found room key into ms is free sound = sound
moved-sound false None room key into ms is free sound = sound
moved-sound false (Some v) None key into ms is free sound = sound
moved-sound false (Some v) (Some room) key into ms is free sound =
    let values = (and_parts _ _ sound).0 in
    let inner = room-sound (value_at into ms) room (λ w there. value-sound into ms w there values) free in
    sound-with_value into (Object (with_value key v room)) (without key ms)
    (is_sound-Object (with_value key v room) ∙ sound-with_value key v room (value-sound key ms v is values) inner)
    (sound-without key ms sound)

mapped-sound : (found : Option Text) (key : Text) (ms : List (Member Js)) → members_are_sound ms ≡ true → members_are_sound (mapped_over found key ms) ≡ true
mapped-sound None key ms sound = sound
mapped-sound (Some text) key ms sound = sound-with_value key (Str text) ms (is_sound-Str text) sound

list-sound : (found : Option (List Js)) (v : Js) → is_sound v ≡ true → is_sound (wrapped_in found v) ≡ true
list-sound (Some items) v sound = sound
list-sound None v sound = is_sound-Items (v ∷ []) ∙ and_from _ _ sound refl

wrapped-sound : (found : Option Js) (key : Text) (ms : List (Member Js)) → value_at key ms ≡ found → members_are_sound ms ≡ true → members_are_sound (wrapped_over found key ms) ≡ true
wrapped-sound None key ms is sound = sound
wrapped-sound (Some v) key ms is sound = sound-with_value key (wrapped_in (items_of v) v) ms (list-sound (items_of v) v (value-sound key ms v is (and_parts _ _ sound).0)) sound

pub changed-sound : (op : Op) (ms : List (Member Js)) → op_is_sound op ≡ true → members_are_sound ms ≡ true → members_are_sound (changed op ms) ≡ true
changed-sound (Rename from to) ms value sound = renamed-sound (value_at from ms) (value_at to ms) from to ms refl refl sound
changed-sound (SetDefault key v) ms value sound = defaulted-sound (value_at key ms) key v ms refl value sound
changed-sound (Remove key) ms value sound = sound-without key ms sound
changed-sound (MoveInto key into) ms value sound = moved-sound (bytes_eq key into) (value_at key ms) (room_in (value_at into ms)) key into ms refl refl sound
changed-sound (MapText key table) ms value sound = mapped-sound (mapped_value table (value_at key ms)) key ms sound
changed-sound (WrapList key) ms value sound = wrapped-sound (value_at key ms) key ms refl sound

-- ---- the move, one case

pub some_of : {X : Type 0} (o : Option X) → is_some o ≡ true → (x : X) × (o ≡ Some x)
some_of None h = cc h
some_of (Some x) h = (x, refl)

pub moved_is : (key into : Text) (ms : List (Member Js)) (v : Js) (room : List (Member Js)) → bytes_eq key into ≡ false → value_at key ms ≡ Some v → room_in (value_at into ms) ≡ Some room
    → moved_over (bytes_eq key into) (value_at key ms) (room_in (value_at into ms)) key into ms ≡ with_value into (Object (with_value key v room)) (without key ms)
moved_is key into ms v room apart is free = rw (apart, is, free) refl
