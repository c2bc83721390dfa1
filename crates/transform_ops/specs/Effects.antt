-- What each operation does with the attributes of a document.
use Rattle.std.specs.Prelude.{Bool, true, false, List, [], ◌∷◌, Option, Some, None, option_map, option_and_then, find}
use Rattle.std.specs.Str.{bytes_eq}
use Rattle.base_model.specs.Keyed.{Text}
use Rattle.so_js.specs.Tree.{is_sound, text_of, items_of, object_of}
use Rattle.so_js.specs.declared.js.Js.{Js}
use Rattle.so_js.specs.declared.js.Js.TheVariants.{Str, Items, Object}
use Rattle.so_js.specs.declared.js.Member.{Member}
use Rattle.transform_ops.specs.Attributes.{named, value_at, without, placed, with_value}
use Rattle.transform_ops.specs.declared.op.Op.{Op}
use Rattle.transform_ops.specs.declared.op.Op.TheVariants.{Rename, SetDefault, Remove, MoveInto, MapText, WrapList}
use Rattle.transform_ops.specs.declared.op.Replacement.{Replacement}

-- the values that it holds are sound
abbrev pub op_is_sound : Op → Bool
op_is_sound (SetDefault key value) = is_sound value
op_is_sound _ = true

-- it makes a value nest deeper
abbrev pub is_nesting : Op → Bool
is_nesting (MoveInto key into) = true
is_nesting (WrapList key) = true
is_nesting _ = false

-- by the value under the old key and the one under the new
abbrev pub renamed_over : (found taken : Option Js) → (from to : Text) → List (Member Js) → List (Member Js)
renamed_over (Some value) None from to ms = placed (named to value) (without from ms)
renamed_over _ _ from to ms = ms

-- the value moves to another key, where that one isn't there
abbrev pub renamed : (from to : Text) → List (Member Js) → List (Member Js)
renamed from to ms = renamed_over (value_at from ms) (value_at to ms) from to ms

abbrev pub defaulted_over : Option Js → Text → Js → List (Member Js) → List (Member Js)
defaulted_over None key value ms = placed (named key value) ms
defaulted_over (Some other) key value ms = ms

-- the member comes where its key isn't there
abbrev pub defaulted : Text → Js → List (Member Js) → List (Member Js)
defaulted key value ms = defaulted_over (value_at key ms) key value ms

-- the members of an object, or none where nothing is there
abbrev pub room_in : Option Js → Option (List (Member Js))
room_in None = Some []
room_in (Some js) = object_of js

abbrev pub moved_over : (same : Bool) → (found : Option Js) → (room : Option (List (Member Js))) → (key into : Text) → List (Member Js) → List (Member Js)
moved_over false (Some value) (Some room) key into ms = with_value into (Object (with_value key value room)) (without key ms)
moved_over _ _ _ key into ms = ms

-- the member moves into the object under another key, in the place of one of its key there
abbrev pub moved : (key into : Text) → List (Member Js) → List (Member Js)
moved key into ms = moved_over (bytes_eq key into) (value_at key ms) (room_in (value_at into ms)) key into ms

-- the text that takes a text's place
abbrev pub replacement : List Replacement → Text → Option Text
replacement table text = option_map (λ r. r.to) (find (λ r. bytes_eq r.from text) table)

abbrev pub mapped_over : Option Text → Text → List (Member Js) → List (Member Js)
mapped_over None key ms = ms
mapped_over (Some text) key ms = with_value key (Str text) ms

-- the text that stands for a value, where it is a text of the table
abbrev pub mapped_value : List Replacement → Option Js → Option Text
mapped_value table found = option_and_then (replacement table) (option_and_then text_of found)

abbrev pub mapped : Text → List Replacement → List (Member Js) → List (Member Js)
mapped key table ms = mapped_over (mapped_value table (value_at key ms)) key ms

abbrev pub wrapped_in : Option (List Js) → Js → Js
wrapped_in (Some items) js = js
wrapped_in None js = Items (js ∷ [])

abbrev pub wrapped_over : Option Js → Text → List (Member Js) → List (Member Js)
wrapped_over None key ms = ms
wrapped_over (Some value) key ms = with_value key (wrapped_in (items_of value) value) ms

-- a value that isn't a list becomes a list of that one value
abbrev pub wrapped : Text → List (Member Js) → List (Member Js)
wrapped key ms = wrapped_over (value_at key ms) key ms

-- what an operation makes of the members of the attributes
abbrev pub changed : Op → List (Member Js) → List (Member Js)
changed (Rename from to) ms = renamed from to ms
changed (SetDefault key value) ms = defaulted key value ms
changed (Remove key) ms = without key ms
changed (MoveInto key into) ms = moved key into ms
changed (MapText key table) ms = mapped key table ms
changed (WrapList key) ms = wrapped key ms

abbrev pub applied_to : Op → Option (List (Member Js)) → Js → Js
applied_to op None js = js
applied_to op (Some ms) js = Object (changed op ms)

-- what an operation makes of attributes; a tree that is no object stays
abbrev pub applied : Op → Js → Js
applied op js = applied_to op (object_of js) js
