-- Members of an object that may be missing.
use Rattle.std.specs.Prelude.{List, [], ◌∷◌, ◌++◌, map, Bool, Option, Some}
use Rattle.std.specs.List.{list_all}
use Rattle.base_model.specs.Keyed.{Text}
use Rattle.so_js.specs.Tree.{is_sound, are_rising}
use Rattle.so_js.specs.declared.js.Js.{Js}
use Rattle.so_js.specs.declared.js.Js.TheVariants.{Object}
use Rattle.so_js.specs.declared.js.Member.{Member}
use Rattle.saved_doc.specs.Writing.{if_some}
use Rattle.report.specs.declared.fields.Field.{Field}

-- a member that is there
abbrev pub always : Text → Js → Field
always key value = record { key = key; value = Some value }

-- a member that is there where it has a value
abbrev pub optional : Text → Option Js → Field
optional key value = record { key = key; value = value }

-- the members that are there
abbrev pub members_there : List Field → List (Member Js)
members_there [] = []
members_there (f ∷ fields) = if_some f.key f.value ++ members_there fields

-- the object of the members that are there
abbrev pub object_of : List Field → Js
object_of fields = Object (members_there fields)

-- the keys, also of members that aren't there, rise
abbrev pub rise : List Field → Bool
rise fields = are_rising (map (λ f. f.key) fields)

-- each member's value is sound
abbrev pub values_are_sound : List (Member Js) → Bool
values_are_sound = list_all (λ m. is_sound m.value)
