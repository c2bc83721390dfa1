-- The operation that a tree stands for.
use Rattle.std.specs.Prelude.{◌≡◌, ℕ, Bool, ◌==◌, List, [], ◌∷◌, length, codes, Option, Some, None, option_map, option_and_then, Result, Ok, Err, if◌then◌else◌, ⊤}
use Rattle.std.specs.Str.{bytes_eq}
use Rattle.base_model.specs.Keyed.{Text}
use Rattle.so_js.specs.Tree.{text_of, object_of, members_in, member_of}
use Rattle.so_js.specs.declared.js.Js.{Js}
use Rattle.so_js.specs.declared.js.Member.{Member}
use Rattle.transform_ops.specs.declared.error.OpError.{OpError}
use Rattle.transform_ops.specs.declared.error.OpError.TheVariants.{Memory, BadOp}
use Rattle.transform_ops.specs.declared.op.Op.{Op}
use Rattle.transform_ops.specs.declared.op.Op.TheVariants.{Rename, SetDefault, Remove, MoveInto, MapText, WrapList}
use Rattle.transform_ops.specs.declared.op.Replacement.{Replacement}

-- the text under a key
abbrev pub text_under : Text → Js → Option Text
text_under key js = option_and_then text_of (member_of key js)

-- as many members
abbrev pub has_count : ℕ → Js → Bool
has_count count js = length (members_in js) == count

-- what was found, where the object has no further member
abbrev pub if_alone : Bool → Option Op → Option Op
if_alone alone found = if alone then found else None

-- both parts
abbrev pub both : {A B : Type 0} → (A → B → Op) → Option A → Option B → Option Op
both make (Some a) (Some b) = Some (make a b)
both make _ _ = None

abbrev pub rename_in : Js → Option Op
rename_in js = if_alone (has_count 3 js) (both Rename (text_under (codes "from") js) (text_under (codes "to") js))

abbrev pub set_default_in : Js → Option Op
set_default_in js = if_alone (has_count 3 js) (both SetDefault (text_under (codes "key") js) (member_of (codes "value") js))

abbrev pub remove_in : Js → Option Op
remove_in js = if_alone (has_count 2 js) (option_map Remove (text_under (codes "key") js))

abbrev pub move_into_in : Js → Option Op
move_into_in js = if_alone (has_count 3 js) (both MoveInto (text_under (codes "key") js) (text_under (codes "into") js))

abbrev pub replaced_by : Text → Text → Replacement
replaced_by from to = record { from = from; to = to }

-- a member that is a text
abbrev pub replacement_in : Member Js → Option Replacement
replacement_in m = option_map (replaced_by m.key) (text_of m.value)

abbrev pub replacements_in : List (Member Js) → Option (List Replacement)
replacements_in [] = Some []
replacements_in (m ∷ ms) = option_and_then (λ r. option_map (λ rest. r ∷ rest) (replacements_in ms)) (replacement_in m)

-- an object of texts
abbrev pub table_in : Js → Option (List Replacement)
table_in js = option_and_then replacements_in (object_of js)

abbrev pub map_text_in : Js → Option Op
map_text_in js = if_alone (has_count 3 js) (both MapText (text_under (codes "key") js) (option_and_then table_in (member_of (codes "table") js)))

abbrev pub wrap_list_in : Js → Option Op
wrap_list_in js = if_alone (has_count 2 js) (option_map WrapList (text_under (codes "key") js))

-- by its name
abbrev pub op_named : Text → Js → Option Op
op_named word js =
    if bytes_eq word (codes "rename") then rename_in js else
    if bytes_eq word (codes "setDefault") then set_default_in js else
    if bytes_eq word (codes "remove") then remove_in js else
    if bytes_eq word (codes "moveInto") then move_into_in js else
    if bytes_eq word (codes "mapText") then map_text_in js else
    if bytes_eq word (codes "wrapList") then wrap_list_in js else
    None

-- the operation of an object: its member `op` names it, and it has exactly that operation's members
abbrev pub op_in : Js → Option Op
op_in js = option_and_then (λ word. op_named word js) (text_under (codes "op") js)

-- ---- what a call gave, unless memory ran out

abbrev pub Refuses : {A : Type 0} → OpError → Option A → Type 0
Refuses Memory found = ⊤
Refuses BadOp found = found ≡ None

abbrev pub Gives : {A : Type 0} → Result A OpError → Option A → Type 0
Gives (Ok x) found = found ≡ Some x
Gives (Err e) found = Refuses e found
