-- The kinds of members that calls have.
use Rattle.std.specs.Prelude.{◌^◌, ℕ, pos, Bool, ◌&&◌, nat_lt, nat_le, if◌then◌else◌, List, [], ◌∷◌, length, codes, Option, Some, None, Ok, Err}
use Rattle.std.specs.Str.{bytes_eq}
use Rattle.base_model.specs.Keyed.{Text}
use Rattle.document_model.specs.declared.reference.Ref.{Ref}
use Rattle.query_model.specs.declared.parts.Target.{Target}
use Rattle.saved_doc.specs.Trees.{is_object}
use Rattle.so_js.specs.Tree.{bool_of, text_of, items_of, object_of}
use Rattle.so_js.specs.declared.js.Js.{Js, out-Js}
use Rattle.so_js.specs.declared.js.Js.TheOpen.{Js-F}
use Rattle.so_js.specs.declared.js.Member.{Member}
use Rattle.version_token.specs.Version.{ver_of}
use Rattle.version_token.specs.declared.Ver.{Ver}
use Rattle.wire_io.specs.declared.fault.InputKind.TheVariants.{WrongKind, BadVersion, BadNumber}
use Rattle.call_lines.specs.Reading.{Read, and_then, or_refused, accepted, each, needed, alone}

-- `true` or `false`
abbrev pub flag_in : Js → Read Bool
flag_in js = or_refused WrongKind (bool_of js)

abbrev number_at : Js-F Js → Read ℕ
number_at (Js-F.Whole (pos n)) = accepted (nat_lt n (2 ^ 64)) n WrongKind
number_at _ = Err WrongKind

-- a whole number from 0 to 2^64 - 1
abbrev pub number_in : Js → Read ℕ
number_in js = number_at (out-Js js)

abbrev pub text_in : Js → Read Text
text_in js = or_refused WrongKind (text_of js)

abbrev pub items_in : Js → Read (List Js)
items_in js = or_refused WrongKind (items_of js)

-- a list of texts
abbrev pub texts_in : Js → Read (List Text)
texts_in js = and_then (items_in js) (each text_in)

-- a tree that is an object
abbrev pub object_in : Js → Read Js
object_in js = accepted (is_object js) js WrongKind

-- a list of at most 10,000 items
abbrev pub limited_in : Js → Read (List Js)
limited_in js = and_then (items_in js) (λ items. accepted (nat_le (length items) 10000) items BadNumber)

-- an object of exactly a type and an id
abbrev pub target_in : Js → Read Target
target_in js =
    and_then (object_in js) (λ js.
    and_then (needed text_in (codes "type") js) (λ type_name.
    and_then (needed text_in (codes "id") js) (λ id.
    alone (codes "type" ∷ codes "id" ∷ []) js (record { type_name = type_name; id = id }))))

abbrev is_named : Text → Member Js → Bool
is_named key m = bytes_eq m.key key

abbrev reference_among : List (Member Js) → Read Ref
reference_among (id ∷ name ∷ type_name ∷ []) =
    if is_named (codes "id") id && is_named (codes "name") name && is_named (codes "type") type_name
    then and_then (text_in id.value) (λ i. and_then (text_in name.value) (λ n. and_then (text_in type_name.value) (λ t. Ok (record { name = n; type_name = t; id = i }))))
    else Err WrongKind
reference_among _ = Err WrongKind

-- an object of exactly the texts `id`, `name` and `type`
abbrev pub reference_in : Js → Read Ref
reference_in js = and_then (or_refused WrongKind (object_of js)) reference_among

-- a list of references
abbrev pub references_in : Js → Read (List Ref)
references_in js = and_then (items_in js) (each reference_in)

-- a text that is a version
abbrev pub version_in : Js → Read Ver
version_in js = and_then (text_in js) (λ text. or_refused BadVersion (ver_of text))

abbrev version_among : Text → List (Member Js) → Read (Option Ver)
version_among type_name [] = Ok None
version_among type_name (m ∷ []) = if is_named type_name m then and_then (version_in m.value) (λ v. Ok (Some v)) else Err WrongKind
version_among type_name _ = Err WrongKind

-- a map from this type alone to a version, or an empty one
abbrev pub version_map_in : Text → Js → Read (Option Ver)
version_map_in type_name js = and_then (or_refused WrongKind (object_of js)) (version_among type_name)
