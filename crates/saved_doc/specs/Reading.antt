-- The document that a tree stands for, or the first fault.
use Rattle.std.specs.Prelude.{◌≡◌, Bool, ◌&&◌, ◌||◌, List, [], ◌∷◌, codes, Option, Some, None, Result, Ok, Err, if◌then◌else◌, ⊤}
use Rattle.std.specs.List.{list_all}
use Rattle.std.specs.Str.{bytes_eq}
use Rattle.base_model.specs.Keyed.{Text}
use Rattle.document_model.specs.Documents.{Doc, everywhere}
use Rattle.document_model.specs.Names.{is_type_name, is_document_member}
use Rattle.document_model.specs.declared.reference.Ref.{Ref}
use Rattle.so_js.specs.Tree.{members_in, member_of}
use Rattle.so_js.specs.declared.js.Js.{Js, out-Js}
use Rattle.so_js.specs.declared.js.Js.TheOpen.{Js-F}
use Rattle.so_js.specs.declared.js.Member.{Member}
use Rattle.space_scope.specs.Spaces.{is_space_id, default_space}
use Rattle.version_token.specs.Version.{ver_of}
use Rattle.version_token.specs.declared.Ver.{Ver}
use Rattle.saved_doc.specs.Trees.{is_object}
use Rattle.saved_doc.specs.declared.error.DocError.{DocError}
use Rattle.saved_doc.specs.declared.error.DocError.TheVariants.{Memory, MissingField, WrongKind, BadVersion, BadSpace, UnknownField}

-- what was read, or a fault
abbrev pub Read : Type 0 → Type 0
Read A = Result A DocError

-- one part after another: the first fault counts
abbrev pub read_then : {A B : Type 0} → Read A → (A → Read B) → Read B
read_then (Ok x) more = more x
read_then (Err e) more = Err e

-- items in order
abbrev pub each : {A B : Type 0} → (A → Read B) → List A → Read (List B)
each read [] = Ok []
each read (x ∷ xs) = read_then (read x) (λ y. read_then (each read xs) (λ ys. Ok (y ∷ ys)))

-- a member that must be there
abbrev pub required : {A : Type 0} → (Js → Read A) → Option Js → Read A
required read None = Err MissingField
required read (Some js) = read js

-- a member that may be missing
abbrev pub optional : {A : Type 0} → (Js → Read A) → Option Js → Read (Option A)
optional read None = Ok None
optional read (Some js) = read_then (read js) (λ x. Ok (Some x))

-- ---- the kinds of members

abbrev text_at : Js-F Js → Read Text
text_at (Js-F.Str text) = Ok text
text_at _ = Err WrongKind

-- a text
abbrev pub text_in : Js → Read Text
text_in js = text_at (out-Js js)

abbrev items_at : Js-F Js → Read (List Js)
items_at (Js-F.Items items) = Ok items
items_at _ = Err WrongKind

-- a list
abbrev pub items_in : Js → Read (List Js)
items_in js = items_at (out-Js js)

abbrev object_at : Js-F Js → Read (List (Member Js))
object_at (Js-F.Object ms) = Ok ms
object_at _ = Err WrongKind

-- an object, as its members
abbrev pub object_in : Js → Read (List (Member Js))
object_in js = object_at (out-Js js)

abbrev pub accepted : {A : Type 0} → Bool → A → DocError → Read A
accepted ok x e = if ok then Ok x else Err e

abbrev pub or_bad_version : Option Ver → Read Ver
or_bad_version None = Err BadVersion
or_bad_version (Some v) = Ok v

-- a text that is a version
abbrev pub version_in : Js → Read Ver
version_in js = read_then (text_in js) (λ text. or_bad_version (ver_of text))

-- a type name
abbrev pub type_name_in : Js → Read Text
type_name_in js = read_then (text_in js) (λ text. accepted (is_type_name text) text WrongKind)

-- a tree that is an object
abbrev pub attributes_in : Js → Read Js
attributes_in js = accepted (is_object js) js WrongKind

abbrev pub is_named : Text → Member Js → Bool
is_named key m = bytes_eq m.key key

abbrev pub ref_among : List (Member Js) → Read Ref
ref_among (id ∷ name ∷ type_name ∷ []) =
    if is_named (codes "id") id && is_named (codes "name") name && is_named (codes "type") type_name
    then read_then (text_in id.value) (λ i. read_then (text_in name.value) (λ n. read_then (text_in type_name.value) (λ t. Ok (record { name = n; type_name = t; id = i }))))
    else Err WrongKind
ref_among _ = Err WrongKind

-- an object of exactly the texts `id`, `name` and `type`
abbrev pub ref_in : Js → Read Ref
ref_in js = read_then (object_in js) ref_among

-- a list of references
abbrev pub refs_in : Js → Read (List Ref)
refs_in js = read_then (items_in js) (each ref_in)

-- the id of a space that isn't the default one
abbrev pub space_id_in : Js → Read Text
space_id_in js = read_then (text_in js) (λ text. accepted (is_space_id text) text BadSpace)

-- a space id, `default` or `*`
abbrev pub is_listed_space : Text → Bool
is_listed_space text = is_space_id text || bytes_eq text default_space || bytes_eq text everywhere

abbrev pub listed_space_in : Js → Read Text
listed_space_in js = read_then (text_in js) (λ text. accepted (is_listed_space text) text BadSpace)

abbrev pub some_spaces : List Js → Read (List Text)
some_spaces [] = Err WrongKind
some_spaces (js ∷ more) = each listed_space_in (js ∷ more)

-- a list of spaces that isn't empty
abbrev pub spaces_in : Js → Read (List Text)
spaces_in js = read_then (items_in js) some_spaces

abbrev pub old_stamp_among : Text → List (Member Js) → Read (Option Ver)
old_stamp_among type_name [] = Ok None
old_stamp_among type_name (m ∷ []) = if is_named type_name m then read_then (version_in m.value) (λ v. Ok (Some v)) else Err WrongKind
old_stamp_among type_name _ = Err WrongKind

-- a map from the document's type alone to a version, or an empty one
abbrev pub old_stamp_in : Text → Js → Read (Option Ver)
old_stamp_in type_name js = read_then (object_in js) (old_stamp_among type_name)

-- ---- the members

abbrev pub type_of : Js → Read Text
type_of js = required type_name_in (member_of (codes "type") js)

abbrev pub attributes_of : Text → Js → Read Js
attributes_of type_name js = required attributes_in (member_of type_name js)

abbrev pub or_none : Option (List Ref) → List Ref
or_none None = []
or_none (Some refs) = refs

-- no references where the member is missing
abbrev pub references_of : Js → Read (List Ref)
references_of js = read_then (optional refs_in (member_of (codes "references") js)) (λ found. Ok (or_none found))

abbrev pub namespace_of : Js → Read (Option Text)
namespace_of js = optional space_id_in (member_of (codes "namespace") js)

abbrev pub namespaces_of : Js → Read (Option (List Text))
namespaces_of js = optional spaces_in (member_of (codes "namespaces") js)

abbrev pub newer_or_older : Option Ver → Option (Option Ver) → Option Ver
newer_or_older (Some v) older = Some v
newer_or_older None None = None
newer_or_older None (Some older) = older

-- both forms of the stamp are read, and the newer form counts
abbrev pub stamp_of : Text → Js → Read (Option Ver)
stamp_of type_name js =
    read_then (optional version_in (member_of (codes "typeMigrationVersion") js)) (λ newer.
    read_then (optional (old_stamp_in type_name) (member_of (codes "migrationVersion") js)) (λ older.
    Ok (newer_or_older newer older)))

abbrev pub core_of : Js → Read (Option Ver)
core_of js = optional version_in (member_of (codes "coreMigrationVersion") js)

-- any text under this key
abbrev pub note_of : Text → Js → Read (Option Text)
note_of key js = optional text_in (member_of key js)

-- the attributes, or another member that a document has
abbrev pub is_known_key : Text → Text → Bool
is_known_key type_name key = bytes_eq key type_name || is_document_member key

-- no member but these
abbrev pub only_known : Text → Js → Bool
only_known type_name js = list_all (λ m. is_known_key type_name m.key) (members_in js)

abbrev pub doc_among : Js → Read (Doc Js)
doc_among js =
    read_then (type_of js) (λ type_name.
    read_then (attributes_of type_name js) (λ attributes.
    read_then (references_of js) (λ references.
    read_then (namespace_of js) (λ namespace.
    read_then (namespaces_of js) (λ namespaces.
    read_then (stamp_of type_name js) (λ stamp.
    read_then (core_of js) (λ core.
    read_then (note_of (codes "updated_at") js) (λ updated_at.
    read_then (note_of (codes "originId") js) (λ origin.
    accepted (only_known type_name js) (record {
      type_name = type_name;
      attributes = attributes;
      references = references;
      namespace = namespace;
      namespaces = namespaces;
      stamp = stamp;
      core = core;
      updated_at = updated_at;
      origin = origin;
    }) UnknownField)))))))))

-- the document that a tree stands for: its members in the order of their table, the first fault, and last a member that no document has
abbrev pub doc_in : Js → Read (Doc Js)
doc_in js = if is_object js then doc_among js else Err WrongKind

-- ---- what a call gave, unless memory ran out

abbrev pub Refuses : {A : Type 0} → DocError → Read A → Type 0
Refuses Memory read = ⊤
Refuses MissingField read = read ≡ Err MissingField
Refuses WrongKind read = read ≡ Err WrongKind
Refuses BadVersion read = read ≡ Err BadVersion
Refuses BadSpace read = read ≡ Err BadSpace
Refuses UnknownField read = read ≡ Err UnknownField

abbrev pub Gives : {A : Type 0} → Read A → Read A → Type 0
Gives (Ok x) read = read ≡ Ok x
Gives (Err e) read = Refuses e read
