-- The registry that a tree stands for, or the first fault.
use Rattle.std.specs.Prelude.{◌≡◌, ℕ, suc, ◌+◌, nat_le, Bool, true, false, not, ◌&&◌, List, [], ◌∷◌, ◌++◌, codes, Option, Some, None, Result, Ok, Err, if◌then◌else◌, ⊤}
use Rattle.std.specs.List.{list_all, list_any}
use Rattle.std.specs.Str.{bytes_eq}
use Rattle.base_model.specs.Keyed.{Text, same, Keyed}
use Rattle.document_model.specs.Documents.{ver_lt, below, lists}
use Rattle.document_model.specs.Names.{is_type_name}
use Rattle.document_model.specs.Registries.{Known, Registry, alias_type, type_names}
use Rattle.so_js.specs.Tree.{text_of, items_of, object_of, members_in, member_of}
use Rattle.so_js.specs.declared.js.Js.{Js}
use Rattle.so_js.specs.declared.js.Member.{Member}
use Rattle.space_scope.specs.declared.kind.Kind.{Kind}
use Rattle.space_scope.specs.declared.kind.Kind.TheVariants.{Single, Multiple, MultipleIsolated, Agnostic}
use Rattle.transform_ops.specs.Effects.{is_nesting}
use Rattle.transform_ops.specs.Reading.{op_in}
use Rattle.transform_ops.specs.declared.op.Op.{Op}
use Rattle.version_token.specs.Version.{ver_of}
use Rattle.version_token.specs.declared.Ver.{Ver}
use Rattle.type_registry.specs.declared.error.RegError.{RegError}
use Rattle.type_registry.specs.declared.error.RegError.TheVariants.{Memory, MissingField, WrongKind, UnknownField, BadVersion, BadType, DuplicateType, BadKind, UnsortedVersions, BadOp}

-- what was read, or a fault
abbrev pub Read : Type 0 → Type 0
Read A = Result A RegError

-- one part after another: the first fault counts
abbrev pub read_then : {A B : Type 0} → Read A → (A → Read B) → Read B
read_then (Ok x) more = more x
read_then (Err e) more = Err e

-- a value, or this fault where there is none
abbrev pub or_fault : {A : Type 0} → RegError → Option A → Read A
or_fault e None = Err e
or_fault e (Some x) = Ok x

-- a value that passed a test, or this fault
abbrev pub accepted : {A : Type 0} → Bool → A → RegError → Read A
accepted ok x e = if ok then Ok x else Err e

-- a member that must be there
abbrev pub required : {A : Type 0} → (Js → Read A) → Option Js → Read A
required read None = Err MissingField
required read (Some js) = read js

-- a member that may be missing
abbrev pub optional : {A : Type 0} → (Js → Read A) → Option Js → Read (Option A)
optional read None = Ok None
optional read (Some js) = read_then (read js) (λ x. Ok (Some x))

-- ---- the kinds of members

abbrev pub text_in : Js → Read Text
text_in js = or_fault WrongKind (text_of js)

abbrev pub items_in : Js → Read (List Js)
items_in js = or_fault WrongKind (items_of js)

abbrev pub object_in : Js → Read (List (Member Js))
object_in js = or_fault WrongKind (object_of js)

-- each key of the object is one of these
abbrev pub only : (Text → Bool) → Js → Bool
only is_key js = list_all (λ m. is_key m.key) (members_in js)

-- a text that is a version, and not above this one
abbrev pub version_in : Js → Read Ver
version_in js = read_then (text_in js) (λ text. or_fault BadVersion (ver_of text))

abbrev pub version_up_to : Ver → Js → Read Ver
version_up_to top js = read_then (version_in js) (λ v. accepted (not (ver_lt top v)) v BadVersion)

-- no name that was taken, nor that of alias documents
abbrev pub is_free : (taken more : List Text) → Text → Bool
is_free taken more name = not (same name alias_type) && not (lists name taken) && not (lists name more)

-- a type name that is free
abbrev pub name_in : (taken more : List Text) → Js → Read Text
name_in taken more js =
    read_then (text_in js) (λ name.
    read_then (accepted (is_type_name name) name BadType) (λ name.
    accepted (is_free taken more name) name DuplicateType))

-- the kind of this name
abbrev pub kind_named : Text → Option Kind
kind_named text =
    if bytes_eq text (codes "single") then Some Single else
    if bytes_eq text (codes "multiple") then Some Multiple else
    if bytes_eq text (codes "multiple-isolated") then Some MultipleIsolated else
    if bytes_eq text (codes "agnostic") then Some Agnostic else
    None

abbrev pub kind_in : Js → Read Kind
kind_in js = read_then (text_in js) (λ text. or_fault BadKind (kind_named text))

abbrev pub is_multiple : Kind → Bool
is_multiple Single = false
is_multiple Multiple = true
is_multiple MultipleIsolated = true
is_multiple Agnostic = false

-- a version at which objects of this kind became shareable
abbrev pub shareable_in : Ver → Kind → Js → Read Ver
shareable_in top kind js = read_then (version_up_to top js) (λ v. accepted (is_multiple kind) v BadKind)

-- ---- migrations

-- how many operations make a value nest deeper
abbrev pub nesting : List Op → ℕ
nesting [] = 0
nesting (op ∷ ops) = if is_nesting op then suc (nesting ops) else nesting ops

abbrev pub ops_each : List Js → Read (List Op)
ops_each [] = Ok []
ops_each (js ∷ more) = read_then (or_fault BadOp (op_in js)) (λ op. read_then (ops_each more) (λ rest. Ok (op ∷ rest)))

-- a list of operations, after as many of the type that nest deeper
abbrev pub ops_in : ℕ → Js → Read (List Op)
ops_in before js =
    read_then (items_in js) (λ items.
    read_then (ops_each items) (λ ops.
    accepted (nat_le (before + nesting ops) 32) ops BadOp))

abbrev pub is_migration_key : Text → Bool
is_migration_key key = list_any (λ known. bytes_eq key known) (codes "version" ∷ codes "ops" ∷ [])

-- a version above the last one
abbrev pub next_version : Ver → Option Ver → Js → Read Ver
next_version top last js = read_then (version_up_to top js) (λ v. accepted (below last v) v UnsortedVersions)

abbrev pub migration_in : Ver → Option Ver → ℕ → Js → Read (Ver × List Op)
migration_in top last before js =
    read_then (object_in js) (λ _.
    read_then (required (next_version top last) (member_of (codes "version") js)) (λ v.
    read_then (required (ops_in before) (member_of (codes "ops") js)) (λ ops.
    accepted (only is_migration_key js) (v, ops) UnknownField)))

-- migrations in order, after the last version and as many operations that nest deeper
abbrev pub migrations_after : Ver → Option Ver → ℕ → List Js → Read (List (Ver × List Op))
migrations_after top last before [] = Ok []
migrations_after top last before (js ∷ more) =
    read_then (migration_in top last before js) (λ m.
    read_then (migrations_after top (Some m.0) (before + nesting m.1) more) (λ rest. Ok (m ∷ rest)))

abbrev pub migrations_in : Ver → Js → Read (List (Ver × List Op))
migrations_in top js = read_then (items_in js) (migrations_after top None 0)

-- ---- types

abbrev pub or_empty : {A : Type 0} → Option (List A) → List A
or_empty None = []
or_empty (Some xs) = xs

abbrev pub is_type_key : Text → Bool
is_type_key key = list_any (λ known. bytes_eq key known) (codes "name" ∷ codes "kind" ∷ codes "shareableAt" ∷ codes "migrations" ∷ [])

-- no migrations where the member is missing
abbrev pub migrations_or_none : Ver → Js → Read (List (Ver × List Op))
migrations_or_none top js = read_then (optional (migrations_in top) (member_of (codes "migrations") js)) (λ found. Ok (or_empty found))

-- what is known of a type whose name was read
abbrev pub known_in : Ver → Text → Js → Read (Text × Known Op)
known_in top name js =
    read_then (required kind_in (member_of (codes "kind") js)) (λ kind.
    read_then (optional (shareable_in top kind) (member_of (codes "shareableAt") js)) (λ shareable_at.
    read_then (migrations_or_none top js) (λ migrations.
    accepted (only is_type_key js) (name, record { kind = kind; shareable_at = shareable_at; steps = migrations }) UnknownField)))

abbrev pub type_in : Ver → List Text → Js → Read (Text × Known Op)
type_in top taken js =
    read_then (object_in js) (λ _.
    read_then (required (name_in taken []) (member_of (codes "name") js)) (λ name.
    known_in top name js))

-- types in order, whose names are none of those that were taken
abbrev pub types_after : Ver → List Text → List Js → Read (Keyed (Known Op))
types_after top taken [] = Ok []
types_after top taken (js ∷ more) =
    read_then (type_in top taken js) (λ t.
    read_then (types_after top (taken ++ t.0 ∷ []) more) (λ rest. Ok (t ∷ rest)))

abbrev pub types_in : Ver → Js → Read (Keyed (Known Op))
types_in top js = read_then (items_in js) (types_after top [])

-- ---- the registry

-- removed names in order, which are none of the types' nor of those before
abbrev pub removed_after : (names taken : List Text) → List Js → Read (List Text)
removed_after names taken [] = Ok []
removed_after names taken (js ∷ more) =
    read_then (name_in names taken js) (λ name.
    read_then (removed_after names (taken ++ name ∷ []) more) (λ rest. Ok (name ∷ rest)))

abbrev pub removed_in : List Text → Js → Read (List Text)
removed_in names js = read_then (items_in js) (removed_after names [])

-- none where the member is missing
abbrev pub removed_or_none : List Text → Js → Read (List Text)
removed_or_none names js = read_then (optional (removed_in names) (member_of (codes "removed") js)) (λ found. Ok (or_empty found))

abbrev pub is_registry_key : Text → Bool
is_registry_key key = list_any (λ known. bytes_eq key known) (codes "line" ∷ codes "version" ∷ codes "types" ∷ codes "removed" ∷ [])

-- the registry that a tree stands for: its members in this order, the first fault, and last a member that no registry has; a member `line` is passed over
abbrev pub registry_in : Js → Read (Registry Op)
registry_in js =
    read_then (object_in js) (λ _.
    read_then (required version_in (member_of (codes "version") js)) (λ version.
    read_then (required (types_in version) (member_of (codes "types") js)) (λ types.
    read_then (removed_or_none (type_names types) js) (λ removed.
    accepted (only is_registry_key js) (record { version = version; types = types; removed = removed }) UnknownField))))

-- ---- what a call gave, unless memory ran out

abbrev pub Refuses : {A : Type 0} → RegError → Read A → Type 0
Refuses Memory read = ⊤
Refuses MissingField read = read ≡ Err MissingField
Refuses WrongKind read = read ≡ Err WrongKind
Refuses UnknownField read = read ≡ Err UnknownField
Refuses BadVersion read = read ≡ Err BadVersion
Refuses BadType read = read ≡ Err BadType
Refuses DuplicateType read = read ≡ Err DuplicateType
Refuses BadKind read = read ≡ Err BadKind
Refuses UnsortedVersions read = read ≡ Err UnsortedVersions
Refuses BadOp read = read ≡ Err BadOp

abbrev pub Gives : {A : Type 0} → Read A → Read A → Type 0
Gives (Ok x) read = read ≡ Ok x
Gives (Err e) read = Refuses e read
