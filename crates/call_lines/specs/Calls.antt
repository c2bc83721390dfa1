-- The call that a tree states: its word, its space, and then the members of such a call in their order.
use Rattle.std.specs.Prelude.{Bool, true, false, if◌then◌else◌, List, [], ◌∷◌, codes, Option, Some, None, Ok, Err}
use Rattle.std.specs.Str.{bytes_eq}
use Rattle.base_model.specs.Keyed.{Text}
use Rattle.call_words.specs.declared.calls.Call.{Call}
use Rattle.call_words.specs.declared.calls.Call.TheVariants.{Create, BulkCreate, Get, Resolve, BulkGet, Update, Delete, Find, Share}
use Rattle.call_words.specs.declared.calls.Given.{Given}
use Rattle.call_words.specs.declared.calls.Given.TheVariants.{Latest, All, Above}
use Rattle.call_words.specs.declared.calls.NewObject.{NewObject}
use Rattle.query_model.specs.declared.parts.Sort.{Sort}
use Rattle.query_model.specs.declared.parts.Sort.TheVariants.{Raw, UpdatedAt}
use Rattle.so_js.specs.declared.js.Js.{Js}
use Rattle.version_token.specs.declared.Ver.{Ver}
use Rattle.wire_io.specs.declared.fault.InputKind.TheVariants.{WrongKind}
use Rattle.call_lines.specs.declared.calls.CallKind.{CallKind}
use Rattle.call_lines.specs.declared.calls.CallKind.TheVariants as kind
use Rattle.call_lines.specs.Reading.{Read, and_then, each, needed, optional, defaulted, alone}
use Rattle.call_lines.specs.Parts.{flag_in, number_in, text_in, texts_in, object_in, limited_in, target_in, references_in, version_in, version_map_in}

-- ---- objects

-- the list `objects`, of at most 10,000 that are read one by one
abbrev pub objects_of : {A : Type 0} → (Js → Read A) → Js → Read (List A)
objects_of read js = and_then (needed limited_in (codes "objects") js) (each read)

abbrev pub given_over : Option Ver → Option (Option Ver) → Given
given_over (Some v) map = Above v
given_over None None = Latest
given_over None (Some None) = All
given_over None (Some (Some v)) = Above v

-- the stamp that an object of this type comes with: both forms are read, and the newer form counts; an empty map alone stands for attributes older than all versions
abbrev pub given_of : Text → Js → Read Given
given_of type_name js =
    and_then (optional version_in (codes "typeMigrationVersion") js) (λ newer.
    and_then (optional (version_map_in type_name) (codes "migrationVersion") js) (λ older.
    Ok (given_over newer older)))

abbrev pub new_object_keys : List Text
new_object_keys = codes "type" ∷ codes "id" ∷ codes "attributes" ∷ codes "references" ∷ codes "typeMigrationVersion" ∷ codes "migrationVersion" ∷ codes "originId" ∷ []

-- an object of a bulkCreate
abbrev pub new_object_in : Js → Read NewObject
new_object_in js =
    and_then (object_in js) (λ js.
    and_then (needed text_in (codes "type") js) (λ type_name.
    and_then (needed text_in (codes "id") js) (λ id.
    and_then (needed object_in (codes "attributes") js) (λ attributes.
    and_then (defaulted [] references_in (codes "references") js) (λ references.
    and_then (given_of type_name js) (λ given.
    and_then (optional text_in (codes "originId") js) (λ origin.
    alone new_object_keys js
    (record { type_name = type_name; id = id; attributes = attributes; references = references; given = given; origin = origin }))))))))

-- ---- the calls, in this space

abbrev pub create_keys : List Text
create_keys = codes "do" ∷ codes "space" ∷ codes "type" ∷ codes "id" ∷ codes "attributes" ∷ codes "references" ∷ codes "overwrite" ∷ codes "typeMigrationVersion" ∷ codes "migrationVersion" ∷ codes "originId" ∷ codes "at" ∷ []

abbrev pub create_in : Text → Js → Read Call
create_in space js =
    and_then (needed text_in (codes "type") js) (λ type_name.
    and_then (needed text_in (codes "id") js) (λ id.
    and_then (needed object_in (codes "attributes") js) (λ attributes.
    and_then (defaulted [] references_in (codes "references") js) (λ references.
    and_then (defaulted false flag_in (codes "overwrite") js) (λ overwrite.
    and_then (given_of type_name js) (λ given.
    and_then (optional text_in (codes "originId") js) (λ origin.
    and_then (optional text_in (codes "at") js) (λ time.
    alone create_keys js
    (Create space (record { type_name = type_name; id = id; attributes = attributes; references = references; given = given; origin = origin }) overwrite time)))))))))

abbrev pub bulk_create_in : Text → Js → Read Call
bulk_create_in space js =
    and_then (objects_of new_object_in js) (λ objects.
    and_then (defaulted false flag_in (codes "overwrite") js) (λ overwrite.
    and_then (optional text_in (codes "at") js) (λ time.
    alone (codes "do" ∷ codes "space" ∷ codes "objects" ∷ codes "overwrite" ∷ codes "at" ∷ []) js (BulkCreate space objects overwrite time))))

abbrev pub get_in : Text → Js → Read Call
get_in space js =
    and_then (needed text_in (codes "type") js) (λ type_name.
    and_then (needed text_in (codes "id") js) (λ id.
    alone (codes "do" ∷ codes "space" ∷ codes "type" ∷ codes "id" ∷ []) js (Get space (record { type_name = type_name; id = id }))))

abbrev pub resolve_in : Text → Js → Read Call
resolve_in space js =
    and_then (needed text_in (codes "type") js) (λ type_name.
    and_then (needed text_in (codes "id") js) (λ id.
    alone (codes "do" ∷ codes "space" ∷ codes "type" ∷ codes "id" ∷ []) js (Resolve space (record { type_name = type_name; id = id }))))

abbrev pub bulk_get_in : Text → Js → Read Call
bulk_get_in space js =
    and_then (objects_of target_in js) (λ objects.
    alone (codes "do" ∷ codes "space" ∷ codes "objects" ∷ []) js (BulkGet space objects))

abbrev pub update_keys : List Text
update_keys = codes "do" ∷ codes "space" ∷ codes "type" ∷ codes "id" ∷ codes "attributes" ∷ codes "references" ∷ codes "version" ∷ codes "at" ∷ []

abbrev pub update_in : Text → Js → Read Call
update_in space js =
    and_then (needed text_in (codes "type") js) (λ type_name.
    and_then (needed text_in (codes "id") js) (λ id.
    and_then (needed object_in (codes "attributes") js) (λ attributes.
    and_then (optional references_in (codes "references") js) (λ references.
    and_then (optional text_in (codes "version") js) (λ version.
    and_then (optional text_in (codes "at") js) (λ time.
    alone update_keys js
    (Update space (record { type_name = type_name; id = id; attributes = attributes; references = references; version = version }) time)))))))

abbrev pub delete_in : Text → Js → Read Call
delete_in space js =
    and_then (needed text_in (codes "type") js) (λ type_name.
    and_then (needed text_in (codes "id") js) (λ id.
    and_then (defaulted false flag_in (codes "force") js) (λ force.
    alone (codes "do" ∷ codes "space" ∷ codes "type" ∷ codes "id" ∷ codes "force" ∷ []) js (Delete space (record { type_name = type_name; id = id }) force))))

abbrev pub sort_named : Text → Read Sort
sort_named word =
    if bytes_eq word (codes "raw") then Ok Raw else
    if bytes_eq word (codes "updated_at") then Ok UpdatedAt else
    Err WrongKind

-- what a find sorts by
abbrev pub sort_in : Js → Read Sort
sort_in js = and_then (text_in js) sort_named

abbrev pub descends : Text → Read Bool
descends word =
    if bytes_eq word (codes "asc") then Ok false else
    if bytes_eq word (codes "desc") then Ok true else
    Err WrongKind

-- whether a find's order is the descending one
abbrev pub order_in : Js → Read Bool
order_in js = and_then (text_in js) descends

abbrev pub find_keys : List Text
find_keys = codes "do" ∷ codes "space" ∷ codes "types" ∷ codes "page" ∷ codes "perPage" ∷ codes "sort" ∷ codes "order" ∷ codes "reference" ∷ codes "origin" ∷ codes "filter" ∷ []

abbrev pub find_in : Text → Js → Read Call
find_in space js =
    and_then (needed texts_in (codes "types") js) (λ types.
    and_then (defaulted 1 number_in (codes "page") js) (λ page.
    and_then (defaulted 20 number_in (codes "perPage") js) (λ per_page.
    and_then (defaulted Raw sort_in (codes "sort") js) (λ sort.
    and_then (defaulted false order_in (codes "order") js) (λ descending.
    and_then (optional target_in (codes "reference") js) (λ reference.
    and_then (optional text_in (codes "origin") js) (λ origin.
    and_then (optional text_in (codes "filter") js) (λ filter.
    alone find_keys js
    (Find space types page per_page sort descending reference origin filter)))))))))

abbrev pub share_in : Text → Js → Read Call
share_in space js =
    and_then (needed text_in (codes "type") js) (λ type_name.
    and_then (needed text_in (codes "id") js) (λ id.
    and_then (needed texts_in (codes "add") js) (λ add.
    and_then (needed texts_in (codes "remove") js) (λ remove.
    and_then (optional text_in (codes "at") js) (λ time.
    alone (codes "do" ∷ codes "space" ∷ codes "type" ∷ codes "id" ∷ codes "add" ∷ codes "remove" ∷ codes "at" ∷ []) js
    (Share space (record { type_name = type_name; id = id }) add remove time))))))

-- ---- any call

-- the kind of call that a word names
abbrev pub kind_named : Text → Read CallKind
kind_named word =
    if bytes_eq word (codes "create") then Ok kind.Create else
    if bytes_eq word (codes "bulkCreate") then Ok kind.BulkCreate else
    if bytes_eq word (codes "get") then Ok kind.Get else
    if bytes_eq word (codes "resolve") then Ok kind.Resolve else
    if bytes_eq word (codes "bulkGet") then Ok kind.BulkGet else
    if bytes_eq word (codes "update") then Ok kind.Update else
    if bytes_eq word (codes "delete") then Ok kind.Delete else
    if bytes_eq word (codes "find") then Ok kind.Find else
    if bytes_eq word (codes "share") then Ok kind.Share else
    Err WrongKind

abbrev pub kind_in : Js → Read CallKind
kind_in js = and_then (text_in js) kind_named

-- a call of this kind in this space
abbrev pub call_as : CallKind → Text → Js → Read Call
call_as kind.Create space js = create_in space js
call_as kind.BulkCreate space js = bulk_create_in space js
call_as kind.Get space js = get_in space js
call_as kind.Resolve space js = resolve_in space js
call_as kind.BulkGet space js = bulk_get_in space js
call_as kind.Update space js = update_in space js
call_as kind.Delete space js = delete_in space js
call_as kind.Find space js = find_in space js
call_as kind.Share space js = share_in space js

-- the call that a tree states
abbrev pub call_in : Js → Read Call
call_in js =
    and_then (object_in js) (λ js.
    and_then (needed kind_in (codes "do") js) (λ kind.
    and_then (defaulted (codes "default") text_in (codes "space") js) (λ space.
    call_as kind space js)))
