-- What reading gives is of the stored form.
use Rattle.std.proofs.Common.{◌≡◌, ◌∷◌, [], List, Option, Some, None, Ok, Err, Bool, true, false, refl, sym, ap, ◌∙◌, if◌then◌else◌}
use Rattle.std.specs.List.{list_all}
use Rattle.std.specs.Result.{result_unwrap_or}
use Rattle.std.proofs.Common.{inl, inr}
use Rattle.std.specs.Prelude.{codes}
use Rattle.std.proofs.lemmas.Bool.{cases_Bool, and_from}
use Rattle.base_model.specs.Keyed.{Text}
use Rattle.document_model.specs.Documents.{Doc}
use Rattle.so_js.specs.Tree.{member_of}
use Rattle.so_js.specs.declared.js.Js.{Js}
use Rattle.so_js.specs.declared.js.Member.{Member}
use Rattle.space_scope.specs.Spaces.{is_space_id}
use Rattle.version_token.specs.Version.{ver_of}
use Rattle.version_token.specs.declared.Ver.{Ver}
use Rattle.saved_doc.specs.declared.error.DocError.{DocError}
use Rattle.saved_doc.specs.declared.error.DocError.TheVariants.{WrongKind, BadSpace, UnknownField}
use Rattle.saved_doc.specs.Reading.{Read, read_then, each, optional, accepted, text_in, items_in, object_in, version_in, space_id_in, listed_space_in, is_listed_space, spaces_in, some_spaces, old_stamp_in, old_stamp_among, newer_or_older, or_bad_version, is_named, type_of, attributes_of, references_of, namespace_of, namespaces_of, stamp_of, core_of, note_of, only_known, doc_among, doc_in}
use Rattle.saved_doc.specs.Stored.{if_there, is_version, are_spaces, is_stored}
use Rattle.saved_doc.specs.Trees.{is_object}
use Rattle.saved_doc.proofs.VersionLaws.{ver_of-range}

-- a chain of readers that gave a value
pub Ok-read_then : {A B : Type 0} (read : Read A) (more : A → Read B) (y : B) → read_then read more ≡ Ok y → (x : A) × (read ≡ Ok x) × (more x ≡ Ok y)
Ok-read_then (Ok x) more y h = (x, refl, h)
Ok-read_then (Err e) more y h = cc h

pub Ok-value : {A : Type 0} (x y : A) → ◌≡◌ {A = Read A} (Ok x) (Ok y) → x ≡ y
Ok-value {A} x y e = ap (λ (r : Read A). result_unwrap_or r x) e

accepted-ok : {A : Type 0} (ok : Bool) (x : A) (e : DocError) (y : A) → accepted ok x e ≡ Ok y → (ok ≡ true) × (x ≡ y)
accepted-ok true x e y h = (refl, Ok-value x y h)
accepted-ok false x e y h = cc h

space_id-ok : (js : Js) (id : Text) → space_id_in js ≡ Ok id → is_space_id id ≡ true
space_id-ok js id h =
    let text = Ok-read_then (text_in js) (λ t. accepted (is_space_id t) t BadSpace) id h in
    let found = accepted-ok (is_space_id text.0) text.0 BadSpace id text.2 in
    ap is_space_id (sym found.1) ∙ found.0

listed_space-ok : (js : Js) (space : Text) → listed_space_in js ≡ Ok space → is_listed_space space ≡ true
listed_space-ok js space h =
    let text = Ok-read_then (text_in js) (λ t. accepted (is_listed_space t) t BadSpace) space h in
    let found = accepted-ok (is_listed_space text.0) text.0 BadSpace space text.2 in
    ap is_listed_space (sym found.1) ∙ found.0

-- where each item passes a test, all do
each-all : {A B : Type 0} (read : A → Read B) (test : B → Bool) → ((x : A) (y : B) → read x ≡ Ok y → test y ≡ true)
    → (xs : List A) (ys : List B) → each read xs ≡ Ok ys → list_all test ys ≡ true
each-all read test ok [] ys h = ap (list_all test) (sym (Ok-value [] ys h))
each-all read test ok (x ∷ xs) ys h =
    let first = Ok-read_then (read x) (λ y. read_then (each read xs) (λ rest. Ok (y ∷ rest))) ys h in
    let more = Ok-read_then (each read xs) (λ rest. Ok (first.0 ∷ rest)) ys first.2 in
    ap (list_all test) (sym (Ok-value (first.0 ∷ more.0) ys more.2)) ∙ and_from _ _ (ok x first.0 first.1) (each-all read test ok xs more.0 more.1)

some_spaces-ok : (items : List Js) (spaces : List Text) → some_spaces items ≡ Ok spaces → are_spaces spaces ≡ true
some_spaces-ok [] spaces h = cc h
some_spaces-ok (js ∷ more) [] h =
    let first = Ok-read_then (listed_space_in js) (λ y. read_then (each listed_space_in more) (λ rest. Ok (y ∷ rest))) [] h in
    let rest = Ok-read_then (each listed_space_in more) (λ ys. Ok (first.0 ∷ ys)) [] first.2 in
    cc rest.2
some_spaces-ok (js ∷ more) (s ∷ spaces) h = each-all listed_space_in is_listed_space listed_space-ok (js ∷ more) (s ∷ spaces) h

spaces-ok : (js : Js) (spaces : List Text) → spaces_in js ≡ Ok spaces → are_spaces spaces ≡ true
spaces-ok js spaces h =
    let items = Ok-read_then (items_in js) some_spaces spaces h in
    some_spaces-ok items.0 spaces items.2

or_bad_version-ok : (text : Text) (found : Option Ver) (v : Ver) → ver_of text ≡ found → or_bad_version found ≡ Ok v → is_version v ≡ true
or_bad_version-ok text None v is h = cc h
or_bad_version-ok text (Some w) v is h = ap is_version (sym (Ok-value w v h)) ∙ ver_of-range text w is

version-ok : (js : Js) (v : Ver) → version_in js ≡ Ok v → is_version v ≡ true
version-ok js v h =
    let text = Ok-read_then (text_in js) (λ t. or_bad_version (ver_of t)) v h in
    or_bad_version-ok text.0 (ver_of text.0) v refl text.2

optional-ok : {A : Type 0} (read : Js → Read A) (test : A → Bool) → ((js : Js) (x : A) → read js ≡ Ok x → test x ≡ true)
    → (there : Option Js) (found : Option A) → optional read there ≡ Ok found → if_there test found ≡ true
optional-ok read test ok None found h = ap (if_there test) (sym (Ok-value None found h))
optional-ok read test ok (Some js) found h =
    let x = Ok-read_then (read js) (λ y. Ok (Some y)) found h in
    ap (if_there test) (sym (Ok-value (Some x.0) found x.2)) ∙ ok js x.0 x.1

old_stamp_among-ok : (name : Text) (ms : List (Member Js)) (found : Option Ver) → old_stamp_among name ms ≡ Ok found → if_there is_version found ≡ true
old_stamp_among-ok name [] found h = ap (if_there is_version) (sym (Ok-value None found h))
old_stamp_among-ok name (m ∷ []) found h = elim (cases_Bool (is_named name m)) [
  | inl yes_named ↦
      let v = Ok-read_then (version_in m.value) (λ w. Ok (Some w)) found (rw yes_named at h) in
      ap (if_there is_version) (sym (Ok-value (Some v.0) found v.2)) ∙ version-ok m.value v.0 v.1
  | inr other ↦ cc (rw other at h)
]
old_stamp_among-ok name (m ∷ n ∷ more) found h = cc h

old_stamp-ok : (name : Text) (js : Js) (found : Option Ver) → old_stamp_in name js ≡ Ok found → if_there is_version found ≡ true
old_stamp-ok name js found h =
    let ms = Ok-read_then (object_in js) (old_stamp_among name) found h in
    old_stamp_among-ok name ms.0 found ms.2

newer_or_older-ok : (newer : Option Ver) (older : Option (Option Ver)) → if_there is_version newer ≡ true → if_there (if_there is_version) older ≡ true
    → if_there is_version (newer_or_older newer older) ≡ true
newer_or_older-ok (Some v) older p q = p
newer_or_older-ok None None p q = refl
newer_or_older-ok None (Some o) p q = q

stamp-ok : (name : Text) (js : Js) (found : Option Ver) → stamp_of name js ≡ Ok found → if_there is_version found ≡ true
stamp-ok name js found h =
    let newer_read = optional version_in (member_of (codes "typeMigrationVersion") js) in
    let older_read = optional (old_stamp_in name) (member_of (codes "migrationVersion") js) in
    let newer = Ok-read_then newer_read (λ n. read_then older_read (λ o. Ok (newer_or_older n o))) found h in
    let older = Ok-read_then older_read (λ o. Ok (newer_or_older newer.0 o)) found newer.2 in
    ap (if_there is_version) (sym (Ok-value (newer_or_older newer.0 older.0) found older.2))
    ∙ newer_or_older-ok newer.0 older.0 (optional-ok version_in is_version version-ok _ newer.0 newer.1) (optional-ok (old_stamp_in name) (if_there is_version) (old_stamp-ok name) _ older.0 older.1)

if_object : {A : Type 0} (b : Bool) (read : Read A) (x : A) → (if b then read else Err WrongKind) ≡ Ok x → read ≡ Ok x
if_object true read x h = h
if_object false read x h = cc h

-- each document that reading gives has spaces with their form, and versions in their range
pub doc_in-stored : (js : Js) (d : Doc Js) → doc_in js ≡ Ok d → is_stored d ≡ true
doc_in-stored js d h =
    let name = Ok-read_then (type_of js) _ d (if_object (is_object js) (doc_among js) d h) in
    let attributes = Ok-read_then (attributes_of name.0 js) _ d name.2 in
    let references = Ok-read_then (references_of js) _ d attributes.2 in
    let namespace = Ok-read_then (namespace_of js) _ d references.2 in
    let namespaces = Ok-read_then (namespaces_of js) _ d namespace.2 in
    let stamp = Ok-read_then (stamp_of name.0 js) _ d namespaces.2 in
    let core = Ok-read_then (core_of js) _ d stamp.2 in
    let updated_at = Ok-read_then (note_of (codes "updated_at") js) _ d core.2 in
    let origin = Ok-read_then (note_of (codes "originId") js) _ d updated_at.2 in
    let found = accepted-ok (only_known name.0 js) _ UnknownField d origin.2 in
    ap is_stored (sym found.1)
    ∙ and_from _ _ (and_from _ _ (and_from _ _
    (optional-ok space_id_in is_space_id space_id-ok _ namespace.0 namespace.1)
    (optional-ok spaces_in are_spaces spaces-ok _ namespaces.0 namespaces.1))
    (stamp-ok name.0 js stamp.0 stamp.1))
    (optional-ok version_in is_version version-ok _ core.0 core.1)
