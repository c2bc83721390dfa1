-- Reading what was written, member by member.
use Rattle.std.proofs.Common.{◌≡◌, ◌∷◌, [], List, map, Option, Some, None, option_map, Ok, Bool, true, refl, ap, ◌∙◌}
use Rattle.std.specs.Prelude.{codes}
use Rattle.std.specs.List.{list_all}
use Rattle.std.proofs.lemmas.Bool.{and_parts}
use Rattle.base_model.specs.Keyed.{Text}
use Rattle.document_model.specs.Documents.{Doc}
use Rattle.document_model.specs.Names.{is_type_name}
use Rattle.document_model.specs.declared.reference.Ref.{Ref}
use Rattle.so_js.specs.Tree.{member_of}
use Rattle.so_js.specs.declared.js.Js.{Js}
use Rattle.so_js.specs.declared.js.Js.TheVariants.{Str}
use Rattle.space_scope.specs.Spaces.{is_space_id}
use Rattle.version_token.specs.Version.{ver_text}
use Rattle.version_token.specs.declared.Ver.{Ver}
use Rattle.saved_doc.specs.Reading.{Read, each, required, optional, text_in, type_name_in, attributes_in, version_in, ref_in, refs_in, space_id_in, is_listed_space, listed_space_in, spaces_in, type_of, attributes_of, references_of, namespace_of, namespaces_of, stamp_of, core_of, note_of, newer_or_older, only_known, doc_in}
use Rattle.saved_doc.specs.Stored.{if_there, is_version, are_spaces, is_stored}
use Rattle.saved_doc.specs.Trees.{is_object}
use Rattle.saved_doc.specs.Writing.{named, ver_js, ref_js, refs_js, spaces_js, doc_js}
use Rattle.saved_doc.proofs.AgainLaws.{HasOther, other_keys, member_of-beside, member_of-own, only_known-doc_js, or_next-None}
use Rattle.saved_doc.proofs.TreeForms.{is_object-Object, object_in-Object, items_in-Items, text_in-Str}
use Rattle.saved_doc.proofs.VersionLaws.{ver_of-ver_text}

-- ---- values

version-again : (v : Ver) → is_version v ≡ true → version_in (ver_js v) ≡ Ok v
version-again v h = rw (text_in-Str (ver_text v), ver_of-ver_text v h) refl

type_name-again : (name : Text) → is_type_name name ≡ true → type_name_in (Str name) ≡ Ok name
type_name-again name h = rw (text_in-Str name, h) refl

attributes-again : (js : Js) → is_object js ≡ true → attributes_in js ≡ Ok js
attributes-again js h = rw h refl

space_id-again : (id : Text) → is_space_id id ≡ true → space_id_in (Str id) ≡ Ok id
space_id-again id h = rw (text_in-Str id, h) refl

listed_space-again : (space : Text) → is_listed_space space ≡ true → listed_space_in (Str space) ≡ Ok space
listed_space-again space h = rw (text_in-Str space, h) refl

ref-again : (r : Ref) → ref_in (ref_js r) ≡ Ok r
ref-again r = rw (object_in-Object (named (codes "id") (Str r.id) ∷ named (codes "name") (Str r.name) ∷ named (codes "type") (Str r.type_name) ∷ []), text_in-Str r.id, text_in-Str r.name, text_in-Str r.type_name) refl

each-again : {A : Type 0} (read : Js → Read A) (js : A → Js) (test : A → Bool) → ((x : A) → test x ≡ true → read (js x) ≡ Ok x)
    → (xs : List A) → list_all test xs ≡ true → each read (map js xs) ≡ Ok xs
each-again read js test again [] h = refl
each-again read js test again (x ∷ xs) h =
    let parts = and_parts (test x) (list_all test xs) h in
    rw (again x parts.0, each-again read js test again xs parts.1) refl

all_true : {A : Type 0} (xs : List A) → list_all (λ _. true) xs ≡ true
all_true [] = refl
all_true (x ∷ xs) = all_true xs

refs-again : (refs : List Ref) → refs_in (refs_js refs) ≡ Ok refs
refs-again refs = rw (items_in-Items (map ref_js refs)) (each-again ref_in ref_js (λ _. true) (λ r h. ref-again r) refs (all_true refs))

spaces-again : (spaces : List Text) → are_spaces spaces ≡ true → spaces_in (spaces_js spaces) ≡ Ok spaces
spaces-again [] h = cc h
spaces-again (s ∷ more) h =
    rw (items_in-Items (map Str (s ∷ more))) (each-again listed_space_in Str is_listed_space listed_space-again (s ∷ more) h)

optional-again : {A : Type 0} (read : Js → Read A) (js : A → Js) (test : A → Bool) → ((x : A) → test x ≡ true → read (js x) ≡ Ok x)
    → (o : Option A) → if_there test o ≡ true → optional read (option_map js o) ≡ Ok o
optional-again read js test again None h = refl
optional-again read js test again (Some x) h = rw (again x h) refl

-- ---- members

-- where all parts are read, so is the document
doc_in-parts : (js : Js) (d : Doc Js) → is_object js ≡ true → type_of js ≡ Ok d.type_name → attributes_of d.type_name js ≡ Ok d.attributes
    → references_of js ≡ Ok d.references → namespace_of js ≡ Ok d.namespace → namespaces_of js ≡ Ok d.namespaces
    → stamp_of d.type_name js ≡ Ok d.stamp → core_of js ≡ Ok d.core → note_of (codes "updated_at") js ≡ Ok d.updated_at
    → note_of (codes "originId") js ≡ Ok d.origin → only_known d.type_name js ≡ true → doc_in js ≡ Ok d
doc_in-parts js d object type_name attributes references namespace namespaces stamp core updated_at origin known =
    rw (object, type_name, attributes, references, namespace, namespaces, stamp, core, updated_at, origin, known) refl

module _ (d : Doc Js) (h : HasOther d.type_name) where
  type-again : is_type_name d.type_name ≡ true → type_of (doc_js d) ≡ Ok d.type_name
  type-again name = ap (required type_name_in) (member_of-beside (codes "type") d h.type_name) ∙ type_name-again d.type_name name

  own-again : is_object d.attributes ≡ true → attributes_of d.type_name (doc_js d) ≡ Ok d.attributes
  own-again object = ap (required attributes_in) (member_of-own d h) ∙ attributes-again d.attributes object

  references-again : references_of (doc_js d) ≡ Ok d.references
  references-again = rw (member_of-beside (codes "references") d h.references, refs-again d.references) refl

  namespace-again : if_there is_space_id d.namespace ≡ true → namespace_of (doc_js d) ≡ Ok d.namespace
  namespace-again ok =
      ap (optional space_id_in) (member_of-beside (codes "namespace") d h.namespace ∙ or_next-None (option_map Str d.namespace))
      ∙ optional-again space_id_in Str is_space_id space_id-again d.namespace ok

  namespaces-again : if_there are_spaces d.namespaces ≡ true → namespaces_of (doc_js d) ≡ Ok d.namespaces
  namespaces-again ok =
      ap (optional spaces_in) (member_of-beside (codes "namespaces") d h.namespaces ∙ or_next-None (option_map spaces_js d.namespaces))
      ∙ optional-again spaces_in spaces_js are_spaces spaces-again d.namespaces ok

  newer-again : if_there is_version d.stamp ≡ true → optional version_in (member_of (codes "typeMigrationVersion") (doc_js d)) ≡ Ok d.stamp
  newer-again ok =
      ap (optional version_in) (member_of-beside (codes "typeMigrationVersion") d h.newer ∙ or_next-None (option_map ver_js d.stamp))
      ∙ optional-again version_in ver_js is_version version-again d.stamp ok

  stamp-again : if_there is_version d.stamp ≡ true → stamp_of d.type_name (doc_js d) ≡ Ok d.stamp
  stamp-again ok = rw (newer-again ok, member_of-beside (codes "migrationVersion") d h.older) (or_none d.stamp)
    where
      or_none : (o : Option Ver) → ◌≡◌ {A = Read (Option Ver)} (Ok (newer_or_older o None)) (Ok o)
      or_none None = refl
      or_none (Some v) = refl

  core-again : if_there is_version d.core ≡ true → core_of (doc_js d) ≡ Ok d.core
  core-again ok =
      ap (optional version_in) (member_of-beside (codes "coreMigrationVersion") d h.core ∙ or_next-None (option_map ver_js d.core))
      ∙ optional-again version_in ver_js is_version version-again d.core ok

  note-again : (o : Option Text) → optional text_in (option_map Str o) ≡ Ok o
  note-again o = optional-again text_in Str (λ _. true) (λ text _. text_in-Str text) o (there o)
    where
      there : (x : Option Text) → if_there (λ _. true) x ≡ true
      there None = refl
      there (Some text) = refl

  updated_at-again : note_of (codes "updated_at") (doc_js d) ≡ Ok d.updated_at
  updated_at-again =
      ap (optional text_in) (member_of-beside (codes "updated_at") d h.updated_at ∙ or_next-None (option_map Str d.updated_at)) ∙ note-again d.updated_at

  origin-again : note_of (codes "originId") (doc_js d) ≡ Ok d.origin
  origin-again =
      ap (optional text_in) (member_of-beside (codes "originId") d h.origin ∙ or_next-None (option_map Str d.origin)) ∙ note-again d.origin

-- a stored document that is written reads back
pub doc_in-doc_js : (d : Doc Js) → is_type_name d.type_name ≡ true → is_object d.attributes ≡ true → is_stored d ≡ true → doc_in (doc_js d) ≡ Ok d
doc_in-doc_js d name object stored =
    let h = other_keys d.type_name name in
    let p = and_parts _ _ stored in
    let q = and_parts _ _ p.0 in
    let r = and_parts _ _ q.0 in
    doc_in-parts (doc_js d) d (is_object-Object _) (type-again d h name) (own-again d h object) (references-again d h) (namespace-again d h r.0)
    (namespaces-again d h r.1) (stamp-again d h q.1) (core-again d h p.1) (updated_at-again d h) (origin-again d h) (only_known-doc_js d)
