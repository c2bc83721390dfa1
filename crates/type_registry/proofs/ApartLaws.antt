-- The names of types that were read differ.
use Rattle.std.proofs.Common.{◌≡◌, List, [], ◌∷◌, ◌++◌, Option, Some, None, Ok, Err, Bool, true, false, not, ◌&&◌, refl, sym, ap, ◌∙◌, inl, inr, append_assoc}
use Rattle.std.specs.Prelude.{codes}
use Rattle.std.specs.List.{list_all}
use Rattle.std.specs.Result.{result_unwrap_or}
use Rattle.std.specs.Str.{bytes_eq}
use Rattle.std.proofs.lemmas.Bool.{cases_Bool, and_parts, and_from}
use Rattle.std.proofs.lemmas.Slice.Eq.{bytes_eq-Decides}
use Rattle.base_model.specs.Keyed.{Text, same, Keyed}
use Rattle.document_model.specs.Documents.{lists}
use Rattle.document_model.specs.Names.{is_type_name}
use Rattle.document_model.specs.Registries.{Known, alias_type, type_names, names_apart}
use Rattle.so_js.specs.Tree.{member_of}
use Rattle.so_js.specs.declared.js.Js.{Js}
use Rattle.transform_ops.specs.declared.op.Op.{Op}
use Rattle.version_token.specs.declared.Ver.{Ver}
use Rattle.type_registry.specs.declared.error.RegError.{RegError}
use Rattle.type_registry.specs.declared.error.RegError.TheVariants.{BadType, DuplicateType, UnknownField}
use Rattle.type_registry.proofs.ReadingLemmas.{onto}
use Rattle.type_registry.specs.Reading.{Read, read_then, accepted, required, optional, object_in, text_in, is_free, name_in, kind_in, shareable_in, migrations_or_none, only, is_type_key, known_in, type_in, types_after}

-- a chain of readers that gave a value
pub Ok-read_then : {A B : Type 0} (read : Read A) (more : A → Read B) (y : B) → read_then read more ≡ Ok y → (x : A) × (read ≡ Ok x) × (more x ≡ Ok y)
Ok-read_then (Ok x) more y h = (x, refl, h)
Ok-read_then (Err e) more y h = cc h

pub Ok-value : {A : Type 0} (x y : A) → ◌≡◌ {A = Read A} (Ok x) (Ok y) → x ≡ y
Ok-value {A} x y e = ap (λ (r : Read A). result_unwrap_or r x) e

accepted-ok : {A : Type 0} (ok : Bool) (x : A) (e : RegError) (y : A) → accepted ok x e ≡ Ok y → (ok ≡ true) × (x ≡ y)
accepted-ok true x e y h = (refl, Ok-value x y h)
accepted-ok false x e y h = cc h

name-free : (taken more : List Text) (js : Js) (name : Text) → name_in taken more js ≡ Ok name → is_free taken more name ≡ true
name-free taken more js name h =
    let text = Ok-read_then (text_in js) (λ t. read_then (accepted (is_type_name t) t BadType) (λ n. accepted (is_free taken more n) n DuplicateType)) name h in
    let named = Ok-read_then (accepted (is_type_name text.0) text.0 BadType) (λ n. accepted (is_free taken more n) n DuplicateType) name text.2 in
    let free = accepted-ok (is_free taken more named.0) named.0 DuplicateType name named.2 in
    ap (is_free taken more) (sym free.1) ∙ free.0

required-free : (taken more : List Text) (found : Option Js) (name : Text) → required (name_in taken more) found ≡ Ok name → is_free taken more name ≡ true
required-free taken more None name h = cc h
required-free taken more (Some js) name h = name-free taken more js name h

known-name : (top : Ver) (name : Text) (js : Js) (t : Text × Known Op) → known_in top name js ≡ Ok t → t.0 ≡ name
known-name top name js t h =
    let kind = Ok-read_then (required kind_in (member_of (codes "kind") js)) _ t h in
    let at = Ok-read_then (optional (shareable_in top kind.0) (member_of (codes "shareableAt") js)) _ t kind.2 in
    let steps = Ok-read_then (migrations_or_none top js) _ t at.2 in
    let whole = accepted-ok (only is_type_key js) (name, record { kind = kind.0; shareable_at = at.0; steps = steps.0 }) UnknownField t steps.2 in
    ap (λ (u : Text × Known Op). u.0) (sym whole.1)

type-free : (top : Ver) (taken : List Text) (js : Js) (t : Text × Known Op) → type_in top taken js ≡ Ok t → is_free taken [] t.0 ≡ true
type-free top taken js t h =
    let object = Ok-read_then (object_in js) (λ _. read_then (required (name_in taken []) (member_of (codes "name") js)) (λ name. known_in top name js)) t h in
    let name = Ok-read_then (required (name_in taken []) (member_of (codes "name") js)) (λ name. known_in top name js) t object.2 in
    ap (is_free taken []) (known-name top name.0 js t name.2) ∙ required-free taken [] (member_of (codes "name") js) name.0 name.1

not-true : (b : Bool) → not b ≡ true → b ≡ false
not-true true h = cc h
not-true false h = refl

-- ---- texts of a list

same-comm : (a b : Text) → same a b ≡ false → same b a ≡ false
unfolding same
same-comm a b h = elim (cases_Bool (bytes_eq b a)) [
  | inl equal ↦
      let wrong : true ≡ false = sym ((bytes_eq-Decides a b).1 (sym ((bytes_eq-Decides b a).0 equal))) ∙ h in
      cc wrong
  | inr other ↦ other
]

lists-push : (name last : Text) (taken : List Text) → lists name (taken ++ last ∷ []) ≡ false → (lists name taken ≡ false) × (same name last ≡ false)
unfolding lists
lists-push name last [] h = elim (cases_Bool (same name last)) [
  | inl equal ↦
      let wrong : true ≡ false = rw equal at h in
      cc wrong
  | inr other ↦ (refl, other)
]
lists-push name last (t ∷ taken) h = elim (cases_Bool (same name t)) [
  | inl equal ↦
      let wrong : true ≡ false = rw equal at h in
      cc wrong
  | inr other ↦
      let rest = lists-push name last taken (rw other at h) in
      (rw other rest.0, rest.1)
]

lists-behind : (name first : Text) (rest : List Text) → same name first ≡ false → lists name rest ≡ false → lists name (first ∷ rest) ≡ false
unfolding lists
lists-behind name first rest other none = rw other none

lists-none : (name : Text) → lists name [] ≡ false
unfolding lists
lists-none name = refl

-- no name of the types is one of these
abbrev apart_from : List Text → Keyed (Known Op) → Bool
apart_from taken ts = list_all (λ t. not (lists t.0 taken)) ts

apart-push : (last : Text) (taken : List Text) (ts : Keyed (Known Op)) → apart_from (taken ++ last ∷ []) ts ≡ true → (apart_from taken ts ≡ true) × (lists last (type_names ts) ≡ false)
apart-push last taken [] h = (refl, lists-none last)
apart-push last taken (t ∷ ts) h =
    let parts = and_parts (not (lists t.0 (taken ++ last ∷ []))) (apart_from (taken ++ last ∷ []) ts) h in
    let own = lists-push t.0 last taken (not-true (lists t.0 (taken ++ last ∷ [])) parts.0) in
    let rest = apart-push last taken ts parts.1 in
    (and_from _ _ (ap not own.0) rest.0, lists-behind last t.0 (type_names ts) (same-comm t.0 last own.1) rest.1)

one_more : (t : Text × Known Op) (ts : Keyed (Known Op)) → same t.0 alias_type ≡ false → lists t.0 (type_names ts) ≡ false → names_apart ts ≡ true → names_apart (t ∷ ts) ≡ true
unfolding names_apart
one_more t ts other none rest = and_from _ _ (and_from _ _ (ap not other) (ap not none)) rest

no_types : names_apart {O = Op} [] ≡ true
unfolding names_apart
no_types = refl

types_apart : (top : Ver) (taken : List Text) (items : List Js) (ts : Keyed (Known Op)) → types_after top taken items ≡ Ok ts → (names_apart ts ≡ true) × (apart_from taken ts ≡ true)
types_apart top taken [] ts h =
    let none = Ok-value [] ts h in
    (ap names_apart (sym none) ∙ no_types, ap (apart_from taken) (sym none))
types_apart top taken (js ∷ more) ts h =
    let first = Ok-read_then (type_in top taken js) (λ t. read_then (types_after top (taken ++ t.0 ∷ []) more) (λ rest. Ok (t ∷ rest))) ts h in
    let t = first.0 in
    let after = Ok-read_then (types_after top (taken ++ t.0 ∷ []) more) (λ rest. Ok (t ∷ rest)) ts first.2 in
    let whole = Ok-value (t ∷ after.0) ts after.2 in
    let later = types_apart top (taken ++ t.0 ∷ []) more after.0 after.1 in
    let free = and_parts (not (same t.0 alias_type) && not (lists t.0 taken)) (not (lists t.0 [])) (type-free top taken js t first.1) in
    let own = and_parts (not (same t.0 alias_type)) (not (lists t.0 taken)) free.0 in
    let rest = apart-push t.0 taken after.0 later.1 in (
      ap names_apart (sym whole) ∙ one_more t after.0 (not-true (same t.0 alias_type) own.0) rest.1 later.0,
      ap (apart_from taken) (sym whole) ∙ and_from _ _ own.1 rest.0,
    )

-- the names of a registry's types differ, and none is that of alias documents
pub names-apart : (top : Ver) (items : List Js) (ts : Keyed (Known Op)) → types_after top [] items ≡ Ok ts → names_apart ts ≡ true
names-apart top items ts h = (types_apart top [] items ts h).0

-- ---- one type more

onto-more : {B : Type 0} (done : List B) (y : B) (rest : Read (List B)) → onto (done ++ y ∷ []) rest ≡ onto done (read_then rest (λ ys. Ok (y ∷ ys)))
onto-more done y (Ok ys) = ap (λ (all : List _). Ok all) (append_assoc done (y ∷ []) ys)
onto-more done y (Err e) = refl

pub one_type : (top : Ver) (names : List Text) (types : Keyed (Known Op)) (t : Text × Known Op) (js : Js) (left : List Js) (whole : Read (Keyed (Known Op)))
    → type_in top names js ≡ Ok t → onto types (types_after top names (js ∷ left)) ≡ whole → onto (types ++ t ∷ []) (types_after top (names ++ t.0 ∷ []) left) ≡ whole
one_type top names types t js left whole is h =
    let inner : read_then (type_in top names js) (λ u. read_then (types_after top (names ++ u.0 ∷ []) left) (λ rest. Ok (u ∷ rest))) ≡ read_then (types_after top (names ++ t.0 ∷ []) left) (λ rest. Ok (t ∷ rest)) = ap (λ (r : Read (Text × Known Op)). read_then r (λ u. read_then (types_after top (names ++ u.0 ∷ []) left) (λ rest. Ok (u ∷ rest)))) is in
    onto-more types t (types_after top (names ++ t.0 ∷ []) left) ∙ sym (ap (onto types) inner) ∙ h

pub names-push : (types : Keyed (Known Op)) (t : Text × Known Op) → type_names (types ++ t ∷ []) ≡ type_names types ++ t.0 ∷ []
names-push [] t = refl
names-push (u ∷ types) t = ap (λ (ns : List Text). u.0 ∷ ns) (names-push types t)
