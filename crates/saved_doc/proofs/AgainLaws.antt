-- A document that is written reads back.
use Rattle.std.proofs.Common.{◌≡◌, ◌∷◌, [], List, find, Option, Some, None, option_map, Bool, true, false, not, refl, sym, ap, ◌∙◌, if◌then◌else◌, true≢false}
use Rattle.std.specs.Prelude.{codes}
use Rattle.std.specs.List.{list_all}
use Rattle.std.specs.Str.{bytes_eq}
use Rattle.std.proofs.lemmas.Bool.{cases_Bool, and_parts, and_from, or_parts, or_left, or_right}
use Rattle.std.proofs.Common.{inl, inr}
use Rattle.std.proofs.lemmas.Slice.Eq.{bytes_eq-Decides}
use Rattle.std.specs.Ordering.{nat_cmp, is_lt}
use Rattle.std.specs.Cmp.Lexicographic.{slice_cmp}
use Rattle.base_model.specs.Keyed.{Text}
use Rattle.document_model.specs.Documents.{Doc}
use Rattle.document_model.specs.Names.{is_type_name, is_document_member}
use Rattle.so_js.specs.Tree.{member_of}
use Rattle.so_js.specs.declared.js.Js.{Js}
use Rattle.so_js.specs.declared.js.Member.{Member}
use Rattle.saved_doc.specs.Reading.{is_known_key, only_known}
use Rattle.saved_doc.specs.Writing.{named, written, table_beside, members_beside, placed, doc_js}
use Rattle.saved_doc.proofs.TreeForms.{members_in-Object}

-- ---- the value under a key

abbrev pub value_at : Text → List (Member Js) → Option Js
value_at key ms = option_map (λ m. m.value) (find (λ m. bytes_eq m.key key) ms)

abbrev pub or_next : Option Js → Option Js → Option Js
or_next None next = next
or_next (Some v) next = Some v

-- the value that a table has under a key
abbrev pub value_in : Text → List (Text × Option Js) → Option Js
value_in key [] = None
value_in key (e ∷ table) = if bytes_eq e.0 key then or_next e.1 (value_in key table) else value_in key table

pub value_at-written : (key : Text) (table : List (Text × Option Js)) → value_at key (written table) ≡ value_in key table
value_at-written key [] = refl
value_at-written key ((k, None) ∷ table) = elim (cases_Bool (bytes_eq k key)) [
  | inl same ↦ rw same (value_at-written key table)
  | inr other ↦ rw other (value_at-written key table)
]
value_at-written key ((k, Some v) ∷ table) = elim (cases_Bool (bytes_eq k key)) [
  | inl same ↦ rw same refl
  | inr other ↦ rw other (value_at-written key table)
]

-- the table has no such key
abbrev pub has_none : Text → List (Text × Option Js) → Bool
has_none key table = list_all (λ e. not (bytes_eq e.0 key)) table

-- the members have no such key
abbrev pub lacks : Text → List (Member Js) → Bool
lacks key ms = list_all (λ m. not (bytes_eq m.key key)) ms

pub lacks-written : (key : Text) (table : List (Text × Option Js)) → has_none key table ≡ true → lacks key (written table) ≡ true
lacks-written key [] h = refl
lacks-written key ((k, None) ∷ table) h = lacks-written key table (and_parts _ _ h).1
lacks-written key ((k, Some v) ∷ table) h = and_from _ _ (and_parts _ _ h).0 (lacks-written key table (and_parts _ _ h).1)

-- ---- a member at its place, one step at a time

pub placed-before : (m n : Member Js) (ns : List (Member Js)) → is_lt (slice_cmp nat_cmp m.key n.key) ≡ true → placed m (n ∷ ns) ≡ m ∷ n ∷ ns
placed-before m n ns h = rw h refl

pub placed-behind : (m n : Member Js) (ns : List (Member Js)) → is_lt (slice_cmp nat_cmp m.key n.key) ≡ false → placed m (n ∷ ns) ≡ n ∷ placed m ns
placed-behind m n ns h = rw h refl

-- whether each member passes a test
pub list_all-placed : (test : Member Js → Bool) (m : Member Js) (ns : List (Member Js)) → test m ≡ true → list_all test ns ≡ true → list_all test (placed m ns) ≡ true
list_all-placed test m [] own others = and_from _ _ own refl
list_all-placed test m (n ∷ ns) own others = elim (cases_Bool (is_lt (slice_cmp nat_cmp m.key n.key))) [
  | inl before ↦ rw (placed-before m n ns before) (and_from _ _ own others)
  | inr behind ↦ rw (placed-behind m n ns behind) (and_from _ _ (and_parts _ _ others).0 (list_all-placed test m ns own (and_parts _ _ others).1))
]

pub not-true : (b : Bool) → not b ≡ true → b ≡ false
not-true true h = cc h
not-true false h = refl

-- the value under another key
pub value_at-other : (key : Text) (m : Member Js) (ns : List (Member Js)) → bytes_eq m.key key ≡ false → value_at key (placed m ns) ≡ value_at key ns
value_at-other key m [] h = rw h refl
value_at-other key m (n ∷ ns) h = elim (cases_Bool (is_lt (slice_cmp nat_cmp m.key n.key))) [
  | inl before ↦ rw (placed-before m n ns before, h) refl
  | inr behind ↦ elim (cases_Bool (bytes_eq n.key key)) [
    | inl same ↦ rw (placed-behind m n ns behind, same) refl
    | inr other ↦ rw (placed-behind m n ns behind, other) (value_at-other key m ns h)
  ]
]

bytes_eq-own : (text : Text) → bytes_eq text text ≡ true
bytes_eq-own text = (bytes_eq-Decides text text).1 refl

-- the value under its own key
pub value_at-own : (m : Member Js) (ns : List (Member Js)) → lacks m.key ns ≡ true → value_at m.key (placed m ns) ≡ Some m.value
value_at-own m [] h = rw (bytes_eq-own m.key) refl
value_at-own m (n ∷ ns) h = elim (cases_Bool (is_lt (slice_cmp nat_cmp m.key n.key))) [
  | inl before ↦ rw (placed-before m n ns before, bytes_eq-own m.key) refl
  | inr behind ↦ rw (placed-behind m n ns behind, not-true (bytes_eq n.key m.key) (and_parts _ _ h).0) (value_at-own m ns (and_parts _ _ h).1)
]

-- ---- the keys of the members beside the attributes

bytes_eq-comm : (a b : Text) → bytes_eq a b ≡ false → bytes_eq b a ≡ false
bytes_eq-comm a b h = elim (cases_Bool (bytes_eq b a)) [
  | inl same ↦ absurd (true≢false (sym (ap (bytes_eq a) ((bytes_eq-Decides b a).0 same) ∙ bytes_eq-own a) ∙ h))
  | inr other ↦ other
]

differs : (key name : Text) → bytes_eq name key ≡ false → not (bytes_eq key name) ≡ true
differs key name h = rw (bytes_eq-comm name key h) refl

-- a type's name is the name of no other member
pub is_no_member : (name : Text) → is_type_name name ≡ true → is_document_member name ≡ false
unfolding is_type_name
is_no_member name h = not-true (is_document_member name) (and_parts _ _ h).1

-- each member but the attributes has another key than they
pub record HasOther (name : Text) : Type 0 where
  pub type_name : bytes_eq name (codes "type") ≡ false
  pub references : bytes_eq name (codes "references") ≡ false
  pub namespace : bytes_eq name (codes "namespace") ≡ false
  pub namespaces : bytes_eq name (codes "namespaces") ≡ false
  pub older : bytes_eq name (codes "migrationVersion") ≡ false
  pub core : bytes_eq name (codes "coreMigrationVersion") ≡ false
  pub newer : bytes_eq name (codes "typeMigrationVersion") ≡ false
  pub updated_at : bytes_eq name (codes "updated_at") ≡ false
  pub origin : bytes_eq name (codes "originId") ≡ false

others : (name : Text) → is_document_member name ≡ false → HasOther name
unfolding is_document_member
others name h =
    let a = or_parts (bytes_eq name (codes "type")) _ h in
    let b = or_parts (bytes_eq name (codes "references")) _ a.1 in
    let c = or_parts (bytes_eq name (codes "namespace")) _ b.1 in
    let d = or_parts (bytes_eq name (codes "namespaces")) _ c.1 in
    let e = or_parts (bytes_eq name (codes "migrationVersion")) _ d.1 in
    let f = or_parts (bytes_eq name (codes "coreMigrationVersion")) _ e.1 in
    let g = or_parts (bytes_eq name (codes "typeMigrationVersion")) _ f.1 in
    let i = or_parts (bytes_eq name (codes "updated_at")) _ g.1 in
    let j = or_parts (bytes_eq name (codes "originId")) _ i.1 in
    record { type_name = a.0; references = b.0; namespace = c.0; namespaces = d.0; older = e.0; core = f.0; newer = g.0; updated_at = i.0; origin = j.0 }

pub other_keys : (name : Text) → is_type_name name ≡ true → HasOther name
other_keys name h = others name (is_no_member name h)

pub has_none-beside : (d : Doc Js) → HasOther d.type_name → has_none d.type_name (table_beside d) ≡ true
has_none-beside d h =
    and_from _ _ (differs (codes "coreMigrationVersion") d.type_name h.core)
    (and_from _ _ (differs (codes "namespace") d.type_name h.namespace)
    (and_from _ _ (differs (codes "namespaces") d.type_name h.namespaces)
    (and_from _ _ (differs (codes "originId") d.type_name h.origin)
    (and_from _ _ (differs (codes "references") d.type_name h.references)
    (and_from _ _ (differs (codes "type") d.type_name h.type_name)
    (and_from _ _ (differs (codes "typeMigrationVersion") d.type_name h.newer)
    (and_from _ _ (differs (codes "updated_at") d.type_name h.updated_at) refl)))))))

-- ---- all members are known

list_all-weaker : {A : Type 0} (p q : A → Bool) → ((x : A) → p x ≡ true → q x ≡ true) → (xs : List A) → list_all p xs ≡ true → list_all q xs ≡ true
list_all-weaker p q f [] h = refl
list_all-weaker p q f (x ∷ xs) h = and_from _ _ (f x (and_parts _ _ h).0) (list_all-weaker p q f xs (and_parts _ _ h).1)

list_all-written : (test : Text → Bool) (table : List (Text × Option Js)) → list_all (λ e. test e.0) table ≡ true → list_all (λ m. test m.key) (written table) ≡ true
list_all-written test [] h = refl
list_all-written test ((k, None) ∷ table) h = list_all-written test table (and_parts _ _ h).1
list_all-written test ((k, Some v) ∷ table) h = and_from _ _ (and_parts _ _ h).0 (list_all-written test table (and_parts _ _ h).1)

beside_is_known : (d : Doc Js) → list_all (λ e. is_document_member e.0) (table_beside d) ≡ true
unfolding is_document_member
beside_is_known d = refl

pub only_known-doc_js : (d : Doc Js) → only_known d.type_name (doc_js d) ≡ true
only_known-doc_js d =
    let test : Text → Bool = is_known_key d.type_name in
    let known : (e : Text × Option Js) → is_document_member e.0 ≡ true → test e.0 ≡ true = λ e h. or_right (bytes_eq e.0 d.type_name) (is_document_member e.0) h in
    let beside = list_all-written test (table_beside d) (list_all-weaker (λ e. is_document_member e.0) (λ e. test e.0) known (table_beside d) (beside_is_known d)) in
    let own : test d.type_name ≡ true = or_left (bytes_eq d.type_name d.type_name) (is_document_member d.type_name) (bytes_eq-own d.type_name) in
    ap (list_all (λ m. test m.key)) (members_in-Object (placed (named d.type_name d.attributes) (members_beside d)))
    ∙ list_all-placed (λ m. test m.key) (named d.type_name d.attributes) (members_beside d) own beside

-- ---- the members of the written tree

pub member_of-beside : (key : Text) (d : Doc Js) → bytes_eq d.type_name key ≡ false → member_of key (doc_js d) ≡ value_in key (table_beside d)
member_of-beside key d h =
    ap (value_at key) (members_in-Object (placed (named d.type_name d.attributes) (members_beside d)))
    ∙ value_at-other key (named d.type_name d.attributes) (members_beside d) h
    ∙ value_at-written key (table_beside d)

pub member_of-own : (d : Doc Js) → HasOther d.type_name → member_of d.type_name (doc_js d) ≡ Some d.attributes
member_of-own d h =
    ap (value_at d.type_name) (members_in-Object (placed (named d.type_name d.attributes) (members_beside d)))
    ∙ value_at-own (named d.type_name d.attributes) (members_beside d) (lacks-written d.type_name (table_beside d) (has_none-beside d h))

pub or_next-None : (o : Option Js) → or_next o None ≡ o
or_next-None None = refl
or_next-None (Some v) = refl
