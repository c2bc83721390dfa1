-- The tree of a document is sound.
use Rattle.std.proofs.Common.{◌≡◌, ◌∷◌, [], List, map, Option, Some, None, option_map, true, false, not, Ordering, Less, Equal, Greater, refl, sym, ap, ◌∙◌, true≢false, inl, inr}
use Rattle.std.specs.Prelude.{codes}
use Rattle.std.specs.List.{list_all}
use Rattle.std.specs.Str.{bytes_eq}
use Rattle.std.specs.Ordering.{nat_cmp, is_lt, is_eq, ordering_reverse}
use Rattle.std.specs.Cmp.Lexicographic.{slice_cmp, nat_list_cmp_total}
use Rattle.std.proofs.lemmas.Bool.{cases_Bool, and_parts, and_from}
use Rattle.std.proofs.lemmas.Map.Text.{is_eq-slice_cmp}
use Rattle.base_model.specs.Keyed.{Text}
use Rattle.document_model.specs.Documents.{Doc}
use Rattle.document_model.specs.Names.{is_type_name}
use Rattle.document_model.specs.declared.reference.Ref.{Ref}
use Rattle.so_js.specs.Tree.{is_sound, are_rising, keys_of}
use Rattle.so_js.specs.Printing.{are_sound}
use Rattle.so_js.specs.declared.js.Js.{Js}
use Rattle.so_js.specs.declared.js.Js.TheVariants.{Str}
use Rattle.so_js.specs.declared.js.Member.{Member}
use Rattle.so_js.proofs.TreeLaws.{is_sound-Str, is_sound-Items, is_sound-Object, IsBelowAll, IsBelowAll-lower, is_Less, are_rising_parts}
use Rattle.version_token.specs.declared.Ver.{Ver}
use Rattle.saved_doc.specs.Stored.{if_there}
use Rattle.saved_doc.specs.Writing.{named, written, ver_js, ref_js, refs_js, spaces_js, table_beside, members_beside, placed, doc_js}
use Rattle.saved_doc.proofs.AgainLaws.{lacks, lacks-written, has_none-beside, other_keys, not-true, placed-before, placed-behind, list_all-placed}

-- ---- values

ref-sound : (r : Ref) → is_sound (ref_js r) ≡ true
ref-sound r =
    is_sound-Object (named (codes "id") (Str r.id) ∷ named (codes "name") (Str r.name) ∷ named (codes "type") (Str r.type_name) ∷ [])
    ∙ rw (is_sound-Str r.id, is_sound-Str r.name, is_sound-Str r.type_name) refl

all-sound : {A : Type 0} (js : A → Js) → ((x : A) → is_sound (js x) ≡ true) → (xs : List A) → are_sound (map js xs) ≡ true
all-sound js h [] = refl
all-sound js h (x ∷ xs) = and_from _ _ (h x) (all-sound js h xs)

refs-sound : (refs : List Ref) → is_sound (refs_js refs) ≡ true
refs-sound refs = is_sound-Items (map ref_js refs) ∙ all-sound ref_js ref-sound refs

spaces-sound : (spaces : List Text) → is_sound (spaces_js spaces) ≡ true
spaces-sound spaces = is_sound-Items (map Str spaces) ∙ all-sound Str is_sound-Str spaces

optional-sound : {A : Type 0} (js : A → Js) → ((x : A) → is_sound (js x) ≡ true) → (o : Option A) → if_there is_sound (option_map js o) ≡ true
optional-sound js h None = refl
optional-sound js h (Some x) = h x

ver-sound : (v : Ver) → is_sound (ver_js v) ≡ true
ver-sound v = is_sound-Str _

table-sound : (d : Doc Js) → list_all (λ e. if_there is_sound e.1) (table_beside d) ≡ true
table-sound d =
    and_from _ _ (optional-sound ver_js ver-sound d.core)
    (and_from _ _ (optional-sound Str is_sound-Str d.namespace)
    (and_from _ _ (optional-sound spaces_js spaces-sound d.namespaces)
    (and_from _ _ (optional-sound Str is_sound-Str d.origin)
    (and_from _ _ (refs-sound d.references)
    (and_from _ _ (is_sound-Str d.type_name)
    (and_from _ _ (optional-sound ver_js ver-sound d.stamp)
    (and_from _ _ (optional-sound Str is_sound-Str d.updated_at) refl)))))))

values-sound : (table : List (Text × Option Js)) → list_all (λ e. if_there is_sound e.1) table ≡ true → list_all (λ m. is_sound m.value) (written table) ≡ true
values-sound [] h = refl
values-sound ((k, None) ∷ table) h = values-sound table h
values-sound ((k, Some v) ∷ table) h = and_from _ _ (and_parts _ _ h).0 (values-sound table (and_parts _ _ h).1)

-- ---- keys

abbrev table_keys : List (Text × Option Js) → List Text
table_keys table = map (λ e. e.0) table

rising_from : (k : Text) (more : List Text) → IsBelowAll k more → are_rising more ≡ true → are_rising (k ∷ more) ≡ true
rising_from k [] below rising = refl
rising_from k (l ∷ more) below rising = and_from _ _ (ap is_lt below.0) rising

below-written : (k : Text) (table : List (Text × Option Js)) → IsBelowAll k (table_keys table) → IsBelowAll k (keys_of (written table))
below-written k [] h = tt
below-written k ((j, None) ∷ table) h = below-written k table h.1
below-written k ((j, Some v) ∷ table) h = (h.0, below-written k table h.1)

rising-written : (table : List (Text × Option Js)) → are_rising (table_keys table) ≡ true → are_rising (keys_of (written table)) ≡ true
rising-written [] h = refl
rising-written ((j, None) ∷ table) h = rising-written table (are_rising_parts j (table_keys table) h).1
rising-written ((j, Some v) ∷ table) h =
    let parts = are_rising_parts j (table_keys table) h in
    rising_from j (keys_of (written table)) (below-written j table parts.0) (rising-written table parts.1)

below-placed : (k : Text) (m : Member Js) (ns : List (Member Js)) → slice_cmp nat_cmp k m.key ≡ Less → IsBelowAll k (keys_of ns) → IsBelowAll k (keys_of (placed m ns))
below-placed k m [] first below = (first, tt)
below-placed k m (n ∷ ns) first below = elim (cases_Bool (is_lt (slice_cmp nat_cmp m.key n.key))) [
  | inl before ↦ rw (placed-before m n ns before) (first, below)
  | inr behind ↦ rw (placed-behind m n ns behind) (below.0, below-placed k m ns first below.1)
]

-- a key that is neither below another nor the same is above it
is_above : (m n : Text) (order : Ordering) → slice_cmp nat_cmp n m ≡ order → is_lt (slice_cmp nat_cmp m n) ≡ false → bytes_eq n m ≡ false → order ≡ Less
is_above m n Less is behind other = refl
is_above m n Equal is behind other = absurd (true≢false (sym (sym (is_eq-slice_cmp n m) ∙ ap is_eq is) ∙ other))
is_above m n Greater is behind other = absurd (true≢false (sym (ap is_lt (nat_list_cmp_total.antisymm m n ∙ ap ordering_reverse is)) ∙ behind))

rising-placed : (m : Member Js) (ns : List (Member Js)) → lacks m.key ns ≡ true → are_rising (keys_of ns) ≡ true → are_rising (keys_of (placed m ns)) ≡ true
rising-placed m [] none rising = refl
rising-placed m (n ∷ ns) none rising =
    let parts = are_rising_parts n.key (keys_of ns) rising in
    let others = and_parts (not (bytes_eq n.key m.key)) (lacks m.key ns) none in
    elim (cases_Bool (is_lt (slice_cmp nat_cmp m.key n.key))) [
      | inl before ↦
          let first = is_Less (slice_cmp nat_cmp m.key n.key) before in
          rw (placed-before m n ns before) (rising_from m.key (keys_of (n ∷ ns)) (first, IsBelowAll-lower m.key n.key (keys_of ns) first parts.0) rising)
      | inr behind ↦
          let first : slice_cmp nat_cmp n.key m.key ≡ Less = is_above m.key n.key (slice_cmp nat_cmp n.key m.key) refl behind (not-true (bytes_eq n.key m.key) others.0) in
          rw (placed-behind m n ns behind) (rising_from n.key (keys_of (placed m ns)) (below-placed n.key m ns first parts.0) (rising-placed m ns others.1 parts.1))
    ]

table-rising : (d : Doc Js) → are_rising (table_keys (table_beside d)) ≡ true
table-rising d = refl

-- the tree of a document with a type name and sound attributes
pub is_sound-doc_js : (d : Doc Js) → is_type_name d.type_name ≡ true → is_sound d.attributes ≡ true → is_sound (doc_js d) ≡ true
is_sound-doc_js d name attributes =
    let none = lacks-written d.type_name (table_beside d) (has_none-beside d (other_keys d.type_name name)) in
    let own = named d.type_name d.attributes in
    is_sound-Object (placed own (members_beside d))
    ∙ and_from _ _ (list_all-placed (λ m. is_sound m.value) own (members_beside d) attributes (values-sound (table_beside d) (table-sound d)))
    (rising-placed own (members_beside d) none (rising-written (table_beside d) (table-rising d)))
