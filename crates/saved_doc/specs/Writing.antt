-- The tree of a document.
use Rattle.std.specs.Prelude.{ℕ, suc, List, [], ◌∷◌, ◌++◌, map, codes, Option, Some, None, option_map, insert, if◌then◌else◌}
use Rattle.std.specs.Ordering.{nat_cmp, is_lt}
use Rattle.std.specs.Cmp.Lexicographic.{slice_cmp}
use Rattle.base_model.specs.Keyed.{Text}
use Rattle.document_model.specs.Documents.{Doc}
use Rattle.document_model.specs.declared.reference.Ref.{Ref}
use Rattle.so_js.specs.declared.js.Js.{Js}
use Rattle.so_js.specs.declared.js.Js.TheVariants.{Str, Items, Object}
use Rattle.so_js.specs.declared.js.Member.{Member}
use Rattle.version_token.specs.Version.{ver_text}
use Rattle.version_token.specs.declared.Ver.{Ver}

abbrev pub named : Text → Js → Member Js
named key value = record { key = key; value = value }

-- a member that is written where it has a value
abbrev pub if_some : Text → Option Js → List (Member Js)
if_some key None = []
if_some key (Some value) = named key value ∷ []

abbrev pub ver_js : Ver → Js
ver_js v = Str (ver_text v)

abbrev pub ref_js : Ref → Js
ref_js r = Object (named (codes "id") (Str r.id) ∷ named (codes "name") (Str r.name) ∷ named (codes "type") (Str r.type_name) ∷ [])

abbrev pub refs_js : List Ref → Js
refs_js refs = Items (map ref_js refs)

abbrev pub spaces_js : List Text → Js
spaces_js spaces = Items (map Str spaces)

-- the members beside the attributes, in order of key
abbrev pub table_beside : Doc Js → List (Text × Option Js)
table_beside d =
    (codes "coreMigrationVersion", option_map ver_js d.core)
    ∷ (codes "namespace", option_map Str d.namespace)
    ∷ (codes "namespaces", option_map spaces_js d.namespaces)
    ∷ (codes "originId", option_map Str d.origin)
    ∷ (codes "references", Some (refs_js d.references))
    ∷ (codes "type", Some (Str d.type_name))
    ∷ (codes "typeMigrationVersion", option_map ver_js d.stamp)
    ∷ (codes "updated_at", option_map Str d.updated_at)
    ∷ []

-- those that have a value
abbrev pub written : List (Text × Option Js) → List (Member Js)
written [] = []
written (e ∷ table) = if_some e.0 e.1 ++ written table

abbrev pub members_beside : Doc Js → List (Member Js)
members_beside d = written (table_beside d)

-- the place of the first member whose key is above this one, or behind them all
abbrev pub place_among : Text → List (Member Js) → ℕ
place_among key [] = 0
place_among key (n ∷ ns) = if is_lt (slice_cmp nat_cmp key n.key) then 0 else suc (place_among key ns)

-- with a member at its place in the order of keys
abbrev pub placed : Member Js → List (Member Js) → List (Member Js)
placed m ns = insert ns (place_among m.key ns) m

-- the tree of a document: an object with the attributes under the name of the type, its members in order of key
abbrev pub doc_js : Doc Js → Js
doc_js d = Object (placed (named d.type_name d.attributes) (members_beside d))
