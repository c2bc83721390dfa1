-- Registries: the types that are known, and the form of their documents.
use Rattle.std.specs.Prelude.{Bool, true, false, ◌&&◌, not, List, [], ◌∷◌, codes, Option, Some, None, is_none, is_some, if◌then◌else◌}
use Rattle.base_model.specs.Keyed.{Text, same, Keyed, at}
use Rattle.space_scope.specs.declared.kind.Kind.{Kind}
use Rattle.space_scope.specs.declared.kind.Kind.TheVariants.{Single, Multiple, MultipleIsolated, Agnostic}
use Rattle.version_token.specs.declared.Ver.{Ver}
use Rattle.document_model.specs.Documents.{ver_lt, below, lists, Doc, front, after}

-- what a registry knows of a type, with operations of type O
pub record Known (O : Type 0) : Type 0 where
  pub kind : Kind
  -- the version at which its objects became shareable, for multiple kinds
  pub shareable_at : Option Ver
  -- its migrations: versions that rise, each with its operations
  pub steps : List (Ver × List O)

-- the types that a version of the product knows, and the names of those that it removed
pub record Registry (O : Type 0) : Type 0 where
  pub version : Ver
  pub types : Keyed (Known O)
  pub removed : List Text

-- the type of the documents that stand for old ids
abbrev pub alias_type : Text
alias_type = codes "legacy-url-alias"

-- what is known of a type; the type of alias documents is always known
unfoldable pub known : {O : Type 0} → Registry O → Text → Option (Known O)
known reg name = if same name alias_type then Some (record { kind = Agnostic; shareable_at = None; steps = [] }) else at name reg.types

-- the names of types
abbrev pub type_names : {O : Type 0} → Keyed (Known O) → List Text
type_names [] = []
type_names (t ∷ ts) = t.0 ∷ type_names ts

-- no type's name stands twice, nor that of alias documents
unfoldable pub names_apart : {O : Type 0} → Keyed (Known O) → Bool
names_apart [] = true
names_apart (t ∷ ts) = not (same t.0 alias_type) && not (lists t.0 (type_names ts)) && names_apart ts

-- the greater of two versions
abbrev pub greater : Option Ver → Ver → Ver
greater None v = v
greater (Some u) v = if ver_lt u v then v else u

unfoldable pub greatest : {O : Type 0} → Option Ver → List (Ver × List O) → Option Ver
greatest u [] = u
greatest u (s ∷ steps) = greatest (Some (greater u s.0)) steps

-- the latest version of a type: the greatest of `shareable_at` and its migrations' versions
abbrev pub latest : {O : Type 0} → Known O → Option Ver
latest t = greatest t.shareable_at t.steps

-- a stamp is above the latest version, or there is a stamp and no latest version
abbrev pub too_new : Option Ver → Option Ver → Bool
too_new None latest = false
too_new (Some s) None = true
too_new (Some s) (Some l) = ver_lt l s

-- there is an id that isn't empty
abbrev pub has_id : Option Text → Bool
has_id None = false
has_id (Some []) = false
has_id (Some (b ∷ id)) = true

-- the raw id is that of the document's type and its space
abbrev pub own_raw : {A : Type 0} → Text → Doc A → Bool
own_raw raw doc = has_id (after (front doc.namespace doc.type_name) raw)

-- in one space
abbrev pub fits_single : {A : Type 0} → Text → Doc A → Bool
fits_single raw doc = is_none doc.namespaces && own_raw raw doc

-- in a list of spaces
abbrev pub fits_shared : {A : Type 0} → Text → Doc A → Bool
fits_shared raw doc = is_some doc.namespaces && is_none doc.namespace && own_raw raw doc

-- the document was made or migrated when its type was shareable
abbrev pub is_shared : Option Ver → Option Ver → Bool
is_shared None stamp = true
is_shared (Some v) stamp = not (below stamp v)

abbrev pub fits_either : {A : Type 0} → Bool → Text → Doc A → Bool
fits_either true raw doc = fits_shared raw doc
fits_either false raw doc = fits_single raw doc

-- by kind; a document of a multiple kind that was left from before its type was shareable is as one of a single type
abbrev pub fits_kind : {A : Type 0} → Kind → Option Ver → Text → Doc A → Bool
fits_kind Single v raw doc = fits_single raw doc
fits_kind Agnostic v raw doc = is_none doc.namespace && fits_single raw doc
fits_kind Multiple v raw doc = fits_either (is_shared v doc.stamp) raw doc
fits_kind MultipleIsolated v raw doc = fits_either (is_shared v doc.stamp) raw doc

-- a document of a known type fits its raw id: its members suit its kind, and the raw id is its own with an id that isn't empty
abbrev pub fits : {A O : Type 0} → Known O → Text → Doc A → Bool
fits t raw doc = fits_kind t.kind t.shareable_at raw doc
