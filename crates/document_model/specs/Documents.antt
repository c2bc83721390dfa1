-- Documents, their raw ids, and the spaces where they are visible.
use Rattle.std.specs.Prelude.{◌≢◌, ℕ, Bool, true, false, ◌||◌, List, [], ◌∷◌, ◌++◌, codes, Option, Some, None, ◌==◌, nat_lt, if◌then◌else◌}
use Rattle.base_model.specs.Keyed.{Text, same}
use Rattle.space_scope.specs.declared.kind.Kind.{Kind}
use Rattle.space_scope.specs.declared.kind.Kind.TheVariants.{Single, Multiple, MultipleIsolated, Agnostic}
use Rattle.version_token.specs.declared.Ver.{Ver}
use Rattle.document_model.specs.declared.reference.Ref.{Ref}

-- one version is below another, number by number
unfoldable pub ver_lt : Ver → Ver → Bool
ver_lt a b =
    if nat_lt a.major b.major then true else if nat_lt b.major a.major then false else
    if nat_lt a.minor b.minor then true else if nat_lt b.minor a.minor then false else
    nat_lt a.patch b.patch

-- a version that is missing is below all
abbrev pub below : Option Ver → Ver → Bool
below None v = true
below (Some s) v = ver_lt s v

-- a document with attributes of type A
pub record Doc (A : Type 0) : Type 0 where
  pub type_name : Text
  pub attributes : A
  pub references : List Ref
  -- the one space of a single type's document, none in the default space
  pub namespace : Option Text
  -- the spaces of a document of a multiple kind
  pub namespaces : Option (List Text)
  -- the version of its type that it was last migrated to
  pub stamp : Option Ver
  -- the version of the product that wrote it
  pub core : Option Ver
  pub updated_at : Option Text
  -- the id that it had before it became shareable, or was imported with
  pub origin : Option Text

-- in a list of spaces this means all of them
abbrev pub everywhere : Text
everywhere = codes "*"

abbrev pub default_space : Text
default_space = codes "default"

abbrev pub or_default : Option Text → Text
or_default None = default_space
or_default (Some s) = s

-- a text stands in a list
unfoldable pub lists : Text → List Text → Bool
lists a [] = false
lists a (b ∷ bs) = if same a b then true else lists a bs

abbrev pub listed : Text → Option (List Text) → Bool
listed space None = false
listed space (Some spaces) = lists space spaces || lists everywhere spaces

-- a document of a type of this kind is visible in a space
abbrev pub visible : {A : Type 0} → Kind → Text → Doc A → Bool
visible Single space doc = same space (or_default doc.namespace)
visible Multiple space doc = listed space doc.namespaces
visible MultipleIsolated space doc = listed space doc.namespaces
visible Agnostic space doc = true

abbrev pub colon : ℕ
colon = 58

-- a text without a colon
unfoldable pub Plain : Text → Type 0
Plain [] = Unit {0}
Plain (b ∷ a) = (b ≢ colon) × Plain a

-- two texts with a colon between them
abbrev pub joined : Text → Text → Text
joined a b = a ++ (colon ∷ b)

abbrev pub raw_over : Bool → Text → Text → Text → Text
raw_over true space name id = joined name id
raw_over false space name id = joined space (joined name id)

-- the raw id of an object: `space:type:id` for a single type outside the default space, else `type:id`
abbrev pub raw_id : Kind → (space name id : Text) → Text
raw_id Single space name id = raw_over (same space default_space) space name id
raw_id _ space name id = joined name id

-- what follows a front in a text that begins with it
unfoldable pub after : Text → Text → Option Text
after [] x = Some x
after (a ∷ p) [] = None
after (a ∷ p) (b ∷ x) = if a == b then after p x else None

-- what a raw id begins with before the id
abbrev pub front : Option Text → Text → Text
front None name = joined name []
front (Some space) name = joined space (joined name [])

abbrev pub or_whole : Option Text → Text → Text
or_whole None raw = raw
or_whole (Some id) raw = id

-- the id of a row: what follows the front of its document, and the whole raw id where it doesn't begin so
abbrev pub id_of : {A : Type 0} → Text → Doc A → Text
id_of raw doc = or_whole (after (front doc.namespace doc.type_name) raw) raw
