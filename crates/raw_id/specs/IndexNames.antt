-- The names of a version's indices and aliases.
use Rattle.std.specs.Prelude.{◌≡◌, ℕ, Bool, true, ◌==◌, ◌&&◌, nat_le, [], ◌∷◌, ◌++◌, length, codes, Option, Some, None, option_map, option_and_then, if◌then◌else◌}
use Rattle.std.specs.Char.{is_ascii_digit}
use Rattle.std.specs.List.{list_all}
use Rattle.base_model.specs.Keyed.{Text}
use Rattle.document_model.specs.Documents.{after}
use Rattle.version_token.specs.declared.Ver.{Ver}
use Rattle.version_token.specs.Version.{ver_of, ver_text, IsVer}

-- the alias of the index that is current
abbrev pub current_alias : Text
current_alias = codes ".kibana"

-- what the names of a version begin with
abbrev pub front : Text
front = codes ".kibana_"

-- the alias of a version
abbrev pub version_alias : Ver → Text
version_alias v = front ++ ver_text v

-- the index that a version moves its documents to
abbrev pub target : Ver → Text
target v = front ++ (ver_text v ++ codes "_001")

-- the index in which a version gathers its documents
abbrev pub temp : Ver → Text
temp v = front ++ (ver_text v ++ codes "_reindex_temp")

-- one or more digits
abbrev pub are_digits : Text → Bool
are_digits text = nat_le 1 (length text) && list_all is_ascii_digit text

-- `_`
abbrev pub underscore : ℕ
underscore = 95

abbrev pub cut_behind : ℕ → Option (Text × Text) → Option (Text × Text)
cut_behind b = option_map (λ parts. (b ∷ parts.0, parts.1))

-- what stands before and after the first byte c
unfoldable pub cut : ℕ → Text → Option (Text × Text)
cut c [] = None
cut c (b ∷ text) = if b == c then Some ([], text) else cut_behind b (cut c text)

-- a version, where digits follow it
abbrev pub version_of_parts : Text × Text → Option Ver
version_of_parts parts = if are_digits parts.1 then ver_of parts.0 else None

-- what stands before and after the first `_` that follows the front
unfoldable pub name_parts : Text → Option (Text × Text)
name_parts name = option_and_then (cut underscore) (after front name)

-- the version of an index name
unfoldable pub version_in : Text → Option Ver
version_in name = option_and_then version_of_parts (name_parts name)

-- the name is the front, this version, `_` and digits
abbrev pub HasVersion : Text → Ver → Type 0
HasVersion name v = (digits : Text) × (are_digits digits ≡ true) × IsVer v × (name ≡ front ++ (ver_text v ++ (underscore ∷ digits)))
