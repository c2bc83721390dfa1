-- Names of types.
use Rattle.std.specs.Prelude.{ℕ, Bool, not, ◌&&◌, ◌||◌, ◌==◌, nat_le, List, [], ◌∷◌, length, codes}
use Rattle.std.specs.List.{list_all, list_any}
use Rattle.std.specs.Str.{bytes_eq}
use Rattle.base_model.specs.Keyed.{Text}

-- A-Z, a-z, 0-9, `_`, `-` or `.`
abbrev pub is_name_byte : ℕ → Bool
is_name_byte b = (nat_le 65 b && nat_le b 90) || (nat_le 97 b && nat_le b 122) || (nat_le 48 b && nat_le b 57) || b == 95 || b == 45 || b == 46

-- the members of a stored document beside its attributes
abbrev pub document_members : List Text
document_members =
    codes "type" ∷ codes "references" ∷ codes "namespace" ∷ codes "namespaces" ∷ codes "migrationVersion" ∷ codes "coreMigrationVersion" ∷ codes "typeMigrationVersion" ∷ codes "updated_at" ∷ codes "originId" ∷ []

-- one of them
unfoldable pub is_document_member : Text → Bool
is_document_member name = list_any (λ member. bytes_eq name member) document_members

-- 1 to 128 bytes, each one that a type name may have, and no member of a document beside its attributes
unfoldable pub is_type_name : Text → Bool
is_type_name name = nat_le 1 (length name) && nat_le (length name) 128 && list_all is_name_byte name && not (is_document_member name)
