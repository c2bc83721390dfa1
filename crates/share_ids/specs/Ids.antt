-- Ids of objects that become shareable, and the documents that lead from their old ids.
use Rattle.std.specs.Prelude.{ℕ, List, [], ◌∷◌, ◌++◌, map, take, codes}
use Rattle.sha1.specs.Sha1.{sha1}
use Rattle.uuid.specs.Parts.{with_version, with_variant}
use Rattle.uuid.specs.Text.{hyphenated_text, lower}
use Rattle.uuid.specs.declared.Version.TheVariants.{Sha1}
use Rattle.uuid.specs.declared.Variant.TheVariants.{RFC4122}
use Rattle.base_model.specs.Keyed.{Text, Keyed}
use Rattle.document_model.specs.Documents.{Doc, joined}
use Rattle.document_model.specs.Migrations.{Transforms, alias_doc as alias_by}
use Rattle.so_js.specs.declared.js.Js.{Js}
use Rattle.so_js.specs.declared.js.Js.TheVariants.{Str, Object}
use Rattle.so_js.specs.declared.js.Member.{Member}
use Rattle.version_token.specs.declared.Ver.{Ver}

-- the namespace 6ba7b810-9dad-11d1-80b4-00c04fd430c8 of RFC 9562
abbrev pub dns_namespace : List ℕ
dns_namespace = 0x6b ∷ 0xa7 ∷ 0xb8 ∷ 0x10 ∷ 0x9d ∷ 0xad ∷ 0x11 ∷ 0xd1 ∷ 0x80 ∷ 0xb4 ∷ 0x00 ∷ 0xc0 ∷ 0x4f ∷ 0xd4 ∷ 0x30 ∷ 0xc8 ∷ []

-- the text of the UUID version 5 of a name under that namespace
abbrev pub id_of_name : Text → Text
id_of_name name = hyphenated_text lower (with_version (with_variant (take 16 (sha1 (dns_namespace ++ name))) RFC4122) Sha1)

-- the id of an object that becomes shareable, by its space, its type and its old id
abbrev pub new_id : (space name id : Text) → Text
new_id space name id = id_of_name (joined space (joined name id))

abbrev pub text_member : Text × Text → Member Js
text_member e = record { key = e.0; value = Str e.1 }

-- an object of texts
abbrev pub texts_js : Keyed Text → Js
texts_js texts = Object (map text_member texts)

-- what migrating does with attributes and ids, where `apply` is the effect of an operation
abbrev pub transforms : {O : Type 0} → (O → Js → Js) → Transforms Js O
transforms apply = record { apply = apply; texts = texts_js; new_id = new_id }

-- the attributes of that document
abbrev pub alias_texts : (space name old new : Text) → Keyed Text
alias_texts space name old new = (codes "sourceId", old) ∷ (codes "targetId", new) ∷ (codes "targetNamespace", space) ∷ (codes "targetType", name) ∷ []

abbrev pub alias_attributes : (space name old new : Text) → Js
alias_attributes space name old new = texts_js (alias_texts space name old new)

-- the document that leads from an old id to a new one, which no operation changes
abbrev pub alias_doc : Ver → (space name old new : Text) → Doc Js
alias_doc version space name old new = alias_by (transforms {O = Js} (λ _ js. js)) version space name old new
