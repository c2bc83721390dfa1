-- The outputs of a document whose id changes, part by part.
use Rattle.std.proofs.Common.{◌≡◌, List, [], ◌∷◌, Option, Some, None, true, refl}
use Rattle.base_model.specs.Keyed.{Text}
use Rattle.document_model.specs.Documents.{Doc, joined, default_space, id_of}
use Rattle.document_model.specs.Migrations.{shared_over, shared_doc, alias_raw}
use Rattle.share_ids.specs.Ids.{alias_doc, new_id}
use Rattle.so_js.specs.declared.js.Js.{Js}
use Rattle.version_token.specs.declared.Ver.{Ver}
use Rattle.doc_transform.specs.Transforming.{effects, started, all_of, changed_over}

-- in a space of its own
pub share-in : (version : Ver) (space raw : Text) (doc : Doc Js) (all : List (Text × Doc Js)) (p q : Text × Doc Js) (old new first : Text) (lying : Doc Js)
    → all ≡ p ∷ q ∷ [] → p ≡ (first, lying) → q ≡ (alias_raw space doc.type_name old, alias_doc version space doc.type_name old new)
    → first ≡ joined doc.type_name new → lying ≡ shared_doc doc space (Some old) → new ≡ new_id space doc.type_name old → old ≡ id_of raw doc
    → all ≡ all_of (shared_over effects version (Some space) (started raw doc))
share-in version space raw doc all p q old new first lying a b c d e f g = rw (a, b, c, d, e, f, g) refl

-- in the default space
pub share-default : (raw first : Text) (doc lying : Doc Js) (all : List (Text × Doc Js)) (p : Text × Doc Js) (space : Text) (origin : Option Text)
    → all ≡ p ∷ [] → p ≡ (first, lying) → first ≡ raw → lying ≡ shared_doc doc space origin → space ≡ default_space → origin ≡ doc.origin
    → all ≡ (raw, shared_doc doc default_space doc.origin) ∷ []
share-default raw first doc lying all p space origin a b c d e f = rw (a, b, c, d, e, f) refl

pub share-none : (version : Ver) (raw : Text) (doc : Doc Js) (all : List (Text × Doc Js)) → doc.namespace ≡ None
    → all ≡ (raw, shared_doc doc default_space doc.origin) ∷ [] → all ≡ changed_over true version raw doc
share-none version raw doc all none is = rw (is, none) refl
