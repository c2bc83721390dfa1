-- What the calls answer, in the words of the model.
use Rattle.std.specs.Prelude.{◌≡◌, is_some, Bool, true, false, List, [], ◌∷◌, map, Option, Some, None, option_and_then, if◌then◌else◌}
use Rattle.base_model.specs.Keyed.{Text}
use Rattle.base_model.specs.Outcomes.{Outcome}
use Rattle.base_model.specs.Outcomes.Outcome.{Removed as IsRemoved, Unknown as IsUnknown, TooNew as IsTooNew, Corrupt as IsCorrupt, Outputs as HasOutputs}
use Rattle.document_model.specs.Documents.{Doc, below}
use Rattle.document_model.specs.Migrations.{Transforms, Moved, all_ops, shared_over, moved_refs, with_references, with_attributes, stamped}
use Rattle.document_model.specs.Registries.{Known, Registry, latest, too_new}
use Rattle.so_js.specs.declared.js.Js.{Js}
use Rattle.so_js.specs.Tree.{is_sound, object_of}
use Rattle.share_ids.specs.Ids.{transforms}
use Rattle.transform_ops.specs.Effects.{applied}
use Rattle.transform_ops.specs.declared.op.Op.{Op}
use Rattle.type_registry.specs.Readers.{ops_known}
use Rattle.version_token.specs.declared.Ver.{Ver}
use Rattle.doc_transform.specs.declared.outcome.Lifted.{Lifted}
use Rattle.doc_transform.specs.declared.outcome.Lifted.TheVariants.{Attributes, TooNew as NoLift}
use Rattle.doc_transform.specs.declared.outcome.Migrated.{Migrated}
use Rattle.doc_transform.specs.declared.outcome.Migrated.TheVariants.{Outputs, TooNew, Corrupt, Unknown, Removed}
use Rattle.doc_transform.specs.declared.outcome.Output.{Output}

-- the effects of operations, and the ids of objects that become shareable
abbrev pub effects : Transforms Js Op
effects = transforms applied

abbrev pub pair_of : Output → Text × Doc Js
pair_of o = (o.raw, o.doc)

-- the outputs as raw ids and documents
abbrev pub pairs_of : List Output → List (Text × Doc Js)
pairs_of outputs = map pair_of outputs

-- an answer of `migrate` as the model's outcome
abbrev pub outcome_of : Migrated → Outcome (Doc Js)
outcome_of (Outputs outputs) = HasOutputs (pairs_of outputs)
outcome_of TooNew = IsTooNew
outcome_of Corrupt = IsCorrupt
outcome_of Unknown = IsUnknown
outcome_of Removed = IsRemoved

-- an answer of `lift` as attributes, or none where the stamp is too new
abbrev pub attributes_of : Lifted → Option Js
attributes_of (Attributes js) = Some js
attributes_of NoLift = None

-- attributes with all operations above their stamp, where the stamp isn't too new
abbrev pub lifted : Option (Known Op) → Option Ver → Js → Option Js
lifted found stamp js = if too_new stamp (option_and_then latest found) then None else Some (all_ops effects (ops_known stamp found) js)

-- lifted attributes are sound, and an object where the given ones are
abbrev pub lifted_is_sound : Js → Option Js → Type 0
lifted_is_sound old None = Unit {0}
lifted_is_sound old (Some new) = (is_sound new ≡ true) × (is_some (object_of new) ≡ is_some (object_of old))

-- ---- for private clauses

-- a document before its id change, with no other document
abbrev pub started : Text → Doc Js → Moved Js
started raw doc = record { raw = raw; doc = doc; others = [] }

-- the document with the others behind it
abbrev pub all_of : Moved Js → List (Text × Doc Js)
all_of m = (m.raw, m.doc) ∷ m.others

-- the document with references, attributes and stamps of its new version, before its id change
abbrev pub lifted_doc : Registry Op → Option (Known Op) → Doc Js → Doc Js
lifted_doc reg found doc =
    stamped (with_attributes (with_references doc (moved_refs effects reg doc.namespace doc.core doc.references)) (all_ops effects (ops_known doc.stamp found) doc.attributes)) (option_and_then latest found) reg.version

-- its id changes
abbrev pub changed_over : Bool → Ver → Text → Doc Js → List (Text × Doc Js)
changed_over true version raw doc = all_of (shared_over effects version doc.namespace (started raw doc))
changed_over false version raw doc = all_of (started raw doc)

-- the type became shareable above the stamp
abbrev pub shares_over : Option Ver → Option Ver → Bool
shares_over None stamp = false
shares_over (Some v) stamp = below stamp v
