-- The steps of a type, done one after another, are its operations and its id change.
use Rattle.std.proofs.Common.{◌≡◌, List, [], ◌∷◌, ◌++◌, Option, Some, None, Bool, true, false, refl, sym, ap, ◌∙◌, inl, inr, option_map}
use Rattle.std.specs.Option.{option_and_then}
use Rattle.std.proofs.lemmas.Bool.{cases_Bool}
use Rattle.base_model.specs.Keyed.{Text}
use Rattle.document_model.specs.Documents.{Doc, ver_lt, below, lists}
use Rattle.document_model.specs.Migrations.{all_ops, ops_above, only_ops, share_before, with_share, above, Moved, shared_over, all_steps, with_attributes, moved_refs, with_references, stamped, outputs, became_shareable, outcome_known}
use Rattle.document_model.specs.Migrations.{outcome}
use Rattle.base_model.specs.Outcomes.Outcome.{Removed as IsRemoved, Unknown as IsUnknown, TooNew as IsTooNew, Corrupt as IsCorrupt, Outputs as HasOutputs}
use Rattle.space_scope.specs.declared.kind.Kind.{Kind}
use Rattle.document_model.specs.Migrations.Step.{Share}
use Rattle.document_model.specs.Registries.{Known, Registry, latest, known, too_new, fits_kind}
use Rattle.so_js.specs.declared.js.Js.{Js}
use Rattle.transform_ops.specs.declared.op.Op.{Op}
use Rattle.version_token.specs.declared.Ver.{Ver}
use Rattle.doc_transform.specs.Transforming.{effects, started, all_of, lifted_doc, changed_over, shares_over}

-- operations on the attributes alone
abbrev with_ops : List Op → Moved Js → Moved Js
with_ops ops m = record { raw = m.raw; doc = with_attributes m.doc (all_ops effects ops m.doc.attributes); others = m.others }

all_ops-append : (more ops : List Op) (a : Js) → all_ops effects (ops ++ more) a ≡ all_ops effects more (all_ops effects ops a)
all_ops-append more [] a = refl
all_ops-append more (op ∷ ops) a = all_ops-append more ops (effects.apply op a)

with_ops-append : (ops more : List Op) (m : Moved Js) → with_ops more (with_ops ops m) ≡ with_ops (ops ++ more) m
with_ops-append ops more m = ap (λ (a : Js). record { raw = m.raw; doc = with_attributes m.doc a; others = m.others }) (sym (all_ops-append more ops m.doc.attributes))

-- the id change looks at no attributes
share-with_ops : (version : Ver) (space : Option Text) (ops : List Op) (m : Moved Js) → shared_over effects version space (with_ops ops m) ≡ with_ops ops (shared_over effects version space m)
share-with_ops version None ops m = refl
share-with_ops version (Some s) ops m = refl

-- without an id change
steps-only : (version : Ver) (stamp : Option Ver) (steps : List (Ver × List Op)) (m : Moved Js) → all_steps effects version (above stamp (only_ops steps)) m ≡ with_ops (ops_above stamp steps) m
steps-only version stamp [] m = refl
steps-only version stamp (s ∷ steps) m = elim (cases_Bool (below stamp s.0)) [
  | inl holds ↦ rw holds (steps-only version stamp steps (with_ops s.1 m) ∙ with_ops-append s.1 (ops_above stamp steps) m)
  | inr other ↦ rw other (steps-only version stamp steps m)
]

abbrev shared_if : Bool → Ver → Moved Js → Moved Js
shared_if true version m = shared_over effects version m.doc.namespace m
shared_if false version m = m

shared_if-with_ops : (shares : Bool) (version : Ver) (ops : List Op) (m : Moved Js) → shared_if shares version (with_ops ops m) ≡ with_ops ops (shared_if shares version m)
shared_if-with_ops true version ops m = share-with_ops version m.doc.namespace ops m
shared_if-with_ops false version ops m = refl

-- the id change, and then the operations
steps-behind : (version v : Ver) (stamp : Option Ver) (steps : List (Ver × List Op)) (m : Moved Js)
    → all_steps effects version (above stamp ((v, Share) ∷ only_ops steps)) m ≡ with_ops (ops_above stamp steps) (shared_if (below stamp v) version m)
steps-behind version v stamp steps m = elim (cases_Bool (below stamp v)) [
  | inl holds ↦ rw holds (steps-only version stamp steps (shared_over effects version m.doc.namespace m))
  | inr other ↦ rw other (steps-only version stamp steps m)
]

-- with an id change
steps-share : (version v : Ver) (stamp : Option Ver) (steps : List (Ver × List Op)) (m : Moved Js)
    → all_steps effects version (above stamp (share_before v (only_ops steps))) m ≡ with_ops (ops_above stamp steps) (shared_if (below stamp v) version m)
steps-share version v stamp [] m = steps-behind version v stamp [] m
steps-share version v stamp (s ∷ steps) m = elim (cases_Bool (ver_lt s.0 v)) [
  | inl earlier ↦ elim (cases_Bool (below stamp s.0)) [
    | inl holds ↦
        rw (earlier, holds) (steps-share version v stamp steps (with_ops s.1 m)
        ∙ ap (with_ops (ops_above stamp steps)) (shared_if-with_ops (below stamp v) version s.1 m)
        ∙ with_ops-append s.1 (ops_above stamp steps) (shared_if (below stamp v) version m))
    | inr other ↦ rw (earlier, other) (steps-share version v stamp steps m)
  ]
  | inr later ↦ rw later (steps-behind version v stamp (s ∷ steps) m)
]

steps-are : (version : Ver) (shareable : Option Ver) (stamp : Option Ver) (steps : List (Ver × List Op)) (m : Moved Js)
    → all_steps effects version (above stamp (with_share shareable (only_ops steps))) m ≡ with_ops (ops_above stamp steps) (shared_if (shares_over shareable stamp) version m)
steps-are version None stamp steps m = steps-only version stamp steps m
steps-are version (Some v) stamp steps m = steps-share version v stamp steps m

abbrev finished : Option Ver → Ver → Moved Js → List (Text × Doc Js)
finished last version m = (m.raw, stamped m.doc last version) ∷ m.others

-- stamps and attributes may come before the id change
finished-share : (space : Option Text) (last : Option Ver) (version : Ver) (ops : List Op) (raw : Text) (doc : Doc Js)
    → finished last version (with_ops ops (shared_over effects version space (started raw doc)))
    ≡ all_of (shared_over effects version space (started raw (stamped (with_attributes doc (all_ops effects ops doc.attributes)) last version)))
finished-share None last version ops raw doc = refl
finished-share (Some s) last version ops raw doc = refl

finished-is : (shares : Bool) (last : Option Ver) (version : Ver) (ops : List Op) (raw : Text) (doc : Doc Js)
    → finished last version (with_ops ops (shared_if shares version (started raw doc)))
    ≡ changed_over shares version raw (stamped (with_attributes doc (all_ops effects ops doc.attributes)) last version)
finished-is true last version ops raw doc = finished-share doc.namespace last version ops raw doc
finished-is false last version ops raw doc = refl

-- the outputs of a document that fits
pub outputs-are : (reg : Registry Op) (t : Known Op) (raw : Text) (doc : Doc Js)
    → outputs effects reg t raw doc ≡ changed_over (shares_over t.shareable_at doc.stamp) reg.version raw (lifted_doc reg (Some t) doc)
outputs-are reg t raw doc =
    let refs = moved_refs effects reg doc.namespace doc.core doc.references in
    let start = with_references doc refs in
    ap (finished (latest t) reg.version) (steps-are reg.version t.shareable_at doc.stamp t.steps (started raw start))
    ∙ finished-is (shares_over t.shareable_at doc.stamp) (latest t) reg.version (ops_above doc.stamp t.steps) raw start

-- ---- references

pub became-is : (found : Option (Known Op)) (core : Option Ver) → shares_over (option_and_then (λ t. t.shareable_at) found) core ≡ became_shareable found core
became-is None core = refl
became-is (Some t) core = by_shareable t.shareable_at refl
  where
    by_shareable : (v : Option Ver) → t.shareable_at ≡ v → shares_over t.shareable_at core ≡ became_shareable (Some t) core
    by_shareable None is = rw is refl
    by_shareable (Some v) is = rw is refl

-- ---- the outcome, case by case

pub out_removed : (reg : Registry Op) (raw : Text) (doc : Doc Js) → lists doc.type_name reg.removed ≡ true → IsRemoved ≡ outcome effects reg raw doc
unfolding outcome
out_removed reg raw doc is = rw is refl

pub out_listed : (reg : Registry Op) (raw : Text) (doc : Doc Js) → lists doc.type_name reg.removed ≡ false → outcome effects reg raw doc ≡ outcome_known effects reg (known reg doc.type_name) raw doc
unfolding outcome
out_listed reg raw doc is = rw is refl

pub out_unknown : (reg : Registry Op) (found : Option (Known Op)) (raw : Text) (doc : Doc Js) → None ≡ option_map (λ t. t.kind) found → IsUnknown ≡ outcome_known effects reg found raw doc
out_unknown reg None raw doc is = refl
out_unknown reg (Some t) raw doc is = cc is

pub out_new : (reg : Registry Op) (found : Option (Known Op)) (kind : Kind) (raw : Text) (doc : Doc Js) → Some kind ≡ option_map (λ t. t.kind) found
    → too_new doc.stamp (option_and_then latest found) ≡ true → IsTooNew ≡ outcome_known effects reg found raw doc
out_new reg None kind raw doc is new = cc is
out_new reg (Some t) kind raw doc is new = rw new refl

pub out_corrupt : (reg : Registry Op) (found : Option (Known Op)) (kind : Kind) (raw : Text) (doc : Doc Js) → Some kind ≡ option_map (λ t. t.kind) found
    → too_new doc.stamp (option_and_then latest found) ≡ false → fits_kind kind (option_and_then (λ t. t.shareable_at) found) raw doc ≡ false → IsCorrupt ≡ outcome_known effects reg found raw doc
out_corrupt reg None kind raw doc is old unfit = cc is
out_corrupt reg (Some t) kind raw doc is old unfit =
    let own : kind ≡ t.kind = cc is in
    let misfit : fits_kind t.kind t.shareable_at raw doc ≡ false = ap (λ (k : Kind). fits_kind k t.shareable_at raw doc) (sym own) ∙ unfit in
    rw (old, misfit) refl

pub out_outputs : (reg : Registry Op) (found : Option (Known Op)) (kind : Kind) (raw : Text) (doc : Doc Js) → Some kind ≡ option_map (λ t. t.kind) found
    → too_new doc.stamp (option_and_then latest found) ≡ false → fits_kind kind (option_and_then (λ t. t.shareable_at) found) raw doc ≡ true
    → HasOutputs (changed_over (shares_over (option_and_then (λ t. t.shareable_at) found) doc.stamp) reg.version raw (lifted_doc reg found doc)) ≡ outcome_known effects reg found raw doc
out_outputs reg None kind raw doc is old fit = cc is
out_outputs reg (Some t) kind raw doc is old fit =
    let own : kind ≡ t.kind = cc is in
    let fitting : fits_kind t.kind t.shareable_at raw doc ≡ true = ap (λ (k : Kind). fits_kind k t.shareable_at raw doc) (sym own) ∙ fit in
    rw (old, fitting) (ap HasOutputs (sym (outputs-are reg t raw doc)))
