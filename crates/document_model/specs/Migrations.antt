-- Migrating one document: one fold over the versions above its stamp.
use Rattle.std.specs.Prelude.{Bool, false, List, [], ◌∷◌, ◌++◌, map, codes, Option, Some, None, if◌then◌else◌}
use Rattle.base_model.specs.Keyed.{Text, Keyed}
use Rattle.base_model.specs.Outcomes.{Outcome}
use Rattle.base_model.specs.Outcomes.Outcome.{Removed, Unknown, TooNew, Corrupt, Outputs}
use Rattle.version_token.specs.declared.Ver.{Ver}
use Rattle.document_model.specs.declared.reference.Ref.{Ref}
use Rattle.document_model.specs.Documents.{ver_lt, below, Doc, lists, joined, default_space, id_of}
use Rattle.document_model.specs.Registries.{Known, Registry, alias_type, known, latest, too_new, fits}

-- what migrating a document does with attributes and ids, which nothing here looks into
pub record Transforms (A O : Type 0) : Type 0 where
  -- the effect of one operation
  pub apply : O → A → A
  -- an object of texts
  pub texts : Keyed Text → A
  -- the id of an object that becomes shareable
  pub new_id : (space name id : Text) → Text

-- the operations one after another
abbrev pub all_ops : {A O : Type 0} → Transforms A O → List O → A → A
all_ops w [] a = a
all_ops w (op ∷ ops) a = all_ops w ops (w.apply op a)

-- the operations of the versions above a stamp, one after another
abbrev pub ops_above : {O : Type 0} → Option Ver → List (Ver × List O) → List O
ops_above stamp [] = []
ops_above stamp (s ∷ steps) = if below stamp s.0 then s.1 ++ ops_above stamp steps else ops_above stamp steps

-- one step of a type: its id changes, or operations
pub data Step (O : Type 0) : Type 0 where
  Share : Step O
  Ops : List O → Step O

-- the migrations as steps
abbrev pub only_ops : {O : Type 0} → List (Ver × List O) → List (Ver × Step O)
only_ops [] = []
only_ops (s ∷ steps) = (s.0, Ops s.1) ∷ only_ops steps

-- the id change comes before the operations of its version
abbrev pub share_before : {O : Type 0} → Ver → List (Ver × Step O) → List (Ver × Step O)
share_before v [] = (v, Share) ∷ []
share_before v (s ∷ steps) = if ver_lt s.0 v then s ∷ share_before v steps else (v, Share) ∷ s ∷ steps

-- all steps of a type in rising order of version
abbrev pub with_share : {O : Type 0} → Option Ver → List (Ver × Step O) → List (Ver × Step O)
with_share None steps = steps
with_share (Some v) steps = share_before v steps

-- the steps above a stamp
abbrev pub above : {O : Type 0} → Option Ver → List (Ver × Step O) → List (Ver × Step O)
above stamp [] = []
above stamp (s ∷ steps) = if below stamp s.0 then s ∷ above stamp steps else above stamp steps

-- a document on its way through the steps, with the alias documents that it left
pub record Moved (A : Type 0) : Type 0 where
  pub raw : Text
  pub doc : Doc A
  pub others : List (Text × Doc A)

-- the raw id of the alias document of an old id
abbrev pub alias_raw : (space name id : Text) → Text
alias_raw space name id = joined alias_type (joined space (joined name id))

-- the document that leads from an old id to a new one
abbrev pub alias_doc : {A O : Type 0} → Transforms A O → Ver → (space name old new : Text) → Doc A
alias_doc w version space name old new = record {
  type_name = alias_type;
  attributes = w.texts ((codes "sourceId", old) ∷ (codes "targetId", new) ∷ (codes "targetNamespace", space) ∷ (codes "targetType", name) ∷ []);
  references = [];
  namespace = None;
  namespaces = None;
  stamp = None;
  core = Some version;
  updated_at = None;
  origin = None;
}

-- in a list of one space
abbrev pub shared_doc : {A : Type 0} → Doc A → Text → Option Text → Doc A
shared_doc d space origin = record {
  type_name = d.type_name;
  attributes = d.attributes;
  references = d.references;
  namespace = None;
  namespaces = Some (space ∷ []);
  stamp = d.stamp;
  core = d.core;
  updated_at = d.updated_at;
  origin = origin;
}

-- the id change: in a space of its own a document gets a new id and leaves an alias document; in the default space its id stays
abbrev pub shared_over : {A O : Type 0} → Transforms A O → Ver → Option Text → Moved A → Moved A
shared_over w version None m = record { raw = m.raw; doc = shared_doc m.doc default_space m.doc.origin; others = m.others }
shared_over w version (Some s) m =
    let old : Text = id_of m.raw m.doc in
    let new : Text = w.new_id s m.doc.type_name old in
    record {
      raw = joined m.doc.type_name new;
      doc = shared_doc m.doc s (Some old);
      others = (alias_raw s m.doc.type_name old, alias_doc w version s m.doc.type_name old new) ∷ m.others;
    }

abbrev pub with_attributes : {A : Type 0} → Doc A → A → Doc A
with_attributes d a = record {
  type_name = d.type_name;
  attributes = a;
  references = d.references;
  namespace = d.namespace;
  namespaces = d.namespaces;
  stamp = d.stamp;
  core = d.core;
  updated_at = d.updated_at;
  origin = d.origin;
}

-- one step done
abbrev pub step_over : {A O : Type 0} → Transforms A O → Ver → Step O → Moved A → Moved A
step_over w version Share m = shared_over w version m.doc.namespace m
step_over w version (Ops ops) m = record { raw = m.raw; doc = with_attributes m.doc (all_ops w ops m.doc.attributes); others = m.others }

-- step after step
abbrev pub all_steps : {A O : Type 0} → Transforms A O → Ver → List (Ver × Step O) → Moved A → Moved A
all_steps w version [] m = m
all_steps w version (s ∷ steps) m = all_steps w version steps (step_over w version s.1 m)

-- the type became shareable after the document was written
abbrev pub became_shareable : {O : Type 0} → Option (Known O) → Option Ver → Bool
became_shareable None core = false
became_shareable (Some t) core = is_above t.shareable_at core
  where
    is_above : Option Ver → Option Ver → Bool
    is_above None c = false
    is_above (Some v) c = below c v

-- a reference to an object that became shareable gets that object's new id
abbrev pub moved_ref : {A O : Type 0} → Transforms A O → Registry O → Text → Option Ver → Ref → Ref
moved_ref w reg space core r =
    if became_shareable (known reg r.type_name) core then record { name = r.name; type_name = r.type_name; id = w.new_id space r.type_name r.id } else r

-- references change only in a document with a space of its own
abbrev pub moved_refs : {A O : Type 0} → Transforms A O → Registry O → Option Text → Option Ver → List Ref → List Ref
moved_refs w reg None core refs = refs
moved_refs w reg (Some s) core refs = map (moved_ref w reg s core) refs

abbrev pub with_references : {A : Type 0} → Doc A → List Ref → Doc A
with_references d refs = record {
  type_name = d.type_name;
  attributes = d.attributes;
  references = refs;
  namespace = d.namespace;
  namespaces = d.namespaces;
  stamp = d.stamp;
  core = d.core;
  updated_at = d.updated_at;
  origin = d.origin;
}

-- the stamps of a migrated document
abbrev pub stamped : {A : Type 0} → Doc A → Option Ver → Ver → Doc A
stamped d stamp version = record {
  type_name = d.type_name;
  attributes = d.attributes;
  references = d.references;
  namespace = d.namespace;
  namespaces = d.namespaces;
  stamp = stamp;
  core = Some version;
  updated_at = d.updated_at;
  origin = d.origin;
}

-- the outputs of a document that fits: references, steps, stamps
abbrev pub outputs : {A O : Type 0} → Transforms A O → Registry O → Known O → Text → Doc A → List (Text × Doc A)
outputs w reg t raw doc =
    let m : Moved _ = all_steps w reg.version (above doc.stamp (with_share t.shareable_at (only_ops t.steps)))
    (record { raw = raw; doc = with_references doc (moved_refs w reg doc.namespace doc.core doc.references); others = [] }) in
    (m.raw, stamped m.doc (latest t) reg.version) ∷ m.others

abbrev pub outcome_known : {A O : Type 0} → Transforms A O → Registry O → Option (Known O) → Text → Doc A → Outcome (Doc A)
outcome_known w reg None raw doc = Unknown
outcome_known w reg (Some t) raw doc = if too_new doc.stamp (latest t) then TooNew else if fits t raw doc then Outputs (outputs w reg t raw doc) else Corrupt

-- what migrating one document gives: the first that applies of removed, unknown, too new, corrupt, or its outputs
unfoldable pub outcome : {A O : Type 0} → Transforms A O → Registry O → Text → Doc A → Outcome (Doc A)
outcome w reg raw doc = if lists doc.type_name reg.removed then Removed else outcome_known w reg (known reg doc.type_name) raw doc
