-- One change of one object on one table: what its words, its row and its write show.
use Rattle.std.specs.Prelude.{ℕ, Bool, true, false, ◌&&◌, ◌||◌, not, List, [], ◌∷◌, ◌++◌, length, Option, Some, None, is_none, if◌then◌else◌, ◌==◌, nat_lt}
use Rattle.base_model.specs.Keyed.{Text, same, at}
use Rattle.race_model.specs.Stores.{Cell, Table, written, dropped}
use Rattle.version_token.specs.declared.Ver.{Ver}
use Rattle.document_model.specs.Documents.{below, Doc, everywhere, default_space, or_default, lists, visible, raw_id, id_of}
use Rattle.space_scope.specs.Spaces.{is_space_text}
use Rattle.space_scope.specs.declared.kind.Kind.{Kind}
use Rattle.space_scope.specs.declared.kind.Kind.TheVariants.{Single, Multiple, MultipleIsolated, Agnostic}
use Rattle.document_model.specs.Registries.{Known, Registry, alias_type, known, latest, too_new}
use Rattle.call_model.specs.Words.{Words}
use Rattle.document_model.specs.Migrations.{all_ops}
use Rattle.query_model.specs.declared.parts.Target.{Target}
use Rattle.call_model.specs.Calls.{Given, NewObject, Change, Act, Shown, Answer}
use Rattle.call_model.specs.declared.refuse.Refuse.{Refuse}
use Rattle.call_model.specs.Calls.Given.{Latest, All, Above}
use Rattle.call_model.specs.Calls.Act.{Create, Update, Delete, Share}
use Rattle.call_model.specs.declared.refuse.Refuse.TheVariants.{NotFound, Conflict, UnsupportedType, BadId, BadToken, WriteBlocked, NeedsForce, TooNew}
use Rattle.call_model.specs.Calls.Answer.{Object, Deleted, Spaces, Refused}

-- refusals by a call's own words

-- a space of a call: 1 to 64 bytes of a-z, 0-9, `_` and `-`
unfoldable pub is_space : Text → Bool
is_space s = is_space_text s

-- each is a space id or `*`
abbrev pub all_spaces_or_all : List Text → Bool
all_spaces_or_all [] = true
all_spaces_or_all (s ∷ ss) = (is_space s || same s everywhere) && all_spaces_or_all ss

-- a space of the call is no space id
abbrev pub bad_space : {A : Type 0} → Text → Act A → Bool
bad_space space (Share target add remove time) = not (is_space space && all_spaces_or_all add && all_spaces_or_all remove)
bad_space space _ = not (is_space space)

-- the first refusal that applies
abbrev pub first_of : List (Bool × Refuse) → Option Refuse
first_of [] = None
first_of (t ∷ ts) = if t.0 then Some t.1 else first_of ts

-- the type isn't known, or is that of alias documents
abbrev pub is_unknown : {O : Type 0} → Registry O → Text → Bool
is_unknown reg name = same name alias_type || is_none (known reg name)

-- the id is empty or longer than 1,024 bytes
abbrev pub bad_id : Text → Bool
bad_id id = length id == 0 || nat_lt 1024 (length id)

-- the type is known and of the kind `Multiple`, whose objects alone can be shared
abbrev pub is_multiple : {O : Type 0} → Option (Known O) → Bool
is_multiple None = false
is_multiple (Some t) = by t.kind
  where
    by : Kind → Bool
    by Multiple = true
    by _ = false

-- a token is given that stands for no number
abbrev pub bad_token : {A O F : Type 0} → Words A O F → Option Text → Bool
bad_token w None = false
bad_token w (Some token) = is_none (w.token_number token)

-- the latest version of a type that is known
abbrev pub latest_of : {O : Type 0} → Option (Known O) → Option Ver
latest_of None = None
latest_of (Some t) = latest t

-- the given stamp is above the latest version, or there is none
abbrev pub stamp_too_new : {O : Type 0} → Option (Known O) → Given → Bool
stamp_too_new t Latest = false
stamp_too_new t All = false
stamp_too_new t (Above v) = too_new (Some v) (latest_of t)

-- the refusal by the words of a call, but for its spaces
unfoldable pub own_words : {A O F : Type 0} → Words A O F → Registry O → Act A → Option Refuse
own_words w reg (Create o overwrite time) = first_of ((is_unknown reg o.type_name, UnsupportedType) ∷ (bad_id o.id, BadId) ∷ (stamp_too_new (known reg o.type_name) o.given, TooNew) ∷ [])
own_words w reg (Update c time) = first_of ((is_unknown reg c.target.type_name, UnsupportedType) ∷ (bad_id c.target.id, BadId) ∷ (bad_token w c.token, BadToken) ∷ [])
own_words w reg (Delete t force) = first_of ((is_unknown reg t.type_name, UnsupportedType) ∷ (bad_id t.id, BadId) ∷ [])
own_words w reg (Share t add remove time) = first_of ((is_unknown reg t.type_name || not (is_multiple (known reg t.type_name)), UnsupportedType) ∷ (bad_id t.id, BadId) ∷ [])

-- objects and their rows

-- the kind of a type; nothing is asked of a type that isn't known
abbrev pub kind_over : {O : Type 0} → Option (Known O) → Kind
kind_over None = Agnostic
kind_over (Some t) = t.kind

-- the kind of a type by its name
abbrev pub kind_of : {O : Type 0} → Registry O → Text → Kind
kind_of reg name = kind_over (known reg name)

-- the object that a change is of
abbrev pub target_of : {A : Type 0} → Act A → Target
target_of (Create o overwrite time) = record { type_name = o.type_name; id = o.id }
target_of (Update c time) = c.target
target_of (Delete t force) = t
target_of (Share t add remove time) = t

-- the raw id of an object, by the kind of its type
abbrev pub raw_of : {O : Type 0} → Registry O → Text → Target → Text
raw_of reg space t = raw_id (kind_of reg t.type_name) space t.type_name t.id

-- the document has the type and is visible in the space
unfoldable pub is_seen : {A O : Type 0} → Registry O → Text → Text → Doc A → Bool
is_seen reg space name doc = same doc.type_name name && visible (kind_of reg name) space doc

-- the spaces that an object shows: the one of a single type, the list of a multiple kind, else none
abbrev pub shown_spaces : {A O : Type 0} → Option (Known O) → Doc A → Option (List Text)
shown_spaces None doc = None
shown_spaces (Some t) doc = by t.kind
  where
    by : Kind → Option (List Text)
    by Single = Some (or_default doc.namespace ∷ [])
    by Multiple = doc.namespaces
    by MultipleIsolated = doc.namespaces
    by Agnostic = None

-- a row as an object
abbrev pub shown : {A O : Type 0} → Registry O → Text → ℕ → Doc A → Shown A
shown reg raw number d = record {
  type_name = d.type_name;
  id = id_of raw d;
  attributes = d.attributes;
  references = d.references;
  number = number;
  stamp = d.stamp;
  core = d.core;
  origin = d.origin;
  updated_at = d.updated_at;
  namespaces = shown_spaces (known reg d.type_name) d;
}

-- the documents that are written

-- the operations of all versions above a stamp
abbrev pub lifted_above : {A O F : Type 0} → Words A O F → Option Ver → List (Ver × List O) → A → A
lifted_above w stamp [] a = a
lifted_above w stamp (s ∷ steps) a = lifted_above w stamp steps (if below stamp s.0 then all_ops w.transforms s.1 a else a)

-- the attributes of a new object: with a given stamp, the operations above it are applied
abbrev pub lifted : {A O F : Type 0} → Words A O F → Option (Known O) → Given → A → A
lifted w None given a = a
lifted w (Some t) Latest a = a
lifted w (Some t) All a = lifted_above w None t.steps a
lifted w (Some t) (Above v) a = lifted_above w (Some v) t.steps a

-- the namespace of a new object: the call's space, for a single type outside the default space
abbrev pub new_space : Kind → Text → Option Text
new_space Single space = if same space default_space then None else Some space
new_space _ space = None

-- the namespaces of a new object: the call's space alone, for multiple kinds
abbrev pub new_spaces : Kind → Text → Option (List Text)
new_spaces Multiple space = Some (space ∷ [])
new_spaces MultipleIsolated space = Some (space ∷ [])
new_spaces _ space = None

-- the document of a new object
abbrev pub created : {A O F : Type 0} → Words A O F → Registry O → Text → NewObject A → Option Text → Doc A
created w reg space o time = record {
  type_name = o.type_name;
  attributes = lifted w (known reg o.type_name) o.given o.attributes;
  references = o.references;
  namespace = new_space (kind_of reg o.type_name) space;
  namespaces = new_spaces (kind_of reg o.type_name) space;
  stamp = latest_of (known reg o.type_name);
  core = Some reg.version;
  updated_at = time;
  origin = o.origin;
}

-- the new one where it is given, else the old one
abbrev pub or_old : {T : Type 0} → Option T → T → T
or_old None old = old
or_old (Some new) old = new

-- the new one where it is given, else the old one, if any
abbrev pub or_else : {T : Type 0} → Option T → Option T → Option T
or_else None old = old
or_else (Some new) old = Some new

-- a new document that keeps spaces and origin of the old one
abbrev pub overwritten : {A : Type 0} → Doc A → Doc A → Doc A
overwritten new old = record {
  type_name = new.type_name;
  attributes = new.attributes;
  references = new.references;
  namespace = new.namespace;
  namespaces = old.namespaces;
  stamp = new.stamp;
  core = new.core;
  updated_at = new.updated_at;
  origin = or_else new.origin old.origin;
}

-- a document with the given attributes, and references and time where they are given
abbrev pub updated : {A O F : Type 0} → Words A O F → Change A → Option Text → Doc A → Doc A
updated w c time d = record {
  type_name = d.type_name;
  attributes = w.merge d.attributes c.attributes;
  references = or_old c.references d.references;
  namespace = d.namespace;
  namespaces = d.namespaces;
  stamp = d.stamp;
  core = d.core;
  updated_at = or_else time d.updated_at;
  origin = d.origin;
}

-- a document with other namespaces, and the time where it is given
abbrev pub respaced : {A : Type 0} → List Text → Option Text → Doc A → Doc A
respaced spaces time d = record {
  type_name = d.type_name;
  attributes = d.attributes;
  references = d.references;
  namespace = d.namespace;
  namespaces = Some spaces;
  stamp = d.stamp;
  core = d.core;
  updated_at = or_else time d.updated_at;
  origin = d.origin;
}

-- the namespaces of a document, none where it has no list
abbrev pub or_no_space : Option (List Text) → List Text
or_no_space None = []
or_no_space (Some spaces) = spaces

-- one after another, each that isn't yet listed, at the end
abbrev pub added : List Text → List Text → List Text
added [] spaces = spaces
added (s ∷ ss) spaces = added ss (if lists s spaces then spaces else spaces ++ s ∷ [])

-- without those to remove
abbrev pub taken_away : List Text → List Text → List Text
taken_away remove [] = []
taken_away remove (s ∷ spaces) = if lists s remove then taken_away remove spaces else s ∷ taken_away remove spaces

-- several spaces or all
abbrev pub is_wide : Option (List Text) → Bool
is_wide None = false
is_wide (Some spaces) = nat_lt 1 (length spaces) || lists everywhere spaces

-- what a call does, once its row is seen: a refusal, or a write
pub data Deed (A : Type 0) : Type 0 where
  Deny : Refuse → Deed A
  Make : (doc : Doc A) → Deed A
  Remake : (seen : ℕ) → (doc : Doc A) → Deed A
  Drop : (seen : ℕ) → Deed A

-- the token, where there is one, stands for this number
abbrev pub token_is : {A O F : Type 0} → Words A O F → Option Text → ℕ → Bool
token_is w None seq = true
token_is w (Some token) seq = by (w.token_number token)
  where
    by : Option ℕ → Bool
    by None = false
    by (Some n) = n == seq

-- a create with overwrite replaces a visible row of its type; without, it looks at no row
abbrev pub overwriting : {A O : Type 0} → Registry O → Text → Bool → Option (Cell (Doc A)) → Doc A → Deed A
overwriting reg space false o new = Make new
overwriting reg space true None new = Make new
overwriting reg space true (Some c) new = if is_seen reg space new.type_name c.doc then Remake c.seq (overwritten new c.doc) else Deny Conflict

-- an object that is left in no space is deleted
abbrev pub spaces_left : {A : Type 0} → ℕ → Doc A → Option Text → List Text → Deed A
spaces_left seq doc time [] = Drop seq
spaces_left seq doc time (s ∷ spaces) = Remake seq (respaced (s ∷ spaces) time doc)

-- what becomes of an object that is there
abbrev pub act_on : {A O F : Type 0} → Words A O F → Act A → ℕ → Doc A → Deed A
act_on w (Create o overwrite time) seq doc = Deny Conflict
act_on w (Update c time) seq doc = if token_is w c.token seq then Remake seq (updated w c time doc) else Deny Conflict
act_on w (Delete t force) seq doc = if is_wide doc.namespaces && not force then Deny NeedsForce else Drop seq
act_on w (Share t add remove time) seq doc = spaces_left seq doc time (taken_away remove (added add (or_no_space doc.namespaces)))

-- a change of an object needs a visible row of its type
abbrev pub on_row : {A O F : Type 0} → Words A O F → Registry O → Text → Act A → Option (Cell (Doc A)) → Deed A
on_row w reg space act None = Deny NotFound
on_row w reg space act (Some c) = if is_seen reg space (target_of act).type_name c.doc then act_on w act c.seq c.doc else Deny NotFound

-- what the row of a call's raw id shows
unfoldable pub judge : {A O F : Type 0} → Words A O F → Registry O → Text → Act A → Option (Cell (Doc A)) → Deed A
judge w reg space (Create o overwrite time) row = overwriting reg space overwrite row (created w reg space o time)
judge w reg space act row = on_row w reg space act row

-- the answer to a write that was done
abbrev pub success : {A O : Type 0} → Registry O → Text → Act A → ℕ → Doc A → Answer A
success reg raw (Share t add remove time) number doc = Spaces (or_no_space doc.namespaces)
success reg raw act number doc = Object (shown reg raw number doc)

-- the answer to a delete, and to a share that left no space
abbrev pub dropped_one : {A : Type 0} → Act A → Answer A
dropped_one (Share t add remove time) = Spaces []
dropped_one act = Deleted

-- the refusal that the row showed, else a block, else what the write shows
abbrev pub do_deed : {A O : Type 0} → Registry O → Bool → Text → Act A → Deed A → Option (Cell (Doc A)) → Table (Doc A) → Table (Doc A) × Answer A
do_deed reg blocked raw act (Deny r) row t = (t, Refused r)
do_deed reg true raw act _ row t = (t, Refused WriteBlocked)
do_deed reg false raw act (Make doc) (Some c) t = (t, Refused Conflict)
do_deed reg false raw act (Make doc) None t = (written t raw doc, success reg raw act t.next doc)
do_deed reg false raw act (Remake seen doc) row t = (written t raw doc, success reg raw act t.next doc)
do_deed reg false raw act (Drop seen) row t = (dropped t raw, dropped_one act)

-- a call that its own words don't refuse, on one table
unfoldable pub act_step : {A O F : Type 0} → Words A O F → Registry O → Text → Bool → Text → Act A → Table (Doc A) → Table (Doc A) × Answer A
act_step w reg space blocked raw act t = do_deed reg blocked raw act (judge w reg space act (at raw t.rows)) (at raw t.rows) t
