-- An instance of the migration: which request it makes, and how a reply moves it.
use Rattle.std.specs.Prelude.{ℕ, ◌+◌, ◌*◌, ◌^◌, min, Bool, true, false, List, [], ◌∷◌, ◌++◌, map, Option, Some, None, nat_le, if◌then◌else◌}
use Rattle.base_model.specs.Keyed.{Text, same, Keyed, at, put}
use Rattle.base_model.specs.Outcomes.{Outcome}
use Rattle.base_model.specs.Outcomes.Outcome.{Unknown, TooNew, Corrupt, Outputs}
use Rattle.race_model.specs.Stores.{Rows, Write, IndexSeen, Request, Reply, Refusal, Action}
use Rattle.race_model.specs.Stores.Write.{Put}
use Rattle.race_model.specs.Stores.Request.{Create, Block, Clone, OpenPit, ReadPit, ClosePit, Search, Bulk, Aliases}
use Rattle.race_model.specs.Stores.Reply.{Seen, Pit, Selected, Items, Refused}
use Rattle.race_model.specs.Stores.Refusal.{Exists, NoIndex, Blocked, NoPit, AliasMissing, AliasTaken}
use Rattle.race_model.specs.Stores.Action.{RemoveMustExist, Add, RemoveIndex}

-- an instance's target set: its version's names, what the machine knows of its registry, and how often it tries
pub record Settings (D Q : Type 0) : Type 0 where
  pub current : Text
  pub version : Text
  pub target : Text
  pub temp : Text
  pub is_later : Text → Bool
  pub is_same : Text → Bool
  pub unknown : Q
  pub page : Option Text → Q
  pub outdated : Option Text → Q
  pub outcome : Text → D → Outcome D
  pub attempts : ℕ

-- why a start ends as fatal
pub data Cause : Type 0 where
  UnknownObjects : List Text → Cause
  CorruptObjects : List Text → Cause
  NewerObjects : List Text → Cause
  OutdatedId : List Text → Cause
  Collision : (first second raw : Text) → Cause
  NewerIndex : Text → Cause
  VersionAliasMissing : Text → Cause
  LegacyIndex : Text → Cause
  NameTaken : Text → Cause
  OtherVersion : Option Text → Cause
  Leftover : (index : Text) → (its : Option Text) → (source : Text) → Cause

-- the names of the states
pub data StateName : Type 0 where
  Init : StateName
  CreateNewTarget : StateName
  CheckUnknown : StateName
  SetSourceBlock : StateName
  CreateTemp : StateName
  ReindexOpen : StateName
  ReindexRead : StateName
  ReindexBulk : StateName
  ReindexClose : StateName
  SetTempBlock : StateName
  CloneTemp : StateName
  OutdatedOpen : StateName
  OutdatedRead : StateName
  OutdatedBulk : StateName
  OutdatedClose : StateName
  MarkReady : StateName
  MarkReadyConflict : StateName

-- how a start ends
pub data End : Type 0 where
  Done : (target : Text) → End
  Fatal : Cause → End
  GaveUp : (state : StateName) → (faults : ℕ) → End

-- how the machine will end: both aliases were on this index, or the aliases go from a source to the target
pub data Finish : Type 0 where
  Stands : (index : Text) → Finish
  Switch : (source : Text) → Finish

-- the raw ids of the outputs so far, each with its row's
abbrev pub Pass : Type 0
Pass = Keyed Text

-- the state of a machine, with what it remembers
pub data State (D : Type 0) : Type 0 where
  Init : State D
  CreateNewTarget : State D
  CheckUnknown : (source : Text) → State D
  SetSourceBlock : (source : Text) → State D
  CreateTemp : (source : Text) → State D
  ReindexOpen : (source : Text) → State D
  ReindexRead : (source : Text) → (pit : ℕ) → (after : Option Text) → Pass → State D
  ReindexBulk : (source : Text) → (pit : ℕ) → (last : Text) → Pass → (outputs : List (Text × D)) → State D
  ReindexClose : (source : Text) → (pit : ℕ) → State D
  SetTempBlock : (source : Text) → State D
  CloneTemp : (source : Text) → State D
  OutdatedOpen : Finish → State D
  OutdatedRead : Finish → (pit : ℕ) → (after : Option Text) → State D
  OutdatedBulk : Finish → (pit : ℕ) → (last : Text) → (writes : List (Write D)) → State D
  OutdatedClose : Finish → (pit : ℕ) → State D
  MarkReady : (source : Option Text) → State D
  MarkReadyConflict : State D
  Ended : End → State D

-- the name of a state; of an ended machine, which no fault reaches, any
abbrev pub name_of : {D : Type 0} → State D → StateName
name_of Init = StateName.Init
name_of CreateNewTarget = StateName.CreateNewTarget
name_of (CheckUnknown source) = StateName.CheckUnknown
name_of (SetSourceBlock source) = StateName.SetSourceBlock
name_of (CreateTemp source) = StateName.CreateTemp
name_of (ReindexOpen source) = StateName.ReindexOpen
name_of (ReindexRead source pit after pass) = StateName.ReindexRead
name_of (ReindexBulk source pit last pass outputs) = StateName.ReindexBulk
name_of (ReindexClose source pit) = StateName.ReindexClose
name_of (SetTempBlock source) = StateName.SetTempBlock
name_of (CloneTemp source) = StateName.CloneTemp
name_of (OutdatedOpen finish) = StateName.OutdatedOpen
name_of (OutdatedRead finish pit after) = StateName.OutdatedRead
name_of (OutdatedBulk finish pit last writes) = StateName.OutdatedBulk
name_of (OutdatedClose finish pit) = StateName.OutdatedClose
name_of (MarkReady source) = StateName.MarkReady
name_of MarkReadyConflict = StateName.MarkReadyConflict
name_of (Ended end) = StateName.Init

-- the index whose outdated documents are looked for
abbrev pub goal_of : {D Q : Type 0} → Settings D Q → Finish → Text
goal_of s (Stands index) = index
goal_of s (Switch source) = s.target

-- the alias request that ends the migration
abbrev pub switch : {D Q : Type 0} → Settings D Q → Option Text → List Action
switch s None = Add s.current s.target ∷ Add s.version s.target ∷ []
switch s (Some source) = RemoveMustExist s.current source ∷ Add s.current s.target ∷ Add s.version s.target ∷ RemoveIndex s.temp ∷ []

-- one create for each output
abbrev pub creates : {D : Type 0} → List (Text × D) → List (Write D)
creates outputs = map (λ o. Write.Create o.0 o.1) outputs

-- the request of each state
unfoldable pub request : {D Q : Type 0} → Settings D Q → State D → Option (Request D Q)
request s Init = Some Request.State
request s CreateNewTarget = Some (Create s.target None)
request s (CheckUnknown source) = Some (Search source s.unknown)
request s (SetSourceBlock source) = Some (Block source)
request s (CreateTemp source) = Some (Create s.temp (Some source))
request s (ReindexOpen source) = Some (OpenPit source)
request s (ReindexRead source pit after pass) = Some (ReadPit pit (s.page after))
request s (ReindexBulk source pit last pass outputs) = Some (Bulk s.temp (creates outputs))
request s (ReindexClose source pit) = Some (ClosePit pit)
request s (SetTempBlock source) = Some (Block s.temp)
request s (CloneTemp source) = Some (Clone s.temp s.target)
request s (OutdatedOpen finish) = Some (OpenPit (goal_of s finish))
request s (OutdatedRead finish pit after) = Some (ReadPit pit (s.outdated after))
request s (OutdatedBulk finish pit last writes) = Some (Bulk (goal_of s finish) writes)
request s (OutdatedClose finish pit) = Some (ClosePit pit)
request s (MarkReady source) = Some (Aliases (switch s source))
request s MarkReadyConflict = Some Request.State
request s (Ended end) = None

-- the raw ids of the rows whose documents have this outcome
unfoldable pub raws_where : {D : Type 0} → (Text → D → Bool) → Rows D → List Text
raws_where test [] = []
raws_where test (r ∷ rs) = if test r.0 r.1.doc then r.0 ∷ raws_where test rs else raws_where test rs

-- the type is not known
abbrev pub is_unknown : {D : Type 0} → Outcome D → Bool
is_unknown Unknown = true
is_unknown _ = false

-- the document is corrupt
abbrev pub is_corrupt : {D : Type 0} → Outcome D → Bool
is_corrupt Corrupt = true
is_corrupt _ = false

-- the document is newer than the version
abbrev pub is_newer : {D : Type 0} → Outcome D → Bool
is_newer TooNew = true
is_newer _ = false

-- the outputs, none where there is another outcome
abbrev pub outputs_of : {D : Type 0} → Outcome D → List (Text × D)
outputs_of (Outputs os) = os
outputs_of _ = []

-- the outputs of a batch with the pass after it, or the first cause against it
pub data Batch (D : Type 0) : Type 0 where
  Good : (outputs : List (Text × D)) → Pass → Batch D
  Bad : Cause → Batch D

-- the collision where the raw id was there, and else what follows
abbrev pub met : Option Text → (source raw : Text) → Option Cause → Option Cause
met (Some first) source raw rest = Some (Collision first source raw)
met None source raw rest = rest

-- the first output that meets an earlier one
unfoldable pub collision : {D : Type 0} → Pass → Text → List (Text × D) → Option Cause
collision pass source [] = None
collision pass source (o ∷ os) = met (at o.0 pass) source o.0 (collision (put o.0 source pass) source os)

-- the pass with the outputs of one more row
unfoldable pub pass_after : {D : Type 0} → Pass → Text → List (Text × D) → Pass
pass_after pass source [] = pass
pass_after pass source (o ∷ os) = pass_after (put o.0 source pass) source os

-- more outputs before those of a batch
abbrev pub with_front : {D : Type 0} → List (Text × D) → Batch D → Batch D
with_front front (Good outputs pass) = Good (front ++ outputs) pass
with_front front (Bad cause) = Bad cause

-- the cause where there is one, and else the batch
abbrev pub unless : {D : Type 0} → Option Cause → Batch D → Batch D
unless (Some cause) batch = Bad cause
unless None batch = batch

-- the outputs of rows in order, or their first collision
unfoldable pub gathered : {D Q : Type 0} → Settings D Q → Pass → Rows D → Batch D
gathered s pass [] = Good [] pass
gathered s pass (r ∷ rs) =
    unless (collision pass r.0 (outputs_of (s.outcome r.0 r.1.doc)))
    (with_front (outputs_of (s.outcome r.0 r.1.doc)) (gathered s (pass_after pass r.0 (outputs_of (s.outcome r.0 r.1.doc))) rs))

-- the batch, where none of these rows is listed
abbrev pub where_none : {D : Type 0} → List Text → (List Text → Cause) → Batch D → Batch D
where_none [] cause batch = batch
where_none (raw ∷ raws) cause batch = Bad (cause (raw ∷ raws))

-- the batch of these rows: first the unknown, then the corrupt, then the newer, then a collision
unfoldable pub batch : {D Q : Type 0} → Settings D Q → Pass → Rows D → Batch D
batch s pass rows =
    where_none (raws_where (λ raw doc. is_unknown (s.outcome raw doc)) rows) UnknownObjects
    (where_none (raws_where (λ raw doc. is_corrupt (s.outcome raw doc)) rows) CorruptObjects
    (where_none (raws_where (λ raw doc. is_newer (s.outcome raw doc)) rows) NewerObjects
    (gathered s pass rows)))

-- the last raw id
unfoldable pub last_of : {D : Type 0} → Text → Rows D → Text
last_of raw [] = raw
last_of raw (r ∷ rs) = last_of r.0 rs

-- the machine's moves, by state

-- it is this index
abbrev pub is_on : Text → Option Text → Bool
is_on index None = false
is_on index (Some i) = same index i

-- an index under this name with another source, or with none, is a leftover
abbrev pub unless_left : {D : Type 0} → Text → Option IndexSeen → Text → State D → State D
unless_left name None source state = state
unless_left name (Some ix) source state = if is_on source ix.source then state else Ended (Fatal (Leftover name ix.source source))

-- the current alias is on this index
abbrev pub by_index : {D Q : Type 0} → Settings D Q → Text → Bool → (temp target : Option IndexSeen) → State D
by_index s index true temp target = OutdatedOpen (Stands index)
by_index s index false temp target =
    if s.is_later index then Ended (Fatal (NewerIndex index)) else
    if s.is_same index then Ended (Fatal (VersionAliasMissing index)) else
    unless_left s.temp temp index (unless_left s.target target index (CheckUnknown index))

-- after the aliases that a State showed
abbrev pub by_aliases : {D Q : Type 0} → Settings D Q → (cur ver : Option Text) → (temp target : Option IndexSeen) → State D
by_aliases s None ver temp target = CreateNewTarget
by_aliases s (Some index) ver temp target = by_index s index (is_on index ver) temp target

-- an index under the current alias's name comes first
abbrev pub unless_legacy : {D Q : Type 0} → Settings D Q → Option IndexSeen → State D → State D
unless_legacy s (Some ix) state = Ended (Fatal (LegacyIndex s.current))
unless_legacy s None state = state

-- Init
abbrev pub from_state : {D Q : Type 0} → Settings D Q → Reply D → State D
from_state s (Seen indices aliases) = unless_legacy s (at s.current indices) (by_aliases s (at s.current aliases) (at s.version aliases) (at s.temp indices) (at s.target indices))
from_state s _ = Init

-- CreateNewTarget
abbrev pub from_new_target : {D Q : Type 0} → Settings D Q → Reply D → State D
from_new_target s Reply.Done = MarkReady None
from_new_target s (Refused (Exists name its)) = MarkReady None
from_new_target s (Refused (Refusal.NameTaken name)) = Ended (Fatal (Cause.NameTaken name))
from_new_target s _ = Init

-- CheckUnknown
abbrev pub from_check : {D : Type 0} → Text → Reply D → State D
from_check source (Selected total []) = SetSourceBlock source
from_check source (Selected total (r ∷ rs)) = Ended (Fatal (UnknownObjects (map (λ x. x.0) (r ∷ rs))))
from_check source _ = Init

-- SetSourceBlock
abbrev pub from_source_block : {D : Type 0} → Text → Reply D → State D
from_source_block source Reply.Done = CreateTemp source
from_source_block source _ = Init

-- where the index was there: go on if it has this source
abbrev pub where_from : {D : Type 0} → Bool → State D → Text → Option Text → Text → State D
where_from true next name its source = next
where_from false next name its source = Ended (Fatal (Leftover name its source))

-- CreateTemp
abbrev pub from_create_temp : {D Q : Type 0} → Settings D Q → Text → Reply D → State D
from_create_temp s source Reply.Done = ReindexOpen source
from_create_temp s source (Refused (Exists name its)) = where_from (is_on source its) (ReindexOpen source) s.temp its source
from_create_temp s source (Refused (Refusal.NameTaken name)) = Ended (Fatal (Cause.NameTaken name))
from_create_temp s source _ = Init

-- ReindexOpen
abbrev pub from_open : {D : Type 0} → Text → Reply D → State D
from_open source (Pit p) = ReindexRead source p None []
from_open source _ = Init

-- after a batch
abbrev pub by_batch : {D : Type 0} → Text → ℕ → Text → Batch D → State D
by_batch source p last (Bad cause) = Ended (Fatal cause)
by_batch source p last (Good [] pass) = ReindexRead source p (Some last) pass
by_batch source p last (Good (o ∷ os) pass) = ReindexBulk source p last pass (o ∷ os)

-- ReindexRead
abbrev pub from_read : {D Q : Type 0} → Settings D Q → Text → ℕ → Pass → Reply D → State D
from_read s source p pass (Selected total []) = ReindexClose source p
from_read s source p pass (Selected total (r ∷ rs)) = by_batch source p (last_of r.0 rs) (batch s pass (r ∷ rs))
from_read s source p pass _ = Init

-- ReindexBulk
abbrev pub from_bulk : {D : Type 0} → Text → ℕ → Text → Pass → Reply D → State D
from_bulk source p last pass (Items items) = ReindexRead source p (Some last) pass
from_bulk source p last pass (Refused (Blocked name)) = ReindexClose source p
from_bulk source p last pass (Refused (NoIndex name)) = ReindexClose source p
from_bulk source p last pass _ = Init

-- ReindexClose, and OutdatedClose
abbrev pub from_close : {D : Type 0} → State D → Reply D → State D
from_close next Reply.Done = next
from_close next (Refused (NoPit p)) = next
from_close next _ = Init

-- SetTempBlock
abbrev pub from_temp_block : {D : Type 0} → Text → Reply D → State D
from_temp_block source Reply.Done = CloneTemp source
from_temp_block source (Refused (NoIndex name)) = CloneTemp source
from_temp_block source _ = Init

-- CloneTemp
abbrev pub from_clone : {D Q : Type 0} → Settings D Q → Text → Reply D → State D
from_clone s source Reply.Done = OutdatedOpen (Switch source)
from_clone s source (Refused (Exists name its)) = where_from (is_on source its) (OutdatedOpen (Switch source)) s.target its source
from_clone s source (Refused (Refusal.NameTaken name)) = Ended (Fatal (Cause.NameTaken name))
from_clone s source _ = Init

-- OutdatedOpen
abbrev pub from_outdated_open : {D : Type 0} → Finish → Reply D → State D
from_outdated_open finish (Pit p) = OutdatedRead finish p None
from_outdated_open finish _ = Init

-- the row's id would change
abbrev pub changes_id : {D : Type 0} → Text → Outcome D → Bool
changes_id raw (Outputs (o ∷ [])) = if same raw o.0 then false else true
changes_id raw (Outputs _) = true
changes_id raw _ = false

-- each document of these rows again, each with its row's number
unfoldable pub rewrites : {D Q : Type 0} → Settings D Q → Rows D → List (Write D)
rewrites s [] = []
rewrites s (r ∷ rs) = map (λ o. Put o.0 o.1 (Some r.1.seq)) (outputs_of (s.outcome r.0 r.1.doc)) ++ rewrites s rs

-- the state, where none of these rows is listed
abbrev pub unless_listed : {D : Type 0} → List Text → (List Text → Cause) → State D → State D
unless_listed [] cause state = state
unless_listed (raw ∷ raws) cause state = Ended (Fatal (cause (raw ∷ raws)))

-- OutdatedRead
abbrev pub from_outdated_read : {D Q : Type 0} → Settings D Q → Finish → ℕ → Reply D → State D
from_outdated_read s finish p (Selected total []) = OutdatedClose finish p
from_outdated_read s finish p (Selected total (r ∷ rs)) =
    unless_listed (raws_where (λ raw doc. is_unknown (s.outcome raw doc)) (r ∷ rs)) UnknownObjects
    (unless_listed (raws_where (λ raw doc. is_corrupt (s.outcome raw doc)) (r ∷ rs)) CorruptObjects
    (unless_listed (raws_where (λ raw doc. changes_id raw (s.outcome raw doc)) (r ∷ rs)) OutdatedId
    (unless_listed (raws_where (λ raw doc. is_newer (s.outcome raw doc)) (r ∷ rs)) NewerObjects
    (OutdatedBulk finish p (last_of r.0 rs) (rewrites s (r ∷ rs))))))
from_outdated_read s finish p _ = Init

-- OutdatedBulk
abbrev pub from_outdated_bulk : {D : Type 0} → Finish → ℕ → Text → Reply D → State D
from_outdated_bulk finish p last (Items items) = OutdatedRead finish p (Some last)
from_outdated_bulk finish p last _ = Init

-- no outdated document is left
abbrev pub after_outdated : {D : Type 0} → Finish → State D
after_outdated (Stands index) = Ended (End.Done index)
after_outdated (Switch source) = MarkReady (Some source)

-- MarkReady
abbrev pub from_mark : {D Q : Type 0} → Settings D Q → Reply D → State D
from_mark s Reply.Done = Ended (End.Done s.target)
from_mark s (Refused (AliasMissing alias index)) = MarkReadyConflict
from_mark s (Refused (AliasTaken alias index)) = MarkReadyConflict
from_mark s (Refused (NoIndex name)) = MarkReadyConflict
from_mark s (Refused (Refusal.NameTaken name)) = Ended (Fatal (Cause.NameTaken name))
from_mark s _ = Init

-- by the current alias's index, and whether the version's alias is on it
abbrev pub settled : {D : Type 0} → Option Text → Bool → State D
settled None on = Ended (Fatal (OtherVersion None))
settled (Some index) true = Ended (End.Done index)
settled (Some index) false = Ended (Fatal (OtherVersion (Some index)))

-- the version's alias is on the current alias's index
abbrev pub is_on_some : Option Text → Option Text → Bool
is_on_some None ver = false
is_on_some (Some index) ver = is_on index ver

-- MarkReadyConflict
abbrev pub from_conflict : {D Q : Type 0} → Settings D Q → Reply D → State D
from_conflict s (Seen indices aliases) = settled (at s.current aliases) (is_on_some (at s.current aliases) (at s.version aliases))
from_conflict s _ = Init

-- how a reply moves the machine
unfoldable pub moved : {D Q : Type 0} → Settings D Q → State D → Reply D → State D
moved s Init reply = from_state s reply
moved s CreateNewTarget reply = from_new_target s reply
moved s (CheckUnknown source) reply = from_check source reply
moved s (SetSourceBlock source) reply = from_source_block source reply
moved s (CreateTemp source) reply = from_create_temp s source reply
moved s (ReindexOpen source) reply = from_open source reply
moved s (ReindexRead source p after pass) reply = from_read s source p pass reply
moved s (ReindexBulk source p last pass outputs) reply = from_bulk source p last pass reply
moved s (ReindexClose source p) reply = from_close (SetTempBlock source) reply
moved s (SetTempBlock source) reply = from_temp_block source reply
moved s (CloneTemp source) reply = from_clone s source reply
moved s (OutdatedOpen finish) reply = from_outdated_open finish reply
moved s (OutdatedRead finish p after) reply = from_outdated_read s finish p reply
moved s (OutdatedBulk finish p last writes) reply = from_outdated_bulk finish p last reply
moved s (OutdatedClose finish p) reply = from_close (after_outdated finish) reply
moved s (MarkReady source) reply = from_mark s reply
moved s MarkReadyConflict reply = from_conflict s reply
moved s (Ended end) reply = Ended end

-- a machine with the faults in a row and the delays since its start
pub record Machine (D : Type 0) : Type 0 where
  pub state : State D
  pub faults : ℕ
  pub delay_ms : ℕ

-- a machine at its start
abbrev pub started : {D : Type 0} → Machine D
started = record { state = Init; faults = 0; delay_ms = 0 }

-- the machine after a reply
abbrev pub answered : {D Q : Type 0} → Settings D Q → Machine D → Reply D → Machine D
answered s m reply = record { state = moved s m.state reply; faults = 0; delay_ms = m.delay_ms }

-- the machine after a send that failed
abbrev pub failed : {D Q : Type 0} → Settings D Q → Machine D → Machine D
failed s m =
    if nat_le (m.faults + 1) s.attempts
    then record { state = m.state; faults = m.faults + 1; delay_ms = m.delay_ms + 1000 * min (2 ^ (m.faults + 1)) 64 }
    else record { state = Ended (GaveUp (name_of m.state) (m.faults + 1)); faults = m.faults + 1; delay_ms = m.delay_ms }
