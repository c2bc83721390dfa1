-- A start keeps to its way: from its first reply on, its states name one source, or none.
use Rattle.std.proofs.Common.{refl, ℕ, ◌≡◌, List, [], ◌∷◌, Bool, true, false, Option, Some, None}
use Rattle.base_model.specs.Keyed.{Text}
use Rattle.race_model.specs.Stores.{Reply}
use Rattle.race_model.specs.Stores.Reply.{Done, Pit, Selected, Items, Refused, Seen}
use Rattle.race_model.specs.Stores.Refusal.{Exists, NoIndex, Blocked, NoPit, AliasMissing, AliasTaken}
use Rattle.race_model.specs.Machines.{Settings, Cause, End, Finish, Pass, Batch, State, moved, raws_where, is_unknown, is_corrupt, is_newer, changes_id, unless_listed, last_of, batch, is_on, where_from, from_new_target, from_check, from_source_block, from_create_temp, from_open, by_batch, from_read, from_bulk, from_close, from_temp_block, from_clone, from_outdated_open, from_outdated_read, from_outdated_bulk, after_outdated, from_mark, settled, from_conflict}
use Rattle.race_model.specs.Machines.Batch.{Good, Bad}
use Rattle.race_model.specs.Machines.End.{Fatal, GaveUp}
use Rattle.race_model.specs.Machines.Finish.{Stands, Switch}
use Rattle.race_model.specs.Machines.State.{Init, CreateNewTarget, CheckUnknown, SetSourceBlock, CreateTemp, ReindexOpen, ReindexRead, ReindexBulk, ReindexClose, SetTempBlock, CloneTemp, OutdatedOpen, OutdatedRead, OutdatedBulk, OutdatedClose, MarkReady, MarkReadyConflict, Ended}

-- a start's first reply showed no current alias, or both aliases on one index, or the current alias on an index below
pub data Way : Type 0 where
  Fresh : Way
  Standing : Way
  Below : (source : Text) → Way

abbrev pub IsFresh : Way → Type 0
IsFresh Fresh = Unit {0}
IsFresh Standing = ⊥
IsFresh (Below s) = ⊥

abbrev pub OnSource : Way → Text → Type 0
OnSource Fresh n = ⊥
OnSource Standing n = ⊥
OnSource (Below s) n = n ≡ s

abbrev pub OnFinish : Way → Finish → Type 0
OnFinish Fresh finish = ⊥
OnFinish Standing (Stands index) = Unit {0}
OnFinish Standing (Switch n) = ⊥
OnFinish (Below s) (Stands index) = ⊥
OnFinish (Below s) (Switch n) = n ≡ s

-- the states of this way after the first reply
abbrev pub IsMoving : Way → Type 0
IsMoving Fresh = Unit {0}
IsMoving Standing = ⊥
IsMoving (Below s) = Unit {0}

-- the states of this way after the first reply
abbrev pub On : {D : Type 0} → Way → State D → Type 0
On w Init = ⊥
On w CreateNewTarget = IsFresh w
On w (CheckUnknown n) = OnSource w n
On w (SetSourceBlock n) = OnSource w n
On w (CreateTemp n) = OnSource w n
On w (ReindexOpen n) = OnSource w n
On w (ReindexRead n p after pass) = OnSource w n
On w (ReindexBulk n p last pass outputs) = OnSource w n
On w (ReindexClose n p) = OnSource w n
On w (SetTempBlock n) = OnSource w n
On w (CloneTemp n) = OnSource w n
On w (OutdatedOpen finish) = OnFinish w finish
On w (OutdatedRead finish p after) = OnFinish w finish
On w (OutdatedBulk finish p last writes) = OnFinish w finish
On w (OutdatedClose finish p) = OnFinish w finish
On w (MarkReady None) = IsFresh w
On w (MarkReady (Some n)) = OnSource w n
On w MarkReadyConflict = IsMoving w
On w (Ended end) = Unit {0}

abbrev pub IsMark : {D : Type 0} → State D → Type 0
IsMark (MarkReady from) = Unit {0}
IsMark _ = ⊥

-- where one reply leads from the state x
abbrev pub Next : {D : Type 0} → Way → State D → State D → Type 0
Next w x Init = Unit {0}
Next w x MarkReadyConflict = IsMark x
Next w x (Ended (Fatal cause)) = Unit {0}
Next w x (Ended (End.Done target)) = Unit {0}
Next w x (Ended (GaveUp name faults)) = ⊥
Next w x next = On w next

module _ {D Q : Type 0} (v : Settings D Q) (w : Way) where
  next_new : (x : State D) (reply : Reply D) → IsFresh w → Next w x (from_new_target v reply)
  next_new x Done k = k
  next_new x (Refused (Exists name its)) k = k
  next_new x _ k = tt

  next_check : (x : State D) (n : Text) (reply : Reply D) → OnSource w n → Next w x (from_check n reply)
  next_check x n (Selected total []) k = k
  next_check x n _ k = tt

  next_block : (x : State D) (n : Text) (reply : Reply D) → OnSource w n → Next w x (from_source_block n reply)
  next_block x n Done k = k
  next_block x n _ k = tt

  next_where : (x : State D) (b : Bool) (next : State D) (name : Text) (its : Option Text) (n : Text) → Next w x next → Next w x (where_from b next name its n)
  next_where x true next name its n k = k
  next_where x false next name its n k = tt

  next_create : (x : State D) (n : Text) (reply : Reply D) → OnSource w n → Next w x (from_create_temp v n reply)
  next_create x n Done k = k
  next_create x n (Refused (Exists name its)) k = next_where x (is_on n its) (ReindexOpen n) v.temp its n k
  next_create x n _ k = tt

  next_open : (x : State D) (n : Text) (reply : Reply D) → OnSource w n → Next w x (from_open n reply)
  next_open x n (Pit p) k = k
  next_open x n _ k = tt

  next_batch : (x : State D) (n : Text) (p : ℕ) (last : Text) (b : Batch D) → OnSource w n → Next w x (by_batch n p last b)
  next_batch x n p last (Bad cause) k = tt
  next_batch x n p last (Good [] pass) k = k
  next_batch x n p last (Good (o ∷ os) pass) k = k

  next_read : (x : State D) (n : Text) (p : ℕ) (pass : Pass) (reply : Reply D) → OnSource w n → Next w x (from_read v n p pass reply)
  next_read x n p pass (Selected total []) k = k
  next_read x n p pass (Selected total (r ∷ rs)) k = next_batch x n p (last_of r.0 rs) (batch v pass (r ∷ rs)) k
  next_read x n p pass _ k = tt

  next_bulk : (x : State D) (n : Text) (p : ℕ) (last : Text) (pass : Pass) (reply : Reply D) → OnSource w n → Next w x (from_bulk n p last pass reply)
  next_bulk x n p last pass (Items items) k = k
  next_bulk x n p last pass (Refused (Blocked name)) k = k
  next_bulk x n p last pass (Refused (NoIndex name)) k = k
  next_bulk x n p last pass _ k = tt

  next_close : (x next : State D) (reply : Reply D) → Next w x next → Next w x (from_close next reply)
  next_close x next Done k = k
  next_close x next (Refused (NoPit p)) k = k
  next_close x next _ k = tt

  next_temp_block : (x : State D) (n : Text) (reply : Reply D) → OnSource w n → Next w x (from_temp_block n reply)
  next_temp_block x n Done k = k
  next_temp_block x n (Refused (NoIndex name)) k = k
  next_temp_block x n _ k = tt

  on_switch : (n : Text) (u : Way) → OnSource u n → OnFinish u (Switch n)
  on_switch n Fresh k = k
  on_switch n Standing k = k
  on_switch n (Below s) k = k

  next_clone : (x : State D) (n : Text) (reply : Reply D) → OnSource w n → Next w x (from_clone v n reply)
  next_clone x n Done k = on_switch n w k
  next_clone x n (Refused (Exists name its)) k = next_where x (is_on n its) (OutdatedOpen (Switch n)) v.target its n (on_switch n w k)
  next_clone x n _ k = tt

  next_outdated_open : (x : State D) (finish : Finish) (reply : Reply D) → OnFinish w finish → Next w x (from_outdated_open finish reply)
  next_outdated_open x finish (Pit p) k = k
  next_outdated_open x finish _ k = tt

  next_listed : (x : State D) (raws : List Text) (cause : List Text → Cause) (next : State D) → Next w x next → Next w x (unless_listed raws cause next)
  next_listed x [] cause next k = k
  next_listed x (raw ∷ raws) cause next k = tt

  next_outdated_read : (x : State D) (finish : Finish) (p : ℕ) (reply : Reply D) → OnFinish w finish → Next w x (from_outdated_read v finish p reply)
  next_outdated_read x finish p (Selected total []) k = k
  next_outdated_read x finish p (Selected total (r ∷ rs)) k =
      next_listed x (raws_where (λ raw doc. is_unknown (v.outcome raw doc)) (r ∷ rs)) Cause.UnknownObjects _
      (next_listed x (raws_where (λ raw doc. is_corrupt (v.outcome raw doc)) (r ∷ rs)) Cause.CorruptObjects _
      (next_listed x (raws_where (λ raw doc. changes_id raw (v.outcome raw doc)) (r ∷ rs)) Cause.OutdatedId _
      (next_listed x (raws_where (λ raw doc. is_newer (v.outcome raw doc)) (r ∷ rs)) Cause.NewerObjects _ k)))
  next_outdated_read x finish p _ k = tt

  next_outdated_bulk : (x : State D) (finish : Finish) (p : ℕ) (last : Text) (reply : Reply D) → OnFinish w finish → Next w x (from_outdated_bulk finish p last reply)
  next_outdated_bulk x finish p last (Items items) k = k
  next_outdated_bulk x finish p last _ k = tt

  next_after : (x : State D) (u : Way) (finish : Finish) → OnFinish u finish → Next u x (after_outdated finish)
  next_after x Standing (Stands index) k = tt
  next_after x (Below s) (Switch n) k = k
  next_after x Fresh finish k = absurd k
  next_after x Standing (Switch n) k = absurd k
  next_after x (Below s) (Stands index) k = absurd k

  next_mark : (from : Option Text) (reply : Reply D) → Next w (MarkReady from) (from_mark v reply)
  next_mark from Done = tt
  next_mark from (Refused (AliasMissing alias index)) = tt
  next_mark from (Refused (AliasTaken alias index)) = tt
  next_mark from (Refused (NoIndex name)) = tt
  next_mark from _ = tt

  next_settled : (x : State D) (o : Option Text) (b : Bool) → Next w x (settled o b)
  next_settled x None b = tt
  next_settled x (Some index) true = tt
  next_settled x (Some index) false = tt

  next_conflict : (x : State D) (reply : Reply D) → Next w x (from_conflict v reply)
  next_conflict x (Seen indices aliases) = next_settled x _ _
  next_conflict x _ = tt

  -- after its first reply a start keeps to its way
  pub nexts : (x : State D) (reply : Reply D) → On w x → ((end : End) → Ended end ≡ x → ⊥) → Next w x (moved v x reply)
  unfolding moved
  nexts Init reply k running = absurd k
  nexts CreateNewTarget reply k running = next_new CreateNewTarget reply k
  nexts (CheckUnknown n) reply k running = next_check (CheckUnknown n) n reply k
  nexts (SetSourceBlock n) reply k running = next_block (SetSourceBlock n) n reply k
  nexts (CreateTemp n) reply k running = next_create (CreateTemp n) n reply k
  nexts (ReindexOpen n) reply k running = next_open (ReindexOpen n) n reply k
  nexts (ReindexRead n p after pass) reply k running = next_read (ReindexRead n p after pass) n p pass reply k
  nexts (ReindexBulk n p last pass outputs) reply k running = next_bulk (ReindexBulk n p last pass outputs) n p last pass reply k
  nexts (ReindexClose n p) reply k running = next_close (ReindexClose n p) (SetTempBlock n) reply k
  nexts (SetTempBlock n) reply k running = next_temp_block (SetTempBlock n) n reply k
  nexts (CloneTemp n) reply k running = next_clone (CloneTemp n) n reply k
  nexts (OutdatedOpen finish) reply k running = next_outdated_open (OutdatedOpen finish) finish reply k
  nexts (OutdatedRead finish p after) reply k running = next_outdated_read (OutdatedRead finish p after) finish p reply k
  nexts (OutdatedBulk finish p last writes) reply k running = next_outdated_bulk (OutdatedBulk finish p last writes) finish p last reply k
  nexts (OutdatedClose finish p) reply k running = next_close (OutdatedClose finish p) (after_outdated finish) reply (next_after (OutdatedClose finish p) w finish k)
  nexts (MarkReady from) reply k running = next_mark from reply
  nexts MarkReadyConflict reply k running = next_conflict MarkReadyConflict reply
  nexts (Ended end) reply k running = absurd (running end refl)
