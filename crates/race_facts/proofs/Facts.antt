-- What holds of a store of several target sets, of each machine and of each request, and what lasts.
use Rattle.std.proofs.Common.{ap, ◌≡◌, ◌≢◌, ℕ, ◌<◌, ◌≤◌, ◌⊎◌, List, [], ◌++◌, true, false, Option, Some, None, sym, ◌∙◌, subst, arith}
use mathlib.Core.Logic.◌⊎◌.{inl, inr}
use Rattle.base_model.specs.Keyed.{Text, Keyed, at}
use Rattle.race_model.specs.Stores.{Rows, Table, Index, Store, Request, renumbered, empty_table, pit_at}
use Rattle.race_model.specs.Stores.Request.{Ping, Create, Block, Clone, OpenPit, ReadPit, ClosePit, Get, Search, Bulk, Aliases}
use Rattle.race_model.specs.Machines.{Settings, Cause, End, Finish, Pass, State, switch, creates}
use Rattle.race_model.specs.Machines.Cause.{UnknownObjects, CorruptObjects, NewerObjects, OutdatedId, Collision, NewerIndex, VersionAliasMissing, LegacyIndex, OtherVersion, Leftover}
use Rattle.race_model.specs.Machines.End.{Fatal, GaveUp}
use Rattle.race_model.specs.Machines.Finish.{Stands, Switch}
use Rattle.race_model.specs.Machines.State.{Init, CreateNewTarget, CheckUnknown, SetSourceBlock, CreateTemp, ReindexOpen, ReindexRead, ReindexBulk, ReindexClose, SetTempBlock, CloneTemp, OutdatedOpen, OutdatedRead, OutdatedBulk, OutdatedClose, MarkReady, MarkReadyConflict, Ended}
use Rattle.race_model.specs.Migrated.{outs, AllApart}
use Rattle.race_model.specs.Sorted.{IsSorted, Each, last_key}
use Rattle.race_tables.proofs.Keys.{NoneOn}
use Rattle.race_tables.proofs.Tables.{Only, Holds, AllHas, IsIn, holds_more}
use Rattle.race_tables.proofs.Outputs.{Is, Clean, Whole, AllGood, PassOf}
use Rattle.race_tables.proofs.Lists.{none_some}
use Rattle.race_tables.proofs.Completing.{Exact}
use Rattle.race_model.specs.Premises.{NotBelow}

-- the switch or install of this version was done, or not yet
abbrev pub Installed : {D Q : Type 0} → Settings D Q → Keyed Text → Type 0
Installed v aliases = at v.version aliases ≡ Some v.target

abbrev pub NotYet : {D Q : Type 0} → Settings D Q → Keyed Text → Type 0
NotYet v aliases = at v.version aliases ≡ None

-- the index is blocked, with this table
pub record IsBlocked {D : Type 0} (ixs : Keyed (Index D)) (n : Text) (F : Table D) : Type 0 where
  pub index : Index D
  pub there : at n ixs ≡ Some index
  pub blocked : index.blocked ≡ true
  pub table : index.table ≡ F

-- an index has this source
pub record IsFrom {D : Type 0} (ixs : Keyed (Index D)) (n source : Text) : Type 0 where
  pub index : Index D
  pub there : at n ixs ≡ Some index
  pub from : index.source ≡ Some source

-- and a row for each of these
pub record HoldsFrom {D : Type 0} (ixs : Keyed (Index D)) (n source : Text) (os : List (Text × D)) : Type 0 where
  pub index : Index D
  pub there : at n ixs ≡ Some index
  pub from : index.source ≡ Some source
  pub holds : Holds os index.table.rows

-- and is blocked
pub record ShutFrom {D : Type 0} (ixs : Keyed (Index D)) (n source : Text) : Type 0 where
  pub index : Index D
  pub there : at n ixs ≡ Some index
  pub from : index.source ≡ Some source
  pub blocked : index.blocked ≡ true

-- a later index under the name: the same source, and the same table once it was blocked
pub record Grown {D : Type 0} (old : Index D) (ixs : Keyed (Index D)) (n : Text) : Type 0 where
  pub index : Index D
  pub there : at n ixs ≡ Some index
  pub from : index.source ≡ old.source
  pub kept : old.blocked ≡ true → (index.blocked ≡ true) × (index.table ≡ old.table)

-- a later temporary index: the same source, and no row less
pub record TempGrown {D : Type 0} (old : Index D) (ixs : Keyed (Index D)) (n : Text) : Type 0 where
  pub index : Index D
  pub there : at n ixs ≡ Some index
  pub from : index.source ≡ old.source
  pub shut : old.blocked ≡ true → index.blocked ≡ true
  pub more : (q : Text) → IsIn q old.table.rows → IsIn q index.table.rows

-- n is the index of an installed version below v
pub record Ground {D Q : Type 0} (In : Settings D Q → Type 0) (v : Settings D Q) (aliases : Keyed Text) (n : Text) : Type 0 where
  pub set : Settings D Q
  pub is_in : In set
  pub name : n ≡ set.target
  pub installed : Installed set aliases
  pub not_later : v.is_later n ≡ false
  pub not_same : v.is_same n ≡ false

-- and it is blocked with the table F
pub record SourceOf {D Q : Type 0} (In : Settings D Q → Type 0) (v : Settings D Q) (st : Store D) (n : Text) (F : Table D) : Type 0 where
  pub ground : Ground In v st.aliases n
  pub blocked : IsBlocked st.indices n F
  pub sorted : IsSorted F.rows

-- how far a machine has read its source: before is read, done is written, pending is in its hands
pub record Read {D Q : Type 0} (v : Settings D Q) (F : Table D) (after : Option Text) (pass : Pass) (done pending : List (Text × D)) : Type 0 where
  pub before : Rows D
  pub rest : Rows D
  pub all : F.rows ≡ before ++ rest
  pub after_is : after ≡ last_key None before
  pub outputs : outs v before ≡ done ++ pending
  pub good : AllGood v before
  pub apart : AllApart (outs v before)
  pub known : PassOf pass (outs v before)
  pub exact : Exact pass (outs v before)

module _ {D Q : Type 0} (cur : Text) (In : Settings D Q → Type 0) (Fresh : Settings D Q → Text → D → Type 0) (Empty : Type 0) where
  -- the current alias names no index, or that of an installed version
  pub data Current (aliases : Keyed Text) : Type 0 where
    Nowhere : at cur aliases ≡ None → Empty → ((v : Settings D Q) → In v → NotYet v aliases) → Current aliases
    On : (w : Settings D Q) → In w → at cur aliases ≡ Some w.target → Installed w aliases → Current aliases

  pub record AliasOk (aliases : Keyed Text) : Type 0 where
    pub current : Current aliases
    pub versions : (v : Settings D Q) → In v → NotYet v aliases ⊎ Installed v aliases
    -- no version above the current one is installed
    pub rising : (v : Settings D Q) → In v → Installed v aliases → (c : Text) → at cur aliases ≡ Some c → NotBelow v c
    pub no_target_alias : (v : Settings D Q) → In v → at v.target aliases ≡ None
    pub no_temp_alias : (v : Settings D Q) → In v → at v.temp aliases ≡ None
    pub none_on : (v : Settings D Q) → In v → NoneOn v.temp aliases

  -- a temporary index before its version's switch: the outputs of its source alone, and all of them once it is blocked
  pub record TempOk (v : Settings D Q) (st : Store D) (ix : Index D) : Type 0 where
    pub source : Text
    pub table : Table D
    pub from : ix.source ≡ Some source
    pub ground : SourceOf In v st source table
    pub only : Only (outs v table.rows) ix.table.rows
    pub sorted : IsSorted ix.table.rows
    pub whole : ix.blocked ≡ true → Holds (outs v table.rows) ix.table.rows × Clean v table.rows

  -- a target before its version's switch: empty in a store that opened empty, or made of its source, while the temporary index is there
  pub record Made (v : Settings D Q) (st : Store D) (ix : Index D) : Type 0 where
    pub source : Text
    pub table : Table D
    pub ground : SourceOf In v st source table
    pub temp : IsFrom st.indices v.temp source
    pub copied : Table D
    pub whole : Whole v table.rows copied
    pub is : ix ≡ record { blocked = false; source = Some source; table = renumbered copied }

  pub data TargetOk (v : Settings D Q) (st : Store D) (ix : Index D) : Type 0 where
    Bare : Empty → ix ≡ record { blocked = false; source = None; table = empty_table } → TargetOk v st ix
    Copied : Made v st ix → TargetOk v st ix

  pub record StoreOk (st : Store D) : Type 0 where
    pub aliases : AliasOk st.aliases
    pub there : (v : Settings D Q) → In v → Installed v st.aliases → Is st.indices v.target
    -- an installed version's index that is open is the current one
    pub open_last : (v : Settings D Q) → In v → Installed v st.aliases → (ix : Index D) → at v.target st.indices ≡ Some ix → ix.blocked ≡ false → at cur st.aliases ≡ Some v.target
    pub no_cur_index : at cur st.indices ≡ None
    pub no_ver_index : (v : Settings D Q) → In v → at v.version st.indices ≡ None
    pub sorted : (v : Settings D Q) → In v → (ix : Index D) → at v.target st.indices ≡ Some ix → IsSorted ix.table.rows
    pub fresh : (v : Settings D Q) → In v → (ix : Index D) → at v.target st.indices ≡ Some ix → Each (Fresh v) ix.table.rows
    pub temps : (v : Settings D Q) → In v → NotYet v st.aliases → (ix : Index D) → at v.temp st.indices ≡ Some ix → TempOk v st ix
    pub targets : (v : Settings D Q) → In v → NotYet v st.aliases → (ix : Index D) → at v.target st.indices ≡ Some ix → TargetOk v st ix

  -- what lasts
  pub record Later (st st' : Store D) : Type 0 where
    pub installed : (v : Settings D Q) → In v → Installed v st.aliases → Installed v st'.aliases
    pub named : (c : Text) → at cur st.aliases ≡ Some c → (d : Text) × (at cur st'.aliases ≡ Some d)
    -- the current alias never goes back
    pub off : (v : Settings D Q) → In v → Installed v st.aliases → at cur st.aliases ≢ Some v.target → at cur st'.aliases ≢ Some v.target
    pub target : (v : Settings D Q) → In v → (ix : Index D) → at v.target st.indices ≡ Some ix → Grown ix st'.indices v.target
    pub temp : (v : Settings D Q) → In v → (ix : Index D) → at v.temp st.indices ≡ Some ix → Installed v st'.aliases ⊎ TempGrown ix st'.indices v.temp
    pub opened : st.opened ≤ st'.opened
    pub pits : (p : ℕ) → p < st.opened → (pit_at p st'.pits ≡ None) ⊎ (pit_at p st'.pits ≡ pit_at p st.pits)

  abbrev pub PitOk : Store D → ℕ → Rows D → Type 0
  PitOk st p rows = (p < st.opened) × ((pit_at p st.pits ≡ None) ⊎ (pit_at p st.pits ≡ Some rows))

  -- the temporary index has its source and these outputs, or the switch was done
  abbrev pub Wrote : Settings D Q → Store D → Text → List (Text × D) → Type 0
  Wrote v st n os = Installed v st.aliases ⊎ HoldsFrom st.indices v.temp n os

  abbrev pub TempDone : Settings D Q → Store D → Text → Table D → Type 0
  TempDone v st n F = Installed v st.aliases ⊎ (HoldsFrom st.indices v.temp n (outs v F.rows) × Clean v F.rows)

  abbrev pub TempShut : Settings D Q → Store D → Text → Type 0
  TempShut v st n = Installed v st.aliases ⊎ ShutFrom st.indices v.temp n

  -- the target was made of this source
  pub record Ready (v : Settings D Q) (st : Store D) (n : Text) : Type 0 where
    pub ground : Ground In v st.aliases n
    pub target : IsFrom st.indices v.target n

  -- what a request of an instance of the set v needs, also one that comes late
  pub data Cond (v : Settings D Q) (st : Store D) : Request D Q → Type 0 where
    Any_ping : Cond v st Ping
    Any_state : Cond v st Request.State
    Any_open : (n : Text) → Cond v st (OpenPit n)
    Any_read : (p : ℕ) (query : Q) → Cond v st (ReadPit p query)
    Any_close : (p : ℕ) → Cond v st (ClosePit p)
    Any_get : (n : Text) (raws : List Text) → Cond v st (Get n raws)
    Any_search : (n : Text) (query : Q) → Cond v st (Search n query)
    Makes_temp : (n : Text) (F : Table D) → SourceOf In v st n F → Cond v st (Create v.temp (Some n))
    Makes_target : Empty → Cond v st (Create v.target None)
    Blocks_source : (n : Text) → Ground In v st.aliases n → Cond v st (Block n)
    Blocks_temp : (n : Text) (F : Table D) → SourceOf In v st n F → TempDone v st n F → Cond v st (Block v.temp)
    Copies : (n : Text) → TempShut v st n → Cond v st (Clone v.temp v.target)
    Writes : (n : Text) (F : Table D) (os : List (Text × D)) → SourceOf In v st n F → AllHas os (outs v F.rows) → Wrote v st n [] → Cond v st (Bulk v.temp (creates os))
    Switches : (n : Text) → Ready v st n → Cond v st (Aliases (switch v (Some n)))
    Installs : Empty → Is st.indices v.target → Cond v st (Aliases (switch v None))

  abbrev pub FinishOk : Settings D Q → Store D → Finish → Type 0
  FinishOk v st (Stands index) = (index ≡ v.target) × Installed v st.aliases
  FinishOk v st (Switch n) = Ready v st n

  abbrev pub PitFresh : Settings D Q → Store D → ℕ → Type 0
  PitFresh v st p = (rows : Rows D) × PitOk st p rows × Each (Fresh v) rows

  -- the index of another installed version
  pub record Other (st : Store D) (n : Text) : Type 0 where
    pub set : Settings D Q
    pub is_in : In set
    pub name : n ≡ set.target
    pub installed : Installed set st.aliases

  -- why a machine ended
  abbrev pub CauseOk : Settings D Q → Store D → Cause → Type 0
  CauseOk v st (UnknownObjects raws) = Unit {0}
  CauseOk v st (CorruptObjects raws) = Unit {0}
  CauseOk v st (NewerObjects raws) = Unit {0}
  CauseOk v st (Collision first second raw) = Unit {0}
  CauseOk v st (NewerIndex n) = (v.is_later n ≡ true) × Other st n
  CauseOk v st (OtherVersion (Some n)) = (n ≢ v.target) × Other st n
  CauseOk v st (OtherVersion None) = ⊥
  CauseOk v st (Leftover n its from) = ((n ≡ v.temp) ⊎ (n ≡ v.target)) × (its ≢ Some from)
  CauseOk v st (OutdatedId raws) = ⊥
  CauseOk v st (VersionAliasMissing n) = ⊥
  CauseOk v st (LegacyIndex n) = ⊥
  CauseOk v st (Cause.NameTaken n) = ⊥

  abbrev pub EndOk : Settings D Q → Store D → End → Type 0
  EndOk v st (End.Done target) = (target ≡ v.target) × Installed v st.aliases
  EndOk v st (Fatal cause) = CauseOk v st cause
  EndOk v st (GaveUp state faults) = Unit {0}

  abbrev pub MarkOk : Settings D Q → Store D → Option Text → Type 0
  MarkOk v st None = Empty × Is st.indices v.target
  MarkOk v st (Some n) = Ready v st n

  -- the current alias has left the machine's source, or there was none
  abbrev pub Passed : Settings D Q → Store D → Type 0
  Passed v st = Empty ⊎ ((n : Text) × Ground In v st.aliases n × (at cur st.aliases ≢ Some n))

  -- what holds where a machine of the set v is in this state
  abbrev pub StateOk : Settings D Q → Store D → State D → Type 0
  StateOk v st Init = Unit {0}
  StateOk v st CreateNewTarget = Empty
  StateOk v st (CheckUnknown n) = Ground In v st.aliases n
  StateOk v st (SetSourceBlock n) = Ground In v st.aliases n
  StateOk v st (CreateTemp n) = (F : Table D) × SourceOf In v st n F
  StateOk v st (ReindexOpen n) = (F : Table D) × SourceOf In v st n F × Wrote v st n []
  StateOk v st (ReindexRead n p after pass) = (F : Table D) × SourceOf In v st n F × PitOk st p F.rows × (done : List (Text × D)) × Read v F after pass done [] × Wrote v st n done
  StateOk v st (ReindexBulk n p last pass outputs) = (F : Table D) × SourceOf In v st n F × PitOk st p F.rows × (done : List (Text × D)) × Read v F (Some last) pass done outputs × Wrote v st n done
  StateOk v st (ReindexClose n p) = (F : Table D) × SourceOf In v st n F × TempDone v st n F
  StateOk v st (SetTempBlock n) = (F : Table D) × SourceOf In v st n F × TempDone v st n F
  StateOk v st (CloneTemp n) = (F : Table D) × SourceOf In v st n F × TempShut v st n
  StateOk v st (OutdatedOpen finish) = FinishOk v st finish
  StateOk v st (OutdatedRead finish p after) = FinishOk v st finish × PitFresh v st p
  StateOk v st (OutdatedBulk finish p last writes) = ⊥
  StateOk v st (OutdatedClose finish p) = FinishOk v st finish
  StateOk v st (MarkReady from) = MarkOk v st from
  StateOk v st MarkReadyConflict = (c : Text) × (at cur st.aliases ≡ Some c) × Passed v st
  StateOk v st (Ended end) = EndOk v st end

  -- what lasts keeps them
  module _ (st st' : Store D) (later : Later st st') where
    pub ground_later : (v : Settings D Q) (n : Text) → Ground In v st.aliases n → Ground In v st'.aliases n
    ground_later v n g = record { set = g.set; is_in = g.is_in; name = g.name; installed = later.installed g.set g.is_in g.installed; not_later = g.not_later; not_same = g.not_same }

    pub blocked_later : (u : Settings D Q) (n : Text) (F : Table D) → In u → n ≡ u.target → IsBlocked st.indices n F → IsBlocked st'.indices n F
    blocked_later u n F i e b =
        let g : Grown b.index st'.indices u.target = later.target u i b.index (subst (λ m. at m st.indices ≡ Some b.index) e b.there) in
        record { index = g.index; there = subst (λ m. at m st'.indices ≡ Some g.index) (sym e) g.there; blocked = (g.kept b.blocked).0; table = (g.kept b.blocked).1 ∙ b.table }

    pub source_later : (v : Settings D Q) (n : Text) (F : Table D) → SourceOf In v st n F → SourceOf In v st' n F
    source_later v n F s = record { ground = ground_later v n s.ground; blocked = blocked_later s.ground.set n F s.ground.is_in s.ground.name s.blocked; sorted = s.sorted }

    pub wrote_later : (v : Settings D Q) (n : Text) (os : List (Text × D)) → In v → Wrote v st n os → Wrote v st' n os
    wrote_later v n os i (inl w) = inl (later.installed v i w)
    wrote_later v n os i (inr h) = elim (later.temp v i h.index h.there) [
      | inl w ↦ inl w
      | inr g ↦ inr (record { index = g.index; there = g.there; from = g.from ∙ h.from; holds = holds_more os h.index.table.rows g.index.table.rows g.more h.holds })
    ]

    pub done_later : (v : Settings D Q) (n : Text) (F : Table D) → In v → TempDone v st n F → TempDone v st' n F
    done_later v n F i (inl w) = inl (later.installed v i w)
    done_later v n F i (inr h) = elim (wrote_later v n (outs v F.rows) i (inr h.0)) [ inl w ↦ inl w | inr g ↦ inr (g, h.1) ]

    pub shut_later : (v : Settings D Q) (n : Text) → In v → TempShut v st n → TempShut v st' n
    shut_later v n i (inl w) = inl (later.installed v i w)
    shut_later v n i (inr h) = elim (later.temp v i h.index h.there) [
      | inl w ↦ inl w
      | inr g ↦ inr (record { index = g.index; there = g.there; from = g.from ∙ h.from; blocked = g.shut h.blocked })
    ]

    pub is_later : (v : Settings D Q) → In v → Is st.indices v.target → Is st'.indices v.target
    is_later v i t = let g : Grown t.0 st'.indices v.target = later.target v i t.0 t.1 in (g.index, g.there)

    pub ready_later : (v : Settings D Q) (n : Text) → In v → Ready v st n → Ready v st' n
    ready_later v n i r =
        let g : Grown r.target.index st'.indices v.target = later.target v i r.target.index r.target.there in
        record { ground = ground_later v n r.ground; target = record { index = g.index; there = g.there; from = g.from ∙ r.target.from } }

    pub cond_later : (v : Settings D Q) (ask : Request D Q) → In v → Cond v st ask → Cond v st' ask
    cond_later v _ i Any_ping = Any_ping
    cond_later v _ i Any_state = Any_state
    cond_later v _ i (Any_open n) = Any_open n
    cond_later v _ i (Any_read p query) = Any_read p query
    cond_later v _ i (Any_close p) = Any_close p
    cond_later v _ i (Any_get n raws) = Any_get n raws
    cond_later v _ i (Any_search n query) = Any_search n query
    cond_later v _ i (Makes_temp n F s) = Makes_temp n F (source_later v n F s)
    cond_later v _ i (Makes_target e) = Makes_target e
    cond_later v _ i (Blocks_source n g) = Blocks_source n (ground_later v n g)
    cond_later v _ i (Blocks_temp n F s d) = Blocks_temp n F (source_later v n F s) (done_later v n F i d)
    cond_later v _ i (Copies n h) = Copies n (shut_later v n i h)
    cond_later v _ i (Writes n F os s h w) = Writes n F os (source_later v n F s) h (wrote_later v n [] i w)
    cond_later v _ i (Switches n r) = Switches n (ready_later v n i r)
    cond_later v _ i (Installs e t) = Installs e (is_later v i t)

    pub pit_later : (p : ℕ) (rows : Rows D) → PitOk st p rows → PitOk st' p rows
    pit_later p rows c = (omega (arith, later.opened), by c.1 (later.pits p c.0))
      where
        by : (pit_at p st.pits ≡ None) ⊎ (pit_at p st.pits ≡ Some rows) → (pit_at p st'.pits ≡ None) ⊎ (pit_at p st'.pits ≡ pit_at p st.pits) → (pit_at p st'.pits ≡ None) ⊎ (pit_at p st'.pits ≡ Some rows)
        by x (inl e) = inl e
        by (inl f) (inr e) = inl (e ∙ f)
        by (inr f) (inr e) = inr (e ∙ f)

    pub finish_later : (v : Settings D Q) (finish : Finish) → In v → FinishOk v st finish → FinishOk v st' finish
    finish_later v (Stands index) i c = (c.0, later.installed v i c.1)
    finish_later v (Switch n) i c = ready_later v n i c

    other_later : (n : Text) → Other st n → Other st' n
    other_later n o = record { set = o.set; is_in = o.is_in; name = o.name; installed = later.installed o.set o.is_in o.installed }

    end_later : (v : Settings D Q) (end : End) → In v → EndOk v st end → EndOk v st' end
    end_later v (End.Done target) i c = (c.0, later.installed v i c.1)
    end_later v (Fatal (UnknownObjects raws)) i c = c
    end_later v (Fatal (CorruptObjects raws)) i c = c
    end_later v (Fatal (NewerObjects raws)) i c = c
    end_later v (Fatal (Collision first second raw)) i c = c
    end_later v (Fatal (NewerIndex n)) i c = (c.0, other_later n c.1)
    end_later v (Fatal (OtherVersion (Some n))) i c = (c.0, other_later n c.1)
    end_later v (Fatal (OtherVersion None)) i c = c
    end_later v (Fatal (Leftover n its from)) i c = c
    end_later v (Fatal (OutdatedId raws)) i c = c
    end_later v (Fatal (VersionAliasMissing n)) i c = c
    end_later v (Fatal (LegacyIndex n)) i c = c
    end_later v (Fatal (Cause.NameTaken n)) i c = c
    end_later v (GaveUp state faults) i c = c

    passed_later : (v : Settings D Q) → Passed v st → Passed v st'
    passed_later v (inl e) = inl e
    passed_later v (inr p) = inr (p.0, ground_later v p.0 p.1, λ e. later.off p.1.set p.1.is_in p.1.installed (λ f. p.2 (f ∙ ap (λ z. Some z) (sym p.1.name))) (e ∙ ap (λ z. Some z) p.1.name))

    pub state_later : (v : Settings D Q) (state : State D) → In v → StateOk v st state → StateOk v st' state
    state_later v Init i c = c
    state_later v CreateNewTarget i c = c
    state_later v (CheckUnknown n) i c = ground_later v n c
    state_later v (SetSourceBlock n) i c = ground_later v n c
    state_later v (CreateTemp n) i c = (c.0, source_later v n c.0 c.1)
    state_later v (ReindexOpen n) i c = (c.0, source_later v n c.0 c.1, wrote_later v n [] i c.2)
    state_later v (ReindexRead n p after pass) i c = (c.0, source_later v n c.0 c.1, pit_later p c.0.rows c.2, c.3, c.4, wrote_later v n c.3 i c.5)
    state_later v (ReindexBulk n p last pass outputs) i c = (c.0, source_later v n c.0 c.1, pit_later p c.0.rows c.2, c.3, c.4, wrote_later v n c.3 i c.5)
    state_later v (ReindexClose n p) i c = (c.0, source_later v n c.0 c.1, done_later v n c.0 i c.2)
    state_later v (SetTempBlock n) i c = (c.0, source_later v n c.0 c.1, done_later v n c.0 i c.2)
    state_later v (CloneTemp n) i c = (c.0, source_later v n c.0 c.1, shut_later v n i c.2)
    state_later v (OutdatedOpen finish) i c = finish_later v finish i c
    state_later v (OutdatedRead finish p after) i c = (finish_later v finish i c.0, (c.1.0, pit_later p c.1.0 c.1.1, c.1.2))
    state_later v (OutdatedBulk finish p last writes) i c = c
    state_later v (OutdatedClose finish p) i c = finish_later v finish i c
    state_later v (MarkReady None) i c = (c.0, is_later v i c.1)
    state_later v (MarkReady (Some n)) i c = ready_later v n i c
    state_later v MarkReadyConflict i c = let k = later.named c.0 c.1 in (k.0, k.1, passed_later v c.2)
    state_later v (Ended end) i c = end_later v end i c

    pub temp_ok_later : (v : Settings D Q) (ix : Index D) → TempOk v st ix → TempOk v st' ix
    temp_ok_later v ix t = record { source = t.source; table = t.table; from = t.from; ground = source_later v t.source t.table t.ground; only = t.only; sorted = t.sorted; whole = t.whole }

    pub target_ok_later : (v : Settings D Q) (ix : Index D) → In v → NotYet v st'.aliases → TargetOk v st ix → TargetOk v st' ix
    target_ok_later v ix i not (Bare e q) = Bare e q
    target_ok_later v ix i not (Copied m) = Copied (record {
      source = m.source;
      table = m.table;
      ground = source_later v m.source m.table m.ground;
      temp = elim (later.temp v i m.temp.index m.temp.there) [
        | inl w ↦ none_some v.target (at v.version st'.aliases) not w
        | inr g ↦ record { index = g.index; there = g.there; from = g.from ∙ m.temp.from }
      ];
      copied = m.copied;
      whole = m.whole;
      is = m.is;
    })
