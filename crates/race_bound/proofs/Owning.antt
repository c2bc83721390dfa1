-- Each pit that a machine reads is its own, and nobody closes it before it is read.
use Rattle.std.proofs.Common.{◌≡◌, ◌≢◌, ℕ, ◌<◌, ◌≤◌, List, [], ◌∷◌, Bool, true, false, Option, Some, None, refl, ◌∙◌, subst, if◌then◌else◌, ◌==◌, arith}
use Rattle.std.proofs.lemmas.Bool.Decides.{nat_tests}
use Rattle.base_model.specs.Keyed.{Text, same, at, without}
use Rattle.race_model.specs.Stores.{Select, Rows, Index, IndexSeen, Store, Write, Action, Acted, Request, Reply, serve, pit_at, meant, create_over, block_over, clone_over, copy_of, open_over, close_over, bulk_over, bulk_in, remove_over, add_over, drop_over, with_aliases, act, act_all, acted_answer}
use Rattle.race_model.specs.Stores.Request.{Ping, Create, Block, Clone, OpenPit, ReadPit, ClosePit, Get, Search, Bulk, Aliases}
use Rattle.race_model.specs.Stores.Reply.{Done, Seen, Selected, Items, Refused}
use Rattle.race_model.specs.Stores.Refusal.{Exists, NameTaken, NoIndex, Blocked, NoPit, AliasMissing, AliasTaken}
use Rattle.race_model.specs.Stores.Acted.{Now, Stuck}
use Rattle.race_model.specs.Stores.Action.{RemoveMustExist, Add, RemoveIndex}
use Rattle.race_model.specs.Machines.{Settings, Cause, End, raws_where, is_unknown, is_corrupt, is_newer, changes_id, unless_left, unless_listed, Finish, Pass, Batch, State, batch, last_of, by_index, by_aliases, unless_legacy, is_on, from_state, from_check, from_source_block, where_from, from_create_temp, from_open, by_batch, from_read, from_bulk, from_close, from_temp_block, from_clone, from_outdated_open, from_outdated_read, after_outdated, from_mark, settled, is_on_some, from_conflict}
use Rattle.race_model.specs.Machines.Cause.{UnknownObjects, CorruptObjects, NewerObjects, OutdatedId}
use Rattle.race_model.specs.Machines.Batch.{Good, Bad}
use Rattle.race_model.specs.Machines.Finish.{Stands, Switch}
use Rattle.race_model.specs.Machines.State.{Init, CreateNewTarget, CheckUnknown, SetSourceBlock, CreateTemp, ReindexOpen, ReindexRead, ReindexBulk, ReindexClose, SetTempBlock, CloneTemp, OutdatedOpen, OutdatedRead, OutdatedBulk, OutdatedClose, MarkReady, MarkReadyConflict, Ended}
use Rattle.race_tables.proofs.Keys.{pit_at_close}
use Rattle.race_tables.proofs.Requests.{pit_here}

-- who opened a pit: an instance and its start
abbrev pub Owner : Type 0
Owner = ℕ → Option (ℕ × ℕ)

abbrev pub claimed : Owner → ℕ → ℕ × ℕ → Owner
claimed o n a p = if p == n then Some a else o p

pub claimed_below : (o : Owner) (n p : ℕ) (a : ℕ × ℕ) → p < n → claimed o n a p ≡ o p
claimed_below o n p a lt = by (p == n) refl
  where
    by : (b : Bool) → (p == n) ≡ b → (if b then Some a else o p) ≡ o p
    by true e = absurd (let f : p ≡ n = grind (arith, nat_tests) in omega arith)
    by false e = refl

pub claimed_here : (o : Owner) (n : ℕ) (a : ℕ × ℕ) → claimed o n a n ≡ Some a
claimed_here o n a = grind (arith, nat_tests)

module _ {D Q : Type 0} (select : Select D Q) (s : Settings D Q) where
  abbrev pub Own : Owner → Store D → ℕ × ℕ → ℕ → Type 0
  Own o st a p = (o p ≡ Some a) × (p < st.opened)

  -- what a start holds
  abbrev pub HeldOk : Owner → Store D → ℕ × ℕ → State D → Type 0
  HeldOk o st a (ReindexRead from p after pass) = Own o st a p × ((rows : Rows D) × (pit_at p st.pits ≡ Some rows))
  HeldOk o st a (ReindexBulk from p last pass outputs) = Own o st a p × ((rows : Rows D) × (pit_at p st.pits ≡ Some rows))
  HeldOk o st a (ReindexClose from p) = Own o st a p
  HeldOk o st a (OutdatedRead finish p after) = Own o st a p × ((rows : Rows D) × (pit_at p st.pits ≡ Some rows))
  HeldOk o st a (OutdatedClose finish p) = Own o st a p
  HeldOk o st a _ = Unit {0}

  -- it doesn't read this pit
  abbrev pub FreeOf : ℕ → State D → Type 0
  FreeOf q (ReindexRead from p after pass) = p ≢ q
  FreeOf q (ReindexBulk from p last pass outputs) = p ≢ q
  FreeOf q (OutdatedRead finish p after) = p ≢ q
  FreeOf q _ = Unit {0}

  -- a request closes no pit that this state reads
  abbrev pub Spares : Request D Q → State D → Type 0
  Spares (ClosePit q) state = FreeOf q state
  Spares _ state = Unit {0}

  -- what a request keeps of the pits
  pub record PitsKept (st st' : Store D) (spared : ℕ → Type 0) : Type 0 where
    pub opened : st.opened ≤ st'.opened
    pub pits : (p : ℕ) (rows : Rows D) → p < st.opened → spared p → pit_at p st.pits ≡ Some rows → pit_at p st'.pits ≡ Some rows

  abbrev pub Spared : Request D Q → ℕ → Type 0
  Spared (ClosePit q) p = p ≢ q
  Spared _ p = Unit {0}

  same_pits : (st st' : Store D) (spared : ℕ → Type 0) → st'.opened ≡ st.opened → st'.pits ≡ st.pits → PitsKept st st' spared
  same_pits st st' spared e f = record { opened = omega arith; pits = λ p rows lt sp h. rw f h }

  open_kept : (st : Store D) (o : Option (Index D)) (n : Text) → PitsKept st (open_over o st n).0 (λ p. Unit {0})
  unfolding pit_at
  open_kept st None n = same_pits st st (λ p. Unit {0}) refl refl
  open_kept st (Some ix) n = record { opened = omega arith; pits = λ p rows lt sp h. grind (arith, nat_tests) }

  close_kept : (st : Store D) (o : Option (Rows D)) (q : ℕ) → PitsKept st (close_over o st q).0 (λ p. p ≢ q)
  close_kept st None q = same_pits st st (λ p. p ≢ q) refl refl
  close_kept st (Some rows) q = record { opened = omega arith; pits = λ p r lt sp h. rw (pit_at_close p q st.pits) (by p r sp h (p == q) refl) }
    where
      by : (p : ℕ) (r : Rows D) → p ≢ q → pit_at p st.pits ≡ Some r → (b : Bool) → (p == q) ≡ b → (if b then None else pit_at p st.pits) ≡ Some r
      by p r n h true e = absurd (n (grind (arith, nat_tests)))
      by p r n h false e = h

  create_kept : (st : Store D) (o : Option (Index D)) (alias : Option Text) (n : Text) (made : Option Text) → PitsKept st (create_over o alias st n made).0 (λ p. Unit {0})
  create_kept st (Some ix) alias n made = same_pits st st (λ p. Unit {0}) refl refl
  create_kept st None (Some i) n made = same_pits st st (λ p. Unit {0}) refl refl
  create_kept st None None n made = same_pits st (create_over None None st n made).0 (λ p. Unit {0}) refl refl

  block_kept : (st : Store D) (o : Option (Index D)) (n : Text) → PitsKept st (block_over o st n).0 (λ p. Unit {0})
  block_kept st None n = same_pits st st (λ p. Unit {0}) refl refl
  block_kept st (Some ix) n = same_pits st (block_over (Some ix) st n).0 (λ p. Unit {0}) refl refl

  clone_kept : (st : Store D) (o : Option (Index D)) (alias : Option Text) (temp : Option (Index D)) (a b : Text) → PitsKept st (clone_over o alias temp st a b).0 (λ p. Unit {0})
  clone_kept st (Some ix) alias temp a b = same_pits st st (λ p. Unit {0}) refl refl
  clone_kept st None (Some i) temp a b = same_pits st st (λ p. Unit {0}) refl refl
  clone_kept st None None None a b = same_pits st st (λ p. Unit {0}) refl refl
  clone_kept st None None (Some ix) a b = by ix.blocked
    where
      by : (t : Bool) → PitsKept st (copy_of t ix st a b).0 (λ p. Unit {0})
      by false = same_pits st st (λ p. Unit {0}) refl refl
      by true = same_pits st (copy_of true ix st a b).0 (λ p. Unit {0}) refl refl

  bulk_kept : (st : Store D) (o : Option (Index D)) (name n : Text) (ws : List (Write D)) → PitsKept st (bulk_over o st name n ws).0 (λ p. Unit {0})
  bulk_kept st None name n ws = same_pits st st (λ p. Unit {0}) refl refl
  bulk_kept st (Some ix) name n ws = by ix.blocked
    where
      by : (t : Bool) → PitsKept st (bulk_in t ix st n ws).0 (λ p. Unit {0})
      by true = same_pits st st (λ p. Unit {0}) refl refl
      by false = same_pits st (bulk_in false ix st n ws).0 (λ p. Unit {0}) refl refl

  -- actions change no pit
  abbrev ActKept : Store D → Acted D → Type 0
  ActKept st (Now new) = (new.opened ≡ st.opened) × (new.pits ≡ st.pits)
  ActKept st (Stuck why) = Unit {0}

  act_one : (st : Store D) (a : Action) → ActKept st (act st a)
  unfolding act
  act_one st (RemoveMustExist alias index) = by (at alias st.aliases)
    where
      by : (o : Option Text) → ActKept st (remove_over o st alias index)
      by None = tt
      by (Some i) = same_text (same i index)
        where
          same_text : (b : Bool) → ActKept st (if b then Now (with_aliases st (without alias st.aliases)) else Stuck (AliasMissing alias index))
          same_text true = (refl, refl)
          same_text false = tt
  act_one st (Add alias index) = by (at index st.indices) (at alias st.indices) (at alias st.aliases)
    where
      by : (a b : Option (Index D)) (o : Option Text) → ActKept st (add_over a b o st alias index)
      by None b o = tt
      by (Some x) (Some y) o = tt
      by (Some x) None None = (refl, refl)
      by (Some x) None (Some i) = same_text (same i index)
        where
          same_text : (b : Bool) → ActKept st (if b then Now st else Stuck (AliasTaken alias i))
          same_text true = (refl, refl)
          same_text false = tt
  act_one st (RemoveIndex index) = by (at index st.indices)
    where
      by : (o : Option (Index D)) → ActKept st (drop_over o st index)
      by None = tt
      by (Some ix) = (refl, refl)

  act_many : (st : Store D) (acted : Acted D) (actions : List Action) → ActKept st acted → ActKept st (act_all acted actions)
  unfolding act_all
  act_many st acted [] k = k
  act_many st (Stuck why) (a ∷ actions) k = tt
  act_many st (Now new) (a ∷ actions) k = act_many st (act new a) actions (next (act new a) (act_one new a))
    where
      next : (x : Acted D) → ActKept new x → ActKept st x
      next (Now y) h = (h.0 ∙ k.0, h.1 ∙ k.1)
      next (Stuck why) h = tt

  acted_kept : (st : Store D) (x : Acted D) → ActKept st x → PitsKept st (acted_answer st x).0 (λ p. Unit {0})
  acted_kept st (Now new) k = same_pits st new (λ p. Unit {0}) k.0 k.1
  acted_kept st (Stuck why) k = same_pits st st (λ p. Unit {0}) refl refl

  pub serve_kept : (st : Store D) (ask : Request D Q) → PitsKept st (serve select st ask).0 (Spared ask)
  unfolding serve
  serve_kept st Ping = same_pits st st (λ p. Unit {0}) refl refl
  serve_kept st Request.State = same_pits st st (λ p. Unit {0}) refl refl
  serve_kept st (Create name made) = create_kept st (at name st.indices) (at name st.aliases) name made
  serve_kept st (Block name) = block_kept st (at name st.indices) name
  serve_kept st (Clone from goal) = clone_kept st (at goal st.indices) (at goal st.aliases) (at from st.indices) from goal
  serve_kept st (OpenPit name) = open_kept st (at (meant st name) st.indices) name
  serve_kept st (ReadPit p query) = same_pits st st (λ p. Unit {0}) refl refl
  serve_kept st (ClosePit p) = close_kept st (pit_at p st.pits) p
  serve_kept st (Get name raws) = same_pits st st (λ p. Unit {0}) refl refl
  serve_kept st (Search name query) = same_pits st st (λ p. Unit {0}) refl refl
  serve_kept st (Bulk name ws) = bulk_kept st (at (meant st name) st.indices) name (meant st name) ws
  serve_kept st (Aliases actions) = acted_kept st (act_all (Now st) actions) (act_many st (Now st) actions (refl, refl))

  -- what a start holds it still holds, where the request spares it
  spared : (ask : Request D Q) (p : ℕ) → ((q : ℕ) → ask ≡ ClosePit q → p ≢ q) → Spared ask p
  spared (ClosePit q) p f = f q refl
  spared Ping p f = tt
  spared Request.State p f = tt
  spared (Create name made) p f = tt
  spared (Block name) p f = tt
  spared (Clone from goal) p f = tt
  spared (OpenPit name) p f = tt
  spared (ReadPit r query) p f = tt
  spared (Get name raws) p f = tt
  spared (Search name query) p f = tt
  spared (Bulk name ws) p f = tt
  spared (Aliases actions) p f = tt

  -- an owner map that agrees on the pits that were opened
  abbrev pub Agrees : Owner → Owner → Store D → Type 0
  Agrees o o' st = (p : ℕ) → p < st.opened → o' p ≡ o p

  own_kept : (o o' : Owner) (st st' : Store D) (a : ℕ × ℕ) (p : ℕ) → Agrees o o' st → st.opened ≤ st'.opened → Own o st a p → Own o' st' a p
  own_kept o o' st st' a p g le h = (g p h.1 ∙ h.0, omega arith)

  spare_read : (ask : Request D Q) (from : Text) (p : ℕ) (after : Option Text) (pass : Pass) → Spares ask (ReindexRead from p after pass) → Spared ask p
  spare_read ask from p after pass sp = spared ask p (λ q e. subst (λ r. Spares r (ReindexRead from p after pass)) e sp)

  spare_outdated : (ask : Request D Q) (finish : Finish) (p : ℕ) (after : Option Text) → Spares ask (OutdatedRead finish p after) → Spared ask p
  spare_outdated ask finish p after sp = spared ask p (λ q e. subst (λ r. Spares r (OutdatedRead finish p after)) e sp)

  spare_bulk : (ask : Request D Q) (from : Text) (p : ℕ) (last : Text) (pass : Pass) (outputs : List (Text × D)) → Spares ask (ReindexBulk from p last pass outputs) → Spared ask p
  spare_bulk ask from p last pass outputs sp = spared ask p (λ q e. subst (λ r. Spares r (ReindexBulk from p last pass outputs)) e sp)

  pub held_kept : (o o' : Owner) (st : Store D) (a : ℕ × ℕ) (ask : Request D Q) (state : State D) → Agrees o o' st → Spares ask state → HeldOk o st a state → HeldOk o' (serve select st ask).0 a state
  held_kept o o' st a ask (ReindexRead from p after pass) g sp h = let k = serve_kept st ask in
      (own_kept o o' st (serve select st ask).0 a p g k.opened h.0, (h.1.0, k.pits p h.1.0 h.0.1 (spare_read ask from p after pass sp) h.1.1))
  held_kept o o' st a ask (ReindexBulk from p last pass outputs) g sp h = let k = serve_kept st ask in
      (own_kept o o' st (serve select st ask).0 a p g k.opened h.0, (h.1.0, k.pits p h.1.0 h.0.1 (spare_bulk ask from p last pass outputs sp) h.1.1))
  held_kept o o' st a ask (ReindexClose from p) g sp h = let k = serve_kept st ask in own_kept o o' st (serve select st ask).0 a p g k.opened h
  held_kept o o' st a ask (OutdatedRead finish p after) g sp h = let k = serve_kept st ask in
      (own_kept o o' st (serve select st ask).0 a p g k.opened h.0, (h.1.0, k.pits p h.1.0 h.0.1 (spare_outdated ask finish p after sp) h.1.1))
  held_kept o o' st a ask (OutdatedClose finish p) g sp h = let k = serve_kept st ask in own_kept o o' st (serve select st ask).0 a p g k.opened h
  held_kept o o' st a ask Init g sp h = tt
  held_kept o o' st a ask CreateNewTarget g sp h = tt
  held_kept o o' st a ask (CheckUnknown from) g sp h = tt
  held_kept o o' st a ask (SetSourceBlock from) g sp h = tt
  held_kept o o' st a ask (CreateTemp from) g sp h = tt
  held_kept o o' st a ask (ReindexOpen from) g sp h = tt
  held_kept o o' st a ask (SetTempBlock from) g sp h = tt
  held_kept o o' st a ask (CloneTemp from) g sp h = tt
  held_kept o o' st a ask (OutdatedOpen finish) g sp h = tt
  held_kept o o' st a ask (OutdatedBulk finish p last writes) g sp h = tt
  held_kept o o' st a ask (MarkReady from) g sp h = tt
  held_kept o o' st a ask MarkReadyConflict g sp h = tt
  held_kept o o' st a ask (Ended end) g sp h = tt

  -- a state that holds no pit
  abbrev pub Bare : State D → Type 0
  Bare (ReindexRead from p after pass) = ⊥
  Bare (ReindexBulk from p last pass outputs) = ⊥
  Bare (ReindexClose from p) = ⊥
  Bare (OutdatedRead finish p after) = ⊥
  Bare (OutdatedClose finish p) = ⊥
  Bare _ = Unit {0}

  -- what the next state holds is this state's, or a new pit
  pub record Holds (o : Owner) (st st' : Store D) (a : ℕ × ℕ) (state next : State D) : Type 0 where
    pub held : HeldOk o st' a next
    pub free : (q : ℕ) → q < st.opened → FreeOf q state → FreeOf q next

  bare_held : (o : Owner) (st : Store D) (a : ℕ × ℕ) (next : State D) → Bare next → HeldOk o st a next
  bare_held o st a (ReindexRead from p after pass) b = absurd b
  bare_held o st a (ReindexBulk from p last pass outputs) b = absurd b
  bare_held o st a (ReindexClose from p) b = absurd b
  bare_held o st a (OutdatedRead finish p after) b = absurd b
  bare_held o st a (OutdatedClose finish p) b = absurd b
  bare_held o st a _ b = tt

  bare_free : (q : ℕ) (next : State D) → Bare next → FreeOf q next
  bare_free q (ReindexRead from p after pass) b = absurd b
  bare_free q (ReindexBulk from p last pass outputs) b = absurd b
  bare_free q (OutdatedRead finish p after) b = absurd b
  bare_free q _ b = tt

  pub bare : (o : Owner) (st st' : Store D) (a : ℕ × ℕ) (state next : State D) → Bare next → Holds o st st' a state next
  bare o st st' a state next b = record { held = bare_held o st' a next b; free = λ q lt f. bare_free q next b }

  bare_left : (n : Text) (o : Option IndexSeen) (from : Text) (next : State D) → Bare next → Bare (unless_left n o from next)
  bare_left n None from next k = k
  bare_left n (Some ix) from next k = by (is_on from ix.source)
    where
      by : (b : Bool) → Bare (if b then next else Ended (End.Fatal (Cause.Leftover n ix.source from)))
      by true = k
      by false = tt

  bare_by_index : (index : Text) (on : Bool) (temp target : Option IndexSeen) → Bare (by_index s index on temp target)
  bare_by_index index true temp target = tt
  bare_by_index index false temp target = by (s.is_later index) (s.is_same index)
    where
      next : State D
      next = unless_left s.temp temp index (unless_left s.target target index (CheckUnknown index))

      by : (later equal : Bool) → Bare (if later then Ended (End.Fatal (Cause.NewerIndex index)) else if equal then Ended (End.Fatal (Cause.VersionAliasMissing index)) else next)
      by true equal = tt
      by false true = tt
      by false false = bare_left s.temp temp index (unless_left s.target target index (CheckUnknown index)) (bare_left s.target target index (CheckUnknown index) tt)

  pub bare_state : (reply : Reply D) → Bare (from_state s reply)
  bare_state (Seen indices aliases) = by (at s.current indices) (at s.current aliases) (at s.version aliases) (at s.temp indices) (at s.target indices)
    where
      by : (flag : Option IndexSeen) (cur ver : Option Text) (temp target : Option IndexSeen) → Bare (unless_legacy s flag (by_aliases s cur ver temp target))
      by (Some flag) cur ver temp target = tt
      by None None ver temp target = tt
      by None (Some index) ver temp target = bare_by_index index (is_on index ver) temp target
  bare_state _ = tt

  pub bare_check : (from : Text) (reply : Reply D) → Bare (from_check from reply)
  bare_check from (Selected total []) = tt
  bare_check from (Selected total (r ∷ rs)) = tt
  bare_check from _ = tt

  pub bare_source_block : (from : Text) (reply : Reply D) → Bare (from_source_block from reply)
  bare_source_block from Done = tt
  bare_source_block from _ = tt

  bare_where : (b : Bool) (next : State D) (n : Text) (its : Option Text) (from : Text) → Bare next → Bare (where_from b next n its from)
  bare_where true next n its from k = k
  bare_where false next n its from k = tt

  pub bare_create : (from : Text) (reply : Reply D) → Bare (from_create_temp s from reply)
  bare_create from Done = tt
  bare_create from (Refused (Exists name its)) = bare_where (is_on from its) (ReindexOpen from) s.temp its from tt
  bare_create from (Refused (NameTaken name)) = tt
  bare_create from _ = tt

  pub bare_close : (next : State D) (reply : Reply D) → Bare next → Bare (from_close next reply)
  bare_close next Done b = b
  bare_close next (Refused (NoPit p)) b = b
  bare_close next _ b = tt

  pub bare_temp_block : (from : Text) (reply : Reply D) → Bare (from_temp_block from reply)
  bare_temp_block from Done = tt
  bare_temp_block from (Refused (NoIndex name)) = tt
  bare_temp_block from _ = tt

  pub bare_clone : (from : Text) (reply : Reply D) → Bare (from_clone s from reply)
  bare_clone from Done = tt
  bare_clone from (Refused (Exists name its)) = bare_where (is_on from its) (OutdatedOpen (Switch from)) s.target its from tt
  bare_clone from (Refused (NameTaken name)) = tt
  bare_clone from _ = tt

  pub bare_after : (finish : Finish) → Bare (after_outdated finish)
  bare_after (Stands index) = tt
  bare_after (Switch from) = tt

  pub bare_mark : (reply : Reply D) → Bare (from_mark s reply)
  bare_mark Done = tt
  bare_mark (Refused (AliasMissing alias index)) = tt
  bare_mark (Refused (AliasTaken alias index)) = tt
  bare_mark (Refused (NoIndex name)) = tt
  bare_mark (Refused (NameTaken name)) = tt
  bare_mark _ = tt

  pub bare_conflict : (reply : Reply D) → Bare (from_conflict s reply)
  bare_conflict (Seen indices aliases) = by (at s.current aliases) (is_on_some (at s.current aliases) (at s.version aliases))
    where
      by : (cur : Option Text) (on : Bool) → Bare (settled cur on)
      by None on = tt
      by (Some index) true = tt
      by (Some index) false = tt
  bare_conflict _ = tt

  -- a read pit stays through a page
  pub page_holds : (o : Owner) (st : Store D) (a : ℕ × ℕ) (from : Text) (p : ℕ) (after : Option Text) (pass : Pass) (reply : Reply D) → HeldOk o st a (ReindexRead from p after pass) → Holds o st st a (ReindexRead from p after pass) (from_read s from p pass reply)
  page_holds o st a from p after pass (Selected total []) h = record { held = h.0; free = λ q lt f. tt }
  page_holds o st a from p after pass (Selected total (r ∷ rs)) h = by (batch s pass (r ∷ rs))
    where
      by : (b : Batch D) → Holds o st st a (ReindexRead from p after pass) (by_batch from p (last_of r.0 rs) b)
      by (Bad cause) = record { held = tt; free = λ q lt f. tt }
      by (Good [] next) = record { held = h; free = λ q lt f. f }
      by (Good (x ∷ os) next) = record { held = h; free = λ q lt f. f }
  page_holds o st a from p after pass _ h = record { held = tt; free = λ q lt f. tt }

  pub bulk_holds : (o : Owner) (st st' : Store D) (a : ℕ × ℕ) (from : Text) (p : ℕ) (last : Text) (pass : Pass) (outputs : List (Text × D)) (reply : Reply D) → HeldOk o st' a (ReindexBulk from p last pass outputs) → Holds o st st' a (ReindexBulk from p last pass outputs) (from_bulk from p last pass reply)
  bulk_holds o st st' a from p last pass outputs (Items items) h = record { held = h; free = λ q lt f. f }
  bulk_holds o st st' a from p last pass outputs (Refused (Blocked name)) h = record { held = h.0; free = λ q lt f. tt }
  bulk_holds o st st' a from p last pass outputs (Refused (NoIndex name)) h = record { held = h.0; free = λ q lt f. tt }
  bulk_holds o st st' a from p last pass outputs _ h = record { held = tt; free = λ q lt f. tt }

  pub outdated_holds : (o : Owner) (st : Store D) (a : ℕ × ℕ) (finish : Finish) (p : ℕ) (after : Option Text) (reply : Reply D) → HeldOk o st a (OutdatedRead finish p after) → Holds o st st a (OutdatedRead finish p after) (from_outdated_read s finish p reply)
  outdated_holds o st a finish p after (Selected total []) h = record { held = h.0; free = λ q lt f. tt }
  outdated_holds o st a finish p after (Selected total (r ∷ rs)) h =
      listed (raws_where (λ raw doc. is_unknown (s.outcome raw doc)) (r ∷ rs)) UnknownObjects _
      (listed (raws_where (λ raw doc. is_corrupt (s.outcome raw doc)) (r ∷ rs)) CorruptObjects _
      (listed (raws_where (λ raw doc. changes_id raw (s.outcome raw doc)) (r ∷ rs)) OutdatedId _
      (listed (raws_where (λ raw doc. is_newer (s.outcome raw doc)) (r ∷ rs)) NewerObjects _
      (record { held = tt; free = λ q lt f. tt }))))
    where
      listed : (raws : List Text) (cause : List Text → Cause) (next : State D) → Holds o st st a (OutdatedRead finish p after) next → Holds o st st a (OutdatedRead finish p after) (unless_listed raws cause next)
      listed [] cause next k = k
      listed (raw ∷ raws) cause next k = record { held = tt; free = λ q lt f. tt }
  outdated_holds o st a finish p after _ h = record { held = tt; free = λ q lt f. tt }

  -- a new pit is of this start
  pub open_holds : (o : Owner) (st : Store D) (a : ℕ × ℕ) (from : Text) (ix : Index D)
      → Holds (claimed o st.opened a) st (open_over (Some ix) st from).0 a (ReindexOpen from) (from_open from (open_over (Some ix) st from).1)
  open_holds o st a from ix = record {
    held = ((claimed_here o st.opened a, omega arith), (ix.table.rows, pit_here st.opened ix.table.rows st.pits));
    free = λ q lt g. λ same_pit. absurd (omega arith);
  }

  pub outdated_open_holds : (o : Owner) (st : Store D) (a : ℕ × ℕ) (finish : Finish) (n : Text) (ix : Option (Index D))
      → Holds (claimed o st.opened a) st (open_over ix st n).0 a (OutdatedOpen finish) (from_outdated_open finish (open_over ix st n).1)
  outdated_open_holds o st a finish n None = record { held = tt; free = λ q lt g. tt }
  outdated_open_holds o st a finish n (Some ix) = record {
    held = ((claimed_here o st.opened a, omega arith), (ix.table.rows, pit_here st.opened ix.table.rows st.pits));
    free = λ q lt g. λ same_pit. absurd (omega arith);
  }
