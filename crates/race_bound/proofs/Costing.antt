-- How many replies a machine heard, by its state, among several target sets.
use Rattle.std.proofs.Common.{◌≡◌, ℕ, suc, ◌+◌, ◌*◌, ◌≤◌, ◌⊎◌, List, [], ◌∷◌, ◌++◌, Bool, true, false, Option, Some, None, refl, sym, ◌∙◌, ap, subst, if◌then◌else◌, arith, append_assoc}
use mathlib.Core.Logic.◌⊎◌.{inl, inr}
use Rattle.base_model.specs.Keyed.{Text, at}
use Rattle.race_model.specs.Stores.{Rows, Table, Index, IndexSeen, Store, Write, Request, serve, pit_at, meant, create_over, block_over, clone_over, open_over, read_over, close_over, bulk_over, bulk_in, act_all, acted_answer, seen}
use Rattle.race_model.specs.Stores.Acted.{Now}
use Rattle.race_model.specs.Stores.Reply.{Seen, Selected}
use Rattle.race_model.specs.Machines.{Settings, Finish, Pass, Batch, State, request, moved, creates, batch, last_of, goal_of, is_on, is_on_some, settled, where_from, unless_left, unless_legacy, by_index, by_aliases, from_state, from_check, from_create_temp, from_new_target, from_open, by_batch, from_read, from_bulk, from_close, from_temp_block, from_clone, from_outdated_open, from_outdated_read, after_outdated, from_mark, from_conflict}
use Rattle.race_model.specs.Machines.Batch.{Good, Bad}
use Rattle.race_model.specs.Machines.Cause.{NewerIndex, VersionAliasMissing, Leftover}
use Rattle.race_model.specs.Machines.End.{Fatal}
use Rattle.race_model.specs.Machines.Finish.{Stands, Switch}
use Rattle.race_model.specs.Machines.State.{Init, CreateNewTarget, CheckUnknown, SetSourceBlock, CreateTemp, ReindexOpen, ReindexRead, ReindexBulk, ReindexClose, SetTempBlock, CloneTemp, OutdatedOpen, OutdatedRead, OutdatedBulk, OutdatedClose, MarkReady, MarkReadyConflict, Ended}
use Rattle.race_model.specs.Worlds.{Race}
use Rattle.race_model.specs.Sorted.{IsSorted, Each, last_key}
use Rattle.race_model.specs.Premises.{Paged, NamesApart, RaceLaws}
use Rattle.race_tables.proofs.Outputs.{Is}
use Rattle.race_tables.proofs.Lists.{some_same, none_some}
use Rattle.race_tables.proofs.Requests.{meant_itself}
use Rattle.race_tables.proofs.Batches.{last_key_append, last_of_key}
use Rattle.race_facts.proofs.Facts.{IsBlocked, Ground, SourceOf, StoreOk, Later, TempShut, Ready, FinishOk, PitFresh, StateOk, ground_later, blocked_later}
use Rattle.race_facts.proofs.Serving.{one_table}
use Rattle.race_facts.proofs.Switching.{switch_of, install_of, Installing, installing, on_it, switch_now, switch_stuck}
use Rattle.race_facts.proofs.Switching.Installing.{First, Repeated, Refuses}

module _ {D Q C : Type 0} (race : Race D Q C) (cur : Text) (In : Settings D Q → Type 0) (Fresh : Settings D Q → Text → D → Type 0) (Empty : Type 0) (Sound : C → Type 0) (laws : RaceLaws race cur In Fresh Sound)
    (pages : Rows D → ℕ) (v : Settings D Q) (i : In v) (calm : (after : Option Text) (rows : Rows D) → Each (Fresh v) rows → race.select.rows (v.outdated after) rows ≡ []) (paged : Paged race.select v pages) where
  abbrev Ok : Store D → Type 0
  Ok st = StoreOk cur In Fresh Empty st

  abbrev At : Store D → State D → Type 0
  At st state = StateOk cur In Fresh Empty v st state

  abbrev names : NamesApart cur In
  names = laws.names

  -- at most c replies, and two for each page of the source n
  pub record Of (st : Store D) (n : Text) (c k : ℕ) : Type 0 where
    pub table : Table D
    pub ground : Ground In v st.aliases n
    pub blocked : IsBlocked st.indices n table
    pub few : k ≤ c + 2 * pages table.rows

  -- or of some source
  abbrev pub Within : Store D → ℕ → ℕ → Type 0
  Within st c k = (k ≤ c) ⊎ ((n : Text) × Of st n c k)

  pub record ReadCost (st : Store D) (n : Text) (k : ℕ) (after : Option Text) : Type 0 where
    pub table : Table D
    pub ground : Ground In v st.aliases n
    pub blocked : IsBlocked st.indices n table
    pub before : Rows D
    pub rest : Rows D
    pub all : table.rows ≡ before ++ rest
    pub after_is : after ≡ last_key None before
    pub few : k + 2 * pages rest ≤ 5 + 2 * pages table.rows

  abbrev pub FinishCost : Store D → Finish → ℕ → ℕ → Type 0
  FinishCost st (Stands index) c k = k ≤ c
  FinishCost st (Switch n) c k = Of st n c k

  -- how many replies it heard at most where it is in this state
  abbrev pub Cost : Store D → ℕ → State D → Type 0
  Cost st k Init = k ≡ 0
  Cost st k CreateNewTarget = k ≤ 1
  Cost st k (CheckUnknown n) = k ≤ 1
  Cost st k (SetSourceBlock n) = k ≤ 2
  Cost st k (CreateTemp n) = k ≤ 3
  Cost st k (ReindexOpen n) = k ≤ 4
  Cost st k (ReindexRead n p after pass) = ReadCost st n k after
  Cost st k (ReindexBulk n p last pass outputs) = ReadCost st n (k + 1) (Some last)
  Cost st k (ReindexClose n p) = Of st n 6 k
  Cost st k (SetTempBlock n) = Of st n 7 k
  Cost st k (CloneTemp n) = Of st n 8 k
  Cost st k (OutdatedOpen finish) = FinishCost st finish 9 k
  Cost st k (OutdatedRead finish p after) = FinishCost st finish 10 k
  Cost st k (OutdatedBulk finish p last writes) = ⊥
  Cost st k (OutdatedClose finish p) = FinishCost st finish 11 k
  Cost st k (MarkReady None) = k ≤ 12
  Cost st k (MarkReady (Some n)) = Of st n 12 k
  Cost st k MarkReadyConflict = Within st 13 k
  Cost st k (Ended end) = Within st 14 k

  -- it lasts
  module _ (st st' : Store D) (later : Later cur In Fresh Empty st st') where
    pub of_later : (n : Text) (c k : ℕ) → Of st n c k → Of st' n c k
    of_later n c k o = record {
      table = o.table;
      ground = ground_later cur In Fresh Empty st st' later v n o.ground;
      blocked = blocked_later cur In Fresh Empty st st' later o.ground.set n o.table o.ground.is_in o.ground.name o.blocked;
      few = o.few;
    }

    within_later : (c k : ℕ) → Within st c k → Within st' c k
    within_later c k (inl few) = inl few
    within_later c k (inr o) = inr (o.0, of_later o.0 c k o.1)

    read_later : (n : Text) (k : ℕ) (after : Option Text) → ReadCost st n k after → ReadCost st' n k after
    read_later n k after r = record {
      table = r.table;
      ground = ground_later cur In Fresh Empty st st' later v n r.ground;
      blocked = blocked_later cur In Fresh Empty st st' later r.ground.set n r.table r.ground.is_in r.ground.name r.blocked;
      before = r.before;
      rest = r.rest;
      all = r.all;
      after_is = r.after_is;
      few = r.few;
    }

    finish_later : (finish : Finish) (c k : ℕ) → FinishCost st finish c k → FinishCost st' finish c k
    finish_later (Stands index) c k few = few
    finish_later (Switch n) c k o = of_later n c k o

    pub cost_later : (k : ℕ) (state : State D) → Cost st k state → Cost st' k state
    cost_later k Init c = c
    cost_later k CreateNewTarget c = c
    cost_later k (CheckUnknown n) c = c
    cost_later k (SetSourceBlock n) c = c
    cost_later k (CreateTemp n) c = c
    cost_later k (ReindexOpen n) c = c
    cost_later k (ReindexRead n p after pass) c = read_later n k after c
    cost_later k (ReindexBulk n p last pass outputs) c = read_later n (k + 1) (Some last) c
    cost_later k (ReindexClose n p) c = of_later n 6 k c
    cost_later k (SetTempBlock n) c = of_later n 7 k c
    cost_later k (CloneTemp n) c = of_later n 8 k c
    cost_later k (OutdatedOpen finish) c = finish_later finish 9 k c
    cost_later k (OutdatedRead finish p after) c = finish_later finish 10 k c
    cost_later k (OutdatedBulk finish p last writes) c = c
    cost_later k (OutdatedClose finish p) c = finish_later finish 11 k c
    cost_later k (MarkReady None) c = c
    cost_later k (MarkReady (Some n)) c = of_later n 12 k c
    cost_later k MarkReadyConflict c = within_later 13 k c
    cost_later k (Ended end) c = within_later 14 k c

  -- one more reply
  pub of_more : (st : Store D) (n : Text) (c d k : ℕ) → Of st n c k → k + 1 + c ≤ d + k → Of st n d (k + 1)
  of_more st n c d k o le = let few = o.few in record { table = o.table; ground = o.ground; blocked = o.blocked; few = omega arith }

  -- the moves
  left : (st : Store D) (k : ℕ) (n : Text) (o : Option IndexSeen) (from : Text) (next : State D) → k ≤ 14 → Cost st k next → Cost st k (unless_left n o from next)
  left st k n None from next few c = c
  left st k n (Some ix) from next few c = by (is_on from ix.source)
    where
      by : (b : Bool) → Cost st k (if b then next else Ended (Fatal (Leftover n ix.source from)))
      by true = c
      by false = inl few

  by_index_cost : (st : Store D) (k : ℕ) (index : Text) (on : Bool) (temp target : Option IndexSeen) → k ≤ 1 → Cost st k (by_index v index on temp target)
  by_index_cost st k index true temp target few = omega arith
  by_index_cost st k index false temp target few = by (v.is_later index) (v.is_same index)
    where
      next : State D
      next = unless_left v.temp temp index (unless_left v.target target index (CheckUnknown index))

      by : (later equal : Bool) → Cost st k (if later then Ended (Fatal (NewerIndex index)) else if equal then Ended (Fatal (VersionAliasMissing index)) else next)
      by true equal = inl (omega arith)
      by false true = inl (omega arith)
      by false false = left st k v.temp temp index (unless_left v.target target index (CheckUnknown index)) (omega arith) (left st k v.target target index (CheckUnknown index) (omega arith) few)

  init_cost : (st : Store D) (k : ℕ) → k ≡ 0 → Cost st (k + 1) (from_state v (Seen (seen st.indices) st.aliases))
  init_cost st k e = by (at v.current (seen st.indices)) (at v.current st.aliases)
    where
      by : (legacy : Option IndexSeen) (on : Option Text) → Cost st (k + 1) (unless_legacy v legacy (by_aliases v on (at v.version st.aliases) (at v.temp (seen st.indices)) (at v.target (seen st.indices))))
      by (Some ix) on = inl (omega arith)
      by None None = omega arith
      by None (Some index) = by_index_cost st (k + 1) index (is_on index (at v.version st.aliases)) (at v.temp (seen st.indices)) (at v.target (seen st.indices)) (omega arith)

  new_target_cost : (st : Store D) (k : ℕ) (o : Option (Index D)) (alias : Option Text) → k ≤ 1 → Cost st (k + 1) (from_new_target v (create_over o alias st v.target None).1)
  new_target_cost st k (Some ix) alias few = omega arith
  new_target_cost st k None (Some x) few = inl (omega arith)
  new_target_cost st k None None few = omega arith

  check_cost : (st : Store D) (k : ℕ) (n : Text) (total : ℕ) (rows : Rows D) → k ≤ 1 → Cost st (k + 1) (from_check n (Selected total rows))
  check_cost st k n total [] e = omega arith
  check_cost st k n total (r ∷ rs) e = inl (omega arith)

  -- the index of an installed version is there
  ground_there : (st : Store D) (n : Text) → Ok st → Ground In v st.aliases n → (meant st n ≡ n) × Is st.indices n
  ground_there st n a g = let t = a.there g.set g.is_in g.installed in
      (meant_itself st n (subst (λ m. at m st.aliases ≡ None) (sym g.name) (a.aliases.no_target_alias g.set g.is_in)), (t.0, subst (λ m. at m st.indices ≡ Some t.0) (sym g.name) t.1))

  where_cost : (st : Store D) (k : ℕ) (b : Bool) (next : State D) (n : Text) (its : Option Text) (from : Text) → Cost st k next → Within st 14 k → Cost st k (where_from b next n its from)
  where_cost st k true next n its from c few = c
  where_cost st k false next n its from c few = few

  create_cost : (st : Store D) (k : ℕ) (n : Text) (o : Option (Index D)) (alias : Option Text) → k ≤ 3 → Cost st (k + 1) (from_create_temp v n (create_over o alias st v.temp (Some n)).1)
  create_cost st k n (Some ix) alias few = where_cost st (k + 1) (is_on n ix.source) (ReindexOpen n) v.temp ix.source n (omega arith) (inl (omega arith))
  create_cost st k n None (Some x) few = inl (omega arith)
  create_cost st k n None None few = omega arith

  open_cost : (st : Store D) (k : ℕ) (n : Text) (F : Table D) → Ok st → SourceOf In v st n F → k ≤ 4 → Cost st (k + 1) (from_open n (open_over (at (meant st n) st.indices) st n).1)
  unfolding last_key
  open_cost st k n F a s few = rw ((ground_there st n a s.ground).0, s.blocked.there) (record { table = F; ground = s.ground; blocked = s.blocked; before = []; rest = F.rows; all = refl; after_is = refl; few = omega arith })

  page_cost : (st : Store D) (k : ℕ) (n : Text) (p : ℕ) (pass : Pass) (total : ℕ) (F : Table D) (before front back : Rows D) → Ground In v st.aliases n → IsBlocked st.indices n F → F.rows ≡ before ++ (front ++ back) → (front ≡ []) ⊎ (suc (pages back) ≤ pages (front ++ back))
      → k + 2 * pages (front ++ back) ≤ 5 + 2 * pages F.rows → Cost st (k + 1) (from_read v n p pass (Selected total front))
  unfolding last_key
  page_cost st k n p pass total F before [] back g b all fewer few = record { table = F; ground = g; blocked = b; few = omega arith }
  page_cost st k n p pass total F before (r ∷ rs) back g b all (inl none) few = absurd (cc)
  page_cost st k n p pass total F before (r ∷ rs) back g b all (inr less) few = by (batch v pass (r ∷ rs))
    where
      all_is : F.rows ≡ (before ++ (r ∷ rs)) ++ back
      all_is = all ∙ sym (append_assoc before (r ∷ rs) back)

      key_is : Some (last_of r.0 rs) ≡ last_key None (before ++ (r ∷ rs))
      key_is = last_of_key r.0 rs ∙ sym (last_key_append None before (r ∷ rs))

      by : (x : Batch D) → Cost st (k + 1) (by_batch n p (last_of r.0 rs) x)
      by (Bad cause) = inr (n, record { table = F; ground = g; blocked = b; few = omega arith })
      by (Good [] after) = record { table = F; ground = g; blocked = b; before = before ++ (r ∷ rs); rest = back; all = all_is; after_is = key_is; few = omega arith }
      by (Good (o ∷ os) after) = record { table = F; ground = g; blocked = b; before = before ++ (r ∷ rs); rest = back; all = all_is; after_is = key_is; few = omega arith }

  read_with : (st : Store D) (k : ℕ) (n : Text) (p : ℕ) (after : Option Text) (pass : Pass) (rows : Rows D) (r : ReadCost st n k after) → IsSorted r.table.rows → rows ≡ r.table.rows → Cost st (k + 1) (from_read v n p pass (read_over race.select (Some rows) p (v.page after)))
  read_with st k n p after pass rows r in_order rows_is =
      let page = paged.fewer r.before r.rest (subst IsSorted r.all in_order) in
      let same_rows : rows ≡ r.before ++ r.rest = rows_is ∙ r.all in
      let selected : race.select.rows (v.page after) rows ≡ page.0 = rw (same_rows, r.after_is) page.3 in
      subst (λ front. Cost st (k + 1) (from_read v n p pass (Selected (race.select.total (v.page after) rows) front))) (sym selected)
      (page_cost st k n p pass (race.select.total (v.page after) rows) r.table r.before page.0 page.1 r.ground r.blocked (r.all ∙ ap (λ x. r.before ++ x) page.2)
      (elim page.4 [ inl none ↦ inl none | inr less ↦ inr (subst (λ x. suc (pages page.1) ≤ pages x) page.2 less) ]) (subst (λ x. k + 2 * pages x ≤ 5 + 2 * pages r.table.rows) page.2 r.few))

  read_cost : (st : Store D) (k : ℕ) (n : Text) (p : ℕ) (after : Option Text) (pass : Pass) (rows : Rows D) (F : Table D) → SourceOf In v st n F → rows ≡ F.rows → ReadCost st n k after → Cost st (k + 1) (from_read v n p pass (read_over race.select (Some rows) p (v.page after)))
  read_cost st k n p after pass rows F s is r =
      let same_table : F ≡ r.table = one_table race cur In Fresh Empty Sound laws st n F r.table s.blocked r.blocked in
      read_with st k n p after pass rows r (subst (λ (z : Table D). IsSorted z.rows) same_table s.sorted) (is ∙ ap (λ (z : Table D). z.rows) same_table)

  bulk_cost : (st : Store D) (k : ℕ) (n : Text) (p : ℕ) (last : Text) (pass : Pass) (ws : List (Write D)) (name m : Text) (o : Option (Index D)) → ReadCost st n (k + 1) (Some last) → Cost st (k + 1) (from_bulk n p last pass (bulk_over o st name m ws).1)
  bulk_cost st k n p last pass ws name m None r = let few = r.few in record { table = r.table; ground = r.ground; blocked = r.blocked; few = omega arith }
  bulk_cost st k n p last pass ws name m (Some ix) r = by ix.blocked
    where
      by : (b : Bool) → Cost st (k + 1) (from_bulk n p last pass (bulk_in b ix st m ws).1)
      by true = let few = r.few in record { table = r.table; ground = r.ground; blocked = r.blocked; few = omega arith }
      by false = r

  close_cost : (st : Store D) (k : ℕ) (next : State D) (o : Option (Rows D)) (p : ℕ) → Cost st (k + 1) next → Cost st (k + 1) (from_close next (close_over o st p).1)
  close_cost st k next None p c = c
  close_cost st k next (Some rows) p c = c

  temp_block_cost : (st : Store D) (k : ℕ) (n m : Text) (o : Option (Index D)) → Of st n 7 k → Cost st (k + 1) (from_temp_block n (block_over o st m).1)
  temp_block_cost st k n m None c = of_more st n 7 8 k c (omega arith)
  temp_block_cost st k n m (Some ix) c = of_more st n 7 8 k c (omega arith)

  clone_cost : (st : Store D) (k : ℕ) (n : Text) (o temp : Option (Index D)) → Ok st → at v.target st.indices ≡ o → at v.temp st.indices ≡ temp → TempShut cur In Fresh Empty v st n → Of st n 8 k
      → Cost st (k + 1) (from_clone v n (clone_over o (at v.target st.aliases) temp st v.temp v.target).1)
  clone_cost st k n (Some ix) temp a e f h few = where_cost st (k + 1) (is_on n ix.source) (OutdatedOpen (Switch n)) v.target ix.source n (of_more st n 8 9 k few (omega arith)) (inr (n, of_more st n 8 14 k few (omega arith)))
  clone_cost st k n None temp a e f (inl x) few = let t = a.there v i x in none_some t.0 (at v.target st.indices) e t.1
  clone_cost st k n None None a e f (inr b) few = none_some b.index (at v.temp st.indices) f b.there
  clone_cost st k n None (Some ix) a e f (inr b) few =
      let blocked : ix.blocked ≡ true = subst (λ (x : Index D). x.blocked ≡ true) (some_same b.index ix (at v.temp st.indices) b.there f) b.blocked in
      rw (a.aliases.no_target_alias v i, blocked) (of_more st n 8 9 k few (omega arith))

  finish_there : (st : Store D) (finish : Finish) → Ok st → FinishOk cur In Fresh Empty v st finish → (goal_of v finish ≡ v.target) × Is st.indices v.target
  finish_there st (Switch n) a c = (refl, (c.target.index, c.target.there))
  finish_there st (Stands index) a c = (c.0, a.there v i c.1)

  finish_more : (st : Store D) (finish : Finish) (c d k : ℕ) → FinishCost st finish c k → k + 1 + c ≤ d + k → FinishCost st finish d (k + 1)
  finish_more st (Stands index) c d k few le = omega arith
  finish_more st (Switch n) c d k o le = of_more st n c d k o le

  outdated_open_cost : (st : Store D) (k : ℕ) (finish : Finish) → Ok st → FinishOk cur In Fresh Empty v st finish → FinishCost st finish 9 k → Cost st (k + 1) (from_outdated_open finish (open_over (at (meant st (goal_of v finish)) st.indices) st (goal_of v finish)).1)
  outdated_open_cost st k finish a c few = let g = finish_there st finish a c in rw (g.0, meant_itself st v.target (a.aliases.no_target_alias v i), g.1.1) (finish_more st finish 9 10 k few (omega arith))

  outdated_read_cost : (st : Store D) (k : ℕ) (finish : Finish) (p : ℕ) (after : Option Text) (rows : Rows D) → PitFresh cur In Fresh Empty v st p → pit_at p st.pits ≡ Some rows → FinishCost st finish 10 k
      → Cost st (k + 1) (from_outdated_read v finish p (read_over race.select (Some rows) p (v.outdated after)))
  outdated_read_cost st k finish p after rows pit f few =
      let rows_is : pit.0 ≡ rows = elim pit.1.1 [ inl none ↦ none_some rows (pit_at p st.pits) none f | inr some ↦ some_same pit.0 rows (pit_at p st.pits) some f ] in
      let none : race.select.rows (v.outdated after) rows ≡ [] = calm after rows (subst (Each (Fresh v)) rows_is pit.2) in
      subst (λ x. Cost st (k + 1) (from_outdated_read v finish p (Selected (race.select.total (v.outdated after) rows) x))) (sym none) (finish_more st finish 10 11 k few (omega arith))

  after_cost : (st : Store D) (k : ℕ) (finish : Finish) → FinishCost st finish 11 k → Cost st (k + 1) (after_outdated finish)
  after_cost st k (Stands index) c = inl (omega arith)
  after_cost st k (Switch n) c = of_more st n 11 12 k c (omega arith)

  mark_cost : (st : Store D) (k : ℕ) (n : Text) → Ok st → Ready cur In Fresh Empty v st n → Of st n 12 k → Cost st (k + 1) (from_mark v (acted_answer st (act_all (Now st) (switch_of v cur n))).1)
  mark_cost st k n a r c = elim (on_it (at cur st.aliases) n) [
    | inl e ↦ rw (switch_now race cur In Fresh Empty Sound laws st v n a i r e) (inr (n, of_more st n 12 14 k c (omega arith)))
    | inr x ↦ rw (switch_stuck race cur In Fresh Empty Sound laws st v n (at cur st.aliases) refl x) (inr (n, of_more st n 12 13 k c (omega arith)))
  ]

  mark_install_cost : (st : Store D) (k : ℕ) → Ok st → Is st.indices v.target → k ≤ 12 → Cost st (k + 1) (from_mark v (acted_answer st (act_all (Now st) (install_of v cur))).1)
  mark_install_cost st k a t few = by (installing race cur In Fresh Empty Sound laws st v a i t)
    where
      by : Installing race cur In Fresh Empty Sound laws st v → Cost st (k + 1) (from_mark v (acted_answer st (act_all (Now st) (install_of v cur))).1)
      by (First e nowhere is) = rw is (inl (omega arith))
      by (Repeated x e is) = rw is (inl (omega arith))
      by (Refuses c e is) = rw is (inl (omega arith))

  within_more : (st : Store D) (k : ℕ) → Within st 13 k → Within st 14 (k + 1)
  within_more st k (inl few) = inl (omega arith)
  within_more st k (inr o) = inr (o.0, of_more st o.0 13 14 k o.1 (omega arith))

  conflict_cost : (st : Store D) (k : ℕ) → Within st 13 k → Cost st (k + 1) (from_conflict v (Seen (seen st.indices) st.aliases))
  conflict_cost st k w = by (at v.current st.aliases) (is_on_some (at v.current st.aliases) (at v.version st.aliases))
    where
      by : (o : Option Text) (b : Bool) → Cost st (k + 1) (settled o b)
      by None b = within_more st k w
      by (Some index) true = within_more st k w
      by (Some index) false = within_more st k w

  -- the pit that a machine reads is open
  abbrev pub Open : Store D → State D → Type 0
  Open st (ReindexRead n p after pass) = (rows : Rows D) × (pit_at p st.pits ≡ Some rows)
  Open st (OutdatedRead finish p after) = (rows : Rows D) × (pit_at p st.pits ≡ Some rows)
  Open st _ = Unit {0}

  abbrev CostTo : Store D → ℕ → State D → Option (Request D Q) → Type 0
  CostTo st k state None = Unit {0}
  CostTo st k state (Some ask) = Cost st (k + 1) (moved v state (serve race.select st ask).1)

  costs_ok : (st : Store D) (k : ℕ) (state : State D) → Ok st → At st state → Open st state → Cost st k state → CostTo st k state (request v state)
  unfolding request serve moved
  costs_ok st k Init a c o e = init_cost st k e
  costs_ok st k CreateNewTarget a c o e = new_target_cost st k (at v.target st.indices) (at v.target st.aliases) e
  costs_ok st k (CheckUnknown n) a c o e = let t = ground_there st n a c in rw (t.0, t.1.1) (check_cost st k n (race.select.total v.unknown t.1.0.table.rows) (race.select.rows v.unknown t.1.0.table.rows) e)
  costs_ok st k (SetSourceBlock n) a c o e = let t = ground_there st n a c in rw t.1.1 (omega arith)
  costs_ok st k (CreateTemp n) a c o e = create_cost st k n (at v.temp st.indices) (at v.temp st.aliases) e
  costs_ok st k (ReindexOpen n) a c o e = open_cost st k n c.0 a c.1 e
  costs_ok st k (ReindexRead n p after pass) a c o e = rw o.1 (read_cost st k n p after pass o.0 c.0 c.1 (elim c.2.1 [ inl none ↦ none_some o.0 (pit_at p st.pits) none o.1 | inr some ↦ some_same o.0 c.0.rows (pit_at p st.pits) o.1 some ]) e)
  costs_ok st k (ReindexBulk n p last pass outputs) a c o e = bulk_cost st k n p last pass (creates outputs) v.temp (meant st v.temp) (at (meant st v.temp) st.indices) e
  costs_ok st k (ReindexClose n p) a c o e = close_cost st k (SetTempBlock n) (pit_at p st.pits) p (of_more st n 6 7 k e (omega arith))
  costs_ok st k (SetTempBlock n) a c o e = temp_block_cost st k n v.temp (at v.temp st.indices) e
  costs_ok st k (CloneTemp n) a c o e = clone_cost st k n (at v.target st.indices) (at v.temp st.indices) a refl refl c.2 e
  costs_ok st k (OutdatedOpen finish) a c o e = outdated_open_cost st k finish a c e
  costs_ok st k (OutdatedRead finish p after) a c o e = rw o.1 (outdated_read_cost st k finish p after o.0 c.1 o.1 e)
  costs_ok st k (OutdatedBulk finish p last writes) a c o e = absurd c
  costs_ok st k (OutdatedClose finish p) a c o e = close_cost st k (after_outdated finish) (pit_at p st.pits) p (after_cost st k finish e)
  costs_ok st k (MarkReady None) a c o e = subst (λ x. Cost st (k + 1) (from_mark v (acted_answer st (act_all (Now st) (install_of v x))).1)) (sym (names.current v i)) (mark_install_cost st k a c.1 e)
  costs_ok st k (MarkReady (Some n)) a c o e = subst (λ x. Cost st (k + 1) (from_mark v (acted_answer st (act_all (Now st) (switch_of v x n))).1)) (sym (names.current v i)) (mark_cost st k n a c e)
  costs_ok st k MarkReadyConflict a c o e = conflict_cost st k e
  costs_ok st k (Ended end) a c o e = tt

  -- one more reply
  pub costs : (st : Store D) (k : ℕ) (state : State D) (ask : Request D Q) → Ok st → At st state → Open st state → Cost st k state → request v state ≡ Some ask → Cost st (k + 1) (moved v state (serve race.select st ask).1)
  costs st k state ask a c o e q = subst (CostTo st k state) q (costs_ok st k state a c o e)

  -- what each start heard
  pub read_bound : (st : Store D) (n : Text) (k : ℕ) (after : Option Text) → ReadCost st n k after → Within st 14 k
  read_bound st n k after r = let few = r.few in inr (n, record { table = r.table; ground = r.ground; blocked = r.blocked; few = omega arith })

  of_bound : (st : Store D) (n : Text) (c k : ℕ) → c ≤ 14 → Of st n c k → Within st 14 k
  of_bound st n c k le o = let few = o.few in inr (n, record { table = o.table; ground = o.ground; blocked = o.blocked; few = omega arith })

  finish_bound : (st : Store D) (finish : Finish) (c k : ℕ) → c ≤ 14 → FinishCost st finish c k → Within st 14 k
  finish_bound st (Stands index) c k le few = inl (omega arith)
  finish_bound st (Switch n) c k le o = of_bound st n c k le o

  pub cost_bound : (st : Store D) (k : ℕ) (state : State D) → Cost st k state → Within st 14 k
  cost_bound st k Init c = inl (omega arith)
  cost_bound st k CreateNewTarget c = inl (omega arith)
  cost_bound st k (CheckUnknown n) c = inl (omega arith)
  cost_bound st k (SetSourceBlock n) c = inl (omega arith)
  cost_bound st k (CreateTemp n) c = inl (omega arith)
  cost_bound st k (ReindexOpen n) c = inl (omega arith)
  cost_bound st k (ReindexRead n p after pass) c = read_bound st n k after c
  cost_bound st k (ReindexBulk n p last pass outputs) c = let few = c.few in inr (n, record { table = c.table; ground = c.ground; blocked = c.blocked; few = omega arith })
  cost_bound st k (ReindexClose n p) c = of_bound st n 6 k (omega arith) c
  cost_bound st k (SetTempBlock n) c = of_bound st n 7 k (omega arith) c
  cost_bound st k (CloneTemp n) c = of_bound st n 8 k (omega arith) c
  cost_bound st k (OutdatedOpen finish) c = finish_bound st finish 9 k (omega arith) c
  cost_bound st k (OutdatedRead finish p after) c = finish_bound st finish 10 k (omega arith) c
  cost_bound st k (OutdatedBulk finish p last writes) c = absurd c
  cost_bound st k (OutdatedClose finish p) c = finish_bound st finish 11 k (omega arith) c
  cost_bound st k (MarkReady None) c = inl (omega arith)
  cost_bound st k (MarkReady (Some n)) c = of_bound st n 12 k (omega arith) c
  cost_bound st k MarkReadyConflict (inl few) = inl (omega arith)
  cost_bound st k MarkReadyConflict (inr o) = of_bound st o.0 13 k (omega arith) o.1
  cost_bound st k (Ended end) c = c

  pub cost_init : (st : Store D) (k : ℕ) (state : State D) → Cost st k state → state ≡ Init → k ≡ 0
  cost_init st k state c e = subst (λ x. Cost st k x) e c
