-- Where a machine ends as fatal, the store shows the cause.
use Rattle.std.proofs.Common.{append_assoc, ◌≡◌, ◌≢◌, ℕ, ◌⊎◌, List, [], ◌∷◌, ◌++◌, Bool, true, false, Option, Some, None, refl, sym, ◌∙◌, ap, subst, if◌then◌else◌}
use mathlib.Core.Logic.◌⊎◌.{inl, inr}
use Rattle.base_model.specs.Keyed.{Text, at}
use Rattle.race_model.specs.Stores.{Rows, Table, Index, Store, Request, serve, pit_at, meant, create_over, block_over, clone_over, copy_of, open_over, read_over, close_over, bulk_over, bulk_in, act_all, acted_answer, seen}
use Rattle.race_model.specs.Stores.Acted.{Now}
use Rattle.race_model.specs.Stores.Reply.{Seen, Selected}
use Rattle.race_model.specs.Machines.{Settings, Cause, Finish, Pass, Batch, State, request, moved, creates, batch, last_of, goal_of, is_on, is_on_some, settled, where_from, unless_left, unless_legacy, by_index, by_aliases, from_state, from_check, from_source_block, from_create_temp, from_new_target, from_open, by_batch, from_read, from_bulk, from_close, from_temp_block, from_clone, from_outdated_open, from_outdated_read, after_outdated, from_mark, from_conflict}
use Rattle.race_model.specs.Machines.Batch.{Good, Bad}
use Rattle.race_model.specs.Machines.Cause.{NewerIndex, VersionAliasMissing, Leftover}
use Rattle.race_model.specs.Machines.End.{Fatal}
use Rattle.race_model.specs.Machines.Finish.{Stands, Switch}
use Rattle.race_model.specs.Machines.State.{Init, CreateNewTarget, CheckUnknown, SetSourceBlock, CreateTemp, ReindexOpen, ReindexRead, ReindexBulk, ReindexClose, SetTempBlock, CloneTemp, OutdatedOpen, OutdatedRead, OutdatedBulk, OutdatedClose, MarkReady, MarkReadyConflict, Ended}
use Rattle.race_model.specs.Worlds.{Race}
use Rattle.race_model.specs.Sorted.{IsSorted, Each}
use Rattle.race_tables.proofs.Keys.{same_refl}
use Rattle.race_model.specs.Migrated.{outs, AllApart, IsClean}
use Rattle.race_tables.proofs.Outputs.{outs_append, Is, AllGood}
use Rattle.race_tables.proofs.Completing.{distinct_left, clean_batch}
use Rattle.race_tables.proofs.Lists.{some_same, none_some}
use Rattle.race_tables.proofs.Requests.{meant_itself, shown_of, at_seen, at_flags}
use Rattle.race_model.specs.Premises.{NamesApart, RaceLaws}
use Rattle.race_claims.specs.Shown.{IsShown}
use Rattle.race_facts.proofs.Facts.{Installed, Ground, SourceOf, Read, Current, StoreOk, PitOk, Ready, PitFresh, StateOk}
use Rattle.race_facts.proofs.Facts.Current.{Nowhere, On}
use Rattle.race_facts.proofs.Switching.{switch_of, install_of, Installing, installing, on_it, switch_now, switch_stuck}
use Rattle.race_facts.proofs.Switching.Installing.{First, Repeated, Refuses}
use Rattle.race_facts.proofs.Moving.{is_on_false, not_on}

each_left : {D : Type 0} (P : Text → D → Type 0) (xs ys : Rows D) → Each P (xs ++ ys) → Each P xs
unfolding Each
each_left P [] ys a = tt
each_left P (x ∷ xs) ys a = (a.0, each_left P xs ys a.1)

each_right : {D : Type 0} (P : Text → D → Type 0) (xs ys : Rows D) → Each P (xs ++ ys) → Each P ys
unfolding Each
each_right P [] ys a = a
each_right P (x ∷ xs) ys a = each_right P xs ys a.1

module _ {D Q C : Type 0} (race : Race D Q C) (cur : Text) (In : Settings D Q → Type 0) (Fresh : Settings D Q → Text → D → Type 0) (Empty : Type 0) (Sound : C → Type 0) (laws : RaceLaws race cur In Fresh Sound)
    (v : Settings D Q) (i : In v) (calm : (after : Option Text) (rows : Rows D) → Each (Fresh v) rows → race.select.rows (v.outdated after) rows ≡ []) where
  abbrev Ok : Store D → Type 0
  Ok st = StoreOk cur In Fresh Empty st

  abbrev At : Store D → State D → Type 0
  At st state = StateOk cur In Fresh Empty v st state

  abbrev names : NamesApart cur In
  names = laws.names

  -- where the next state is a fatal end, its cause is shown
  abbrev pub Shows : Store D → State D → State D → Type 0
  Shows st state (Ended (Fatal cause)) = IsShown race.select cur v st state cause
  Shows st state _ = Unit {0}

  left : (st : Store D) (n : Text) → (n ≡ v.temp) ⊎ (n ≡ v.target) → (o : Option (Index D)) → at n st.indices ≡ o → (from : Text) → at cur st.aliases ≡ Some from → (next : State D) → Shows st Init next → Shows st Init (unless_left n (shown_of o) from next)
  left st n kind None e from on next k = k
  left st n kind (Some ix) e from on next k = by (is_on from ix.source) refl
    where
      by : (b : Bool) → is_on from ix.source ≡ b → Shows st Init (if b then next else Ended (Fatal (Leftover n ix.source from)))
      by true f = k
      by false f = (on, kind, record { index = ix; there = e; from = refl; other = is_on_false from ix.source f })

  below : (st : Store D) (w : Settings D Q) → In w → at cur st.aliases ≡ Some w.target → w.target ≢ v.target → Shows st Init (by_index v w.target false (at v.temp (seen st.indices)) (at v.target (seen st.indices)))
  below st w j on o = rw (at_seen v.temp st.indices, at_seen v.target st.indices) (by (v.is_later w.target) (v.is_same w.target) refl refl)
    where
      next : State D
      next = unless_left v.temp (shown_of (at v.temp st.indices)) w.target (unless_left v.target (shown_of (at v.target st.indices)) w.target (CheckUnknown w.target))

      by : (later equal : Bool) → v.is_later w.target ≡ later → v.is_same w.target ≡ equal → Shows st Init (if later then Ended (Fatal (NewerIndex w.target)) else if equal then Ended (Fatal (VersionAliasMissing w.target)) else next)
      by true equal e f = (on, e)
      by false true e f = absurd (o (sym (ap (λ (z : Settings D Q). z.target) (laws.order.is_own v w i j f))))
      by false false e f = left st v.temp (inl refl) (at v.temp st.indices) refl w.target on (unless_left v.target (shown_of (at v.target st.indices)) w.target (CheckUnknown w.target))
          (left st v.target (inr refl) (at v.target st.indices) refl w.target on (CheckUnknown w.target) tt)

  init_by : (st : Store D) → Ok st → Current cur In Fresh Empty st.aliases → Shows st Init (by_aliases v (at cur st.aliases) (at v.version st.aliases) (at v.temp (seen st.indices)) (at v.target (seen st.indices)))
  init_by st a (Nowhere e x nowhere) = rw e tt
  init_by st a (On w j e x) = subst (λ o. Shows st Init (by_aliases v o (at v.version st.aliases) (at v.temp (seen st.indices)) (at v.target (seen st.indices)))) (sym e) (elim (names.apart w v j i) [
    | inl s ↦ (let y : Installed v st.aliases = subst (λ z. Installed z st.aliases) s x in
        subst (λ z. Shows st Init (by_index v z.target (is_on z.target (at v.version st.aliases)) (at v.temp (seen st.indices)) (at v.target (seen st.indices)))) (sym s) (rw (y, same_refl v.target) tt))
    | inr o ↦ subst (λ b. Shows st Init (by_index v w.target b (at v.temp (seen st.indices)) (at v.target (seen st.indices)))) (sym (not_on race cur In Fresh Empty Sound laws v i calm st w a o.1)) (below st w j e o.1)
  ])

  init_shows : (st : Store D) → Ok st → Shows st Init (from_state v (Seen (seen st.indices) st.aliases))
  init_shows st a =
      subst (λ c. Shows st Init (unless_legacy v (at c (seen st.indices)) (by_aliases v (at c st.aliases) (at v.version st.aliases) (at v.temp (seen st.indices)) (at v.target (seen st.indices))))) (sym (names.current v i))
      (subst (λ o. Shows st Init (unless_legacy v o (by_aliases v (at cur st.aliases) (at v.version st.aliases) (at v.temp (seen st.indices)) (at v.target (seen st.indices))))) (sym (at_flags cur st.indices a.no_cur_index))
      (init_by st a a.aliases.current))

  new_target_shows : (st : Store D) (o : Option (Index D)) → Ok st → Shows st CreateNewTarget (from_new_target v (create_over o (at v.target st.aliases) st v.target None).1)
  new_target_shows st (Some ix) a = tt
  new_target_shows st None a = rw (a.aliases.no_target_alias v i) tt

  check_shows : (st : Store D) (n : Text) (ix : Index D) → at n st.indices ≡ Some ix → (rows : Rows D) → race.select.rows v.unknown ix.table.rows ≡ rows → Shows st (CheckUnknown n) (from_check n (Selected (race.select.total v.unknown ix.table.rows) rows))
  check_shows st n ix e [] f = tt
  check_shows st n ix e (r ∷ rs) f = record { index = ix; there = e; first = r; rest = rs; selected = f; raws_are = refl }

  ground_there : (st : Store D) (n : Text) → Ok st → Ground In v st.aliases n → (meant st n ≡ n) × Is st.indices n
  ground_there st n a g = let t = a.there g.set g.is_in g.installed in
      (meant_itself st n (subst (λ m. at m st.aliases ≡ None) (sym g.name) (a.aliases.no_target_alias g.set g.is_in)), (t.0, subst (λ m. at m st.indices ≡ Some t.0) (sym g.name) t.1))

  source_block_shows : (st : Store D) (n : Text) (o : Option (Index D)) → Shows st (SetSourceBlock n) (from_source_block n (block_over o st n).1)
  source_block_shows st n None = tt
  source_block_shows st n (Some ix) = tt

  create_shows : (st : Store D) (n : Text) (o : Option (Index D)) → Ok st → at v.temp st.indices ≡ o → Shows st (CreateTemp n) (from_create_temp v n (create_over o (at v.temp st.aliases) st v.temp (Some n)).1)
  create_shows st n (Some ix) a e = by (is_on n ix.source) refl
    where
      by : (b : Bool) → is_on n ix.source ≡ b → Shows st (CreateTemp n) (where_from b (ReindexOpen n) v.temp ix.source n)
      by true f = tt
      by false f = (refl, refl, record { index = ix; there = e; from = refl; other = is_on_false n ix.source f })
  create_shows st n None a e = rw (a.aliases.no_temp_alias v i) tt

  open_shows : (st : Store D) (n m : Text) (o : Option (Index D)) → Shows st (ReindexOpen n) (from_open n (open_over o st m).1)
  open_shows st n m None = tt
  open_shows st n m (Some ix) = tt

  read_shows : (st : Store D) (n : Text) (F : Table D) (p : ℕ) (after : Option Text) (pass : Pass) (done : List (Text × D)) (o : Option (Rows D)) → SourceOf In v st n F → PitOk cur In Fresh Empty st p F.rows → Read v F after pass done [] → pit_at p st.pits ≡ o
      → Shows st (ReindexRead n p after pass) (from_read v n p pass (read_over race.select o p (v.page after)))
  read_shows st n F p after pass done None s pit r f = tt
  read_shows st n F p after pass done (Some rows) s pit r f =
      let rows_is : rows ≡ F.rows = elim pit.1 [ inl none ↦ none_some rows (pit_at p st.pits) none f | inr some ↦ some_same rows F.rows (pit_at p st.pits) f some ] in
      let page = laws.page v i r.before r.rest (subst IsSorted r.all s.sorted) in
      let selected : race.select.rows (v.page after) rows ≡ page.0 = rw (rows_is, r.after_is, r.all) page.3 in
      subst (λ front. Shows st (ReindexRead n p after pass) (from_read v n p pass (Selected (race.select.total (v.page after) rows) front))) (sym selected) (by page.0 (r.all ∙ ap (λ x. r.before ++ x) page.2))
    where
      back : Rows D
      back = (laws.page v i r.before r.rest (subst IsSorted r.all s.sorted)).1

      -- a page of clean rows is no bad batch
      no_bad : (front : Rows D) → F.rows ≡ r.before ++ (front ++ back) → (cause : Cause) → batch v pass front ≡ Bad cause → IsClean v F.rows → ⊥
      no_bad front e cause q clean =
          let rows_clean : IsClean v (r.before ++ (front ++ back)) = subst (IsClean v) e clean in
          let good : AllGood v front = each_left _ front back (each_right _ r.before (front ++ back) rows_clean.0) in
          let all_apart : AllApart (outs v r.before ++ (outs v front ++ outs v back)) = subst (λ z. AllApart (outs v r.before ++ z)) (outs_append v front back) (subst AllApart (outs_append v r.before (front ++ back)) rows_clean.1) in
          let some_apart : AllApart (outs v r.before ++ outs v front) = distinct_left (outs v r.before ++ outs v front) (outs v back) (subst AllApart (sym (append_assoc (outs v r.before) (outs v front) (outs v back))) all_apart) in
          let made = clean_batch v pass (outs v r.before) front r.exact good some_apart in
          let x : Good made.0 made.1 ≡ Bad cause = sym made.2 ∙ q in
          cc

      by : (front : Rows D) → F.rows ≡ r.before ++ (front ++ back) → Shows st (ReindexRead n p after pass) (from_read v n p pass (Selected (race.select.total (v.page after) rows) front))
      by [] e = tt
      by (x ∷ xs) e = at_batch (batch v pass (x ∷ xs)) refl
        where
          at_batch : (b : Batch D) → batch v pass (x ∷ xs) ≡ b → Shows st (ReindexRead n p after pass) (by_batch n p (last_of x.0 xs) b)
          at_batch (Good [] next) q = tt
          at_batch (Good (o ∷ os) next) q = tt
          at_batch (Bad cause) q = record {
            index = s.blocked.index;
            there = s.blocked.there;
            blocked = s.blocked.blocked;
            before = r.before;
            page = x ∷ xs;
            after = back;
            rows = ap (λ (z : Table D). z.rows) s.blocked.table ∙ e;
            pass = pass;
            bad = q;
            not_clean = λ clean. no_bad (x ∷ xs) e cause q (subst (λ (z : Table D). IsClean v z.rows) s.blocked.table clean);
          }

  bulk_shows : (st : Store D) (n : Text) (p : ℕ) (last : Text) (pass : Pass) (outputs : List (Text × D)) (m : Text) (o : Option (Index D)) → Shows st (ReindexBulk n p last pass outputs) (from_bulk n p last pass (bulk_over o st v.temp m (creates outputs)).1)
  bulk_shows st n p last pass outputs m None = tt
  bulk_shows st n p last pass outputs m (Some ix) = by ix.blocked
    where
      by : (b : Bool) → Shows st (ReindexBulk n p last pass outputs) (from_bulk n p last pass (bulk_in b ix st m (creates outputs)).1)
      by true = tt
      by false = tt

  close_shows : (st : Store D) (state next : State D) (o : Option (Rows D)) (p : ℕ) → Shows st state next → Shows st state (from_close next (close_over o st p).1)
  close_shows st state next None p k = k
  close_shows st state next (Some rows) p k = k

  temp_block_shows : (st : Store D) (n : Text) (o : Option (Index D)) → Shows st (SetTempBlock n) (from_temp_block n (block_over o st v.temp).1)
  temp_block_shows st n None = tt
  temp_block_shows st n (Some ix) = tt

  clone_shows : (st : Store D) (n : Text) (o temp : Option (Index D)) → Ok st → at v.target st.indices ≡ o → Shows st (CloneTemp n) (from_clone v n (clone_over o (at v.target st.aliases) temp st v.temp v.target).1)
  clone_shows st n (Some ix) temp a e = by (is_on n ix.source) refl
    where
      by : (b : Bool) → is_on n ix.source ≡ b → Shows st (CloneTemp n) (where_from b (OutdatedOpen (Switch n)) v.target ix.source n)
      by true f = tt
      by false f = (refl, refl, record { index = ix; there = e; from = refl; other = is_on_false n ix.source f })
  clone_shows st n None None a e = rw (a.aliases.no_target_alias v i) tt
  clone_shows st n None (Some ix) a e = rw (a.aliases.no_target_alias v i) (by ix.blocked)
    where
      by : (b : Bool) → Shows st (CloneTemp n) (from_clone v n (copy_of b ix st v.temp v.target).1)
      by true = tt
      by false = tt

  outdated_open_shows : (st : Store D) (finish : Finish) (m : Text) (o : Option (Index D)) → Shows st (OutdatedOpen finish) (from_outdated_open finish (open_over o st m).1)
  outdated_open_shows st finish m None = tt
  outdated_open_shows st finish m (Some ix) = tt

  outdated_read_shows : (st : Store D) (finish : Finish) (p : ℕ) (after : Option Text) (o : Option (Rows D)) → PitFresh cur In Fresh Empty v st p → pit_at p st.pits ≡ o → Shows st (OutdatedRead finish p after) (from_outdated_read v finish p (read_over race.select o p (v.outdated after)))
  outdated_read_shows st finish p after None pit f = tt
  outdated_read_shows st finish p after (Some rows) pit f =
      let rows_is : pit.0 ≡ rows = elim pit.1.1 [ inl none ↦ none_some rows (pit_at p st.pits) none f | inr some ↦ some_same pit.0 rows (pit_at p st.pits) some f ] in
      subst (λ chosen. Shows st (OutdatedRead finish p after) (from_outdated_read v finish p (Selected (race.select.total (v.outdated after) rows) chosen))) (sym (calm after rows (subst (Each (Fresh v)) rows_is pit.2))) tt

  after_shows : (st : Store D) (p : ℕ) (finish : Finish) → Shows st (OutdatedClose finish p) (after_outdated finish)
  after_shows st p (Stands index) = tt
  after_shows st p (Switch n) = tt

  mark_shows : (st : Store D) (n : Text) → Ok st → Ready cur In Fresh Empty v st n → Shows st (MarkReady (Some n)) (from_mark v (acted_answer st (act_all (Now st) (switch_of v cur n))).1)
  mark_shows st n a r = elim (on_it (at cur st.aliases) n) [
    | inl e ↦ rw (switch_now race cur In Fresh Empty Sound laws st v n a i r e) tt
    | inr x ↦ rw (switch_stuck race cur In Fresh Empty Sound laws st v n (at cur st.aliases) refl x) tt
  ]

  install_shows : (st : Store D) → Ok st → Is st.indices v.target → Shows st (MarkReady None) (from_mark v (acted_answer st (act_all (Now st) (install_of v cur))).1)
  install_shows st a t = by (installing race cur In Fresh Empty Sound laws st v a i t)
    where
      by : Installing race cur In Fresh Empty Sound laws st v → Shows st (MarkReady None) (from_mark v (acted_answer st (act_all (Now st) (install_of v cur))).1)
      by (First e nowhere is) = rw is tt
      by (Repeated x e is) = rw is tt
      by (Refuses c e is) = rw is tt

  conflict_shows : (st : Store D) (c : Text) → Ok st → at cur st.aliases ≡ Some c → Shows st MarkReadyConflict (from_conflict v (Seen (seen st.indices) st.aliases))
  conflict_shows st c a e = subst (λ x. Shows st MarkReadyConflict (settled (at x st.aliases) (is_on_some (at x st.aliases) (at v.version st.aliases)))) (sym (names.current v i)) (by a.aliases.current)
    where
      by : Current cur In Fresh Empty st.aliases → Shows st MarkReadyConflict (settled (at cur st.aliases) (is_on_some (at cur st.aliases) (at v.version st.aliases)))
      by (Nowhere f z nowhere) = none_some c (at cur st.aliases) f e
      by (On w j f x) = subst (λ o. Shows st MarkReadyConflict (settled o (is_on_some o (at v.version st.aliases)))) (sym f) (elim (names.apart w v j i) [
        | inl s ↦ (let y : Installed v st.aliases = subst (λ z. Installed z st.aliases) s x in
            subst (λ z. Shows st MarkReadyConflict (settled (Some z.target) (is_on z.target (at v.version st.aliases)))) (sym s) (rw (y, same_refl v.target) tt))
        | inr o ↦ subst (λ b. Shows st MarkReadyConflict (settled (Some w.target) b)) (sym (not_on race cur In Fresh Empty Sound laws v i calm st w a o.1)) (f, o.1)
      ])

  abbrev ShowsTo : Store D → State D → Option (Request D Q) → Type 0
  ShowsTo st state None = Unit {0}
  ShowsTo st state (Some ask) = Shows st state (moved v state (serve race.select st ask).1)

  shows_ok : (st : Store D) (state : State D) → Ok st → At st state → ShowsTo st state (request v state)
  unfolding request serve moved
  shows_ok st Init a c = init_shows st a
  shows_ok st CreateNewTarget a c = new_target_shows st (at v.target st.indices) a
  shows_ok st (CheckUnknown n) a c = let t = ground_there st n a c in rw (t.0, t.1.1) (check_shows st n t.1.0 t.1.1 (race.select.rows v.unknown t.1.0.table.rows) refl)
  shows_ok st (SetSourceBlock n) a c = source_block_shows st n (at n st.indices)
  shows_ok st (CreateTemp n) a c = create_shows st n (at v.temp st.indices) a refl
  shows_ok st (ReindexOpen n) a c = open_shows st n n (at (meant st n) st.indices)
  shows_ok st (ReindexRead n p after pass) a c = read_shows st n c.0 p after pass c.3 (pit_at p st.pits) c.1 c.2 c.4 refl
  shows_ok st (ReindexBulk n p last pass outputs) a c = bulk_shows st n p last pass outputs (meant st v.temp) (at (meant st v.temp) st.indices)
  shows_ok st (ReindexClose n p) a c = close_shows st (ReindexClose n p) (SetTempBlock n) (pit_at p st.pits) p tt
  shows_ok st (SetTempBlock n) a c = temp_block_shows st n (at v.temp st.indices)
  shows_ok st (CloneTemp n) a c = clone_shows st n (at v.target st.indices) (at v.temp st.indices) a refl
  shows_ok st (OutdatedOpen finish) a c = outdated_open_shows st finish (goal_of v finish) (at (meant st (goal_of v finish)) st.indices)
  shows_ok st (OutdatedRead finish p after) a c = outdated_read_shows st finish p after (pit_at p st.pits) c.1 refl
  shows_ok st (OutdatedBulk finish p last writes) a c = absurd c
  shows_ok st (OutdatedClose finish p) a c = close_shows st (OutdatedClose finish p) (after_outdated finish) (pit_at p st.pits) p (after_shows st p finish)
  shows_ok st (MarkReady None) a c = subst (λ x. Shows st (MarkReady None) (from_mark v (acted_answer st (act_all (Now st) (install_of v x))).1)) (sym (names.current v i)) (install_shows st a c.1)
  shows_ok st (MarkReady (Some n)) a c = subst (λ x. Shows st (MarkReady (Some n)) (from_mark v (acted_answer st (act_all (Now st) (switch_of v x n))).1)) (sym (names.current v i)) (mark_shows st n a c)
  shows_ok st MarkReadyConflict a c = conflict_shows st c.0 a c.1
  shows_ok st (Ended end) a c = tt

  pub cause_shown : (st : Store D) (state : State D) (ask : Request D Q) (cause : Cause) → Ok st → At st state → request v state ≡ Some ask → moved v state (serve race.select st ask).1 ≡ Ended (Fatal cause) → IsShown race.select cur v st state cause
  cause_shown st state ask cause a c e f = subst (Shows st state) f (subst (ShowsTo st state) e (shows_ok st state a c))
