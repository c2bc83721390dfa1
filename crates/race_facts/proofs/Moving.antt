-- What a machine asks has its condition, and its own request moves it to a state whose facts hold.
use Rattle.std.proofs.Common.{◌≡◌, ◌≢◌, ℕ, ◌+◌, ◌⊎◌, List, [], ◌∷◌, ◌++◌, Bool, true, false, Option, Some, None, refl, sym, ◌∙◌, ap, subst, if◌then◌else◌, arith, append_assoc, append-nil}
use mathlib.Core.Logic.◌⊎◌.{inl, inr}
use Rattle.base_model.specs.Keyed.{Text, same, at}
use Rattle.race_model.specs.Stores.{Rows, Table, Index, IndexSeen, Store, Request, Reply, serve, write_all, renumbered, empty_table, pit_at, meant, create_over, block_over, clone_over, copy_of, open_over, read_over, close_over, bulk_over, bulk_in, act_all, acted_answer, seen, search_over}
use Rattle.race_model.specs.Stores.Acted.{Now}
use Rattle.race_model.specs.Stores.Reply.{Done, Seen, Pit, Selected, Found, Items, Refused}
use Rattle.race_model.specs.Stores.Refusal.{NoPit}
use Rattle.race_model.specs.Stores.Request.{Create, Block, Bulk, ClosePit}
use Rattle.race_model.specs.Machines.{Settings, Finish, Pass, Batch, State, request, moved, creates, batch, last_of, is_on, is_on_some, settled, where_from, unless_left, unless_legacy, by_index, by_aliases, from_state, from_check, from_source_block, from_create_temp, from_new_target, from_open, by_batch, from_read, from_bulk, from_close, from_temp_block, from_clone, from_outdated_open, from_outdated_read, after_outdated, from_mark, from_conflict, Cause}
use Rattle.race_model.specs.Machines.Batch.{Good, Bad}
use Rattle.race_model.specs.Machines.Cause.{UnknownObjects, CorruptObjects, NewerObjects, OutdatedId, Collision, NewerIndex, VersionAliasMissing, LegacyIndex, OtherVersion, Leftover}
use Rattle.race_model.specs.Machines.End.{Fatal}
use Rattle.race_model.specs.Machines.Finish.{Stands, Switch}
use Rattle.race_model.specs.Machines.State.{Init, CreateNewTarget, CheckUnknown, SetSourceBlock, CreateTemp, ReindexOpen, ReindexRead, ReindexBulk, ReindexClose, SetTempBlock, CloneTemp, OutdatedOpen, OutdatedRead, OutdatedBulk, OutdatedClose, MarkReady, MarkReadyConflict, Ended}
use Rattle.race_model.specs.Worlds.{Race}
use Rattle.race_model.specs.Migrated.{outs, NoneHas, AllApart}
use Rattle.race_model.specs.Sorted.{IsSorted, Each, last_key}
use Rattle.race_tables.proofs.Keys.{same_true, same_refl, same_false, at_put_same}
use Rattle.race_tables.proofs.Tables.{Holds, AllHas, holds_append, holds_more, holds_write_all, is_in_write_all, each_append}
use Rattle.race_tables.proofs.Outputs.{Is, Clean, MayFail, all_has_of, outs_append}
use Rattle.race_tables.proofs.Lists.{has_append_left, has_append_right, some_same, none_some}
use Rattle.race_tables.proofs.Requests.{meant_itself, at_flags, pit_here}
use Rattle.race_tables.proofs.Batches.{batch_good, batch_bad, last_key_append, last_of_key}
use Rattle.race_tables.proofs.Completing.{Exact, batch_exact}
use Rattle.race_model.specs.Premises.{NamesApart, RaceLaws}
use Rattle.race_facts.proofs.Facts.{Installed, HoldsFrom, Ground, SourceOf, Read, Current, TempOk, StoreOk, Later, PitOk, Wrote, TempDone, TempShut, Ready, Cond, FinishOk, PitFresh, CauseOk, StateOk, source_later, state_later}
use Rattle.race_facts.proofs.Facts.Current.{Nowhere, On}
use Rattle.race_facts.proofs.Facts.Cond.{Any_state, Any_open, Any_read, Any_close, Any_search, Makes_temp, Makes_target, Blocks_source, Blocks_temp, Copies, Writes, Switches, Installs}
use Rattle.race_facts.proofs.Serving.{not_both}
use Rattle.race_facts.proofs.Switching.{switch_of, install_of, Installing, installing, on_it, switch_now, switch_stuck, request_served}
use Rattle.race_facts.proofs.Switching.Installing.{First, Repeated, Refuses}

-- a source that is this one, or isn't
is_on_true : (n : Text) (its : Option Text) → is_on n its ≡ true → its ≡ Some n
is_on_true n None e = absurd (cc)
is_on_true n (Some m) e = ap (λ z. Some z) (sym (same_true n m e))

pub is_on_false : (n : Text) (its : Option Text) → is_on n its ≡ false → its ≢ Some n
is_on_false n None e f = cc
is_on_false n (Some m) e f =
    let is : m ≡ n = let z : Some m ≡ Some n = f in cc in
    let x : same n m ≡ true = subst (λ z. same n z ≡ true) (sym is) (same_refl n) in
    let y : true ≡ false = sym x ∙ e in
    cc

module _ {D Q C : Type 0} (race : Race D Q C) (cur : Text) (In : Settings D Q → Type 0) (Fresh : Settings D Q → Text → D → Type 0) (Empty : Type 0) (Sound : C → Type 0) (laws : RaceLaws race cur In Fresh Sound)
    (v : Settings D Q) (i : In v) (calm : (after : Option Text) (rows : Rows D) → Each (Fresh v) rows → race.select.rows (v.outdated after) rows ≡ []) where
  abbrev Ok : Store D → Type 0
  Ok st = StoreOk cur In Fresh Empty st

  abbrev At : Store D → State D → Type 0
  At st state = StateOk cur In Fresh Empty v st state

  abbrev Needs : Store D → Request D Q → Type 0
  Needs st ask = Cond cur In Fresh Empty v st ask

  abbrev names : NamesApart cur In
  names = laws.names

  -- the outputs that a machine has in its hands are outputs of its source
  pending_has : (F : Table D) (after : Option Text) (pass : Pass) (done pending : List (Text × D)) → Read v F after pass done pending → AllHas pending (outs v F.rows)
  pending_has F after pass done pending r =
      all_has_of pending (outs v F.rows) (λ x h. rw (r.all, outs_append v r.before r.rest, r.outputs)
      (has_append_left x (done ++ pending) (outs v r.rest) (has_append_right x done pending h)))

  fewer : (st : Store D) (n : Text) (os : List (Text × D)) → Wrote cur In Fresh Empty v st n os → Wrote cur In Fresh Empty v st n []
  unfolding Holds
  fewer st n os (inl x) = inl x
  fewer st n os (inr h) = inr (record { index = h.index; there = h.there; from = h.from; holds = tt })

  abbrev AskOk : Store D → Option (Request D Q) → Type 0
  AskOk st None = Unit {0}
  AskOk st (Some ask) = Needs st ask

  asks_ok : (st : Store D) (state : State D) → At st state → AskOk st (request v state)
  unfolding request
  asks_ok st Init c = Any_state
  asks_ok st CreateNewTarget c = Makes_target c
  asks_ok st (CheckUnknown n) c = Any_search n v.unknown
  asks_ok st (SetSourceBlock n) c = Blocks_source n c
  asks_ok st (CreateTemp n) c = Makes_temp n c.0 c.1
  asks_ok st (ReindexOpen n) c = Any_open n
  asks_ok st (ReindexRead n p after pass) c = Any_read p (v.page after)
  asks_ok st (ReindexBulk n p last pass outputs) c = Writes n c.0 outputs c.1 (pending_has c.0 (Some last) pass c.3 outputs c.4) (fewer st n c.3 c.5)
  asks_ok st (ReindexClose n p) c = Any_close p
  asks_ok st (SetTempBlock n) c = Blocks_temp n c.0 c.1 c.2
  asks_ok st (CloneTemp n) c = Copies n c.2
  asks_ok st (OutdatedOpen (Stands n)) c = Any_open n
  asks_ok st (OutdatedOpen (Switch n)) c = Any_open v.target
  asks_ok st (OutdatedRead finish p after) c = Any_read p (v.outdated after)
  asks_ok st (OutdatedBulk finish p last writes) c = absurd c
  asks_ok st (OutdatedClose finish p) c = Any_close p
  asks_ok st (MarkReady None) c = Installs c.0 c.1
  asks_ok st (MarkReady (Some n)) c = Switches n c
  asks_ok st MarkReadyConflict c = Any_state
  asks_ok st (Ended end) c = tt

  pub asks_cond : (st : Store D) (state : State D) (ask : Request D Q) → At st state → request v state ≡ Some ask → Needs st ask
  asks_cond st state ask c e = subst (AskOk st) e (asks_ok st state c)

  -- what lasts through a request of this set
  lasts : (st : Store D) (ask : Request D Q) → Ok st → Needs st ask → Later cur In Fresh Empty st (serve race.select st ask).0
  lasts st ask a c = (request_served race cur In Fresh Empty Sound laws st v ask a i c).later

  -- the moves from Init
  left : (st : Store D) (n : Text) → (n ≡ v.temp) ⊎ (n ≡ v.target) → (o : Option IndexSeen) (from : Text) (next : State D) → At st next → At st (unless_left n o from next)
  left st n k None from next c = c
  left st n k (Some ix) from next c = by (is_on from ix.source) refl
    where
      by : (b : Bool) → is_on from ix.source ≡ b → At st (if b then next else Ended (Fatal (Leftover n ix.source from)))
      by true e = c
      by false e = (k, is_on_false from ix.source e)

  below : (st : Store D) (w : Settings D Q) (temp target : Option IndexSeen) → In w → Installed w st.aliases → w.target ≢ v.target → At st (by_index v w.target false temp target)
  below st w temp target j x o = by (v.is_later w.target) (v.is_same w.target) refl refl
    where
      next : State D
      next = unless_left v.temp temp w.target (unless_left v.target target w.target (CheckUnknown w.target))

      by : (later equal : Bool) → v.is_later w.target ≡ later → v.is_same w.target ≡ equal → At st (if later then Ended (Fatal (NewerIndex w.target)) else if equal then Ended (Fatal (VersionAliasMissing w.target)) else next)
      by true equal e f = (e, record { set = w; is_in = j; name = refl; installed = x })
      by false true e f = absurd (o (sym (ap (λ (z : Settings D Q). z.target) (laws.order.is_own v w i j f))))
      by false false e f = left st v.temp (inl refl) temp w.target (unless_left v.target target w.target (CheckUnknown w.target)) (left st v.target (inr refl) target w.target (CheckUnknown w.target)
          (record { set = w; is_in = j; name = refl; installed = x; not_later = e; not_same = f }))

  -- the current alias is on another index than the version's
  pub not_on : (st : Store D) (w : Settings D Q) → Ok st → w.target ≢ v.target → is_on w.target (at v.version st.aliases) ≡ false
  not_on st w a o = elim (a.aliases.versions v i) [ inl not ↦ rw not refl | inr x ↦ rw (x, same_false w.target v.target o) refl ]

  init_by : (st : Store D) (temp target : Option IndexSeen) → Ok st → Current cur In Fresh Empty st.aliases → At st (by_aliases v (at cur st.aliases) (at v.version st.aliases) temp target)
  init_by st temp target a (Nowhere e x nowhere) = rw e x
  init_by st temp target a (On w j e x) = rw e (elim (names.apart w v j i) [
    | inl s ↦ (let y : Installed v st.aliases = subst (λ z. Installed z st.aliases) s x in
        subst (λ z. At st (by_index v z.target (is_on z.target (at v.version st.aliases)) temp target)) (sym s) (rw (y, same_refl v.target) (refl, y)))
    | inr o ↦ rw (not_on st w a o.1) (below st w temp target j x o.1)
  ])

  init_moves : (st : Store D) → Ok st → At st (from_state v (Seen (seen st.indices) st.aliases))
  init_moves st a =
      subst (λ c. At st (unless_legacy v (at c (seen st.indices)) (by_aliases v (at c st.aliases) (at v.version st.aliases) (at v.temp (seen st.indices)) (at v.target (seen st.indices))))) (sym (names.current v i))
      (subst (λ o. At st (unless_legacy v o (by_aliases v (at cur st.aliases) (at v.version st.aliases) (at v.temp (seen st.indices)) (at v.target (seen st.indices))))) (sym (at_flags cur st.indices a.no_cur_index))
      (init_by st (at v.temp (seen st.indices)) (at v.target (seen st.indices)) a a.aliases.current))

  new_target_moves : (st : Store D) (o : Option (Index D)) → Ok st → Empty → at v.target st.indices ≡ o → At (create_over o (at v.target st.aliases) st v.target None).0 (from_new_target v (create_over o (at v.target st.aliases) st v.target None).1)
  new_target_moves st (Some ix) a c e = (c, (ix, e))
  new_target_moves st None a c e = rw (a.aliases.no_target_alias v i) (c, (record { blocked = false; source = None; table = empty_table }, at_put_same v.target (record { blocked = false; source = None; table = empty_table }) st.indices))

  check_moves : (st : Store D) (n : Text) (reply : Reply D) → Ground In v st.aliases n → At st (from_check n reply)
  check_moves st n (Selected total []) c = c
  check_moves st n (Selected total (r ∷ rs)) c = tt
  check_moves st n Done c = tt
  check_moves st n (Seen ixs als) c = tt
  check_moves st n (Pit p) c = tt
  check_moves st n (Found rows) c = tt
  check_moves st n (Items items) c = tt
  check_moves st n (Refused why) c = tt

  source_block_moves : (st : Store D) (n : Text) (o : Option (Index D)) → Ok st → Ground In v st.aliases n → at n st.indices ≡ o → At (block_over o st n).0 (from_source_block n (block_over o st n).1)
  source_block_moves st n None a g e = tt
  source_block_moves st n (Some ix) a g e = (
    ix.table,
    record {
      ground = g;
      blocked = record { index = record { blocked = true; source = ix.source; table = ix.table }; there = at_put_same n (record { blocked = true; source = ix.source; table = ix.table }) st.indices; blocked = refl; table = refl };
      sorted = a.sorted g.set g.is_in ix (subst (λ m. at m st.indices ≡ Some ix) g.name e);
    },
  )

  create_temp_moves : (st : Store D) (n : Text) (F : Table D) → Ok st → SourceOf In v st n F → Later cur In Fresh Empty st (create_over (at v.temp st.indices) (at v.temp st.aliases) st v.temp (Some n)).0
      → At (create_over (at v.temp st.indices) (at v.temp st.aliases) st v.temp (Some n)).0 (from_create_temp v n (create_over (at v.temp st.indices) (at v.temp st.aliases) st v.temp (Some n)).1)
  unfolding Holds
  create_temp_moves st n F a s later = by (at v.temp st.indices) refl later
    where
      by : (o : Option (Index D)) → at v.temp st.indices ≡ o → Later cur In Fresh Empty st (create_over o (at v.temp st.aliases) st v.temp (Some n)).0 → At (create_over o (at v.temp st.aliases) st v.temp (Some n)).0 (from_create_temp v n (create_over o (at v.temp st.aliases) st v.temp (Some n)).1)
      by (Some ix) e l = here (is_on n ix.source) refl
        where
          here : (b : Bool) → is_on n ix.source ≡ b → At st (where_from b (ReindexOpen n) v.temp ix.source n)
          here true f = (F, s, inr (record { index = ix; there = e; from = is_on_true n ix.source f; holds = tt }))
          here false f = (inl refl, is_on_false n ix.source f)
      by None e l = new (at v.temp st.aliases) (a.aliases.no_temp_alias v i) l
        where
          new : (x : Option Text) → x ≡ None → Later cur In Fresh Empty st (create_over None x st v.temp (Some n)).0 → At (create_over None x st v.temp (Some n)).0 (from_create_temp v n (create_over None x st v.temp (Some n)).1)
          new (Some x) f l = absurd (cc)
          new None f l = (
            F,
            source_later cur In Fresh Empty st (create_over None None st v.temp (Some n)).0 l v n F s,
            inr (record {
              index = record { blocked = false; source = Some n; table = empty_table };
              there = at_put_same v.temp (record { blocked = false; source = Some n; table = empty_table }) st.indices;
              from = refl;
              holds = tt;
            }),
          )

  open_moves : (st : Store D) (n : Text) (F : Table D) → Ok st → (s : SourceOf In v st n F) → Wrote cur In Fresh Empty v st n [] → At (open_over (at (meant st n) st.indices) st n).0 (from_open n (open_over (at (meant st n) st.indices) st n).1)
  unfolding outs Each AllApart NoneHas pit_at last_key at
  open_moves st n F a s w =
      let itself : meant st n ≡ n = meant_itself st n (subst (λ m. at m st.aliases ≡ None) (sym s.ground.name) (a.aliases.no_target_alias s.ground.set s.ground.is_in)) in
      rw (itself, s.blocked.there) (
        F,
        record { ground = s.ground; blocked = s.blocked; sorted = s.sorted },
        (omega arith, inr (pit_here st.opened s.blocked.index.table.rows st.pits ∙ ap (λ (z : Table D). Some z.rows) s.blocked.table)),
        [],
        record { before = []; rest = F.rows; all = refl; after_is = refl; outputs = refl; good = tt; apart = tt; known = λ raw e. tt; exact = λ raw e. refl },
        w,
      )

  -- the page that a read selects, which the machine gathers
  read_page : (st : Store D) (n : Text) (F : Table D) (p : ℕ) (after : Option Text) (pass : Pass) (done : List (Text × D)) (total : ℕ) (r : Read v F after pass done []) (front back : Rows D) → SourceOf In v st n F → PitOk cur In Fresh Empty st p F.rows
      → r.rest ≡ front ++ back → (front ≡ [] → r.rest ≡ []) → Wrote cur In Fresh Empty v st n done → At st (from_read v n p pass (Selected total front))
  unfolding last_key
  read_page st n F p after pass done total r [] back s pit rest empty w =
      let all_read : F.rows ≡ r.before = r.all ∙ ap (λ x. r.before ++ x) (empty refl) ∙ append-nil r.before in
      let is_done : outs v F.rows ≡ done = ap (outs v) all_read ∙ r.outputs ∙ append-nil done in
      let clean : Clean v F.rows = subst (Clean v) (sym all_read) (record { good = r.good; apart = r.apart }) in
      (F, s, elim w [ inl x ↦ inl x | inr h ↦ inr (subst (HoldsFrom st.indices v.temp n) (sym is_done) h, clean) ])
  read_page st n F p after pass done total r (x ∷ xs) back s pit rest empty w = by (batch v pass (x ∷ xs)) refl
    where
      all_is : F.rows ≡ (r.before ++ (x ∷ xs)) ++ back
      all_is = r.all ∙ ap (λ z. r.before ++ z) rest ∙ sym (append_assoc r.before (x ∷ xs) back)

      key_is : Some (last_of x.0 xs) ≡ last_key None (r.before ++ (x ∷ xs))
      key_is = last_of_key x.0 xs ∙ sym (last_key_append None r.before (x ∷ xs))

      reading : (os : List (Text × D)) (next : Pass) → batch v pass (x ∷ xs) ≡ Good os next → Read v F (Some (last_of x.0 xs)) next done os
      reading os next e =
          let g = batch_good v pass (outs v r.before) (x ∷ xs) os next e r.apart r.known in
          let outs_is : outs v (r.before ++ (x ∷ xs)) ≡ outs v r.before ++ outs v (x ∷ xs) = outs_append v r.before (x ∷ xs) in
          record {
            before = r.before ++ (x ∷ xs);
            rest = back;
            all = all_is;
            after_is = key_is;
            outputs = outs_is ∙ ap (λ z. z ++ outs v (x ∷ xs)) (r.outputs ∙ append-nil done) ∙ ap (λ z. done ++ z) (sym g.0.outputs);
            good = each_append (λ raw doc. _) r.before (x ∷ xs) r.good g.1;
            apart = rw outs_is g.0.apart;
            known = rw outs_is g.0.known;
            exact = subst (Exact next) (sym outs_is) (batch_exact v pass (outs v r.before) (x ∷ xs) os next e r.exact);
          }

      failing : (c : _) → MayFail c → CauseOk cur In Fresh Empty v st c
      failing (UnknownObjects raws) m = m
      failing (CorruptObjects raws) m = m
      failing (NewerObjects raws) m = m
      failing (Collision first second raw) m = m
      failing (OutdatedId raws) m = absurd m
      failing (NewerIndex z) m = absurd m
      failing (VersionAliasMissing z) m = absurd m
      failing (LegacyIndex z) m = absurd m
      failing (Cause.NameTaken z) m = absurd m
      failing (OtherVersion z) m = absurd m
      failing (Leftover z its from) m = absurd m

      by : (b : Batch D) → batch v pass (x ∷ xs) ≡ b → At st (by_batch n p (last_of x.0 xs) b)
      by (Bad cause) e = failing cause (batch_bad v pass (x ∷ xs) cause e)
      by (Good [] next) e = (F, s, pit, done, reading [] next e, w)
      by (Good (o ∷ os) next) e = (F, s, pit, done, reading (o ∷ os) next e, w)

  read_moves : (st : Store D) (n : Text) (F : Table D) (p : ℕ) (after : Option Text) (pass : Pass) (done : List (Text × D)) (o : Option (Rows D)) → SourceOf In v st n F → PitOk cur In Fresh Empty st p F.rows → Read v F after pass done [] → Wrote cur In Fresh Empty v st n done → pit_at p st.pits ≡ o
      → At st (from_read v n p pass (read_over race.select o p (v.page after)))
  read_moves st n F p after pass done None s pit r w f = tt
  read_moves st n F p after pass done (Some rows) s pit r w f =
      let rows_is : rows ≡ F.rows = elim pit.1 [ inl none ↦ none_some rows (pit_at p st.pits) none f | inr some ↦ some_same rows F.rows (pit_at p st.pits) f some ] in
      let page = laws.page v i r.before r.rest (subst IsSorted r.all s.sorted) in
      let selected : race.select.rows (v.page after) rows ≡ page.0 = rw (rows_is, r.after_is, r.all) page.3 in
      let total : ℕ = race.select.total (v.page after) rows in
      subst (λ front. At st (from_read v n p pass (Selected total front))) (sym selected) (read_page st n F p after pass done total r page.0 page.1 s pit page.2 page.4 w)

  bulk_moves : (st : Store D) (n : Text) (F : Table D) (p : ℕ) (last : Text) (pass : Pass) (outputs done : List (Text × D)) → Ok st → SourceOf In v st n F → PitOk cur In Fresh Empty st p F.rows → Read v F (Some last) pass done outputs → Wrote cur In Fresh Empty v st n done
      → (o : Option (Index D)) → at v.temp st.indices ≡ o → Later cur In Fresh Empty st (bulk_over o st v.temp v.temp (creates outputs)).0
      → At (bulk_over o st v.temp v.temp (creates outputs)).0 (from_bulk n p last pass (bulk_over o st v.temp v.temp (creates outputs)).1)
  bulk_moves st n F p last pass outputs done a s pit r w None f l = (F, s, elim w [ inl x ↦ inl x | inr h ↦ none_some h.index (at v.temp st.indices) f h.there ])
  bulk_moves st n F p last pass outputs done a s pit r w (Some ix) f l = by ix.blocked refl l
    where
      whole : ix.blocked ≡ true → Wrote cur In Fresh Empty v st n done → TempDone cur In Fresh Empty v st n F
      whole g (inl x) = inl x
      whole g (inr h) = elim (a.aliases.versions v i) [
        | inr x ↦ inl x
        | inl not ↦ (let t : TempOk cur In Fresh Empty v st ix = a.temps v i not ix f in
            let from : ix.source ≡ Some n = subst (λ (z : Index D). z.source ≡ Some n) (some_same h.index ix (at v.temp st.indices) h.there f) h.from in
            let name : t.source ≡ n = let z : Some t.source ≡ Some n = sym t.from ∙ from in cc in
            let table : t.table ≡ F = sym t.ground.blocked.table ∙ ap (λ (z : Index D). z.table) (some_same t.ground.blocked.index s.blocked.index (at n st.indices) (subst (λ m. at m st.indices ≡ Some t.ground.blocked.index) name t.ground.blocked.there) s.blocked.there) ∙ s.blocked.table in
            let k = t.whole g in
            inr (record { index = ix; there = f; from = from; holds = subst (λ (z : Table D). Holds (outs v z.rows) ix.table.rows) table k.0 }, subst (λ (z : Table D). Clean v z.rows) table k.1))
      ]

      by : (b : Bool) → ix.blocked ≡ b → Later cur In Fresh Empty st (bulk_in b ix st v.temp (creates outputs)).0 → At (bulk_in b ix st v.temp (creates outputs)).0 (from_bulk n p last pass (bulk_in b ix st v.temp (creates outputs)).1)
      by true g l = (F, s, whole g w)
      by false g l =
          let new : Index D = record { blocked = false; source = ix.source; table = write_all ix.table (creates outputs) } in (
            F,
            source_later cur In Fresh Empty st (bulk_in false ix st v.temp (creates outputs)).0 l v n F s,
            pit,
            done ++ outputs,
            record { before = r.before; rest = r.rest; all = r.all; after_is = r.after_is; outputs = r.outputs ∙ sym (append-nil (done ++ outputs)); good = r.good; apart = r.apart; known = r.known; exact = r.exact },
            elim w [
              | inl x ↦ inl x
              | inr h ↦ (let is : h.index ≡ ix = some_same h.index ix (at v.temp st.indices) h.there f in inr (record {
                index = new;
                there = at_put_same v.temp new st.indices;
                from = subst (λ (z : Index D). z.source ≡ Some n) is h.from;
                holds = holds_append done outputs new.table.rows
                    (holds_more done ix.table.rows new.table.rows (λ q k. is_in_write_all outputs ix.table q k) (subst (λ (z : Index D). Holds done z.table.rows) is h.holds))
                    (holds_write_all outputs ix.table);
              }))
            ],
          )

  close_moves : (st : Store D) (next : State D) (reply : Reply D) → At st next → At st (from_close next reply)
  close_moves st next Done e = e
  close_moves st next (Refused (NoPit p)) e = e
  close_moves st next _ e = tt

  temp_block_moves : (st : Store D) (n : Text) (F : Table D) → SourceOf In v st n F → TempDone cur In Fresh Empty v st n F → (o : Option (Index D)) → at v.temp st.indices ≡ o → Later cur In Fresh Empty st (block_over o st v.temp).0
      → At (block_over o st v.temp).0 (from_temp_block n (block_over o st v.temp).1)
  temp_block_moves st n F s d None f l = (F, s, elim d [ inl x ↦ inl x | inr h ↦ none_some h.0.index (at v.temp st.indices) f h.0.there ])
  temp_block_moves st n F s d (Some ix) f l = (
    F,
    source_later cur In Fresh Empty st (block_over (Some ix) st v.temp).0 l v n F s,
    elim d [
      | inl x ↦ inl x
      | inr h ↦ inr (record {
        index = record { blocked = true; source = ix.source; table = ix.table };
        there = at_put_same v.temp (record { blocked = true; source = ix.source; table = ix.table }) st.indices;
        from = subst (λ (z : Index D). z.source ≡ Some n) (some_same h.0.index ix (at v.temp st.indices) h.0.there f) h.0.from;
        blocked = refl;
      })
    ],
  )

  clone_moves : (st : Store D) (n : Text) (F : Table D) → Ok st → SourceOf In v st n F → TempShut cur In Fresh Empty v st n → (o : Option (Index D)) (temp : Option (Index D)) → at v.target st.indices ≡ o → at v.temp st.indices ≡ temp
      → At (clone_over o (at v.target st.aliases) temp st v.temp v.target).0 (from_clone v n (clone_over o (at v.target st.aliases) temp st v.temp v.target).1)
  clone_moves st n F a s h (Some ix) temp e f = here (is_on n ix.source) refl
    where
      here : (b : Bool) → is_on n ix.source ≡ b → At st (where_from b (OutdatedOpen (Switch n)) v.target ix.source n)
      here true g = record { ground = s.ground; target = record { index = ix; there = e; from = is_on_true n ix.source g } }
      here false g = (inr refl, is_on_false n ix.source g)
  clone_moves st n F a s h None None e f = rw (a.aliases.no_target_alias v i) tt
  clone_moves st n F a s h None (Some ix) e f = rw (a.aliases.no_target_alias v i) (by ix.blocked h)
    where
      by : (b : Bool) → TempShut cur In Fresh Empty v st n → At (copy_of b ix st v.temp v.target).0 (from_clone v n (copy_of b ix st v.temp v.target).1)
      by false k = tt
      by true (inl x) = let t = a.there v i x in none_some t.0 (at v.target st.indices) e t.1
      by true (inr k) =
          let new : Index D = record { blocked = false; source = ix.source; table = renumbered ix.table } in
          record {
            ground = s.ground;
            target = record { index = new; there = at_put_same v.target new st.indices; from = subst (λ (z : Index D). z.source ≡ Some n) (some_same k.index ix (at v.temp st.indices) k.there f) k.from };
          }

  outdated_open_moves : (st : Store D) (finish : Finish) (goal : Text) → Ok st → goal ≡ v.target → FinishOk cur In Fresh Empty v st finish
      → At (open_over (at (meant st goal) st.indices) st goal).0 (from_outdated_open finish (open_over (at (meant st goal) st.indices) st goal).1)
  outdated_open_moves st finish goal a e c = rw (e, meant_itself st v.target (a.aliases.no_target_alias v i)) (by (at v.target st.indices) refl)
    where
      finish_kept : (rows : Rows D) (f : Finish) → FinishOk cur In Fresh Empty v st f → FinishOk cur In Fresh Empty v (record { indices = st.indices; aliases = st.aliases; opened = st.opened + 1; pits = (st.opened, rows) ∷ st.pits }) f
      finish_kept rows (Stands index) k = k
      finish_kept rows (Switch n) k = record { ground = k.ground; target = k.target }

      by : (o : Option (Index D)) → at v.target st.indices ≡ o → At (open_over o st v.target).0 (from_outdated_open finish (open_over o st v.target).1)
      by None f = tt
      by (Some ix) f = (finish_kept ix.table.rows finish c, (ix.table.rows, (omega arith, inr (pit_here st.opened ix.table.rows st.pits)), a.fresh v i ix f))

  outdated_read_moves : (st : Store D) (finish : Finish) (p : ℕ) (after : Option Text) (o : Option (Rows D)) → FinishOk cur In Fresh Empty v st finish → PitFresh cur In Fresh Empty v st p → pit_at p st.pits ≡ o
      → At st (from_outdated_read v finish p (read_over race.select o p (v.outdated after)))
  outdated_read_moves st finish p after None c pit f = tt
  outdated_read_moves st finish p after (Some rows) c pit f =
      let rows_is : pit.0 ≡ rows = elim pit.1.1 [ inl none ↦ none_some rows (pit_at p st.pits) none f | inr some ↦ some_same pit.0 rows (pit_at p st.pits) some f ] in
      subst (λ chosen. At st (from_outdated_read v finish p (Selected (race.select.total (v.outdated after) rows) chosen))) (sym (calm after rows (subst (Each (Fresh v)) rows_is pit.2))) c

  finished : (st : Store D) (finish : Finish) → FinishOk cur In Fresh Empty v st finish → At st (after_outdated finish)
  finished st (Stands index) c = c
  finished st (Switch n) c = c

  -- an installed version keeps the current alias somewhere
  named : (st : Store D) (w : Settings D Q) → Ok st → In w → Installed w st.aliases → (c : Text) × (at cur st.aliases ≡ Some c)
  named st w a j x = by a.aliases.current
    where
      by : Current cur In Fresh Empty st.aliases → (c : Text) × (at cur st.aliases ≡ Some c)
      by (Nowhere e z nowhere) = not_both race cur In Fresh Empty Sound laws st w (nowhere w j) x
      by (On u k e z) = (u.target, e)

  mark_switch : (st : Store D) (n : Text) → Ok st → Ready cur In Fresh Empty v st n → At (acted_answer st (act_all (Now st) (switch_of v cur n))).0 (from_mark v (acted_answer st (act_all (Now st) (switch_of v cur n))).1)
  mark_switch st n a r = elim (on_it (at cur st.aliases) n) [
    | inl e ↦ rw (switch_now race cur In Fresh Empty Sound laws st v n a i r e) (refl, at_put_same v.version v.target _)
    | inr x ↦ rw (switch_stuck race cur In Fresh Empty Sound laws st v n (at cur st.aliases) refl x) (let k = named st r.ground.set a r.ground.is_in r.ground.installed in (k.0, k.1, inr (n, r.ground, x)))
  ]

  mark_install : (st : Store D) → Ok st → Empty → Is st.indices v.target → At (acted_answer st (act_all (Now st) (install_of v cur))).0 (from_mark v (acted_answer st (act_all (Now st) (install_of v cur))).1)
  mark_install st a emptied t = by (installing race cur In Fresh Empty Sound laws st v a i t)
    where
      by : Installing race cur In Fresh Empty Sound laws st v → At (acted_answer st (act_all (Now st) (install_of v cur))).0 (from_mark v (acted_answer st (act_all (Now st) (install_of v cur))).1)
      by (First e nowhere is) = rw is (refl, at_put_same v.version v.target _)
      by (Repeated x e is) = rw is (refl, x)
      by (Refuses c e is) = rw is (c, e, inl emptied)

  conflict_moves : (st : Store D) (c : Text) → Ok st → at cur st.aliases ≡ Some c → At st (from_conflict v (Seen (seen st.indices) st.aliases))
  conflict_moves st c a e = subst (λ x. At st (settled (at x st.aliases) (is_on_some (at x st.aliases) (at v.version st.aliases)))) (sym (names.current v i)) (by a.aliases.current)
    where
      by : Current cur In Fresh Empty st.aliases → At st (settled (at cur st.aliases) (is_on_some (at cur st.aliases) (at v.version st.aliases)))
      by (Nowhere f z nowhere) = none_some c (at cur st.aliases) f e
      by (On w j f x) = rw f (elim (names.apart w v j i) [
        | inl s ↦ (let y : Installed v st.aliases = subst (λ z. Installed z st.aliases) s x in
            subst (λ z. At st (settled (Some z.target) (is_on z.target (at v.version st.aliases)))) (sym s) (rw (y, same_refl v.target) (refl, y)))
        | inr o ↦ rw (not_on st w a o.1) (o.1, record { set = w; is_in = j; name = refl; installed = x })
      ])

  -- what holds of a machine holds after any request whose condition holds
  pub still : (st : Store D) (state : State D) (ask : Request D Q) → Ok st → Needs st ask → At st state → At (serve race.select st ask).0 state
  still st state ask a c k = state_later cur In Fresh Empty st (serve race.select st ask).0 (lasts st ask a c) v state i k

  closed : (st : Store D) (p : ℕ) → Ok st → (state : State D) → At st state → At (close_over (pit_at p st.pits) st p).0 state
  unfolding serve
  closed st p a state k = still st state (ClosePit p) a (Any_close p) k

  abbrev LeadsTo : Store D → State D → Option (Request D Q) → Type 0
  LeadsTo st state None = Unit {0}
  LeadsTo st state (Some ask) = At (serve race.select st ask).0 (moved v state (serve race.select st ask).1)

  moves_ok : (st : Store D) (state : State D) → Ok st → At st state → LeadsTo st state (request v state)
  unfolding request serve moved
  moves_ok st Init a c = init_moves st a
  moves_ok st CreateNewTarget a c = new_target_moves st (at v.target st.indices) a c refl
  moves_ok st (CheckUnknown n) a c = check_moves st n (search_over race.select (at (meant st n) st.indices) n v.unknown) c
  moves_ok st (SetSourceBlock n) a c = source_block_moves st n (at n st.indices) a c refl
  moves_ok st (CreateTemp n) a c = create_temp_moves st n c.0 a c.1 (lasts st (Create v.temp (Some n)) a (Makes_temp n c.0 c.1))
  moves_ok st (ReindexOpen n) a c = open_moves st n c.0 a c.1 c.2
  moves_ok st (ReindexRead n p after pass) a c = read_moves st n c.0 p after pass c.3 (pit_at p st.pits) c.1 c.2 c.4 c.5 refl
  moves_ok st (ReindexBulk n p last pass outputs) a c =
      let itself : meant st v.temp ≡ v.temp = meant_itself st v.temp (a.aliases.no_temp_alias v i) in
      let l : Later cur In Fresh Empty st (bulk_over (at (meant st v.temp) st.indices) st v.temp (meant st v.temp) (creates outputs)).0 = lasts st (Bulk v.temp (creates outputs)) a (asks_ok st (ReindexBulk n p last pass outputs) c) in
      subst (λ m. At (bulk_over (at m st.indices) st v.temp m (creates outputs)).0 (from_bulk n p last pass (bulk_over (at m st.indices) st v.temp m (creates outputs)).1)) (sym itself)
      (bulk_moves st n c.0 p last pass outputs c.3 a c.1 c.2 c.4 c.5 (at v.temp st.indices) refl (subst (λ m. Later cur In Fresh Empty st (bulk_over (at m st.indices) st v.temp m (creates outputs)).0) itself l))
  moves_ok st (ReindexClose n p) a c = close_moves (close_over (pit_at p st.pits) st p).0 (SetTempBlock n) (close_over (pit_at p st.pits) st p).1 (closed st p a (SetTempBlock n) c)
  moves_ok st (SetTempBlock n) a c = temp_block_moves st n c.0 c.1 c.2 (at v.temp st.indices) refl (lasts st (Block v.temp) a (Blocks_temp n c.0 c.1 c.2))
  moves_ok st (CloneTemp n) a c = clone_moves st n c.0 a c.1 c.2 (at v.target st.indices) (at v.temp st.indices) refl refl
  moves_ok st (OutdatedOpen (Stands index)) a c = outdated_open_moves st (Stands index) index a c.0 c
  moves_ok st (OutdatedOpen (Switch n)) a c = outdated_open_moves st (Switch n) v.target a refl c
  moves_ok st (OutdatedRead finish p after) a c = outdated_read_moves st finish p after (pit_at p st.pits) c.0 c.1 refl
  moves_ok st (OutdatedBulk finish p last writes) a c = absurd c
  moves_ok st (OutdatedClose finish p) a c = close_moves (close_over (pit_at p st.pits) st p).0 (after_outdated finish) (close_over (pit_at p st.pits) st p).1 (closed st p a (after_outdated finish) (finished st finish c))
  moves_ok st (MarkReady None) a c = subst (λ x. At (acted_answer st (act_all (Now st) (install_of v x))).0 (from_mark v (acted_answer st (act_all (Now st) (install_of v x))).1)) (sym (names.current v i)) (mark_install st a c.0 c.1)
  moves_ok st (MarkReady (Some n)) a c = subst (λ x. At (acted_answer st (act_all (Now st) (switch_of v x n))).0 (from_mark v (acted_answer st (act_all (Now st) (switch_of v x n))).1)) (sym (names.current v i)) (mark_switch st n a c)
  moves_ok st MarkReadyConflict a c = conflict_moves st c.0 a c.1
  moves_ok st (Ended end) a c = tt

  -- the machine's own request
  pub moves : (st : Store D) (state : State D) (ask : Request D Q) → Ok st → At st state → request v state ≡ Some ask → At (serve race.select st ask).0 (moved v state (serve race.select st ask).1)
  moves st state ask a c e = subst (LeadsTo st state) e (moves_ok st state a c)
