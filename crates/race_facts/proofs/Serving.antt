-- A request whose condition holds keeps the facts of a store of several target sets.
use Rattle.std.proofs.Common.{◌≡◌, ◌≢◌, ℕ, ◌+◌, ◌<◌, ◌≤◌, ◌⊎◌, List, [], ◌∷◌, Bool, true, false, Option, Some, None, refl, sym, ◌∙◌, ap, subst, if◌then◌else◌, ◌==◌, arith}
use Rattle.std.proofs.lemmas.Bool.Decides.{nat_tests}
use mathlib.Core.Logic.◌⊎◌.{inl, inr}
use Rattle.base_model.specs.Keyed.{Text, at, without}
use Rattle.race_model.specs.Stores.{Rows, Table, Index, Store, write_all, numbered, renumbered, empty_table, pit_at, close, with_index, with_aliases, create_over, block_over, clone_over, copy_of, open_over, close_over, bulk_over, bulk_in, act, act_all}
use Rattle.race_model.specs.Stores.Refusal.{AliasMissing, AliasTaken}
use Rattle.race_model.specs.Stores.Acted.{Now, Stuck}
use Rattle.race_model.specs.Stores.Action.{RemoveMustExist, Add}
use Rattle.race_model.specs.Machines.{Settings, creates, outputs_of}
use Rattle.race_model.specs.Worlds.{Race}
use Rattle.race_model.specs.Journals.{Has}
use Rattle.race_model.specs.Migrated.{outs}
use Rattle.race_model.specs.Sorted.{AllAbove, IsSorted, Each}
use Rattle.race_tables.proofs.Keys.{same_refl, same_false, at_put_same, at_put_other, pit_at_close}
use Rattle.race_tables.proofs.Tables.{IsIn, Holds, AllHas, only_write_all, is_in_write_all, sorted_write_all, each_more, each_numbered}
use Rattle.race_tables.proofs.Outputs.{Is, Clean}
use Rattle.race_tables.proofs.Lists.{apart, some_same, none_some, has_append_cases}
use Rattle.race_model.specs.Premises.{NamesApart, RaceLaws}
use Rattle.race_facts.proofs.Facts.{Installed, NotYet, IsBlocked, Grown, TempGrown, SourceOf, TempOk, TargetOk, StoreOk, Later, Wrote, TempDone, TempShut, temp_ok_later, target_ok_later}
use Rattle.race_facts.proofs.Facts.TargetOk.{Bare, Copied}

-- the same rows numbered anew are in order
all_above_numbered : {D : Type 0} (k : Text) (n : ℕ) (rows : Rows D) → AllAbove k rows → AllAbove k (numbered n rows)
unfolding AllAbove numbered
all_above_numbered k n [] a = tt
all_above_numbered k n (r ∷ rows) a = (a.0, all_above_numbered k (n + 1) rows a.1)

sorted_numbered : {D : Type 0} (n : ℕ) (rows : Rows D) → IsSorted rows → IsSorted (numbered n rows)
unfolding IsSorted numbered
sorted_numbered n [] a = tt
sorted_numbered n (r ∷ rows) a = (all_above_numbered r.0 (n + 1) rows a.0, sorted_numbered (n + 1) rows a.1)

-- an order to be removed stands, or it doesn't
pub remove_now : {D : Type 0} (st : Store D) (alias index : Text) → at alias st.aliases ≡ Some index → act st (RemoveMustExist alias index) ≡ Now (with_aliases st (without alias st.aliases))
unfolding act
remove_now st alias index e = rw (e, same_refl index) refl

pub remove_other : {D : Type 0} (st : Store D) (alias index other : Text) → at alias st.aliases ≡ Some other → other ≢ index → act st (RemoveMustExist alias index) ≡ Stuck (AliasMissing alias index)
unfolding act
remove_other st alias index other e n = rw (e, same_false other index n) refl

pub remove_none : {D : Type 0} (st : Store D) (alias index : Text) → at alias st.aliases ≡ None → act st (RemoveMustExist alias index) ≡ Stuck (AliasMissing alias index)
unfolding act
remove_none st alias index e = rw e refl

pub add_same : {D : Type 0} (st : Store D) (alias index : Text) (ix : Index D) → at index st.indices ≡ Some ix → at alias st.indices ≡ None → at alias st.aliases ≡ Some index → act st (Add alias index) ≡ Now st
unfolding act
add_same st alias index ix e f g = rw (e, f, g, same_refl index) refl

pub add_taken : {D : Type 0} (st : Store D) (alias index other : Text) (ix : Index D) → at index st.indices ≡ Some ix → at alias st.indices ≡ None → at alias st.aliases ≡ Some other → other ≢ index → act st (Add alias index) ≡ Stuck (AliasTaken alias other)
unfolding act
add_taken st alias index other ix e f g n = rw (e, f, g, same_false other index n) refl

-- the next of no actions
pub act_done : {D : Type 0} (st : Store D) → act_all (Now st) [] ≡ Now st
unfolding act_all
act_done st = refl

module _ {D Q C : Type 0} (race : Race D Q C) (cur : Text) (In : Settings D Q → Type 0) (Fresh : Settings D Q → Text → D → Type 0) (Empty : Type 0) (Sound : C → Type 0) (laws : RaceLaws race cur In Fresh Sound) where
  abbrev Ok : Store D → Type 0
  Ok st = StoreOk cur In Fresh Empty st

  abbrev Lasts : Store D → Store D → Type 0
  Lasts st st' = Later cur In Fresh Empty st st'

  abbrev names : NamesApart cur In
  names = laws.names

  pub record Served (st st' : Store D) : Type 0 where
    pub ok : StoreOk cur In Fresh Empty st'
    pub later : Later cur In Fresh Empty st st'

  pub same_store : (st : Store D) → Ok st → Served st st
  same_store st a = record {
    ok = a;
    later = record {
      installed = λ v i x. x;
      named = λ c e. (c, e);
      off = λ w j x n. n;
      target = λ v i ix e. record { index = ix; there = e; from = refl; kept = λ b. (b, refl) };
      temp = λ v i ix e. inr (record { index = ix; there = e; from = refl; shut = λ b. b; more = λ q h. h });
      opened = omega arith;
      pits = λ p lt. inr refl;
    };
  }

  -- other pits alone
  pub other_pits : (st : Store D) (opened : ℕ) (pits : List (ℕ × Rows D)) → Ok st → st.opened ≤ opened → ((p : ℕ) → p < st.opened → (pit_at p pits ≡ None) ⊎ (pit_at p pits ≡ pit_at p st.pits))
      → Served st (record { indices = st.indices; aliases = st.aliases; opened = opened; pits = pits })
  other_pits st opened pits a le f =
      let st' : Store D = record { indices = st.indices; aliases = st.aliases; opened = opened; pits = pits } in
      let later : Lasts st st' = record {
        installed = λ v i x. x;
        named = λ c e. (c, e);
        off = λ w j x n. n;
        target = λ v i ix e. record { index = ix; there = e; from = refl; kept = λ b. (b, refl) };
        temp = λ v i ix e. inr (record { index = ix; there = e; from = refl; shut = λ b. b; more = λ q h. h });
        opened = le;
        pits = f;
      } in
      record {
        ok = record {
          aliases = a.aliases;
          there = a.there;
          open_last = a.open_last;
          no_cur_index = a.no_cur_index;
          no_ver_index = a.no_ver_index;
          sorted = a.sorted;
          fresh = a.fresh;
          temps = λ v i n ix e. temp_ok_later cur In Fresh Empty st st' later v ix (a.temps v i n ix e);
          targets = λ v i n ix e. target_ok_later cur In Fresh Empty st st' later v ix i n (a.targets v i n ix e);
        };
        later = later;
      }

  -- another temporary index
  pub put_temp : (st : Store D) (v : Settings D Q) (ix : Index D) → Ok st → In v → (NotYet v st.aliases → TempOk cur In Fresh Empty v st ix)
      → ((old : Index D) → at v.temp st.indices ≡ Some old → Installed v st.aliases ⊎ ((ix.source ≡ old.source) × (old.blocked ≡ true → ix.blocked ≡ true) × ((q : Text) → IsIn q old.table.rows → IsIn q ix.table.rows)))
      → Served st (with_index st v.temp ix)
  put_temp st v ix a i new grows = record {
    ok = record {
      aliases = a.aliases;
      there = λ w j x. let t = a.there w j x in (t.0, target w j ∙ t.1);
      open_last = λ w j x y e. a.open_last w j x y (sym (target w j) ∙ e);
      no_cur_index = at_put_other cur v.temp ix st.indices (names.cur_temp v i) ∙ a.no_cur_index;
      no_ver_index = λ w j. at_put_other w.version v.temp ix st.indices (names.ver_temp w v j i) ∙ a.no_ver_index w j;
      sorted = λ w j y e. a.sorted w j y (sym (target w j) ∙ e);
      fresh = λ w j y e. a.fresh w j y (sym (target w j) ∙ e);
      temps = λ w j n y e. temp_ok_later cur In Fresh Empty st st' later w y (temp w j n y e);
      targets = λ w j n y e. target_ok_later cur In Fresh Empty st st' later w y j n (a.targets w j n y (sym (target w j) ∙ e));
    };
    later = later;
  }
    where
      st' : Store D
      st' = with_index st v.temp ix

      there : at v.temp st'.indices ≡ Some ix
      there = at_put_same v.temp ix st.indices

      target : (w : Settings D Q) → In w → at w.target st'.indices ≡ at w.target st.indices
      target w j = at_put_other w.target v.temp ix st.indices (names.target_temp w v j i)

      grown : (old : Index D) → at v.temp st.indices ≡ Some old → Installed v st.aliases ⊎ TempGrown old st'.indices v.temp
      grown old e = elim (grows old e) [ inl x ↦ inl x | inr g ↦ inr (record { index = ix; there = there; from = g.0; shut = g.1; more = g.2 }) ]

      later : Lasts st st'
      later = record {
        installed = λ w j x. x;
        named = λ c e. (c, e);
        off = λ w j x n. n;
        target = λ w j old e. record { index = old; there = target w j ∙ e; from = refl; kept = λ b. (b, refl) };
        temp = λ w j old e. elim (names.apart w v j i) [
          | inl s ↦ subst (λ z. Installed z st.aliases ⊎ TempGrown old st'.indices z.temp) (sym s) (grown old (subst (λ z. at z.temp st.indices ≡ Some old) s e))
          | inr o ↦ inr (record { index = old; there = at_put_other w.temp v.temp ix st.indices o.2 ∙ e; from = refl; shut = λ b. b; more = λ q h. h })
        ];
        opened = omega arith;
        pits = λ p lt. inr refl;
      }

      temp : (w : Settings D Q) → In w → NotYet w st.aliases → (y : Index D) → at w.temp st'.indices ≡ Some y → TempOk cur In Fresh Empty w st y
      temp w j n y e = elim (names.apart w v j i) [
        | inl s ↦ (let f : at v.temp st'.indices ≡ Some y = subst (λ z. at z.temp st'.indices ≡ Some y) s e in
            subst (λ z. TempOk cur In Fresh Empty z st y) (sym s) (subst (TempOk cur In Fresh Empty v st) (some_same ix y (at v.temp st'.indices) there f) (new (subst (λ z. NotYet z st.aliases) s n))))
        | inr o ↦ a.temps w j n y (sym (at_put_other w.temp v.temp ix st.indices o.2) ∙ e)
      ]

  -- another target: of a version that is installed or not
  pub put_target : (st : Store D) (v : Settings D Q) (ix : Index D) → Ok st → In v → IsSorted ix.table.rows → Each (Fresh v) ix.table.rows → (NotYet v st.aliases → TargetOk cur In Fresh Empty v st ix)
      → (Installed v st.aliases → ix.blocked ≡ false → at cur st.aliases ≡ Some v.target)
      → ((old : Index D) → at v.target st.indices ≡ Some old → (ix.source ≡ old.source) × (old.blocked ≡ true → (ix.blocked ≡ true) × (ix.table ≡ old.table)))
      → Served st (with_index st v.target ix)
  put_target st v ix a i in_order fresh new last grows = record {
    ok = record {
      aliases = a.aliases;
      there = λ w j x. elim (names.apart w v j i) [
        | inl s ↦ subst (λ z. Is st'.indices z.target) (sym s) (ix, there)
        | inr o ↦ (let t = a.there w j x in (t.0, other w o.1 ∙ t.1))
      ];
      open_last = λ w j x y e b. elim (names.apart w v j i) [
        | inl s ↦ subst (λ z. at cur st.aliases ≡ Some z.target) (sym s) (last (subst (λ z. Installed z st.aliases) s x) (subst (λ (z : Index D). z.blocked ≡ false) (sym (here w y s e)) b))
        | inr o ↦ a.open_last w j x y (sym (other w o.1) ∙ e) b
      ];
      no_cur_index = at_put_other cur v.target ix st.indices (names.cur_target v i) ∙ a.no_cur_index;
      no_ver_index = λ w j. at_put_other w.version v.target ix st.indices (names.ver_target w v j i) ∙ a.no_ver_index w j;
      sorted = λ w j y e. elim (names.apart w v j i) [ inl s ↦ subst (λ (z : Index D). IsSorted z.table.rows) (here w y s e) in_order | inr o ↦ a.sorted w j y (sym (other w o.1) ∙ e) ];
      fresh = λ w j y e. elim (names.apart w v j i) [
        | inl s ↦ subst (λ z. Each (Fresh z) y.table.rows) (sym s) (subst (λ (z : Index D). Each (Fresh v) z.table.rows) (here w y s e) fresh)
        | inr o ↦ a.fresh w j y (sym (other w o.1) ∙ e)
      ];
      temps = λ w j n y e. temp_ok_later cur In Fresh Empty st st' later w y (a.temps w j n y (sym (temp w j) ∙ e));
      targets = λ w j n y e. target_ok_later cur In Fresh Empty st st' later w y j n (elim (names.apart w v j i) [
        | inl s ↦ subst (λ z. TargetOk cur In Fresh Empty z st y) (sym s) (subst (TargetOk cur In Fresh Empty v st) (here w y s e) (new (subst (λ z. NotYet z st.aliases) s n)))
        | inr o ↦ a.targets w j n y (sym (other w o.1) ∙ e)
      ]);
    };
    later = later;
  }
    where
      st' : Store D
      st' = with_index st v.target ix

      there : at v.target st'.indices ≡ Some ix
      there = at_put_same v.target ix st.indices

      other : (w : Settings D Q) → w.target ≢ v.target → at w.target st'.indices ≡ at w.target st.indices
      other w n = at_put_other w.target v.target ix st.indices n

      here : (w : Settings D Q) (y : Index D) → w ≡ v → at w.target st'.indices ≡ Some y → ix ≡ y
      here w y s e = some_same ix y (at v.target st'.indices) there (subst (λ z. at z.target st'.indices ≡ Some y) s e)

      temp : (w : Settings D Q) → In w → at w.temp st'.indices ≡ at w.temp st.indices
      temp w j = at_put_other w.temp v.target ix st.indices (apart (names.target_temp v w i j))

      grown : (old : Index D) → at v.target st.indices ≡ Some old → Grown old st'.indices v.target
      grown old e = let g = grows old e in record { index = ix; there = there; from = g.0; kept = g.1 }

      later : Lasts st st'
      later = record {
        installed = λ w j x. x;
        named = λ c e. (c, e);
        off = λ w j x n. n;
        target = λ w j old e. elim (names.apart w v j i) [
          | inl s ↦ subst (λ z. Grown old st'.indices z.target) (sym s) (grown old (subst (λ z. at z.target st.indices ≡ Some old) s e))
          | inr o ↦ record { index = old; there = other w o.1 ∙ e; from = refl; kept = λ b. (b, refl) }
        ];
        temp = λ w j old e. inr (record { index = old; there = temp w j ∙ e; from = refl; shut = λ b. b; more = λ q h. h });
        opened = omega arith;
        pits = λ p lt. inr refl;
      }

  -- what is not yet installed, and is
  pub not_both : {B : Type 0} (st : Store D) (v : Settings D Q) → NotYet v st.aliases → Installed v st.aliases → B
  not_both st v n x = none_some v.target (at v.version st.aliases) n x

  -- the requests
  pub create_temp : (st : Store D) (v : Settings D Q) (n : Text) (F : Table D) (o : Option (Index D)) (alias : Option Text) → Ok st → In v → SourceOf In v st n F → at v.temp st.indices ≡ o → Served st (create_over o alias st v.temp (Some n)).0
  unfolding Each IsSorted
  create_temp st v n F (Some ix) alias a i s e = same_store st a
  create_temp st v n F None (Some x) a i s e = same_store st a
  create_temp st v n F None None a i s e =
      put_temp st v (record { blocked = false; source = Some n; table = empty_table }) a i
      (λ not. record { source = n; table = F; from = refl; ground = s; only = tt; sorted = tt; whole = λ b. absurd (cc) }) (λ old f. none_some old (at v.temp st.indices) e f)

  pub create_target : (st : Store D) (v : Settings D Q) (o : Option (Index D)) (alias : Option Text) → Ok st → In v → Empty → at v.target st.indices ≡ o → Served st (create_over o alias st v.target None).0
  unfolding Each IsSorted
  create_target st v (Some ix) alias a i x e = same_store st a
  create_target st v None (Some k) a i x e = same_store st a
  create_target st v None None a i x e =
      put_target st v (record { blocked = false; source = None; table = empty_table }) a i tt tt (λ not. Bare x refl) (λ inst. let t = a.there v i inst in none_some t.0 (at v.target st.indices) e t.1) (λ old f. none_some old (at v.target st.indices) e f)

  pub block_source : (st : Store D) (v : Settings D Q) (o : Option (Index D)) → Ok st → In v → Installed v st.aliases → at v.target st.indices ≡ o → Served st (block_over o st v.target).0
  block_source st v None a i x e = same_store st a
  block_source st v (Some ix) a i x e =
      put_target st v (record { blocked = true; source = ix.source; table = ix.table }) a i (a.sorted v i ix e) (a.fresh v i ix e) (λ not. not_both st v not x) (λ inst b. absurd (cc))
      (λ old f. let is : ix ≡ old = some_same ix old (at v.target st.indices) e f in (ap (λ (z : Index D). z.source) is, λ b. (refl, ap (λ (z : Index D). z.table) is)))

  -- the table of a source is one
  pub one_table : (st : Store D) (n : Text) (F G : Table D) → IsBlocked st.indices n F → IsBlocked st.indices n G → F ≡ G
  one_table st n F G b c = sym b.table ∙ ap (λ (z : Index D). z.table) (some_same b.index c.index (at n st.indices) b.there c.there) ∙ c.table

  -- the source of a temporary index is one
  same_source : (v : Settings D Q) (st : Store D) (ix : Index D) (n : Text) (F : Table D) → (t : TempOk cur In Fresh Empty v st ix) → SourceOf In v st n F → ix.source ≡ Some n → (t.source ≡ n) × (t.table ≡ F)
  same_source v st ix n F t s e =
      let is : t.source ≡ n = let both : Some t.source ≡ Some n = sym t.from ∙ e in cc in
      (is, one_table st n t.table F (subst (λ z. IsBlocked st.indices z t.table) is t.ground.blocked) s.blocked)

  pub block_temp : (st : Store D) (v : Settings D Q) (n : Text) (F : Table D) (o : Option (Index D)) → Ok st → In v → SourceOf In v st n F → TempDone cur In Fresh Empty v st n F → at v.temp st.indices ≡ o → Served st (block_over o st v.temp).0
  block_temp st v n F None a i s d e = same_store st a
  block_temp st v n F (Some ix) a i s d e =
      put_temp st v (record { blocked = true; source = ix.source; table = ix.table }) a i (λ not. by not d)
      (λ old f. let is : ix ≡ old = some_same ix old (at v.temp st.indices) e f in inr (ap (λ (z : Index D). z.source) is, λ b. refl, λ q h. subst (λ (z : Index D). IsIn q z.table.rows) (sym is) h))
    where
      by : NotYet v st.aliases → TempDone cur In Fresh Empty v st n F → TempOk cur In Fresh Empty v st (record { blocked = true; source = ix.source; table = ix.table })
      by not (inl x) = not_both st v not x
      by not (inr h) =
          let t : TempOk cur In Fresh Empty v st ix = a.temps v i not ix e in
          let is : h.0.index ≡ ix = some_same h.0.index ix (at v.temp st.indices) h.0.there e in
          let same_one = same_source v st ix n F t s (subst (λ (z : Index D). z.source ≡ Some n) is h.0.from) in
          record {
            source = t.source;
            table = t.table;
            from = t.from;
            ground = t.ground;
            only = t.only;
            sorted = t.sorted;
            whole = λ b. subst (λ G. Holds (outs v G.rows) ix.table.rows × Clean v G.rows) (sym same_one.1) (subst (λ (z : Index D). Holds (outs v F.rows) z.table.rows) is h.0.holds, h.1);
          }

  fresh_outs : (v : Settings D Q) → In v → (rows : Rows D) (out : Text × D) → Has out (outs v rows) → Fresh v out.0 out.1
  unfolding outs Has
  fresh_outs v i [] out h = absurd h
  fresh_outs v i (r ∷ rows) out h = elim (has_append_cases out (outputs_of (v.outcome r.0 r.1.doc)) (outs v rows) h) [ inl k ↦ laws.fresh_outputs v i r.0 r.1.doc out k | inr k ↦ fresh_outs v i rows out k ]

  pub clone : (st : Store D) (v : Settings D Q) (n : Text) (o : Option (Index D)) (alias : Option Text) (from : Option (Index D)) → Ok st → In v → TempShut cur In Fresh Empty v st n → at v.target st.indices ≡ o → at v.temp st.indices ≡ from → Served st (clone_over o alias from st v.temp v.target).0
  clone st v n (Some ix) alias from a i h e f = same_store st a
  clone st v n None (Some x) from a i h e f = same_store st a
  clone st v n None None None a i h e f = same_store st a
  clone st v n None None (Some ix) a i h e f = by ix.blocked refl (a.aliases.versions v i)
    where
      by : (b : Bool) → ix.blocked ≡ b → NotYet v st.aliases ⊎ Installed v st.aliases → Served st (copy_of b ix st v.temp v.target).0
      by false g x = same_store st a
      by true g (inr x) = let t = a.there v i x in none_some t.0 (at v.target st.indices) e t.1
      by true g (inl not) =
          let t : TempOk cur In Fresh Empty v st ix = a.temps v i not ix f in
          let w = t.whole g in
          put_target st v (record { blocked = false; source = ix.source; table = renumbered ix.table }) a i (sorted_numbered 0 ix.table.rows t.sorted)
          (each_numbered (Fresh v) 0 ix.table.rows (each_more (λ raw doc. Has (raw, doc) (outs v t.table.rows)) (Fresh v) ix.table.rows (λ raw doc k. fresh_outs v i t.table.rows (raw, doc) k) t.only))
          (λ z. Copied (record {
            source = t.source;
            table = t.table;
            ground = t.ground;
            temp = record { index = ix; there = f; from = t.from };
            copied = ix.table;
            whole = record { only = t.only; sorted = t.sorted; holds = w.0; clean = w.1 };
            is = ap (λ x. record { blocked = false; source = x; table = renumbered ix.table }) t.from;
          }))
          (λ x. not_both st v not x) (λ old z. none_some old (at v.target st.indices) e z)

  pub bulk : (st : Store D) (v : Settings D Q) (n : Text) (F : Table D) (o : Option (Index D)) (os : List (Text × D)) → Ok st → In v → SourceOf In v st n F → AllHas os (outs v F.rows) → Wrote cur In Fresh Empty v st n [] → at v.temp st.indices ≡ o
      → Served st (bulk_over o st v.temp v.temp (creates os)).0
  bulk st v n F None os a i s h w e = same_store st a
  bulk st v n F (Some ix) os a i s h w e = by ix.blocked refl
    where
      new : Index D
      new = record { blocked = false; source = ix.source; table = write_all ix.table (creates os) }

      temp : NotYet v st.aliases → Wrote cur In Fresh Empty v st n [] → TempOk cur In Fresh Empty v st new
      temp not (inl x) = not_both st v not x
      temp not (inr k) =
          let t : TempOk cur In Fresh Empty v st ix = a.temps v i not ix e in
          let is : k.index ≡ ix = some_same k.index ix (at v.temp st.indices) k.there e in
          let same_one = same_source v st ix n F t s (subst (λ (z : Index D). z.source ≡ Some n) is k.from) in
          record {
            source = t.source;
            table = t.table;
            from = t.from;
            ground = t.ground;
            only = only_write_all (outs v t.table.rows) os ix.table t.only (subst (λ G. AllHas os (outs v G.rows)) (sym same_one.1) h);
            sorted = sorted_write_all os ix.table t.sorted;
            whole = λ b. absurd (cc);
          }

      by : (b : Bool) → ix.blocked ≡ b → Served st (bulk_in b ix st v.temp (creates os)).0
      by true g = same_store st a
      by false g = put_temp st v new a i (λ not. temp not w)
          (λ old f. let is : ix ≡ old = some_same ix old (at v.temp st.indices) e f in
          inr (ap (λ (z : Index D). z.source) is, λ b. absurd (let c : old.blocked ≡ false = subst (λ (z : Index D). z.blocked ≡ false) is g in cc), λ q k. is_in_write_all os ix.table q (subst (λ (z : Index D). IsIn q z.table.rows) (sym is) k)))

  pub open_served : (st : Store D) (name : Text) (o : Option (Index D)) → Ok st → Served st (open_over o st name).0
  unfolding pit_at
  open_served st name None a = same_store st a
  open_served st name (Some ix) a = other_pits st (st.opened + 1) ((st.opened, ix.table.rows) ∷ st.pits) a (omega arith) (λ p lt. inr (pit_before p lt))
    where
      pit_before : (p : ℕ) → p < st.opened → pit_at p ((st.opened, ix.table.rows) ∷ st.pits) ≡ pit_at p st.pits
      pit_before p lt = grind (arith, nat_tests)

  pub close_served : (st : Store D) (p : ℕ) (o : Option (Rows D)) → Ok st → Served st (close_over o st p).0
  close_served st p None a = same_store st a
  close_served st p (Some rows) a = other_pits st st.opened (close p st.pits) a (omega arith) (λ q lt. rw (pit_at_close q p st.pits) (by (q == p) (pit_at q st.pits)))
    where
      by : (b : Bool) (x : Option (Rows D)) → ((if b then None else x) ≡ None) ⊎ ((if b then None else x) ≡ x)
      by true x = inl refl
      by false x = inr refl
