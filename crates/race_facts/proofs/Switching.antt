-- The switch and the install of a version, among several target sets.
use Rattle.std.proofs.Common.{◌≡◌, ◌≢◌, ◌⊎◌, List, [], ◌∷◌, true, false, Option, Some, None, refl, sym, ◌∙◌, ap, subst, arith}
use mathlib.Core.Logic.◌⊎◌.{inl, inr}
use Rattle.base_model.specs.Keyed.{Text, Keyed, at, put, without}
use Rattle.race_model.specs.Stores.{Index, Store, Action, Request, serve, pit_at, meant, with_aliases, act_all, acted_answer, block_over, bulk_over}
use Rattle.race_model.specs.Stores.Refusal.{AliasMissing, AliasTaken}
use Rattle.race_model.specs.Stores.Acted.{Now, Stuck}
use Rattle.race_model.specs.Stores.Action.{RemoveMustExist, Add, RemoveIndex}
use Rattle.race_model.specs.Machines.{Settings, creates}
use Rattle.race_model.specs.Worlds.{Race}
use Rattle.race_tables.proofs.Keys.{same_is, at_put_same, at_put_other, at_without_same, at_without_other, NoneOn, none_on_put, none_on_without}
use Rattle.race_tables.proofs.Outputs.{Is}
use Rattle.race_tables.proofs.Lists.{apart, some_same, none_some}
use Rattle.race_tables.proofs.Requests.{act_step, act_stop, add_now, drop_now, meant_itself}
use Rattle.race_model.specs.Premises.{NamesApart, NotBelow, RaceLaws}
use Rattle.race_facts.proofs.Facts.{Installed, NotYet, IsBlocked, IsFrom, Ground, Current, AliasOk, Made, TargetOk, StoreOk, Later, Ready, Cond, temp_ok_later, target_ok_later}
use Rattle.race_facts.proofs.Facts.Current.{Nowhere, On}
use Rattle.race_facts.proofs.Facts.TargetOk.{Bare, Copied}
use Rattle.race_facts.proofs.Facts.Cond.{Any_ping, Any_state, Any_open, Any_read, Any_close, Any_get, Any_search, Makes_temp, Makes_target, Blocks_source, Blocks_temp, Copies, Writes, Switches, Installs}
use Rattle.race_facts.proofs.Serving.{Served, same_store, not_both, remove_now, remove_other, remove_none, add_same, add_taken, act_done, create_temp, create_target, block_source, block_temp, clone, bulk, open_served, close_served}

-- the actions, with the name of the current alias
abbrev pub switch_of : {D Q : Type 0} → Settings D Q → Text → Text → List Action
switch_of v c n = RemoveMustExist c n ∷ Add c v.target ∷ Add v.version v.target ∷ RemoveIndex v.temp ∷ []

abbrev pub install_of : {D Q : Type 0} → Settings D Q → Text → List Action
install_of v c = Add c v.target ∷ Add v.version v.target ∷ []

-- the current alias is on this index, or not
pub on_it : (o : Option Text) (n : Text) → (o ≡ Some n) ⊎ (o ≢ Some n)
on_it None n = inr (λ e. absurd (cc))
on_it (Some c) n = elim (same_is c n) [ inl y ↦ inl (ap (λ z. Some z) y.1) | inr x ↦ inr (λ e. x.1 (let z : Some c ≡ Some n = e in cc)) ]

module _ {D Q C : Type 0} (race : Race D Q C) (cur : Text) (In : Settings D Q → Type 0) (Fresh : Settings D Q → Text → D → Type 0) (Empty : Type 0) (Sound : C → Type 0) (laws : RaceLaws race cur In Fresh Sound) where
  abbrev Ok : Store D → Type 0
  Ok st = StoreOk cur In Fresh Empty st

  abbrev Lasts : Store D → Store D → Type 0
  Lasts st st' = Later cur In Fresh Empty st st'

  abbrev Keeps : Store D → Store D → Type 0
  Keeps st st' = Served race cur In Fresh Empty Sound laws st st'

  abbrev names : NamesApart cur In
  names = laws.names

  -- where the current alias is on the source, the version isn't installed, and its target is made of it
  pub not_installed : (st : Store D) (v : Settings D Q) (n : Text) → Ok st → In v → Ground In v st.aliases n → at cur st.aliases ≡ Some n → NotYet v st.aliases
  not_installed st v n a i g e = elim (a.aliases.versions v i) [
    | inl not ↦ not
    | inr x ↦ elim (a.aliases.rising v i x n e) [
      | inl later ↦ absurd (let z : true ≡ false = sym later ∙ g.not_later in cc)
      | inr equal ↦ absurd (let z : true ≡ false = sym equal ∙ g.not_same in cc)
    ]
  ]

  pub is_made : (st : Store D) (v : Settings D Q) (n : Text) (r : Ready cur In Fresh Empty v st n) → Ok st → In v → NotYet v st.aliases → Made cur In Fresh Empty v st r.target.index
  is_made st v n r a i not = by (a.targets v i not r.target.index r.target.there)
    where
      by : TargetOk cur In Fresh Empty v st r.target.index → Made cur In Fresh Empty v st r.target.index
      by (Copied m) = m
      by (Bare x is) = absurd (let none : r.target.index.source ≡ None = ap (λ (z : Index D). z.source) is in let z : None ≡ Some n = sym none ∙ r.target.from in cc)

  -- the store after the switch, and after the install
  abbrev pub now_on : Settings D Q → Keyed Text → Keyed Text
  now_on v aliases = put v.version v.target (put cur v.target aliases)

  abbrev pub switched_store : Settings D Q → Store D → Store D
  switched_store v st = record { indices = without v.temp st.indices; aliases = now_on v (without cur st.aliases); opened = st.opened; pits = st.pits }

  pub switch_now : (st : Store D) (v : Settings D Q) (n : Text) → Ok st → In v → (r : Ready cur In Fresh Empty v st n) → at cur st.aliases ≡ Some n → act_all (Now st) (switch_of v cur n) ≡ Now (switched_store v st)
  switch_now st v n a i r e =
      let not : NotYet v st.aliases = not_installed st v n a i r.ground e in
      let one : Store D = with_aliases st (without cur st.aliases) in
      let two : Store D = with_aliases one (put cur v.target one.aliases) in
      let three : Store D = with_aliases two (put v.version v.target two.aliases) in
      let temp : IsFrom st.indices v.temp (is_made st v n r a i not).source = (is_made st v n r a i not).temp in
      let free : NoneOn v.temp three.aliases = none_on_put v.temp v.version v.target two.aliases (names.target_temp v v i i) (none_on_put v.temp cur v.target one.aliases (names.target_temp v v i i) (none_on_without v.temp cur st.aliases (a.aliases.none_on v i))) in
      act_step st one (RemoveMustExist cur n) (Add cur v.target ∷ Add v.version v.target ∷ RemoveIndex v.temp ∷ []) (remove_now st cur n e)
      ∙ act_step one two (Add cur v.target) (Add v.version v.target ∷ RemoveIndex v.temp ∷ []) (add_now one cur v.target r.target.index r.target.there a.no_cur_index (at_without_same cur st.aliases))
      ∙ act_step two three (Add v.version v.target) (RemoveIndex v.temp ∷ []) (add_now two v.version v.target r.target.index r.target.there (a.no_ver_index v i)
      (at_put_other v.version cur v.target one.aliases (apart (names.cur_ver v i)) ∙ at_without_other v.version cur st.aliases (apart (names.cur_ver v i)) ∙ not))
      ∙ act_step three (switched_store v st) (RemoveIndex v.temp) [] (drop_now three v.temp temp.index temp.there free)
      ∙ act_done (switched_store v st)

  -- aliases after the change
  module _ (st : Store D) (v : Settings D Q) (i : In v) (was : Keyed Text) (kept : (n : Text) → n ≢ cur → at n was ≡ at n st.aliases) where
    other : (n : Text) → n ≢ cur → n ≢ v.version → at n (now_on v was) ≡ at n st.aliases
    other n c x = at_put_other n v.version v.target (put cur v.target was) x ∙ at_put_other n cur v.target was c ∙ kept n c

    pub on_now : at cur (now_on v was) ≡ Some v.target
    on_now = at_put_other cur v.version v.target (put cur v.target was) (names.cur_ver v i) ∙ at_put_same cur v.target was

    pub is_now : Installed v (now_on v was)
    is_now = at_put_same v.version v.target (put cur v.target was)

    -- of another set as before
    pub version_of : (w : Settings D Q) → In w → w.version ≢ v.version → at w.version (now_on v was) ≡ at w.version st.aliases
    version_of w j x = other w.version (apart (names.cur_ver w j)) x

    pub installed_or : (w : Settings D Q) → In w → Installed w (now_on v was) → (w ≡ v) ⊎ Installed w st.aliases
    installed_or w j x = elim (names.apart w v j i) [ inl s ↦ inl s | inr o ↦ inr (sym (version_of w j o.0) ∙ x) ]

    pub installed_on : (w : Settings D Q) → In w → Installed w st.aliases → Installed w (now_on v was)
    installed_on w j x = elim (names.apart w v j i) [ inl s ↦ subst (λ z. Installed z (now_on v was)) (sym s) is_now | inr o ↦ version_of w j o.0 ∙ x ]

    pub not_yet_of : (w : Settings D Q) → In w → NotYet w (now_on v was) → (w.temp ≢ v.temp) × NotYet w st.aliases
    not_yet_of w j not = elim (names.apart w v j i) [
      | inl s ↦ none_some v.target (at v.version (now_on v was)) (subst (λ z. NotYet z (now_on v was)) s not) is_now
      | inr o ↦ (o.2, sym (version_of w j o.0) ∙ not)
    ]

    pub aliases_now : AliasOk cur In Fresh Empty st.aliases → ((w : Settings D Q) → In w → NoneOn w.temp was) → ((w : Settings D Q) → In w → Installed w st.aliases → NotBelow w v.target) → AliasOk cur In Fresh Empty (now_on v was)
    aliases_now a free rises = record {
      current = On v i on_now is_now;
      versions = λ w j. elim (names.apart w v j i) [
        | inl s ↦ inr (subst (λ z. Installed z (now_on v was)) (sym s) is_now)
        | inr o ↦ elim (a.versions w j) [ inl not ↦ inl (version_of w j o.0 ∙ not) | inr x ↦ inr (version_of w j o.0 ∙ x) ]
      ];
      rising = λ w j x c e. subst (NotBelow w) (some_same v.target c (at cur (now_on v was)) on_now e) (elim (installed_or w j x) [
        | inl s ↦ subst (λ z. NotBelow z v.target) (sym s) (inr (laws.order.own v i))
        | inr y ↦ rises w j y
      ]);
      no_target_alias = λ w j. other w.target (apart (names.cur_target w j)) (apart (names.ver_target v w i j)) ∙ a.no_target_alias w j;
      no_temp_alias = λ w j. other w.temp (apart (names.cur_temp w j)) (apart (names.ver_temp v w i j)) ∙ a.no_temp_alias w j;
      none_on = λ w j. none_on_put w.temp v.version v.target (put cur v.target was) (names.target_temp v w i j) (none_on_put w.temp cur v.target was (names.target_temp v w i j) (free w j));
    }

  kept_without : (st : Store D) (n : Text) → n ≢ cur → at n (without cur st.aliases) ≡ at n st.aliases
  kept_without st n c = at_without_other n cur st.aliases c

  -- where the source is on and blocked, the switch keeps all
  switched : (st : Store D) (v : Settings D Q) (n : Text) → Ok st → In v → Ready cur In Fresh Empty v st n → at cur st.aliases ≡ Some n → Keeps st (switched_store v st)
  switched st v n a i r e = record {
    ok = record {
      aliases = aliases_now st v i was kept a.aliases (λ w j. none_on_without w.temp cur st.aliases (a.aliases.none_on w j)) rises;
      there = λ w j x. elim (installed_or st v i was kept w j x) [
        | inl s ↦ subst (λ z. Is st'.indices z.target) (sym s) (r.target.index, target v i ∙ r.target.there)
        | inr y ↦ (let t = a.there w j y in (t.0, target w j ∙ t.1))
      ];
      open_last = λ w j x ix f b. elim (installed_or st v i was kept w j x) [
        | inl s ↦ subst (λ z. at cur st'.aliases ≡ Some z.target) (sym s) (on_now st v i was kept)
        | inr y ↦ was_blocked w ix (a.open_last w j y ix (sym (target w j) ∙ f) b) (sym (target w j) ∙ f) b
      ];
      no_cur_index = at_without_other cur v.temp st.indices (names.cur_temp v i) ∙ a.no_cur_index;
      no_ver_index = λ w j. at_without_other w.version v.temp st.indices (names.ver_temp w v j i) ∙ a.no_ver_index w j;
      sorted = λ w j ix f. a.sorted w j ix (sym (target w j) ∙ f);
      fresh = λ w j ix f. a.fresh w j ix (sym (target w j) ∙ f);
      temps = λ w j not ix f. let k = not_yet_of st v i was kept w j not in
          temp_ok_later cur In Fresh Empty st st' later w ix (a.temps w j k.1 ix (sym (at_without_other w.temp v.temp st.indices k.0) ∙ f));
      targets = λ w j not ix f. let k = not_yet_of st v i was kept w j not in
          target_ok_later cur In Fresh Empty st st' later w ix j not (a.targets w j k.1 ix (sym (target w j) ∙ f));
    };
    later = later;
  }
    where
      st' : Store D
      st' = switched_store v st

      was : Keyed Text
      was = without cur st.aliases

      kept : (m : Text) → m ≢ cur → at m was ≡ at m st.aliases
      kept = kept_without st

      target : (w : Settings D Q) → In w → at w.target st'.indices ≡ at w.target st.indices
      target w j = at_without_other w.target v.temp st.indices (names.target_temp w v j i)

      made : Made cur In Fresh Empty v st r.target.index
      made = is_made st v n r a i (not_installed st v n a i r.ground e)

      -- the source of the target is n
      source_is : made.source ≡ n
      source_is = let x : r.target.index.source ≡ Some made.source = ap (λ (z : Index D). z.source) made.is in let y : Some made.source ≡ Some n = sym x ∙ r.target.from in cc

      was_blocked : (w : Settings D Q) (ix : Index D) → at cur st.aliases ≡ Some w.target → at w.target st.indices ≡ Some ix → ix.blocked ≡ false → at cur st'.aliases ≡ Some w.target
      was_blocked w ix c f b =
          let b0 : IsBlocked st.indices made.source made.table = made.ground.blocked in
          let b1 : IsBlocked st.indices n made.table = subst (λ z. IsBlocked st.indices z made.table) source_is b0 in
          let name : n ≡ w.target = some_same n w.target (at cur st.aliases) e c in
          let one : b1.index ≡ ix = some_same b1.index ix (at n st.indices) b1.there (subst (λ z. at z st.indices ≡ Some ix) (sym name) f) in
          absurd (let x : ix.blocked ≡ true = subst (λ (z : Index D). z.blocked ≡ true) one b1.blocked in let y : true ≡ false = sym x ∙ b in cc)

      rises : (w : Settings D Q) → In w → Installed w st.aliases → NotBelow w v.target
      rises w j x = laws.order.rises w r.ground.set v j r.ground.is_in i (subst (NotBelow w) r.ground.name (a.aliases.rising w j x n e)) (subst (λ z. v.is_later z ≡ false) r.ground.name r.ground.not_later) (subst (λ z. v.is_same z ≡ false) r.ground.name r.ground.not_same)

      later : Lasts st st'
      later = record {
        installed = installed_on st v i was kept;
        named = λ c f. (v.target, on_now st v i was kept);
        off = λ w j x m f. elim (names.apart w v j i) [ inl s ↦ not_both race cur In Fresh Empty Sound laws st v (not_installed st v n a i r.ground e) (subst (λ z. Installed z st.aliases) s x) | inr o ↦ absurd (o.1 (sym (some_same v.target w.target (at cur st'.aliases) (on_now st v i was kept) f))) ];
        target = λ w j old f. record { index = old; there = target w j ∙ f; from = refl; kept = λ b. (b, refl) };
        temp = λ w j old f. elim (names.apart w v j i) [
          | inl s ↦ inl (subst (λ z. Installed z st'.aliases) (sym s) (is_now st v i was kept))
          | inr o ↦ inr (record { index = old; there = at_without_other w.temp v.temp st.indices o.2 ∙ f; from = refl; shut = λ b. b; more = λ q h. h })
        ];
        opened = omega arith;
        pits = λ p lt. inr refl;
      }

  pub switch_stuck : (st : Store D) (v : Settings D Q) (n : Text) (o : Option Text) → at cur st.aliases ≡ o → o ≢ Some n → act_all (Now st) (switch_of v cur n) ≡ Stuck (AliasMissing cur n)
  switch_stuck st v n None e x = act_stop st (RemoveMustExist cur n) (AliasMissing cur n) (Add cur v.target ∷ Add v.version v.target ∷ RemoveIndex v.temp ∷ []) (remove_none st cur n e)
  switch_stuck st v n (Some c) e x = act_stop st (RemoveMustExist cur n) (AliasMissing cur n) (Add cur v.target ∷ Add v.version v.target ∷ RemoveIndex v.temp ∷ []) (remove_other st cur n c e (λ s. x (ap (λ z. Some z) s)))

  switch_served : (st : Store D) (v : Settings D Q) (n : Text) → Ok st → In v → Ready cur In Fresh Empty v st n → Keeps st (acted_answer st (act_all (Now st) (switch_of v cur n))).0
  switch_served st v n a i r = elim (on_it (at cur st.aliases) n) [
    | inl e ↦ rw (switch_now st v n a i r e) (switched st v n a i r e)
    | inr x ↦ rw (switch_stuck st v n (at cur st.aliases) refl x) (same_store race cur In Fresh Empty Sound laws st a)
  ]

  -- the install, where the current alias is nowhere
  abbrev pub installed_store : Settings D Q → Store D → Store D
  installed_store v st = with_aliases st (now_on v st.aliases)

  pub install_now : (st : Store D) (v : Settings D Q) → Ok st → In v → Is st.indices v.target → at cur st.aliases ≡ None → NotYet v st.aliases → act_all (Now st) (install_of v cur) ≡ Now (installed_store v st)
  install_now st v a i t e not =
      let one : Store D = with_aliases st (put cur v.target st.aliases) in
      act_step st one (Add cur v.target) (Add v.version v.target ∷ []) (add_now st cur v.target t.0 t.1 a.no_cur_index e)
      ∙ act_step one (installed_store v st) (Add v.version v.target) [] (add_now one v.version v.target t.0 t.1 (a.no_ver_index v i) (at_put_other v.version cur v.target st.aliases (apart (names.cur_ver v i)) ∙ not))
      ∙ act_done (installed_store v st)

  install_again : (st : Store D) (v : Settings D Q) → Ok st → In v → Is st.indices v.target → at cur st.aliases ≡ Some v.target → Installed v st.aliases → act_all (Now st) (install_of v cur) ≡ Now st
  install_again st v a i t e x =
      act_step st st (Add cur v.target) (Add v.version v.target ∷ []) (add_same st cur v.target t.0 t.1 a.no_cur_index e)
      ∙ act_step st st (Add v.version v.target) [] (add_same st v.version v.target t.0 t.1 (a.no_ver_index v i) x)
      ∙ act_done st

  install_stuck : (st : Store D) (v : Settings D Q) (c : Text) → Ok st → Is st.indices v.target → at cur st.aliases ≡ Some c → c ≢ v.target → act_all (Now st) (install_of v cur) ≡ Stuck (AliasTaken cur c)
  install_stuck st v c a t e x = act_stop st (Add cur v.target) (AliasTaken cur c) (Add v.version v.target ∷ []) (add_taken st cur v.target c t.0 t.1 a.no_cur_index e x)

  installs : (st : Store D) (v : Settings D Q) → Ok st → In v → Is st.indices v.target → at cur st.aliases ≡ None → ((w : Settings D Q) → In w → NotYet w st.aliases) → Keeps st (installed_store v st)
  installs st v a i t e nowhere = record {
    ok = record {
      aliases = aliases_now st v i st.aliases kept a.aliases a.aliases.none_on (λ w j x. not_both race cur In Fresh Empty Sound laws st w (nowhere w j) x);
      there = λ w j x. elim (installed_or st v i st.aliases kept w j x) [ inl s ↦ subst (λ z. Is st.indices z.target) (sym s) t | inr y ↦ a.there w j y ];
      open_last = λ w j x ix f b. elim (installed_or st v i st.aliases kept w j x) [
        | inl s ↦ subst (λ z. at cur st'.aliases ≡ Some z.target) (sym s) (on_now st v i st.aliases kept)
        | inr y ↦ not_both race cur In Fresh Empty Sound laws st w (nowhere w j) y
      ];
      no_cur_index = a.no_cur_index;
      no_ver_index = a.no_ver_index;
      sorted = a.sorted;
      fresh = a.fresh;
      temps = λ w j not ix f. temp_ok_later cur In Fresh Empty st st' later w ix (a.temps w j (nowhere w j) ix f);
      targets = λ w j not ix f. target_ok_later cur In Fresh Empty st st' later w ix j not (a.targets w j (nowhere w j) ix f);
    };
    later = later;
  }
    where
      st' : Store D
      st' = installed_store v st

      kept : (m : Text) → m ≢ cur → at m st.aliases ≡ at m st.aliases
      kept m c = refl

      later : Lasts st st'
      later = record {
        installed = installed_on st v i st.aliases kept;
        named = λ c f. (v.target, on_now st v i st.aliases kept);
        off = λ w j x n e. not_both race cur In Fresh Empty Sound laws st w (nowhere w j) x;
        target = λ w j old f. record { index = old; there = f; from = refl; kept = λ b. (b, refl) };
        temp = λ w j old f. inr (record { index = old; there = f; from = refl; shut = λ b. b; more = λ q h. h });
        opened = omega arith;
        pits = λ p lt. inr refl;
      }

  -- how an install comes out
  pub data Installing (st : Store D) (v : Settings D Q) : Type 0 where
    First : at cur st.aliases ≡ None → ((w : Settings D Q) → In w → NotYet w st.aliases) → act_all (Now st) (install_of v cur) ≡ Now (installed_store v st) → Installing st v
    Repeated : Installed v st.aliases → at cur st.aliases ≡ Some v.target → act_all (Now st) (install_of v cur) ≡ Now st → Installing st v
    Refuses : (c : Text) → at cur st.aliases ≡ Some c → act_all (Now st) (install_of v cur) ≡ Stuck (AliasTaken cur c) → Installing st v

  pub installing : (st : Store D) (v : Settings D Q) → Ok st → In v → Is st.indices v.target → Installing st v
  installing st v a i t = by a.aliases.current
    where
      by : Current cur In Fresh Empty st.aliases → Installing st v
      by (Nowhere e x nowhere) = First e nowhere (install_now st v a i t e (nowhere v i))
      by (On w j e x) = elim (names.apart w v j i) [
        | inl s ↦ (let y : Installed v st.aliases = subst (λ z. Installed z st.aliases) s x in let f : at cur st.aliases ≡ Some v.target = subst (λ z. at cur st.aliases ≡ Some z.target) s e in
            Repeated y f (install_again st v a i t f y))
        | inr o ↦ Refuses w.target e (install_stuck st v w.target a t e o.1)
      ]

  install_served : (st : Store D) (v : Settings D Q) → Ok st → In v → Is st.indices v.target → Keeps st (acted_answer st (act_all (Now st) (install_of v cur))).0
  install_served st v a i t = by (installing st v a i t)
    where
      by : Installing st v → Keeps st (acted_answer st (act_all (Now st) (install_of v cur))).0
      by (First e nowhere is) = rw is (installs st v a i t e nowhere)
      by (Repeated x e is) = rw is (same_store race cur In Fresh Empty Sound laws st a)
      by (Refuses c e is) = rw is (same_store race cur In Fresh Empty Sound laws st a)

  -- each request of an instance of the set v
  pub request_served : (st : Store D) (v : Settings D Q) (ask : Request D Q) → Ok st → In v → Cond cur In Fresh Empty v st ask → Keeps st (serve race.select st ask).0
  unfolding serve
  request_served st v _ a i Any_ping = same_store race cur In Fresh Empty Sound laws st a
  request_served st v _ a i Any_state = same_store race cur In Fresh Empty Sound laws st a
  request_served st v _ a i (Any_open n) = open_served race cur In Fresh Empty Sound laws st n (at (meant st n) st.indices) a
  request_served st v _ a i (Any_read p query) = same_store race cur In Fresh Empty Sound laws st a
  request_served st v _ a i (Any_close p) = close_served race cur In Fresh Empty Sound laws st p (pit_at p st.pits) a
  request_served st v _ a i (Any_get n raws) = same_store race cur In Fresh Empty Sound laws st a
  request_served st v _ a i (Any_search n query) = same_store race cur In Fresh Empty Sound laws st a
  request_served st v _ a i (Makes_temp n F s) = create_temp race cur In Fresh Empty Sound laws st v n F (at v.temp st.indices) (at v.temp st.aliases) a i s refl
  request_served st v _ a i (Makes_target e) = create_target race cur In Fresh Empty Sound laws st v (at v.target st.indices) (at v.target st.aliases) a i e refl
  request_served st v _ a i (Blocks_source n g) = subst (λ m. Keeps st (block_over (at m st.indices) st m).0) (sym g.name) (block_source race cur In Fresh Empty Sound laws st g.set (at g.set.target st.indices) a g.is_in g.installed refl)
  request_served st v _ a i (Blocks_temp n F s d) = block_temp race cur In Fresh Empty Sound laws st v n F (at v.temp st.indices) a i s d refl
  request_served st v _ a i (Copies n h) = clone race cur In Fresh Empty Sound laws st v n (at v.target st.indices) (at v.target st.aliases) (at v.temp st.indices) a i h refl refl
  request_served st v _ a i (Writes n F os s h w) = subst (λ m. Keeps st (bulk_over (at m st.indices) st v.temp m (creates os)).0) (sym (meant_itself st v.temp (a.aliases.no_temp_alias v i))) (bulk race cur In Fresh Empty Sound laws st v n F (at v.temp st.indices) os a i s h w refl)
  request_served st v _ a i (Switches n r) = subst (λ c. Keeps st (acted_answer st (act_all (Now st) (switch_of v c n))).0) (sym (names.current v i)) (switch_served st v n a i r)
  request_served st v _ a i (Installs e t) = subst (λ c. Keeps st (acted_answer st (act_all (Now st) (install_of v c))).0) (sym (names.current v i)) (install_served st v a i t)
