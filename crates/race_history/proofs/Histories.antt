-- Every journal that conforms is a run of one table per version, for several target sets.
use Rattle.std.proofs.Common.{◌≡◌, ◌≢◌, if◌then◌else◌, ℕ, List, [], ◌∷◌, Bool, true, false, Option, Some, None, refl, sym, ◌∙◌, ap, subst}
use mathlib.Core.Logic.◌⊎◌.{inl, inr}
use Rattle.base_model.specs.Keyed.{Text, at, without}
use Rattle.race_model.specs.Stores.{Rows, Table, Index, Store, Answer, Write, Request, serve, renumbered, empty_table, pit_at, meant, with_index, create_over, block_over, clone_over, copy_of, open_over, close_over, bulk_over, bulk_in, act_all, acted_answer}
use Rattle.race_model.specs.Stores.Request.{Block, Aliases}
use Rattle.race_model.specs.Stores.Reply.{Done, Refused}
use Rattle.race_model.specs.Stores.Refusal.{AliasMissing, AliasTaken}
use Rattle.race_model.specs.Stores.Acted.{Now}
use Rattle.race_model.specs.History.{FoundSoFar, is_listed, is_first_block, named_after_all, last_add, facts_of, found_after}
use Rattle.race_model.specs.Machines.{Settings, creates, is_on}
use Rattle.race_model.specs.Migrated.{migrated, IsClean}
use Rattle.race_model.specs.Generations.{Generation, Generations, Move, of_alias, block_last, migrate, install, new_generation, move}
use Rattle.race_model.specs.Generations.Move.{Stay, Migrate, Install}
use Rattle.race_model.specs.Worlds.{Race}
use Rattle.race_tables.proofs.Keys.{same_is, same_refl, same_false, at_put_same, at_put_other, at_without_other}
use Rattle.race_tables.proofs.Outputs.{Is, is_clean}
use Rattle.race_tables.proofs.Tablemaking.{whole_migrated}
use Rattle.race_tables.proofs.Lists.{apart, some_same, none_some}
use Rattle.race_tables.proofs.Requests.{meant_itself}
use Rattle.race_model.specs.Premises.{NamesApart, RaceLaws}
use Rattle.race_history.specs.Generated.{shown_of}
use Rattle.race_model.specs.Runs.{last_generation, MayMove, fact_of}
use Rattle.race_facts.proofs.Facts.{Installed, NotYet, Made, TargetOk, StoreOk, Ready, Cond}
use Rattle.race_facts.proofs.Facts.TargetOk.{Bare, Copied}
use Rattle.race_facts.proofs.Facts.Cond.{Any_ping, Any_state, Any_open, Any_read, Any_close, Any_get, Any_search, Makes_temp, Makes_target, Blocks_source, Blocks_temp, Copies, Writes, Switches, Installs}
use Rattle.race_facts.proofs.Serving.{not_both}
use Rattle.race_facts.proofs.Switching.{switch_of, install_of, switched_store, installed_store, version_of, on_now, is_now, Installing, installing, on_it, switch_now, switch_stuck, is_made, not_installed}
use Rattle.race_facts.proofs.Switching.Installing.{First, Repeated, Refuses}
use Rattle.race_history.proofs.Lining.{Once, blocked_of, LastIs, last_of_alias, of_first, block_last_is, block_here, block_other, block_once, migrate_other, migrate_here, migrate_last, migrate_once}

listed_here : (n : Text) (ns : List Text) → is_listed n (n ∷ ns) ≡ true
unfolding is_listed
listed_here n ns = rw (same_refl n) refl

listed_other : (n m : Text) (ns : List Text) → n ≢ m → is_listed n (m ∷ ns) ≡ is_listed n ns
unfolding is_listed
listed_other n m ns x = rw (same_false n m x) refl

module _ {D Q : Type 0} (cur : Text) (In : Settings D Q → Type 0) where
  -- the current alias is on the last generation, or nowhere where there is none
  pub data LastOn (gs : Generations D) (st : Store D) : Type 0 where
    No_last : gs ≡ [] → at cur st.aliases ≡ None → LastOn gs st
    The_last : (w : Settings D Q) → In w → LastIs gs w.version w.target → at cur st.aliases ≡ Some w.target → LastOn gs st

  -- the store shows these generations
  pub record Shows (gs : Generations D) (st : Store D) : Type 0 where
    pub each : (v : Settings D Q) → In v → of_alias v.version gs ≡ shown_of v st
    pub last : LastOn gs st
    pub once : Once gs

-- the index of the last generation
abbrev pub last_index : {D : Type 0} → Option (Generation D) → Option Text
last_index None = None
last_index (Some g) = Some g.index

abbrev pub flag : {D : Type 0} → Option (Generation D) → Bool
flag None = false
flag (Some g) = g.blocked

-- what playing the aliases found so far is what the generations say
pub record FoundOk {D Q : Type 0} (In : Settings D Q → Type 0) (f : FoundSoFar) (gs : Generations D) : Type 0 where
  pub on : f.on ≡ last_index (last_generation gs)
  pub listed : (v : Settings D Q) → In v → is_listed v.target f.blocked ≡ flag (of_alias v.version gs)

module _ {D Q C : Type 0} (race : Race D Q C) (cur : Text) (In : Settings D Q → Type 0) (Fresh : Settings D Q → Text → D → Type 0) (Empty : Type 0) (Sound : C → Type 0) (laws : RaceLaws race cur In Fresh Sound) (version_in : Text → Option Text) where
  abbrev Ok : Store D → Type 0
  Ok st = StoreOk cur In Fresh Empty st

  abbrev names : NamesApart cur In
  names = laws.names

  abbrev Displays : Generations D → Store D → Type 0
  Displays gs st = Shows cur In gs st

  -- where an instance's request leads: a move, which is its fact
  pub record Leads (v : Settings D Q) (gs : Generations D) (f : FoundSoFar) (ask : Request D Q) (a : Answer D) : Type 0 where
    pub m : Move D Q
    pub may : MayMove v gs m
    pub shows : Shows cur In (move gs m) a.0
    pub fact : facts_of cur version_in f ask a.1 ≡ fact_of version_in f.place m
    pub found : FoundOk In (found_after cur f ask a.1) (move gs m)

  quiet : (v : Settings D Q) (gs : Generations D) (f : FoundSoFar) (ask : Request D Q) (a : Answer D) → Displays gs a.0 → facts_of cur version_in f ask a.1 ≡ [] → FoundOk In (found_after cur f ask a.1) gs → Leads v gs f ask a
  quiet v gs f ask a s e k = record { m = Stay; may = tt; shows = s; fact = e; found = k }

  -- no block of what the current alias isn't on is a fact
  off_first : (f : FoundSoFar) (n : Text) → is_on n f.on ≡ false → is_first_block f n ≡ false
  off_first f n e = rw e refl

  listed_first : (f : FoundSoFar) (n : Text) → is_listed n f.blocked ≡ true → is_first_block f n ≡ false
  listed_first f n e = rw e (by (is_on n f.on))
    where
      by : (b : Bool) → (if b then false else false) ≡ false
      by true = refl
      by false = refl

  -- a block that is no fact
  quiet_block : (v : Settings D Q) (gs : Generations D) (f : FoundSoFar) (n : Text) (st' : Store D) → Displays gs st' → is_first_block f n ≡ false → FoundOk In f gs → Leads v gs f (Block n) (st', Done)
  quiet_block v gs f n st' s e k = record { m = Stay; may = tt; shows = s; fact = rw e refl; found = record { on = k.on; listed = rw e k.listed } }

  -- the current alias and the last generation
  pub on_last : (gs : Generations D) (st : Store D) → LastOn cur In gs st → last_index (last_generation gs) ≡ at cur st.aliases
  unfolding last_generation
  on_last gs st (No_last none off) = rw (none, off) refl
  on_last gs st (The_last w j l on) = rw (l.is_last, on) (ap (λ z. Some z) l.of)

  -- it is on no temporary index
  not_on_temp : (v : Settings D Q) (gs : Generations D) (st : Store D) (f : FoundSoFar) → Displays gs st → In v → FoundOk In f gs → is_on v.temp f.on ≡ false
  not_on_temp v gs st f s i k = by s.last
    where
      by : LastOn cur In gs st → is_on v.temp f.on ≡ false
      by (No_last none off) = rw (k.on ∙ on_last gs st (No_last none off) ∙ off) refl
      by (The_last w j l on) = rw (k.on ∙ on_last gs st (The_last w j l on) ∙ on) (same_false v.temp w.target (apart (names.target_temp w v j i)))

  -- the same aliases and, for installed versions, the same targets
  same_last : (gs : Generations D) (st st' : Store D) → st'.aliases ≡ st.aliases → LastOn cur In gs st → LastOn cur In gs st'
  same_last gs st st' e (No_last none off) = No_last none (ap (at cur) e ∙ off)
  same_last gs st st' e (The_last w j l on) = The_last w j l (ap (at cur) e ∙ on)

  same_shows : (gs : Generations D) (st st' : Store D) → Displays gs st → Ok st → st'.aliases ≡ st.aliases → ((v : Settings D Q) → In v → Installed v st.aliases → at v.target st'.indices ≡ at v.target st.indices) → Displays gs st'
  same_shows gs st st' s a e f = record {
    each = λ v i. s.each v i ∙ elim (a.aliases.versions v i) [
      | inl not ↦ rw (e, not) refl
      | inr x ↦ rw (e, x, f v i x) refl
    ];
    last = same_last gs st st' e s.last;
    once = s.once;
  }

  put_stays : (gs : Generations D) (st : Store D) (k : Text) (x : Index D) → Displays gs st → Ok st → ((w : Settings D Q) → In w → Installed w st.aliases → w.target ≢ k) → Displays gs (with_index st k x)
  put_stays gs st k x s a n = (same_shows gs st (with_index st k x) s a refl (λ w j y. at_put_other w.target k x st.indices (n w j y)))

  pits_stay : (gs : Generations D) (st : Store D) (opened : ℕ) (pits : List (ℕ × Rows D)) → Displays gs st → Ok st → Displays gs (record { indices = st.indices; aliases = st.aliases; opened = opened; pits = pits })
  pits_stay gs st opened pits s a = (same_shows gs st (record { indices = st.indices; aliases = st.aliases; opened = opened; pits = pits }) s a refl (λ w j y. refl))

  -- a target that isn't installed is none that is
  other_target : (st : Store D) (v w : Settings D Q) → In v → In w → NotYet v st.aliases → Installed w st.aliases → w.target ≢ v.target
  other_target st v w i j not x e = elim (names.apart w v j i) [
    | inl s ↦ not_both race cur In Fresh Empty Sound laws st v not (subst (λ z. Installed z st.aliases) s x)
    | inr o ↦ o.1 e
  ]

  -- where there is no target its version isn't installed
  no_target : (st : Store D) (v : Settings D Q) → Ok st → In v → at v.target st.indices ≡ None → NotYet v st.aliases
  no_target st v a i e = elim (a.aliases.versions v i) [ inl not ↦ not | inr x ↦ (let t = a.there v i x in none_some t.0 (at v.target st.indices) e t.1) ]

  create_temp : (v : Settings D Q) (gs : Generations D) (st : Store D) (o : Option (Index D)) (alias : Option Text) (made : Option Text) → Displays gs st → Ok st → In v → Displays gs (create_over o alias st v.temp made).0
  create_temp v gs st (Some ix) alias made s a i = s
  create_temp v gs st None (Some x) made s a i = s
  create_temp v gs st None None made s a i = put_stays gs st v.temp _ s a (λ w j y. names.target_temp w v j i)

  create_target : (v : Settings D Q) (gs : Generations D) (st : Store D) (o : Option (Index D)) (alias : Option Text) (made : Option Text) → Displays gs st → Ok st → In v → at v.target st.indices ≡ o → Displays gs (create_over o alias st v.target made).0
  create_target v gs st (Some ix) alias made s a i e = s
  create_target v gs st None (Some x) made s a i e = s
  create_target v gs st None None made s a i e = put_stays gs st v.target _ s a (λ w j y. other_target st v w i j (no_target st v a i e) y)

  block_temp : (v : Settings D Q) (gs : Generations D) (f : FoundSoFar) (st : Store D) (o : Option (Index D)) → Displays gs st → FoundOk In f gs → Ok st → In v → Leads v gs f (Block v.temp) (block_over o st v.temp)
  block_temp v gs f st None s k a i = quiet v gs f (Block v.temp) (block_over None st v.temp) s refl (record { on = k.on; listed = k.listed })
  block_temp v gs f st (Some ix) s k a i = quiet_block v gs f v.temp _ (put_stays gs st v.temp _ s a (λ w j y. names.target_temp w v j i)) (off_first f v.temp (not_on_temp v gs st f s i k)) k

  clone : (v : Settings D Q) (gs : Generations D) (st : Store D) (o : Option (Index D)) (alias : Option Text) (from : Option (Index D)) → Displays gs st → Ok st → In v → at v.target st.indices ≡ o → Displays gs (clone_over o alias from st v.temp v.target).0
  clone v gs st (Some ix) alias from s a i e = s
  clone v gs st None (Some x) from s a i e = s
  clone v gs st None None None s a i e = s
  clone v gs st None None (Some ix) s a i e = by ix.blocked
    where
      by : (b : Bool) → Displays gs (copy_of b ix st v.temp v.target).0
      by false = s
      by true = put_stays gs st v.target _ s a (λ w j y. other_target st v w i j (no_target st v a i e) y)

  bulk_temp : (v : Settings D Q) (gs : Generations D) (st : Store D) (o : Option (Index D)) (ws : List (Write D)) → Displays gs st → Ok st → In v → Displays gs (bulk_over o st v.temp v.temp ws).0
  bulk_temp v gs st None ws s a i = s
  bulk_temp v gs st (Some ix) ws s a i = by ix.blocked
    where
      by : (b : Bool) → Displays gs (bulk_in b ix st v.temp ws).0
      by true = s
      by false = put_stays gs st v.temp _ s a (λ w j y. names.target_temp w v j i)

  open_pit : (v : Settings D Q) (gs : Generations D) (st : Store D) (name : Text) (o : Option (Index D)) → Displays gs st → Ok st → Displays gs (open_over o st name).0
  open_pit v gs st name None s a = s
  open_pit v gs st name (Some ix) s a = pits_stay gs st _ _ s a

  close_pit : (v : Settings D Q) (gs : Generations D) (st : Store D) (p : ℕ) (o : Option (Rows D)) → Displays gs st → Ok st → Displays gs (close_over o st p).0
  close_pit v gs st p None s a = s
  close_pit v gs st p (Some rows) s a = pits_stay gs st _ _ s a

  -- the generation that the current alias is on
  pub record CurrentGeneration (gs : Generations D) (st : Store D) (w : Settings D Q) (ix : Index D) : Type 0 where
    pub last : last_generation gs ≡ Some (record { alias = w.version; index = w.target; blocked = ix.blocked; table = ix.table })

  current_generation : (gs : Generations D) (st : Store D) (w : Settings D Q) (ix : Index D) → Displays gs st → In w → Installed w st.aliases → at cur st.aliases ≡ Some w.target → at w.target st.indices ≡ Some ix → CurrentGeneration gs st w ix
  current_generation gs st w ix s j x on e = by s.last
    where
      by : LastOn cur In gs st → CurrentGeneration gs st w ix
      by (No_last none off) = none_some w.target (at cur st.aliases) off on
      by (The_last u k l on_u) =
          let target : u.target ≡ w.target = some_same u.target w.target (at cur st.aliases) on_u on in
          let is : u ≡ w = elim (names.apart u w k j) [ inl z ↦ z | inr o ↦ absurd (o.1 target) ] in
          let under : l.last.alias ≡ w.version = l.under ∙ ap (λ (z : Settings D Q). z.version) is in
          let found : of_alias l.last.alias gs ≡ Some l.last = last_of_alias gs l.last s.once l.is_last in
          let shown : of_alias w.version gs ≡ Some (record { alias = w.version; index = w.target; blocked = ix.blocked; table = ix.table }) = s.each w j ∙ rw (x, e) refl in
          let same_one : l.last ≡ record { alias = w.version; index = w.target; blocked = ix.blocked; table = ix.table } = some_same _ _ (of_alias w.version gs) (subst (λ z. of_alias z gs ≡ Some l.last) under found) shown in
          record { last = l.is_last ∙ ap (λ z. Some z) same_one }

  -- the block of an installed version's index
  block_source : (v : Settings D Q) (gs : Generations D) (f : FoundSoFar) (st : Store D) (u : Settings D Q) (o : Option (Index D)) → Displays gs st → FoundOk In f gs → Ok st → In u → Installed u st.aliases → at u.target st.indices ≡ o → Leads v gs f (Block u.target) (block_over o st u.target)
  block_source v gs f st u None s fo a k x e = quiet v gs f (Block u.target) (block_over None st u.target) s refl (record { on = fo.on; listed = fo.listed })
  block_source v gs f st u (Some ix) s fo a k x e = by ix.blocked refl
    where
      new : Index D
      new = record { blocked = true; source = ix.source; table = ix.table }

      st' : Store D
      st' = with_index st u.target new

      here : at u.target st'.indices ≡ Some new
      here = at_put_same u.target new st.indices

      g0 : Generation D
      g0 = record { alias = u.version; index = u.target; blocked = ix.blocked; table = ix.table }

      found : of_alias u.version gs ≡ Some g0
      found = s.each u k ∙ rw (x, e) refl

      by : (b : Bool) → ix.blocked ≡ b → Leads v gs f (Block u.target) (st', Done)
      by true g = quiet_block v gs f u.target st' (record {
        each = λ w j. s.each w j ∙ elim (names.apart w u j k) [
          | inl z ↦ subst (λ y. shown_of y st ≡ shown_of y st') (sym z) (rw (x, e, here, g) refl)
          | inr o ↦ rw (at_put_other w.target u.target new st.indices o.1) refl
        ];
        last = same_last gs st st' refl s.last;
        once = s.once;
      }) (listed_first f u.target (fo.listed u k ∙ rw found g)) fo
      by false g =
          let on : at cur st.aliases ≡ Some u.target = a.open_last u k x ix e g in
          let l : CurrentGeneration gs st u ix = current_generation gs st u ix s k x on e in
          let first : is_first_block f u.target ≡ true = rw (fo.on ∙ on_last gs st s.last ∙ on, same_refl u.target, fo.listed u k, found, g) refl in
          record {
            m = Move.Block;
            may = (g0, l.last, g);
            shows = record {
              each = λ w j. elim (names.apart w u j k) [
                | inl z ↦ subst (λ y. of_alias y.version (block_last gs) ≡ shown_of y st') (sym z) (block_here gs g0 s.once l.last ∙ rw (x, here) refl)
                | inr o ↦ block_other gs g0 w.version l.last o.0 ∙ s.each w j ∙ rw (at_put_other w.target u.target new st.indices o.1) refl
              ];
              last = The_last u k (record { last = blocked_of g0; is_last = block_last_is gs g0 l.last; under = refl; of = refl }) on;
              once = block_once gs s.once;
            };
            fact = rw first refl;
            found = rw first (record {
              on = fo.on ∙ rw (l.last, block_last_is gs g0 l.last) refl;
              listed = λ w j. elim (names.apart w u j k) [
                | inl z ↦ subst (λ y. is_listed y.target (u.target ∷ f.blocked) ≡ flag (of_alias y.version (block_last gs))) (sym z) (rw (block_here gs g0 s.once l.last) (listed_here u.target f.blocked))
                | inr o ↦ listed_other w.target u.target f.blocked o.1 ∙ fo.listed w j ∙ ap flag (sym (block_other gs g0 w.version l.last o.0))
              ];
            });
          }

  -- what the aliases of a switch and an install name
  switch_names : (v : Settings D Q) (n : Text) (on : Option Text) → In v → named_after_all cur on (switch_of v cur n) ≡ Some v.target
  unfolding named_after_all
  switch_names v n on i = rw (same_refl cur, same_false v.version cur (apart (names.cur_ver v i)), same_false v.temp v.target (apart (names.target_temp v v i i))) refl

  switch_adds : (v : Settings D Q) (n : Text) → In v → last_add cur (switch_of v cur n) ≡ Some v.target
  unfolding last_add
  switch_adds v n i = rw (same_refl cur, same_false v.version cur (apart (names.cur_ver v i))) refl

  install_names : (v : Settings D Q) (on : Option Text) → In v → named_after_all cur on (install_of v cur) ≡ Some v.target
  unfolding named_after_all
  install_names v on i = rw (same_refl cur, same_false v.version cur (apart (names.cur_ver v i))) refl

  install_adds : (v : Settings D Q) → In v → last_add cur (install_of v cur) ≡ Some v.target
  unfolding last_add
  install_adds v i = rw (same_refl cur, same_false v.version cur (apart (names.cur_ver v i))) refl

  -- the switch
  switch_leads : (v : Settings D Q) (gs : Generations D) (f : FoundSoFar) (st : Store D) (n : Text) → Displays gs st → FoundOk In f gs → Ok st → In v → Ready cur In Fresh Empty v st n → Leads v gs f (Aliases (switch_of v cur n)) (acted_answer st (act_all (Now st) (switch_of v cur n)))
  switch_leads v gs f st n s fo a i r = elim (on_it (at cur st.aliases) n) [
    | inl e ↦ subst (λ x. Leads v gs f (Aliases (switch_of v cur n)) (acted_answer st x)) (sym (switch_now race cur In Fresh Empty Sound laws st v n a i r e)) (now e)
    | inr x ↦ subst (λ z. Leads v gs f (Aliases (switch_of v cur n)) (acted_answer st z)) (sym (switch_stuck race cur In Fresh Empty Sound laws st v n (at cur st.aliases) refl x)) (quiet v gs f (Aliases (switch_of v cur n)) (st, Refused (AliasMissing cur n)) s refl (record { on = fo.on; listed = fo.listed }))
  ]
    where
      st' : Store D
      st' = switched_store race cur In Fresh Empty Sound laws v st

      now : at cur st.aliases ≡ Some n → Leads v gs f (Aliases (switch_of v cur n)) (st', Done)
      now e =
          let not : NotYet v st.aliases = not_installed race cur In Fresh Empty Sound laws st v n a i r.ground e in
          let m : Made cur In Fresh Empty v st r.target.index = is_made race cur In Fresh Empty Sound laws st v n r a i not in
          let source_is : m.source ≡ n = (let x : r.target.index.source ≡ Some m.source = ap (λ (z : Index D). z.source) m.is in let y : Some m.source ≡ Some n = sym x ∙ r.target.from in cc) in
          let u : Settings D Q = r.ground.set in
          let on : at cur st.aliases ≡ Some u.target = e ∙ ap (λ z. Some z) r.ground.name in
          let b : Index D = m.ground.blocked.index in
          let there : at u.target st.indices ≡ Some b = subst (λ z. at z st.indices ≡ Some b) (source_is ∙ r.ground.name) m.ground.blocked.there in
          let l : CurrentGeneration gs st u b = current_generation gs st u b s r.ground.is_in r.ground.installed on there in
          let g0 : Generation D = record { alias = u.version; index = u.target; blocked = b.blocked; table = b.table } in
          let none_of : of_alias v.version gs ≡ None = s.each v i ∙ rw not refl in
          let table_is : renumbered m.copied ≡ migrated v b.table.rows = whole_migrated v m.table.rows m.copied m.whole ∙ ap (λ (z : Table D). migrated v z.rows) (sym m.ground.blocked.table) in
          let kept : (z : Text) → z ≢ cur → at z (without cur st.aliases) ≡ at z st.aliases = λ z c. at_without_other z cur st.aliases c in
          let target : at v.target st'.indices ≡ Some (record { blocked = false; source = Some m.source; table = renumbered m.copied }) = at_without_other v.target v.temp st.indices (names.target_temp v v i i) ∙ r.target.there ∙ ap (λ z. Some z) m.is in
          let apart_names : n ≢ v.target = (λ z. let x : v.is_same v.target ≡ false = subst (λ y. v.is_same y ≡ false) z r.ground.not_same in let y : true ≡ false = sym (laws.order.own v i) ∙ x in cc) in
          let was_on : f.on ≡ Some n = fo.on ∙ on_last gs st s.last ∙ e in
          record {
            m = Migrate v;
            may = (
              refl,
              record {
                last = g0;
                is_last = l.last;
                blocked = m.ground.blocked.blocked;
                clean = subst (λ (z : Table D). IsClean v z.rows) (sym m.ground.blocked.table) (is_clean v m.table.rows m.whole.clean);
                none_of = none_of;
                not_later = subst (λ z. v.is_later z ≡ false) r.ground.name r.ground.not_later;
                not_same = subst (λ z. v.is_same z ≡ false) r.ground.name r.ground.not_same;
              },
            );
            shows = record {
              each = λ w j. elim (names.apart w v j i) [
                | inl z ↦ subst (λ y. of_alias y.version (migrate v gs) ≡ shown_of y st') (sym z) (migrate_here v gs g0 l.last none_of ∙ ap (λ t. Some (new_generation v t)) (sym table_is)
                    ∙ rw (is_now race cur In Fresh Empty Sound laws st v i (without cur st.aliases) kept, target) refl)
                | inr o ↦ migrate_other v gs w.version o.0 ∙ s.each w j ∙ rw (version_of race cur In Fresh Empty Sound laws st v i (without cur st.aliases) kept w j o.0, at_without_other w.target v.temp st.indices (names.target_temp w v j i)) refl
              ];
              last = The_last v i (record { last = new_generation v (migrated v b.table.rows); is_last = migrate_last v gs g0 l.last; under = refl; of = refl }) (on_now race cur In Fresh Empty Sound laws st v i (without cur st.aliases) kept);
              once = migrate_once v gs s.once none_of;
            };
            fact = rw (was_on, switch_adds v n i, same_false n v.target apart_names) refl;
            found = record {
              on = switch_names v n f.on i ∙ rw (migrate_last v gs g0 l.last) refl;
              listed = λ w j. elim (names.apart w v j i) [
                | inl z ↦ subst (λ y. is_listed y.target f.blocked ≡ flag (of_alias y.version (migrate v gs))) (sym z) (fo.listed v i ∙ rw (none_of, migrate_here v gs g0 l.last none_of) refl)
                | inr o ↦ fo.listed w j ∙ ap flag (sym (migrate_other v gs w.version o.0))
              ];
            };
          }

  -- the install
  install_leads : (v : Settings D Q) (gs : Generations D) (f : FoundSoFar) (st : Store D) → Displays gs st → FoundOk In f gs → Ok st → In v → Is st.indices v.target → Leads v gs f (Aliases (install_of v cur)) (acted_answer st (act_all (Now st) (install_of v cur)))
  unfolding of_alias Once last_generation
  install_leads v gs f st s fo a i t = by (installing race cur In Fresh Empty Sound laws st v a i t)
    where
      st' : Store D
      st' = installed_store race cur In Fresh Empty Sound laws v st

      kept : (z : Text) → z ≢ cur → at z st.aliases ≡ at z st.aliases
      kept z c = refl

      -- what a target is in a store where nothing is installed
      bare : at cur st.aliases ≡ None → ((w : Settings D Q) → In w → NotYet w st.aliases) → TargetOk cur In Fresh Empty v st t.0 → t.0 ≡ record { blocked = false; source = None; table = empty_table }
      bare e nowhere (Bare x is) = is
      bare e nowhere (Copied m) = not_both race cur In Fresh Empty Sound laws st m.ground.ground.set (nowhere m.ground.ground.set m.ground.ground.is_in) m.ground.ground.installed

      first : (hs : Generations D) → hs ≡ [] → FoundOk In f hs → at cur st.aliases ≡ None → f.on ≡ None → ((w : Settings D Q) → In w → NotYet w st.aliases) → Leads v hs f (Aliases (install_of v cur)) (st', Done)
      first hs is fo e off nowhere =
          let target : at v.target st'.indices ≡ Some (record { blocked = false; source = None; table = empty_table }) = t.1 ∙ ap (λ z. Some z) (bare e nowhere (a.targets v i (nowhere v i) t.0 t.1)) in
          record {
            m = Install v;
            may = (refl, is);
            shows = subst (λ z. Displays (install v z) st') (sym is) (record {
              each = λ w j. elim (names.apart w v j i) [
                | inl z ↦ subst (λ y. of_alias y.version (new_generation v empty_table ∷ []) ≡ shown_of y st') (sym z) (of_first v.version (new_generation v empty_table) [] refl ∙ rw (is_now race cur In Fresh Empty Sound laws st v i st.aliases kept, target) refl)
                | inr o ↦ rw (version_of race cur In Fresh Empty Sound laws st v i st.aliases kept w j o.0, nowhere w j) (none_here w o.0)
              ];
              last = The_last v i (record { last = new_generation v empty_table; is_last = refl; under = refl; of = refl }) (on_now race cur In Fresh Empty Sound laws st v i st.aliases kept);
              once = (refl, tt);
            });
            fact = rw (off, install_adds v i) refl;
            found = record {
              on = install_names v f.on i ∙ rw is refl;
              listed = λ w j. fo.listed w j ∙ rw is (elim (names.apart w v j i) [
                | inl z ↦ subst (λ y. false ≡ flag (of_alias y.version (new_generation v empty_table ∷ []))) (sym z) (sym (ap flag (of_first v.version (new_generation v empty_table) [] refl)))
                | inr o ↦ sym (ap flag (none_here w o.0))
              ]);
            };
          }
        where
          none_here : (w : Settings D Q) → w.version ≢ v.version → of_alias w.version (new_generation v empty_table ∷ []) ≡ None
          none_here w o = elim (same_is w.version v.version) [ inl p ↦ absurd (o p.1) | inr x ↦ rw x.0 refl ]

      by : Installing race cur In Fresh Empty Sound laws st v → Leads v gs f (Aliases (install_of v cur)) (acted_answer st (act_all (Now st) (install_of v cur)))
      by (First e nowhere is) = subst (λ x. Leads v gs f (Aliases (install_of v cur)) (acted_answer st x)) (sym is) (here s.last)
        where
          here : LastOn cur In gs st → Leads v gs f (Aliases (install_of v cur)) (st', Done)
          here (No_last none off) = first gs none fo e (fo.on ∙ on_last gs st (No_last none off) ∙ off) nowhere
          here (The_last w j l on) = none_some w.target (at cur st.aliases) e on
      by (Repeated x e is) = subst (λ z. Leads v gs f (Aliases (install_of v cur)) (acted_answer st z)) (sym is) (
          let on : f.on ≡ Some v.target = fo.on ∙ on_last gs st s.last ∙ e in
          quiet v gs f (Aliases (install_of v cur)) (st, Done) s (rw (on, install_adds v i, same_refl v.target) refl) (record { on = install_names v f.on i ∙ sym on ∙ fo.on; listed = fo.listed }))
      by (Refuses c e is) = subst (λ z. Leads v gs f (Aliases (install_of v cur)) (acted_answer st z)) (sym is) (quiet v gs f (Aliases (install_of v cur)) (st, Refused (AliasTaken cur c)) s refl (record { on = fo.on; listed = fo.listed }))

  -- each request of an instance of the set v
  pub instance_leads : (v : Settings D Q) (gs : Generations D) (f : FoundSoFar) (st : Store D) (ask : Request D Q) → Displays gs st → FoundOk In f gs → Ok st → In v → Cond cur In Fresh Empty v st ask → Leads v gs f ask (serve race.select st ask)
  unfolding serve
  instance_leads v gs f st ask s k a i Any_ping = quiet v gs f ask _ s refl (record { on = k.on; listed = k.listed })
  instance_leads v gs f st ask s k a i Any_state = quiet v gs f ask _ s refl (record { on = k.on; listed = k.listed })
  instance_leads v gs f st ask s k a i (Any_open n) = quiet v gs f ask _ (open_pit v gs st n (at (meant st n) st.indices) s a) refl (record { on = k.on; listed = k.listed })
  instance_leads v gs f st ask s k a i (Any_read p query) = quiet v gs f ask _ s refl (record { on = k.on; listed = k.listed })
  instance_leads v gs f st ask s k a i (Any_close p) = quiet v gs f ask _ (close_pit v gs st p (pit_at p st.pits) s a) refl (record { on = k.on; listed = k.listed })
  instance_leads v gs f st ask s k a i (Any_get n raws) = quiet v gs f ask _ s refl (record { on = k.on; listed = k.listed })
  instance_leads v gs f st ask s k a i (Any_search n query) = quiet v gs f ask _ s refl (record { on = k.on; listed = k.listed })
  instance_leads v gs f st ask s k a i (Makes_temp n F g) = quiet v gs f ask _ (create_temp v gs st (at v.temp st.indices) (at v.temp st.aliases) (Some n) s a i) refl (record { on = k.on; listed = k.listed })
  instance_leads v gs f st ask s k a i (Makes_target e) = quiet v gs f ask _ (create_target v gs st (at v.target st.indices) (at v.target st.aliases) None s a i refl) refl (record { on = k.on; listed = k.listed })
  instance_leads v gs f st ask s k a i (Blocks_source n g) = subst (λ m. Leads v gs f (Block m) (block_over (at m st.indices) st m)) (sym g.name) (block_source v gs f st g.set (at g.set.target st.indices) s k a g.is_in g.installed refl)
  instance_leads v gs f st ask s k a i (Blocks_temp n F g d) = block_temp v gs f st (at v.temp st.indices) s k a i
  instance_leads v gs f st ask s k a i (Copies n h) = quiet v gs f ask _ (clone v gs st (at v.target st.indices) (at v.target st.aliases) (at v.temp st.indices) s a i refl) refl (record { on = k.on; listed = k.listed })
  instance_leads v gs f st ask s k a i (Writes n F os g h w) =
      quiet v gs f ask _ (subst (λ m. Displays gs (bulk_over (at m st.indices) st v.temp m (creates os)).0) (sym (meant_itself st v.temp (a.aliases.no_temp_alias v i))) (bulk_temp v gs st (at v.temp st.indices) (creates os) s a i)) refl (record { on = k.on; listed = k.listed })
  instance_leads v gs f st ask s k a i (Switches n r) = subst (λ c. Leads v gs f (Aliases (switch_of v c n)) (acted_answer st (act_all (Now st) (switch_of v c n)))) (sym (names.current v i)) (switch_leads v gs f st n s k a i r)
  instance_leads v gs f st ask s k a i (Installs e t) = subst (λ c. Leads v gs f (Aliases (install_of v c)) (acted_answer st (act_all (Now st) (install_of v c)))) (sym (names.current v i)) (install_leads v gs f st s k a i t)
