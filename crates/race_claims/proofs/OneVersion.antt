-- Where every instance is of one version, no index and no alias of another stands against it.
use Rattle.std.proofs.Common.{◌≡◌, ℕ, ◌⊎◌, List, Bool, true, false, Option, Some, None, refl, sym, ◌∙◌, ap, subst}
use mathlib.Core.Logic.◌⊎◌.{inl, inr}
use Rattle.base_model.specs.Keyed.{Text, Keyed, at, put, without}
use Rattle.race_model.specs.Stores.{Rows, Index, Store, Write, Request, serve, write_all, pit_at, meant, with_index, create_over, block_over, clone_over, copy_of, open_over, close_over, bulk_over, bulk_in, act_all, acted_answer}
use Rattle.race_model.specs.Stores.Acted.{Now}
use Rattle.race_model.specs.Stores.Request.{Ping, Get, Search, Bulk}
use Rattle.race_model.specs.Machines.{Settings, creates}
use Rattle.race_model.specs.Worlds.{Race}
use Rattle.race_model.specs.Premises.{NamesApart, AsksOf, RaceLaws}
use Rattle.race_tables.proofs.Keys.{same_is, at_put_same, at_put_other, at_without_other, at_without_same}
use Rattle.race_tables.proofs.Lists.{apart, none_some, some_same}
use Rattle.race_facts.proofs.Facts.{Installed, Ground, StoreOk, Ready, Cond}
use Rattle.race_facts.proofs.Facts.Cond.{Any_ping, Any_state, Any_open, Any_read, Any_close, Any_get, Any_search, Makes_temp, Makes_target, Blocks_source, Blocks_temp, Copies, Writes, Switches, Installs}
use Rattle.race_tables.proofs.Outputs.{Is}
use Rattle.race_facts.proofs.Switching.{switch_of, install_of, Installing, installing, on_it, switch_now, switch_stuck}
use Rattle.race_facts.proofs.Switching.Installing.{First, Repeated, Refuses}
use Rattle.std.proofs.Common.{zero, suc, replicate, [], ◌∷◌}
use Rattle.race_model.specs.Machines.{Cause}
use Rattle.race_model.specs.Machines.End.{Fatal}
use Rattle.race_model.specs.Machines.State.{Init, Ended}
use Rattle.race_model.specs.Worlds.{nth}
use Rattle.race_model.specs.Journals.{Has, Past, state_of}
use Rattle.race_model.specs.Openings.{Opening, opening_store, IsEmptyOpening}
use Rattle.race_model.specs.Openings.Opening.{NoGeneration, OneGeneration}
use Rattle.race_model.specs.Premises.{IsOpening}
use Rattle.race_facts.proofs.Opening.{at_one}
use Rattle.race_claims.specs.OneVersion.{IsAbove}

module _ {D Q C : Type 0} (race : Race D Q C) (cur : Text) (In : Settings D Q → Type 0) (Fresh : Settings D Q → Text → D → Type 0) (Empty : Type 0) (Sound : C → Type 0) (laws : RaceLaws race cur In Fresh Sound) (v : Settings D Q) (is_in : In v)
    (Firsts : Settings D Q → Type 0) where
  abbrev names : NamesApart cur In
  names = laws.names

  abbrev Ok : Store D → Type 0
  Ok st = StoreOk cur In Fresh Empty st

  -- no version is installed but this one and the opening's
  abbrev pub InstalledOnly : Keyed Text → Type 0
  InstalledOnly aliases = (u : Settings D Q) → In u → Installed u aliases → (u ≡ v) ⊎ Firsts u

  abbrev pub IsFirst : Text → Type 0
  IsFirst n = (u : Settings D Q) × Firsts u × (n ≡ u.target)

  -- the index under this name has the opening's index as its source
  abbrev pub From : Text → Keyed (Index D) → Type 0
  From n ixs = (ix : Index D) → at n ixs ≡ Some ix → Empty ⊎ ((m : Text) × (ix.source ≡ Some m) × IsFirst m)

  pub record OneOk (st : Store D) : Type 0 where
    pub installed : InstalledOnly st.aliases
    pub temp : From v.temp st.indices
    pub target : From v.target st.indices

  pub ground_first : (st : Store D) (n : Text) → OneOk st → Ground In v st.aliases n → IsFirst n
  ground_first st n k g = elim (k.installed g.set g.is_in g.installed) [
    | inl s ↦ absurd (let x : v.is_same n ≡ true = subst (λ m. v.is_same m ≡ true) (sym (g.name ∙ ap (λ (z : Settings D Q). z.target) s)) (laws.order.own v is_in) in let y : true ≡ false = sym x ∙ g.not_same in cc)
    | inr f ↦ (g.set, f, g.name)
  ]

  -- an index that keeps its source
  from_with : (n name : Text) (ixs : Keyed (Index D)) (ix : Index D) → From n ixs → (name ≡ n → Empty ⊎ ((m : Text) × (ix.source ≡ Some m) × IsFirst m)) → From n (put name ix ixs)
  from_with n name ixs ix k own = λ x e. elim (same_is n name) [
    | inl y ↦ (let is : ix ≡ x = some_same ix x (at n (put name ix ixs)) (subst (λ m. at m (put name ix ixs) ≡ Some ix) (sym y.1) (at_put_same name ix ixs)) e in
        subst (λ (z : Index D). Empty ⊎ ((m : Text) × (z.source ≡ Some m) × IsFirst m)) is (own (sym y.1)))
    | inr o ↦ k x (sym (at_put_other n name ix ixs o.1) ∙ e)
  ]

  from_kept : (n name : Text) (ixs : Keyed (Index D)) (old ix : Index D) → From n ixs → at name ixs ≡ Some old → ix.source ≡ old.source → From n (put name ix ixs)
  from_kept n name ixs old ix k e s = from_with n name ixs ix k (λ is. subst (λ o. Empty ⊎ ((m : Text) × (o ≡ Some m) × IsFirst m)) (sym s) (k old (subst (λ m. at m ixs ≡ Some old) is e)))

  kept_with : (st : Store D) (name : Text) (old ix : Index D) → OneOk st → at name st.indices ≡ Some old → ix.source ≡ old.source → OneOk (with_index st name ix)
  kept_with st name old ix k e s = record { installed = k.installed; temp = from_kept v.temp name st.indices old ix k.temp e s; target = from_kept v.target name st.indices old ix k.target e s }

  pits_kept : (st : Store D) (opened : ℕ) (pits : List (ℕ × Rows D)) → OneOk st → OneOk (record { indices = st.indices; aliases = st.aliases; opened = opened; pits = pits })
  pits_kept st opened pits k = record { installed = k.installed; temp = k.temp; target = k.target }

  open_kept : (st : Store D) (n : Text) (o : Option (Index D)) → OneOk st → OneOk (open_over o st n).0
  open_kept st n None k = k
  open_kept st n (Some ix) k = record { installed = k.installed; temp = k.temp; target = k.target }

  close_kept : (st : Store D) (p : ℕ) (o : Option (Rows D)) → OneOk st → OneOk (close_over o st p).0
  close_kept st p None k = k
  close_kept st p (Some rows) k = record { installed = k.installed; temp = k.temp; target = k.target }

  block_kept : (st : Store D) (n : Text) (o : Option (Index D)) → at n st.indices ≡ o → OneOk st → OneOk (block_over o st n).0
  block_kept st n None e k = k
  block_kept st n (Some ix) e k = kept_with st n ix (record { blocked = true; source = ix.source; table = ix.table }) k e refl

  bulk_kept : (st : Store D) (name index : Text) (ws : List (Write D)) (o : Option (Index D)) → at index st.indices ≡ o → OneOk st → OneOk (bulk_over o st name index ws).0
  bulk_kept st name index ws None e k = k
  bulk_kept st name index ws (Some ix) e k = by ix.blocked
    where
      by : (b : Bool) → OneOk (bulk_in b ix st index ws).0
      by true = k
      by false = kept_with st index ix (record { blocked = false; source = ix.source; table = write_all ix.table ws }) k e refl

  create_kept : (st : Store D) (n : Text) (o : Option (Index D)) (alias : Option Text) → IsFirst n → OneOk st → OneOk (create_over o alias st v.temp (Some n)).0
  create_kept st n (Some ix) alias f k = k
  create_kept st n None (Some x) f k = k
  create_kept st n None None f k = record {
    installed = k.installed;
    temp = from_with v.temp v.temp st.indices _ k.temp (λ is. inr (n, refl, f));
    target = from_with v.target v.temp st.indices _ k.target (λ is. absurd (names.target_temp v v is_in is_in (sym is)));
  }

  clone_kept : (st : Store D) (o temp : Option (Index D)) (alias : Option Text) → at v.temp st.indices ≡ temp → OneOk st → OneOk (clone_over o alias temp st v.temp v.target).0
  clone_kept st (Some ix) temp alias e k = k
  clone_kept st None temp (Some x) e k = k
  clone_kept st None None None e k = k
  clone_kept st None (Some ix) None e k = by ix.blocked
    where
      by : (b : Bool) → OneOk (copy_of b ix st v.temp v.target).0
      by false = k
      by true = record {
        installed = k.installed;
        temp = from_with v.temp v.target st.indices _ k.temp (λ is. absurd (names.target_temp v v is_in is_in is));
        target = from_with v.target v.target st.indices _ k.target (λ is. k.temp ix e);
      }

  switch_kept : (st : Store D) (n : Text) → Ok st → Ready cur In Fresh Empty v st n → OneOk st → OneOk (acted_answer st (act_all (Now st) (switch_of v cur n))).0
  switch_kept st n a r k = elim (on_it (at cur st.aliases) n) [
    | inl e ↦ rw (switch_now race cur In Fresh Empty Sound laws st v n a is_in r e) (record {
      installed = λ u j x. elim (same_is u.version v.version) [
        | inl y ↦ elim (names.apart u v j is_in) [ inl s ↦ inl s | inr o ↦ absurd (o.0 y.1) ]
        | inr o ↦ k.installed u j (sym (at_put_other u.version v.version v.target (put cur v.target (without cur st.aliases)) o.1 ∙ at_put_other u.version cur v.target (without cur st.aliases) (apart (names.cur_ver u j)) ∙ at_without_other u.version cur st.aliases (apart (names.cur_ver u j))) ∙ x)
      ];
      temp = λ ix f. none_some ix (at v.temp (without v.temp st.indices)) (at_without_same v.temp st.indices) f;
      target = λ ix f. k.target ix (sym (at_without_other v.target v.temp st.indices (names.target_temp v v is_in is_in)) ∙ f);
    })
    | inr x ↦ rw (switch_stuck race cur In Fresh Empty Sound laws st v n (at cur st.aliases) refl x) k
  ]

  -- in a store that opened empty nothing is installed but this version
  install_kept : (st : Store D) → Ok st → Empty → OneOk st → InstalledOnly (acted_answer st (act_all (Now st) (install_of v cur))).0.aliases → OneOk (acted_answer st (act_all (Now st) (install_of v cur))).0
  install_kept st a e k i = record { installed = i; temp = λ ix f. inl e; target = λ ix f. inl e }

  install_only : (st : Store D) → Ok st → Is st.indices v.target → OneOk st → InstalledOnly (acted_answer st (act_all (Now st) (install_of v cur))).0.aliases
  install_only st a t k = by (installing race cur In Fresh Empty Sound laws st v a is_in t)
    where
      by : Installing race cur In Fresh Empty Sound laws st v → InstalledOnly (acted_answer st (act_all (Now st) (install_of v cur))).0.aliases
      by (First e nowhere is) = rw is (λ u j x. elim (same_is u.version v.version) [
        | inl y ↦ elim (names.apart u v j is_in) [ inl s ↦ inl s | inr o ↦ absurd (o.0 y.1) ]
        | inr o ↦ k.installed u j (sym (at_put_other u.version v.version v.target (put cur v.target st.aliases) o.1 ∙ at_put_other u.version cur v.target st.aliases (apart (names.cur_ver u j))) ∙ x)
      ])
      by (Repeated x e is) = rw is k.installed
      by (Refuses c e is) = rw is k.installed

  pub one_served : (st : Store D) (ask : Request D Q) → Ok st → Cond cur In Fresh Empty v st ask → OneOk st → OneOk (serve race.select st ask).0
  unfolding serve
  one_served st _ a Any_ping k = k
  one_served st _ a Any_state k = k
  one_served st _ a (Any_open n) k = open_kept st n (at (meant st n) st.indices) k
  one_served st _ a (Any_read p query) k = k
  one_served st _ a (Any_close p) k = close_kept st p (pit_at p st.pits) k
  one_served st _ a (Any_get n raws) k = k
  one_served st _ a (Any_search n query) k = k
  one_served st _ a (Makes_temp n F s) k = create_kept st n (at v.temp st.indices) (at v.temp st.aliases) (ground_first st n k s.ground) k
  one_served st _ a (Makes_target e) k = made_kept (at v.target st.indices) (at v.target st.aliases)
    where
      made_kept : (o : Option (Index D)) (alias : Option Text) → OneOk (create_over o alias st v.target None).0
      made_kept (Some ix) alias = k
      made_kept None (Some x) = k
      made_kept None None = record { installed = k.installed; temp = λ ix f. inl e; target = λ ix f. inl e }
  one_served st _ a (Blocks_source n g) k = block_kept st n (at n st.indices) refl k
  one_served st _ a (Blocks_temp n F s d) k = block_kept st v.temp (at v.temp st.indices) refl k
  one_served st _ a (Copies n h) k = clone_kept st (at v.target st.indices) (at v.temp st.indices) (at v.target st.aliases) refl k
  one_served st _ a (Writes n F os s h w) k = bulk_kept st v.temp (meant st v.temp) (creates os) (at (meant st v.temp) st.indices) refl k
  one_served st _ a (Switches n r) k = subst (λ x. OneOk (acted_answer st (act_all (Now st) (switch_of v x n))).0) (sym (names.current v is_in)) (switch_kept st n a r k)
  one_served st _ a (Installs e t) k = subst (λ x. OneOk (acted_answer st (act_all (Now st) (install_of v x))).0) (sym (names.current v is_in)) (install_kept st a e k (install_only st a t k))

  pub one_client : (st : Store D) (ask : Request D Q) → AsksOf In Fresh ask → OneOk st → OneOk (serve race.select st ask).0
  unfolding serve
  one_client st Ping c k = k
  one_client st (Get name raws) c k = k
  one_client st (Search name query) c k = k
  one_client st (Bulk name ws) c k = bulk_kept st name (meant st name) ws (at (meant st name) st.indices) refl k
  one_client st _ c k = absurd c

-- nobody has started
pub nobody_fails : {D Q : Type 0} (n i tag : ℕ) (past : Past D Q) (cause : Cause) → nth (replicate n (record { runs = []; asked = [] })) i ≡ Some past → state_of tag past.runs ≡ Ended (Fatal cause) → ⊥
unfolding nth state_of
nobody_fails zero i tag past cause e f = cc
nobody_fails (suc n) zero tag past cause e f = cc
nobody_fails {D = D} {Q = Q} (suc n) (suc zero) tag past cause e f =
    let is : record { runs = []; asked = [] } ≡ past = cc in
    let x : Init ≡ Ended (Fatal cause) = subst (λ (p : Past D Q). state_of tag p.runs ≡ Ended (Fatal cause)) (sym is) f in
    cc
nobody_fails (suc n) (suc (suc i)) tag past cause e f = nobody_fails n (suc i) tag past cause e f

-- the opening generation's set
abbrev pub OpeningSet : {D Q : Type 0} → Opening D Q → Settings D Q → Type 0
OpeningSet NoGeneration u = ⊥
OpeningSet (OneGeneration first table) u = u ≡ first

module _ {D Q C : Type 0} (race : Race D Q C) (cur : Text) (sets : List (Settings D Q)) (Fresh : Settings D Q → Text → D → Type 0) (Sound : C → Type 0) (laws : RaceLaws race cur (λ u. Has u sets) Fresh Sound) (v : Settings D Q) (is_in : Has v sets) where
  -- the opening has no index of the version
  pub opening_one : (o : Opening D Q) → IsOpening sets Fresh o → IsAbove v o → OneOk race cur (λ u. Has u sets) Fresh (IsEmptyOpening o) Sound laws v is_in (OpeningSet o) (opening_store cur o)
  unfolding at
  opening_one NoGeneration w above = record { installed = λ u j x. absurd (cc); temp = λ ix e. absurd (cc); target = λ ix e. absurd (cc) }
  opening_one (OneGeneration first table) w above = record {
    installed = λ u j x. elim (same_is u.version first.version) [
      | inl y ↦ elim (laws.names.apart u first j w.0) [ inl s ↦ inr s | inr o ↦ absurd (o.0 y.1) ]
      | inr o ↦ none_some u.target (at u.version (opening_store cur (OneGeneration first table)).aliases) (at_put_other u.version cur first.target ((first.version, first.target) ∷ []) (apart (laws.names.cur_ver u j)) ∙ at_one u.version first.version first.target o.1) x
    ];
    temp = λ ix e. none_some ix (at v.temp (opening_store cur (OneGeneration first table)).indices) (at_one v.temp first.target _ (apart (laws.names.target_temp first v w.0 is_in))) e;
    target = λ ix e. none_some ix (at v.target (opening_store cur (OneGeneration first table)).indices) (at_one v.target first.target _ (λ is. not_first above is)) e;
  }
    where
      not_first : (v.is_later first.target ≡ false) × (v.is_same first.target ≡ false) → v.target ≡ first.target → ⊥
      not_first a is = let x : v.is_same first.target ≡ true = subst (λ n. v.is_same n ≡ true) is (laws.order.own v is_in) in let y : true ≡ false = sym x ∙ a.1 in cc
