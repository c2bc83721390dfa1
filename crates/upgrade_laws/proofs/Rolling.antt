-- A rollout is a race for which all premises hold.
use Rattle.std.proofs.Common.{◌≡◌, ◌≢◌, ◌<◌, ◌⊎◌, ℕ, zero, suc, Bool, true, false, ◌&&◌, not, Option, Some, None, List, [], ◌∷◌, ◌++◌, refl, sym, ◌∙◌, ap, subst, arith}
use mathlib.Core.Logic.◌⊎◌.{inl, inr}
use Rattle.base_model.specs.Keyed.{Text}
use Rattle.race_model.specs.Stores.{Cell, Rows, Write, Request, Reply}
use Rattle.race_model.specs.Stores.Request.{Ping, Get, Search, Bulk}
use Rattle.race_model.specs.Machines.{Settings, outputs_of}
use Rattle.race_model.specs.Journals.{Has}
use Rattle.race_model.specs.Sorted.{IsSorted, Each}
use Rattle.race_model.specs.Premises.{VersionsInOrder, NotBelow, FreshWrites, FreshFound, AllFreshFound, FreshReply, IsOf, AsksOf, RaceLaws}
use Rattle.race_model.specs.Premises as race
use Rattle.race_tables.proofs.Lists.{Every}
use Rattle.version_token.specs.declared.Ver.{Ver}
use Rattle.document_model.specs.Documents.{ver_lt, Doc}
use Rattle.document_model.specs.Registries.{Registry}
use Rattle.query_model.specs.Queries.{Query, select}
use Rattle.call_model.specs.Scripts.{Script, clients}
use Rattle.call_model.specs.Upgrades.{is_fresh, is_above, is_that, TargetSet, settings_of, Rollout, all_settings, call_race}
use Rattle.call_effects.proofs.Versions.{lt_trans, lt_level}
use Rattle.call_effects.proofs.Fitting.{ver_self}
use Rattle.call_laws.proofs.Keeping.{OnAlias, FreshAsk, FreshHeard, script_on_alias, script_fresh, script_keeps, script_registry}
use Rattle.upgrade_laws.specs.Premises.{NamesApart, AllBegin, IsRollout}
use Rattle.upgrade_laws.proofs.Naming.{names_apart}
use Rattle.upgrade_laws.proofs.Selecting.{page_is, each_selected, none_outdated}
use Rattle.upgrade_laws.proofs.Listed.{all_listed}
use Rattle.upgrade_laws.proofs.Moves.{outcome_fresh}

-- of all versions, what holds under a condition
module _ {D : Type 0} (P : ℕ → Type 0) (Q : ℕ → Text → D → Type 0) where
  abbrev Always : Text → D → Type 0
  Always raw doc = (i : ℕ) → P i → Q i raw doc

  write_all : (x : Write D) → ((i : ℕ) → P i → race.FreshWrite (Q i) x) → race.FreshWrite Always x
  write_all (Write.Create raw doc) h = h
  write_all (Write.Put raw doc expect) h = h
  write_all (Write.Delete raw expect) h = tt

  pub writes_all : (xs : List (Write D)) → ((i : ℕ) → P i → FreshWrites (Q i) xs) → FreshWrites Always xs
  unfolding FreshWrites
  writes_all [] h = tt
  writes_all (x ∷ xs) h = (write_all x (λ i p. (h i p).0), writes_all xs (λ i p. (h i p).1))

  pub each_all : (rows : Rows D) → ((i : ℕ) → P i → Each (Q i) rows) → Each Always rows
  unfolding Each
  each_all [] h = tt
  each_all (r ∷ rows) h = (λ i p. (h i p).0, each_all rows (λ i p. (h i p).1))

  pub each_one : (i : ℕ) → P i → (rows : Rows D) → Each Always rows → Each (Q i) rows
  unfolding Each
  each_one i p [] h = tt
  each_one i p (r ∷ rows) h = (h.0 i p, each_one i p rows h.1)

  found_one : (x : Option (Text × Cell D)) → ((i : ℕ) → P i → FreshFound (Q i) x) → FreshFound Always x
  found_one None h = tt
  found_one (Some r) h = h

  found_all : (xs : List (Option (Text × Cell D))) → ((i : ℕ) → P i → AllFreshFound (Q i) xs) → AllFreshFound Always xs
  unfolding AllFreshFound
  found_all [] h = tt
  found_all (x ∷ xs) h = (found_one x (λ i p. (h i p).0), found_all xs (λ i p. (h i p).1))

  found_back : (i : ℕ) → P i → (x : Option (Text × Cell D)) → FreshFound Always x → FreshFound (Q i) x
  found_back i p None h = tt
  found_back i p (Some r) h = h i p

  founds_back : (i : ℕ) → P i → (xs : List (Option (Text × Cell D))) → AllFreshFound Always xs → AllFreshFound (Q i) xs
  unfolding AllFreshFound
  founds_back i p [] h = tt
  founds_back i p (x ∷ xs) h = (found_back i p x h.0, founds_back i p xs h.1)

  pub reply_all : (reply : Reply D) → ((i : ℕ) → P i → FreshReply (Q i) reply) → FreshReply Always reply
  reply_all (Reply.Selected n rows) h = each_all rows h
  reply_all (Reply.Found rows) h = found_all rows h
  reply_all Reply.Done h = tt
  reply_all (Reply.Seen x y) h = tt
  reply_all (Reply.Pit p) h = tt
  reply_all (Reply.Items is) h = tt
  reply_all (Reply.Refused x) h = tt

  pub reply_one : (i : ℕ) → P i → (reply : Reply D) → FreshReply Always reply → FreshReply (Q i) reply
  reply_one i p (Reply.Selected n rows) h = each_one i p rows h
  reply_one i p (Reply.Found rows) h = founds_back i p rows h
  reply_one i p Reply.Done h = tt
  reply_one i p (Reply.Seen x y) h = tt
  reply_one i p (Reply.Pit q) h = tt
  reply_one i p (Reply.Items is) h = tt
  reply_one i p (Reply.Refused x) h = tt

-- the tests of versions
that_self : (v : Ver) → is_that (Some v) v ≡ true
that_self v = rw (ver_self v) refl

that_is : (u v : Ver) → is_that (Some u) v ≡ true → u ≡ v
that_is u v e = by (ver_lt v u) (ver_lt u v) refl refl e
  where
    by : (a b : Bool) → ver_lt v u ≡ a → ver_lt u v ≡ b → (not a && not b) ≡ true → u ≡ v
    by true b f g e = absurd (cc)
    by false true f g e = absurd (cc)
    by false false f g e = lt_level u v g f

not_that : (u v : Ver) → ver_lt v u ≡ false → is_that (Some u) v ≡ false → ver_lt u v ≡ true
not_that u v f e = by (ver_lt u v) refl (subst (λ x. (not x && not (ver_lt u v)) ≡ false) f e)
  where
    by : (b : Bool) → ver_lt u v ≡ b → not (ver_lt u v) ≡ false → ver_lt u v ≡ true
    by true g h = g
    by false g h = let k : true ≡ false = subst (λ x. not x ≡ false) g h in absurd (cc)

module _ {A O F : Type 0} (r : Rollout A O F) (is : IsRollout r) where
  abbrev S : TargetSet O → Settings (Doc A) (Query F)
  S s = settings_of r.words r.names s

  abbrev pub In : Settings (Doc A) (Query F) → Type 0
  In v = Has v (all_settings r.words r.names r.sets)

  pub in_is : (sets : List (TargetSet O)) (s : TargetSet O) → Has s sets → Has (S s) (all_settings r.words r.names sets)
  unfolding Has
  in_is [] s h = h
  in_is (x ∷ sets) s h = elim h [ inl e ↦ inl (ap S e) | inr k ↦ inr (in_is sets s k) ]

  pub in_of : (sets : List (TargetSet O)) (v : Settings (Doc A) (Query F)) → Has v (all_settings r.words r.names sets) → (s : TargetSet O) × Has s sets × (v ≡ S s)
  unfolding Has
  in_of [] v h = absurd h
  in_of (x ∷ sets) v h = elim h [ inl e ↦ (x, inl refl, e) | inr k ↦ (let o = in_of sets v k in (o.0, inr o.1, o.2)) ]

  abbrev of : (v : Settings (Doc A) (Query F)) → In v → (s : TargetSet O) × Has s r.sets × (v ≡ S s)
  of v h = in_of r.sets v h

  abbrev pub names : NamesApart r.words r.names r.sets
  names = names_apart r.words r.names r.sets is.names

  -- one set for each alias
  pub same_alias : (s t : TargetSet O) → Has s r.sets → Has t r.sets → r.words.version_alias s.registry.version ≡ r.words.version_alias t.registry.version → s ≡ t
  same_alias s t h k e = elim (names.one_each s t h k) [ inl x ↦ x | inr x ↦ absurd (x.0 e) ]

  pub same_set : (s t : TargetSet O) → Has s r.sets → Has t r.sets → S s ≡ S t → s ≡ t
  same_set s t h k e = same_alias s t h k (ap (λ (v : Settings (Doc A) (Query F)). v.version) e)

  race_names_apart : race.NamesApart r.names.current In
  race_names_apart = record {
    current = λ v h. let o = of v h in ap (λ (x : Settings (Doc A) (Query F)). x.current) o.2;
    cur_ver = λ v h. let o = of v h in subst (λ (x : Settings (Doc A) (Query F)). r.names.current ≢ x.version) (sym o.2) (names.current_alias o.0 o.1);
    cur_target = λ v h. let o = of v h in subst (λ (x : Settings (Doc A) (Query F)). r.names.current ≢ x.target) (sym o.2) (names.current_target o.0 o.1);
    cur_temp = λ v h. let o = of v h in subst (λ (x : Settings (Doc A) (Query F)). r.names.current ≢ x.temp) (sym o.2) (names.current_temp o.0 o.1);
    ver_target = λ v w h k. let o = of v h in let p = of w k in subst (λ (x : Settings (Doc A) (Query F)). x.version ≢ w.target) (sym o.2) (subst (λ (x : Settings (Doc A) (Query F)). (S o.0).version ≢ x.target) (sym p.2) (names.alias_target o.0 p.0 o.1 p.1));
    ver_temp = λ v w h k. let o = of v h in let p = of w k in subst (λ (x : Settings (Doc A) (Query F)). x.version ≢ w.temp) (sym o.2) (subst (λ (x : Settings (Doc A) (Query F)). (S o.0).version ≢ x.temp) (sym p.2) (names.alias_temp o.0 p.0 o.1 p.1));
    target_temp = λ v w h k. let o = of v h in let p = of w k in subst (λ (x : Settings (Doc A) (Query F)). x.target ≢ w.temp) (sym o.2) (subst (λ (x : Settings (Doc A) (Query F)). (S o.0).target ≢ x.temp) (sym p.2) (names.target_temp o.0 p.0 o.1 p.1));
    apart = λ v w h k. let o = of v h in let p = of w k in one v w o.0 p.0 o.2 p.2 (names.one_each o.0 p.0 o.1 p.1);
  }
    where
      one : (v w : Settings (Doc A) (Query F)) (s t : TargetSet O) → v ≡ S s → w ≡ S t
          → (s ≡ t) ⊎ ((r.words.version_alias s.registry.version ≢ r.words.version_alias t.registry.version) × (r.names.target s.registry.version ≢ r.names.target t.registry.version) × (r.names.temp s.registry.version ≢ r.names.temp t.registry.version))
          → (v ≡ w) ⊎ ((v.version ≢ w.version) × (v.target ≢ w.target) × (v.temp ≢ w.temp))
      one v w s t e f (inl x) = inl (e ∙ (ap S x ∙ sym f))
      one v w s t e f (inr x) = inr (subst (λ (a : Settings (Doc A) (Query F)). (a.version ≢ w.version) × (a.target ≢ w.target) × (a.temp ≢ w.temp)) (sym e) (subst (λ (a : Settings (Doc A) (Query F)). ((S s).version ≢ a.version) × ((S s).target ≢ a.target) × ((S s).temp ≢ a.temp)) (sym f) x))

  abbrev version : TargetSet O → Ver
  version s = s.registry.version

  -- the order of versions, said of sets
  own_set : (s : TargetSet O) → Has s r.sets → (S s).is_same (S s).target ≡ true
  own_set s h = rw (names.version_named s h) (that_self (version s))

  is_own_set : (s t : TargetSet O) → Has s r.sets → Has t r.sets → (S s).is_same (S t).target ≡ true → S s ≡ S t
  is_own_set s t h k e =
      let f : is_that (Some (version t)) (version s) ≡ true = subst (λ x. is_that x (version s) ≡ true) (names.version_named t k) e in
      ap S (same_alias s t h k (ap r.words.version_alias (sym (that_is (version t) (version s) f))))

  rises_set : (s t q : TargetSet O) → Has s r.sets → Has t r.sets → Has q r.sets → NotBelow (S s) (S t).target → (S q).is_later (S t).target ≡ false → (S q).is_same (S t).target ≡ false → NotBelow (S s) (S q).target
  rises_set s t q h k l below later same =
      let a : ver_lt (version q) (version t) ≡ false = subst (λ x. is_above x (version q) ≡ false) (names.version_named t k) later in
      let b : is_that (Some (version t)) (version q) ≡ false = subst (λ x. is_that x (version q) ≡ false) (names.version_named t k) same in
      let c : ver_lt (version t) (version q) ≡ true = not_that (version t) (version q) a b in
      let d : ver_lt (version s) (version q) ≡ true = elim below [
        | inl x ↦ lt_trans (version s) (version t) (version q) (subst (λ z. is_above z (version s) ≡ true) (names.version_named t k) x) c
        | inr x ↦ subst (λ z. ver_lt z (version q) ≡ true) (that_is (version t) (version s) (subst (λ z. is_that z (version s) ≡ true) (names.version_named t k) x)) c
      ] in
      inl (subst (λ z. is_above z (version s) ≡ true) (sym (names.version_named q l)) d)

  in_order : VersionsInOrder In
  in_order = record {
    own = λ v h. let o = of v h in subst (λ (x : Settings (Doc A) (Query F)). x.is_same x.target ≡ true) (sym o.2) (own_set o.0 o.1);
    is_own = λ v w h k e.
        let o = of v h in
        let p = of w k in
        let f : (S o.0).is_same (S p.0).target ≡ true = subst (λ (x : Settings (Doc A) (Query F)). x.is_same (S p.0).target ≡ true) o.2 (subst (λ (x : Settings (Doc A) (Query F)). v.is_same x.target ≡ true) p.2 e) in
        o.2 ∙ (is_own_set o.0 p.0 o.1 p.1 f ∙ sym p.2);
    rises = λ u v w g h k below later same.
        let n = of u g in
        let o = of v h in
        let p = of w k in
        let a : NotBelow (S n.0) (S o.0).target = subst (λ (x : Settings (Doc A) (Query F)). NotBelow x (S o.0).target) n.2 (subst (λ (x : Settings (Doc A) (Query F)). NotBelow u x.target) o.2 below) in
        let b : (S p.0).is_later (S o.0).target ≡ false = subst (λ (x : Settings (Doc A) (Query F)). x.is_later (S o.0).target ≡ false) p.2 (subst (λ (x : Settings (Doc A) (Query F)). w.is_later x.target ≡ false) o.2 later) in
        let c : (S p.0).is_same (S o.0).target ≡ false = subst (λ (x : Settings (Doc A) (Query F)). x.is_same (S o.0).target ≡ false) p.2 (subst (λ (x : Settings (Doc A) (Query F)). w.is_same x.target ≡ false) o.2 same) in
        subst (λ (x : Settings (Doc A) (Query F)). NotBelow x w.target) (sym n.2) (subst (λ (x : Settings (Doc A) (Query F)). NotBelow (S n.0) x.target) (sym p.2) (rises_set n.0 o.0 p.0 n.1 o.1 p.1 a b c));
  }

  -- instances of the set with these settings, and the documents that are fresh for them
  abbrev Of : Settings (Doc A) (Query F) → ℕ → Type 0
  Of v i = S (r.set_of i) ≡ v

  abbrev FreshOf : ℕ → Text → Doc A → Type 0
  FreshOf i raw doc = is_fresh (r.set_of i).registry doc ≡ true

  abbrev pub Fresh : Settings (Doc A) (Query F) → Text → Doc A → Type 0
  Fresh v raw doc = (i : ℕ) → Of v i → FreshOf i raw doc

  abbrev HeardOk : Settings (Doc A) (Query F) → Option (Reply (Doc A)) → Type 0
  HeardOk v None = Unit {0}
  HeardOk v (Some reply) = FreshReply (Fresh v) reply

  -- a client of a set's registry, that was shown fresh documents
  abbrev pub Sound : Script A O → Type 0
  Sound c = (s : TargetSet O) × Has s r.sets × (c.registry ≡ s.registry) × HeardOk (S s) c.heard

  heard_one : (v : Settings (Doc A) (Query F)) (i : ℕ) (o : Option (Reply (Doc A))) → Of v i → HeardOk v o → FreshHeard r.words (r.set_of i).registry o
  heard_one v i None p h = tt
  heard_one v i (Some reply) p h = reply_one (Of v) FreshOf i p reply h

  heard_all : (v : Settings (Doc A) (Query F)) (o : Option (Reply (Doc A))) → ((i : ℕ) → Of v i → FreshHeard r.words (r.set_of i).registry o) → HeardOk v o
  heard_all v None h = tt
  heard_all v (Some reply) h = reply_all (Of v) FreshOf reply h

  -- an instance of the set has its registry
  its_registry : (s : TargetSet O) (i : ℕ) → Has s r.sets → Of (S s) i → (r.set_of i).registry ≡ s.registry
  its_registry s i h p = ap (λ (x : TargetSet O). x.registry) (same_set (r.set_of i) s (is.runs i) h p)

  asks_of : (s : TargetSet O) → Has s r.sets → (ask : Request (Doc A) (Query F)) → OnAlias r.words s.registry ask → ((i : ℕ) → Of (S s) i → FreshAsk r.words (r.set_of i).registry ask) → AsksOf In Fresh ask
  asks_of s h Ping o f = tt
  asks_of s h (Get n raws) o f = (S s, in_is r.sets s h, o)
  asks_of s h (Search n query) o f = (S s, in_is r.sets s h, o)
  asks_of s h (Bulk n writes) o f = (S s, in_is r.sets s h, o, writes_all (Of (S s)) FreshOf writes f)
  asks_of s h Request.State o f = absurd o
  asks_of s h (Request.Create n from) o f = absurd o
  asks_of s h (Request.Block n) o f = absurd o
  asks_of s h (Request.Clone n m) o f = absurd o
  asks_of s h (Request.OpenPit n) o f = absurd o
  asks_of s h (Request.ReadPit p q) o f = absurd o
  asks_of s h (Request.ClosePit p) o f = absurd o
  asks_of s h (Request.Aliases actions) o f = absurd o

  asks : (c : Script A O) (ask : Request (Doc A) (Query F)) → Sound c → (clients r.words).asks c ≡ Some ask → AsksOf In Fresh ask
  asks c ask sound e =
      asks_of sound.0 sound.1 ask (subst (λ x. OnAlias r.words x ask) sound.2 (script_on_alias r.words c.registry c.calls c.heard ask e))
      (λ i p.
      let reg : (r.set_of i).registry ≡ c.registry = its_registry sound.0 i sound.1 p ∙ sym sound.2 in
      subst (λ x. FreshAsk r.words x ask) (sym reg) (script_fresh r.words c.registry c.calls c.heard ask (subst (λ x. FreshHeard r.words x c.heard) reg (heard_one (S sound.0) i c.heard p sound.3)) e))

  told : (c : Script A O) (ask : Request (Doc A) (Query F)) (reply : Reply (Doc A)) → Sound c → (clients r.words).asks c ≡ Some ask → ((v : Settings (Doc A) (Query F)) → In v → IsOf v.version ask → FreshReply (Fresh v) reply) → Sound ((clients r.words).told c reply)
  told c ask reply sound e f = (
    sound.0,
    sound.1,
    script_registry r.words c.registry c c.calls c.heard reply ∙ sound.2,
    heard_all (S sound.0) ((clients r.words).told c reply).heard (λ i p.
        let reg : (r.set_of i).registry ≡ c.registry = its_registry sound.0 i sound.1 p ∙ sym sound.2 in
        subst (λ x. FreshHeard r.words x ((clients r.words).told c reply).heard) (sym reg)
        (script_keeps r.words c.registry c.calls c.heard c.number ask reply e
        (λ of_it. subst (λ (x : Registry O). FreshReply (λ raw doc. is_fresh x doc ≡ true) reply) reg
        (reply_one (Of (S sound.0)) FreshOf i p reply (f (S sound.0) (in_is r.sets sound.0 sound.1) (subst (λ (x : Registry O). IsOf (r.words.version_alias x.version) ask) sound.2 of_it)))))),
  )

  -- pages of a set
  page_of : (s : TargetSet O) → 0 < s.batch → (before rest : Rows (Doc A)) → IsSorted (before ++ rest) →
      (front back : Rows (Doc A)) × (rest ≡ front ++ back) × ((select r.words.holds).rows ((S s).page (Rattle.race_model.specs.Sorted.last_key None before)) (before ++ rest) ≡ front) × (front ≡ [] → rest ≡ [])
  page_of s more before rest sorted = by s.batch more
    where
      by : (n : ℕ) → 0 < n → (front back : Rows (Doc A)) × (rest ≡ front ++ back) × ((select r.words.holds).rows (Rattle.call_model.specs.Upgrades.plain_query [] [] (Rattle.race_model.specs.Sorted.last_key None before) (Some n)) (before ++ rest) ≡ front) × (front ≡ [] → rest ≡ [])
      by zero m = absurd (omega arith)
      by (suc n) m = page_is r.words.holds n before rest sorted

  -- all premises of the race
  pub laws : RaceLaws (call_race r.words (λ i. S (r.set_of i))) r.names.current In Fresh Sound
  laws = record {
    names = race_names_apart;
    order = in_order;
    runs = λ i. in_is r.sets (r.set_of i) (is.runs i);
    page = λ v h before rest sorted. let o = of v h in subst (λ (x : Settings (Doc A) (Query F)). (front back : Rows (Doc A)) × (rest ≡ front ++ back) × ((select r.words.holds).rows (x.page (Rattle.race_model.specs.Sorted.last_key None before)) (before ++ rest) ≡ front) × (front ≡ [] → rest ≡ [])) (sym o.2) (page_of o.0 (is.batches o.0 o.1) before rest sorted);
    selects_fresh = λ v h q rows a. each_selected r.words.holds (Fresh v) q rows a;
    not_outdated = λ i after rows a. none_outdated r.words.holds (r.set_of i).registry after (r.set_of i).batch rows (all_listed (r.set_of i).registry (is.registries (r.set_of i) (is.runs i))) (each_one (Of (S (r.set_of i))) FreshOf i refl rows a);
    fresh_outputs = λ v h raw doc out has i p. outcome_fresh r.words.transforms (r.set_of i).registry raw doc out (subst (λ (x : Settings (Doc A) (Query F)). Has out (outputs_of (x.outcome raw doc))) (sym p) has);
    asks = asks;
    told = told;
  }

  pub all_sound : (scripts : List (Script A O)) → AllBegin r.sets scripts → Every Sound scripts
  unfolding AllBegin Every
  all_sound [] a = tt
  all_sound (c ∷ cs) a = ((a.0.set, a.0.is_in, a.0.registry, subst (HeardOk (S a.0.set)) (sym a.0.unheard) tt), all_sound cs a.1)
