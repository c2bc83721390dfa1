-- No start looks again, and each hears a bounded number of replies, for several target sets.
use Rattle.std.proofs.Common.{◌≡◌, ◌≢◌, ℕ, zero, suc, ◌+◌, ◌<◌, List, [], ◌∷◌, replicate, Bool, true, false, Option, Some, None, refl, sym, ◌∙◌, ap, subst, if◌then◌else◌, ◌==◌, arith}
use Rattle.std.proofs.lemmas.Bool.Decides.{nat_tests}
use mathlib.Core.Logic.◌⊎◌.{inl, inr}
use Rattle.base_model.specs.Keyed.{Text, at}
use Rattle.race_model.specs.Stores.{Rows, Index, Store, Request, serve, pit_at, meant, read_over, close_over, bulk_over, create_over, block_over, clone_over, search_over, act_all, acted_answer, seen}
use Rattle.race_model.specs.Stores.Acted.{Now}
use Rattle.race_model.specs.Stores.Reply.{Seen}
use Rattle.race_model.specs.Stores.Request.{ReadPit, ClosePit, Bulk}
use Rattle.race_model.specs.Machines.{Settings, State, request, moved, creates, switch, goal_of, after_outdated, from_new_target}
use Rattle.race_model.specs.Machines.State.{Init, CreateNewTarget, CheckUnknown, SetSourceBlock, CreateTemp, ReindexOpen, ReindexRead, ReindexBulk, ReindexClose, SetTempBlock, CloneTemp, OutdatedOpen, OutdatedRead, OutdatedBulk, OutdatedClose, MarkReady, MarkReadyConflict, Ended}
use Rattle.race_model.specs.Worlds.{Race, Actor, How, Entry, Caller, nth, with_nth}
use Rattle.race_model.specs.Worlds.Actor.{Instance, Client}
use Rattle.race_model.specs.Worlds.How.{Heard, Unheard, Late}
use Rattle.race_model.specs.Journals.{Run, Past, Trace, state_of, heard_of, MayInstance, MayClient, MayMake, past_after, pasts_after, follow_over, followed, MayCome, Conforms, all_followed, open_trace}
use Rattle.race_model.specs.Premises.{Paged, AsksOf, RaceLaws}
use Rattle.race_follow.proofs.Following.{nth_other, nth_here}
use Rattle.race_tables.proofs.Requests.{meant_itself}
use Rattle.race_tables.proofs.Lists.{Every, every_more, every_nth, every_has}
use Rattle.race_facts.proofs.Racing.{every_state, PastFacts, TraceFacts, place_at, made_cond, no_instance, no_client, client_asks, client_served, trace_step}
use Rattle.race_bound.proofs.Owning.{Owner, claimed, claimed_below, HeldOk, FreeOf, Spares, serve_kept, Agrees, held_kept, Holds, Bare, bare, bare_state, bare_check, bare_source_block, bare_create, bare_close, bare_temp_block, bare_clone, bare_after, bare_mark, bare_conflict, page_holds, bulk_holds, outdated_holds, open_holds, outdated_open_holds}
use Rattle.race_facts.proofs.Facts.{StoreOk, Later, StateOk}
use Rattle.race_facts.proofs.Switching.{request_served}
use Rattle.race_bound.proofs.Costing.{Cost, Open, costs, cost_later, Within, cost_bound, cost_init}

module _ {D Q C : Type 0} (race : Race D Q C) (cur : Text) (In : Settings D Q → Type 0) (Fresh : Settings D Q → Text → D → Type 0) (Empty : Type 0) (Sound : C → Type 0) (laws : RaceLaws race cur In Fresh Sound)
    (pages : ℕ → Rows D → ℕ) (paged : (i : ℕ) → Paged race.select (race.settings i) (pages i)) where
  abbrev s : ℕ → Settings D Q
  s i = race.settings i

  abbrev Ok : Store D → Type 0
  Ok st = StoreOk cur In Fresh Empty st

  abbrev At : ℕ → Store D → State D → Type 0
  At i st state = StateOk cur In Fresh Empty (race.settings i) st state

  abbrev HeldAt : ℕ → Owner → Store D → ℕ × ℕ → State D → Type 0
  HeldAt i o st a state = HeldOk race.select (race.settings i) o st a state

  abbrev Free : ℕ → ℕ → State D → Type 0
  Free i q state = FreeOf race.select (race.settings i) q state

  abbrev pub Costs : ℕ → Store D → ℕ → State D → Type 0
  Costs i st k state = Cost race cur In Fresh Empty Sound laws (pages i) (race.settings i) (laws.runs i) (laws.not_outdated i) (paged i) st k state

  abbrev HoldsTo : ℕ → Owner → Store D → ℕ × ℕ → State D → Option (Request D Q) → Type 0
  HoldsTo i o st a state None = Unit {0}
  HoldsTo i o st a state (Some ask) = Holds race.select (race.settings i) (claimed o st.opened a) st (serve race.select st ask).0 a state (moved (s i) state (serve race.select st ask).1)

  own_state : (i : ℕ) (o : Owner) (st : Store D) (a : ℕ × ℕ) (ask : Request D Q) (state : State D) → Spares race.select (race.settings i) ask state → HeldAt i o st a state → HeldAt i (claimed o st.opened a) (serve race.select st ask).0 a state
  own_state i o st a ask state sp h = held_kept race.select (race.settings i) o (claimed o st.opened a) st a ask state (λ p lt. claimed_below o st.opened p a lt) sp h

  bare_new : (i : ℕ) (st : Store D) (x : Option (Index D)) (alias : Option Text) → Bare race.select (race.settings i) (from_new_target (s i) (create_over x alias st (s i).target None).1)
  bare_new i st (Some ix) alias = tt
  bare_new i st None (Some k) = tt
  bare_new i st None None = tt

  -- what the machine's own request leaves it
  holds_ok : (i : ℕ) (o : Owner) (st : Store D) (a : ℕ × ℕ) (state : State D) → Ok st → At i st state → HeldAt i o st a state → HoldsTo i o st a state (request (s i) state)
  unfolding request serve moved
  holds_ok i o st a Init b c h = bare race.select (race.settings i) (claimed o st.opened a) st st a Init _ (bare_state race.select (race.settings i) (Seen (seen st.indices) st.aliases))
  holds_ok i o st a CreateNewTarget b c h = bare race.select (race.settings i) (claimed o st.opened a) st _ a CreateNewTarget _ (bare_new i st (at (s i).target st.indices) (at (s i).target st.aliases))
  holds_ok i o st a (CheckUnknown n) b c h = bare race.select (race.settings i) (claimed o st.opened a) st st a (CheckUnknown n) _ (bare_check race.select (race.settings i) n (search_over race.select (at (meant st n) st.indices) n (s i).unknown))
  holds_ok i o st a (SetSourceBlock n) b c h = bare race.select (race.settings i) (claimed o st.opened a) st _ a (SetSourceBlock n) _ (bare_source_block race.select (race.settings i) n (block_over (at n st.indices) st n).1)
  holds_ok i o st a (CreateTemp n) b c h = bare race.select (race.settings i) (claimed o st.opened a) st _ a (CreateTemp n) _ (bare_create race.select (race.settings i) n (create_over (at (s i).temp st.indices) (at (s i).temp st.aliases) st (s i).temp (Some n)).1)
  holds_ok i o st a (ReindexOpen n) b c h =
      let g = c.1.ground in
      let itself : meant st n ≡ n = meant_itself st n (subst (λ m. at m st.aliases ≡ None) (sym g.name) (b.aliases.no_target_alias g.set g.is_in)) in
      rw (itself, c.1.blocked.there) (open_holds race.select (race.settings i) o st a n c.1.blocked.index)
  holds_ok i o st a (ReindexRead n p after pass) b c h = page_holds race.select (race.settings i) (claimed o st.opened a) st a n p after pass (read_over race.select (pit_at p st.pits) p ((s i).page after)) (own_state i o st a (ReadPit p ((s i).page after)) (ReindexRead n p after pass) tt h)
  holds_ok i o st a (ReindexBulk n p last pass outputs) b c h = bulk_holds race.select (race.settings i) (claimed o st.opened a) st _ a n p last pass outputs (bulk_over (at (meant st (s i).temp) st.indices) st (s i).temp (meant st (s i).temp) (creates outputs)).1
      (own_state i o st a (Bulk (s i).temp (creates outputs)) (ReindexBulk n p last pass outputs) tt h)
  holds_ok i o st a (ReindexClose n p) b c h = bare race.select (race.settings i) (claimed o st.opened a) st _ a (ReindexClose n p) _ (bare_close race.select (race.settings i) (SetTempBlock n) (close_over (pit_at p st.pits) st p).1 tt)
  holds_ok i o st a (SetTempBlock n) b c h = bare race.select (race.settings i) (claimed o st.opened a) st _ a (SetTempBlock n) _ (bare_temp_block race.select (race.settings i) n (block_over (at (s i).temp st.indices) st (s i).temp).1)
  holds_ok i o st a (CloneTemp n) b c h = bare race.select (race.settings i) (claimed o st.opened a) st _ a (CloneTemp n) _ (bare_clone race.select (race.settings i) n (clone_over (at (s i).target st.indices) (at (s i).target st.aliases) (at (s i).temp st.indices) st (s i).temp (s i).target).1)
  holds_ok i o st a (OutdatedOpen finish) b c h = outdated_open_holds race.select (race.settings i) o st a finish (goal_of (s i) finish) (at (meant st (goal_of (s i) finish)) st.indices)
  holds_ok i o st a (OutdatedRead finish p after) b c h = outdated_holds race.select (race.settings i) (claimed o st.opened a) st a finish p after (read_over race.select (pit_at p st.pits) p ((s i).outdated after)) (own_state i o st a (ReadPit p ((s i).outdated after)) (OutdatedRead finish p after) tt h)
  holds_ok i o st a (OutdatedBulk finish p last writes) b c h = absurd c
  holds_ok i o st a (OutdatedClose finish p) b c h = bare race.select (race.settings i) (claimed o st.opened a) st _ a (OutdatedClose finish p) _ (bare_close race.select (race.settings i) (after_outdated finish) (close_over (pit_at p st.pits) st p).1 (bare_after race.select (race.settings i) finish))
  holds_ok i o st a (MarkReady from) b c h = bare race.select (race.settings i) (claimed o st.opened a) st _ a (MarkReady from) _ (bare_mark race.select (race.settings i) (acted_answer st (act_all (Now st) (switch (s i) from))).1)
  holds_ok i o st a MarkReadyConflict b c h = bare race.select (race.settings i) (claimed o st.opened a) st st a MarkReadyConflict _ (bare_conflict race.select (race.settings i) (Seen (seen st.indices) st.aliases))
  holds_ok i o st a (Ended end) b c h = tt

  moved_holds : (i : ℕ) (o : Owner) (st : Store D) (a : ℕ × ℕ) (state : State D) (ask : Request D Q) → Ok st → At i st state → HeldAt i o st a state → request (s i) state ≡ Some ask
      → Holds race.select (race.settings i) (claimed o st.opened a) st (serve race.select st ask).0 a state (moved (s i) state (serve race.select st ask).1)
  moved_holds i o st a state ask b c h e = subst (HoldsTo i o st a state) e (holds_ok i o st a state b c h)

  -- what is known of a request that closes a pit
  abbrev pub AskedOk : Owner → Store D → ℕ → Past D Q → Request D Q → Type 0
  AskedOk o st i past (ClosePit q) = (q < st.opened) × (g : ℕ) × (o q ≡ Some (i, g)) × Free i q (state_of g past.runs)
  AskedOk o st i past _ = Unit {0}

  pub record PastOwned (o : Owner) (st : Store D) (i : ℕ) (past : Past D Q) : Type 0 where
    pub starts : (g : ℕ) → HeldOk race.select (race.settings i) o st (i, g) (state_of g past.runs)
    pub cost : (g : ℕ) → Costs i st (heard_of g past.runs) (state_of g past.runs)
    pub asked : Every (AskedOk o st i past) past.asked

  abbrev pub Owned : Owner → Trace D Q C → Type 0
  Owned o t = (i : ℕ) (past : Past D Q) → nth t.pasts i ≡ Some past → PastOwned o t.store i past

  -- a start that is about to close a pit has it, and reads no pit
  abbrev NextAsked : Owner → Store D → ℕ → Past D Q → ℕ → Option (Request D Q) → Type 0
  NextAsked o st i past g None = Unit {0}
  NextAsked o st i past g (Some ask) = AskedOk o st i past ask

  next_of : (o : Owner) (st : Store D) (i : ℕ) (past : Past D Q) (g : ℕ) (state : State D) → state_of g past.runs ≡ state → HeldAt i o st (i, g) state → NextAsked o st i past g (request (s i) state)
  unfolding request
  next_of o st i past g (ReindexClose n p) e h = (h.1, g, h.0, subst (Free i p) (sym e) tt)
  next_of o st i past g (OutdatedClose finish p) e h = (h.1, g, h.0, subst (Free i p) (sym e) tt)
  next_of o st i past g Init e h = tt
  next_of o st i past g CreateNewTarget e h = tt
  next_of o st i past g (CheckUnknown n) e h = tt
  next_of o st i past g (SetSourceBlock n) e h = tt
  next_of o st i past g (CreateTemp n) e h = tt
  next_of o st i past g (ReindexOpen n) e h = tt
  next_of o st i past g (ReindexRead n p after pass) e h = tt
  next_of o st i past g (ReindexBulk n p last pass outputs) e h = tt
  next_of o st i past g (SetTempBlock n) e h = tt
  next_of o st i past g (CloneTemp n) e h = tt
  next_of o st i past g (OutdatedOpen finish) e h = tt
  next_of o st i past g (OutdatedRead finish p after) e h = tt
  next_of o st i past g (OutdatedBulk finish p last writes) e h = tt
  next_of o st i past g (MarkReady from) e h = tt
  next_of o st i past g MarkReadyConflict e h = tt
  next_of o st i past g (Ended end) e h = tt

  next_asked : (o : Owner) (st : Store D) (i : ℕ) (past : Past D Q) (g : ℕ) (ask : Request D Q) → PastOwned o st i past → request (s i) (state_of g past.runs) ≡ Some ask → AskedOk o st i past ask
  next_asked o st i past g ask a e = subst (NextAsked o st i past g) e (next_of o st i past g (state_of g past.runs) refl (a.starts g))

  made_asked : (o : Owner) (st : Store D) (i : ℕ) (how : How) (past : Past D Q) (tag : ℕ) (ask : Request D Q) → PastOwned o st i past → MayInstance (s i) how (Some past) tag ask → AskedOk o st i past ask
  made_asked o st i Late past tag ask a (inl h) = every_has (AskedOk o st i past) past.asked ask a.asked h
  made_asked o st i Late past tag ask a (inr k) = next_asked o st i past k.0 ask a k.1
  made_asked o st i Heard past tag ask a m = next_asked o st i past tag ask a m.1
  made_asked o st i Unheard past tag ask a m = next_asked o st i past tag ask a m.1

  -- a request that an instance made spares every start
  read_spared : (o : Owner) (i j g : ℕ) (past other : Past D Q) (q p : ℕ) → (i ≡ j → past ≡ other) → (k : ℕ) → o q ≡ Some (i, k) → Free i q (state_of k past.runs) → o p ≡ Some (j, g) → (Free j q (state_of g other.runs) → p ≢ q) → p ≢ q
  read_spared o i j g past other q p same k e f own free same_pit =
      let owners : Some (i, k) ≡ Some (j, g) = sym e ∙ ap o (sym same_pit) ∙ own in
      let pair : (i, k) ≡ (j, g) = some_pair (i, k) (j, g) owners in
      let is : i ≡ j = ap (λ (x : ℕ × ℕ). x.0) pair in
      let gs : k ≡ g = ap (λ (x : ℕ × ℕ). x.1) pair in
      free (subst (λ x. Free j q (state_of x other.runs)) gs (subst (λ (x : Past D Q). Free j q (state_of k x.runs)) (same is) (subst (λ x. Free x q (state_of k past.runs)) is f))) same_pit
    where
      some_pair : (x y : ℕ × ℕ) → Some x ≡ Some y → x ≡ y
      some_pair x y e = cc

  spares_state : (o : Owner) (st : Store D) (i j g : ℕ) (past other : Past D Q) (q : ℕ) (state : State D) → (i ≡ j → past ≡ other) → AskedOk o st i past (ClosePit q) → state_of g other.runs ≡ state → HeldAt j o st (j, g) state → Free j q state
  spares_state o st i j g past other q (ReindexRead n p after pass) same a e h = read_spared o i j g past other q p same a.1 a.2 a.3 h.0.0 (λ f. subst (Free j q) e f)
  spares_state o st i j g past other q (ReindexBulk n p last pass outputs) same a e h = read_spared o i j g past other q p same a.1 a.2 a.3 h.0.0 (λ f. subst (Free j q) e f)
  spares_state o st i j g past other q (OutdatedRead finish p after) same a e h = read_spared o i j g past other q p same a.1 a.2 a.3 h.0.0 (λ f. subst (Free j q) e f)
  spares_state o st i j g past other q _ same a e h = tt

  spares : (o : Owner) (st : Store D) (i j g : ℕ) (past other : Past D Q) (ask : Request D Q) → (i ≡ j → past ≡ other) → AskedOk o st i past ask → HeldAt j o st (j, g) (state_of g other.runs) → Spares race.select (race.settings j) ask (state_of g other.runs)
  spares o st i j g past other (ClosePit q) same a h = spares_state o st i j g past other q (state_of g other.runs) same a refl h
  spares o st i j g past other _ same a h = tt

  -- the pits that were claimed
  abbrev pub owner_after : Owner → Store D → ℕ → How → ℕ → Owner
  owner_after o st i Heard tag = claimed o st.opened (i, tag)
  owner_after o st i Unheard tag = o
  owner_after o st i Late tag = o

  owner_same : (o : Owner) (st : Store D) (i : ℕ) (how : How) (tag p : ℕ) → p < st.opened → owner_after o st i how tag p ≡ o p
  owner_same o st i Heard tag p lt = claimed_below o st.opened p (i, tag) lt
  owner_same o st i Unheard tag p lt = refl
  owner_same o st i Late tag p lt = refl

  -- a request of before is still known
  asked_kept : (o o' : Owner) (st : Store D) (i : ℕ) (past past' : Past D Q) (ask q : Request D Q) → Agrees race.select (race.settings i) o o' st → ((p g : ℕ) → p < st.opened → Free i p (state_of g past.runs) → Free i p (state_of g past'.runs)) → AskedOk o st i past q → AskedOk o' (serve race.select st ask).0 i past' q
  asked_kept o o' st i past past' ask (ClosePit p) g free a = let k = serve_kept race.select (race.settings i) st ask in (omega (arith, k.opened), a.1, g p a.0 ∙ a.2, free p a.1 a.0 a.3)
  asked_kept o o' st i past past' ask _ g free a = tt

  kept_asked : (o o' : Owner) (st : Store D) (i : ℕ) (past past' : Past D Q) (ask : Request D Q) → Agrees race.select (race.settings i) o o' st → ((p g : ℕ) → p < st.opened → Free i p (state_of g past.runs) → Free i p (state_of g past'.runs))
      → Every (AskedOk o st i past) past.asked → AskedOk o st i past ask → Every (AskedOk o' (serve race.select st ask).0 i past') (ask ∷ past.asked)
  unfolding Every
  kept_asked o o' st i past past' ask g free a b = (asked_kept o o' st i past past' ask ask g free b, every_more (AskedOk o st i past) (AskedOk o' (serve race.select st ask).0 i past') past.asked (λ q. asked_kept o o' st i past past' ask q g free) a)

  open_of : (i : ℕ) (o : Owner) (st : Store D) (a : ℕ × ℕ) (state : State D) → HeldAt i o st a state → Open race cur In Fresh Empty Sound laws (pages i) (race.settings i) (laws.runs i) (laws.not_outdated i) (paged i) st state
  open_of i o st a (ReindexRead n p after pass) h = h.1
  open_of i o st a (OutdatedRead finish p after) h = h.1
  open_of i o st a _ h = tt

  same_tag : (g tag : ℕ) → (g == tag) ≡ true → g ≡ tag
  same_tag g tag e = grind (arith, nat_tests)

  unheard_state : (g tag : ℕ) (runs : List (Run D)) → state_of g (record { tag = tag; state = state_of tag runs; heard = heard_of tag runs } ∷ runs) ≡ state_of g runs
  unfolding state_of
  unheard_state g tag runs = by (g == tag) refl
    where
      by : (b : Bool) → (g == tag) ≡ b → (if b then state_of tag runs else state_of g runs) ≡ state_of g runs
      by true e = ap (λ x. state_of x runs) (sym (same_tag g tag e))
      by false e = refl

  unheard_count : (g tag : ℕ) (runs : List (Run D)) → heard_of g (record { tag = tag; state = state_of tag runs; heard = heard_of tag runs } ∷ runs) ≡ heard_of g runs
  unfolding heard_of
  unheard_count g tag runs = by (g == tag) refl
    where
      by : (b : Bool) → (g == tag) ≡ b → (if b then heard_of tag runs else heard_of g runs) ≡ heard_of g runs
      by true e = ap (λ x. heard_of x runs) (sym (same_tag g tag e))
      by false e = refl

  costs_later : (i : ℕ) (st st' : Store D) → Later cur In Fresh Empty st st' → (k : ℕ) (state : State D) → Costs i st k state → Costs i st' k state
  costs_later i st st' later k state c = cost_later race cur In Fresh Empty Sound laws (pages i) (race.settings i) (laws.runs i) (laws.not_outdated i) (paged i) st st' later k state c

  -- the instance of the entry
  own_owned : (o : Owner) (st : Store D) (i : ℕ) (how : How) (past : Past D Q) (tag : ℕ) (ask : Request D Q) → Ok st → PastFacts race cur In Fresh Empty Sound st i past → Later cur In Fresh Empty st (serve race.select st ask).0 → PastOwned o st i past → MayInstance (s i) how (Some past) tag ask
      → PastOwned (owner_after o st i how tag) (serve race.select st ask).0 i (past_after (s i) how past tag ask (serve race.select st ask).1)
  unfolding state_of heard_of
  own_owned o st i Late past tag ask ok facts later a m =
      let info : AskedOk o st i past ask = made_asked o st i Late past tag ask a m in
      record {
        starts = λ g. held_kept race.select (race.settings i) o o st (i, g) ask (state_of g past.runs) (λ p lt. refl) (spares o st i i g past past ask (λ e. refl) info (a.starts g)) (a.starts g);
        cost = λ g. costs_later i st (serve race.select st ask).0 later (heard_of g past.runs) (state_of g past.runs) (a.cost g);
        asked = kept_asked o o st i past (record { runs = past.runs; asked = ask ∷ past.asked }) ask (λ p lt. refl) (λ p g lt f. f) a.asked info;
      }
  own_owned o st i Unheard past tag ask ok facts later a m =
      let info : AskedOk o st i past ask = made_asked o st i Unheard past tag ask a m in
      record {
        starts = λ g. rw (unheard_state g tag past.runs) (held_kept race.select (race.settings i) o o st (i, g) ask (state_of g past.runs) (λ p lt. refl) (spares o st i i g past past ask (λ e. refl) info (a.starts g)) (a.starts g));
        cost = λ g. rw (unheard_state g tag past.runs, unheard_count g tag past.runs) (costs_later i st (serve race.select st ask).0 later (heard_of g past.runs) (state_of g past.runs) (a.cost g));
        asked = kept_asked o o st i past (past_after (s i) Unheard past tag ask (serve race.select st ask).1) ask (λ p lt. refl) (λ p g lt f. rw (unheard_state g tag past.runs) f) a.asked info;
      }
  own_owned o st i Heard past tag ask ok facts later a m =
      record {
        starts = λ g. held_by g (g == tag) refl;
        cost = λ g. costs_by g (g == tag) refl;
        asked = kept_asked o (claimed o st.opened (i, tag)) st i past (past_after (s i) Heard past tag ask (serve race.select st ask).1) ask (λ p lt. claimed_below o st.opened p (i, tag) lt) (λ p g lt f. free_by p g lt f (g == tag) refl) a.asked info;
      }
    where
      info : AskedOk o st i past ask
      info = made_asked o st i Heard past tag ask a m

      phase_ok : At i st (state_of tag past.runs)
      phase_ok = every_state (At i st) tag past.runs tt facts.runs

      holds : Holds race.select (race.settings i) (claimed o st.opened (i, tag)) st (serve race.select st ask).0 (i, tag) (state_of tag past.runs) (moved (s i) (state_of tag past.runs) (serve race.select st ask).1)
      holds = moved_holds i o st (i, tag) (state_of tag past.runs) ask ok phase_ok (a.starts tag) m.1

      held_by : (g : ℕ) (b : Bool) → (g == tag) ≡ b → HeldAt i (claimed o st.opened (i, tag)) (serve race.select st ask).0 (i, g) (if b then moved (s i) (state_of tag past.runs) (serve race.select st ask).1 else state_of g past.runs)
      held_by g true e = subst (λ x. HeldAt i (claimed o st.opened (i, tag)) (serve race.select st ask).0 (i, x) (moved (s i) (state_of tag past.runs) (serve race.select st ask).1)) (sym (same_tag g tag e)) holds.held
      held_by g false e = held_kept race.select (race.settings i) o (claimed o st.opened (i, tag)) st (i, g) ask (state_of g past.runs) (λ p lt. claimed_below o st.opened p (i, tag) lt) (spares o st i i g past past ask (λ x. refl) info (a.starts g)) (a.starts g)

      costs_by : (g : ℕ) (b : Bool) → (g == tag) ≡ b → Costs i (serve race.select st ask).0 (if b then heard_of tag past.runs + 1 else heard_of g past.runs) (if b then moved (s i) (state_of tag past.runs) (serve race.select st ask).1 else state_of g past.runs)
      costs_by g true e = costs_later i st (serve race.select st ask).0 later (heard_of tag past.runs + 1) (moved (s i) (state_of tag past.runs) (serve race.select st ask).1)
          (costs race cur In Fresh Empty Sound laws (pages i) (race.settings i) (laws.runs i) (laws.not_outdated i) (paged i) st (heard_of tag past.runs) (state_of tag past.runs) ask ok phase_ok (open_of i o st (i, tag) (state_of tag past.runs) (a.starts tag)) (a.cost tag) m.1)
      costs_by g false e = costs_later i st (serve race.select st ask).0 later (heard_of g past.runs) (state_of g past.runs) (a.cost g)

      free_by : (p g : ℕ) → p < st.opened → Free i p (state_of g past.runs) → (b : Bool) → (g == tag) ≡ b → Free i p (if b then moved (s i) (state_of tag past.runs) (serve race.select st ask).1 else state_of g past.runs)
      free_by p g lt f true e = holds.free p lt (subst (λ x. Free i p (state_of x past.runs)) (same_tag g tag e) f)
      free_by p g lt f false e = f

  -- another instance
  other_owned : (o o' : Owner) (st : Store D) (i j : ℕ) (past other : Past D Q) (ask : Request D Q) → Agrees race.select (race.settings j) o o' st → i ≢ j → AskedOk o st i past ask → Later cur In Fresh Empty st (serve race.select st ask).0 → PastOwned o st j other → PastOwned o' (serve race.select st ask).0 j other
  other_owned o o' st i j past other ask g n info later a = record {
    starts = λ k. held_kept race.select (race.settings j) o o' st (j, k) ask (state_of k other.runs) g (spares o st i j k past other ask (λ e. absurd (n e)) info (a.starts k)) (a.starts k);
    cost = λ k. costs_later j st (serve race.select st ask).0 later (heard_of k other.runs) (state_of k other.runs) (a.cost k);
    asked = every_more (AskedOk o st j other) (AskedOk o' (serve race.select st ask).0 j other) other.asked (λ q. asked_kept o o' st j other other ask q g (λ p k lt f. f)) a.asked;
  }

  -- a client closes no pit
  client_spares : (j : ℕ) (q : Request D Q) → AsksOf In Fresh q → (state : State D) → Spares race.select (race.settings j) q state
  client_spares j (ClosePit p) x state = absurd x
  client_spares j _ x state = tt

  client_owned : (o : Owner) (st : Store D) (j : ℕ) (other : Past D Q) (ask : Request D Q) → AsksOf In Fresh ask → Later cur In Fresh Empty st (serve race.select st ask).0 → PastOwned o st j other → PastOwned o (serve race.select st ask).0 j other
  client_owned o st j other ask c later a = record {
    starts = λ k. held_kept race.select (race.settings j) o o st (j, k) ask (state_of k other.runs) (λ p lt. refl) (client_spares j ask c (state_of k other.runs)) (a.starts k);
    cost = λ k. costs_later j st (serve race.select st ask).0 later (heard_of k other.runs) (state_of k other.runs) (a.cost k);
    asked = every_more (AskedOk o st j other) (AskedOk o (serve race.select st ask).0 j other) other.asked (λ q. asked_kept o o st j other other ask q (λ p lt. refl) (λ p k lt f. f)) a.asked;
  }

  -- an entry of an instance
  instance_owned : (o : Owner) (t : Trace D Q C) (i : ℕ) (past : Past D Q) (how : How) (tag : ℕ) (ask : Request D Q) → TraceFacts race cur In Fresh Empty Sound t → Owned o t → nth t.pasts i ≡ Some past → MayInstance (s i) how (Some past) tag ask
      → (j : ℕ) (other : Past D Q) → nth (with_nth t.pasts i (past_after (s i) how past tag ask (serve race.select t.store ask).1)) j ≡ Some other → PastOwned (owner_after o t.store i how tag) (serve race.select t.store ask).0 j other
  instance_owned o t i past how tag ask facts a e m j other f = by (i == j) refl
    where
      own : PastOwned o t.store i past
      own = a i past e

      fact : PastFacts race cur In Fresh Empty Sound t.store i past
      fact = place_at (PastFacts race cur In Fresh Empty Sound t.store) t.pasts i past facts.pasts e

      later : Later cur In Fresh Empty t.store (serve race.select t.store ask).0
      later = (request_served race cur In Fresh Empty Sound laws t.store (s i) ask facts.store (laws.runs i) (made_cond race cur In Fresh Empty Sound laws t.store i how past tag ask fact m)).later

      next : Past D Q
      next = past_after (s i) how past tag ask (serve race.select t.store ask).1

      by : (b : Bool) → (i == j) ≡ b → PastOwned (owner_after o t.store i how tag) (serve race.select t.store ask).0 j other
      by true q =
          let is : i ≡ j = same_tag i j q in
          let here : nth (with_nth t.pasts i next) j ≡ Some next = subst (λ k. nth (with_nth t.pasts i next) k ≡ Some next) is (nth_here t.pasts i past next e) in
          let same_past : next ≡ other = (let z : Some next ≡ Some other = sym here ∙ f in cc) in
          subst (λ k. PastOwned (owner_after o t.store i how tag) (serve race.select t.store ask).0 k other) is (subst (PastOwned (owner_after o t.store i how tag) (serve race.select t.store ask).0 i) same_past
          (own_owned o t.store i how past tag ask facts.store fact later own m))
      by false q =
          let n : i ≢ j = grind (arith, nat_tests) in
          other_owned o (owner_after o t.store i how tag) t.store i j past other ask (λ p lt. owner_same o t.store i how tag p lt) n (made_asked o t.store i how past tag ask own m) later (a j other (sym (nth_other t.pasts i j next n) ∙ f))

  pub entry_owned : (o : Owner) (t : Trace D Q C) (actor : Actor) (how : How) (tag : ℕ) (ask : Request D Q) → TraceFacts race cur In Fresh Empty Sound t → Owned o t → MayMake race t actor how tag ask
      → (o' : Owner) × Owned o' (follow_over race t actor how tag ask (serve race.select t.store ask).1 (serve race.select t.store ask).0)
  entry_owned o t (Client k) how tag ask b a m = by (nth t.callers k) refl m
    where
      by : (x : Option (Caller C)) → nth t.callers k ≡ x → MayClient race.clients how x tag ask → (o' : Owner) × Owned o' (follow_over race t (Client k) how tag ask (serve race.select t.store ask).1 (serve race.select t.store ask).0)
      by None e x = absurd (no_client race cur In Fresh Empty Sound laws how tag ask x)
      by (Some caller) e x =
          let sound : Sound caller.script = every_nth (λ (c : Caller C). Sound c.script) t.callers k caller b.callers e in
          let c : AsksOf In Fresh ask = laws.asks caller.script ask sound (client_asks race cur In Fresh Empty Sound laws how caller tag ask x) in
          (o, λ j other f. client_owned o t.store j other ask c (client_served race cur In Fresh Empty Sound laws t.store ask b.store c).later (a j other f))
  entry_owned o t (Instance i) how tag ask b a m = by (nth t.pasts i) refl m
    where
      by : (x : Option (Past D Q)) → nth t.pasts i ≡ x → MayInstance (s i) how x tag ask
          → (o' : Owner) × Owned o' (record { store = (serve race.select t.store ask).0; pasts = pasts_after (s i) t.pasts i x how tag ask (serve race.select t.store ask).1; callers = t.callers })
      by None e k = absurd (no_instance race cur In Fresh Empty Sound laws (s i) how tag ask k)
      by (Some past) e k = (owner_after o t.store i how tag, instance_owned o t i past how tag ask b a e k)

  pub owned_run : (o : Owner) (t : Trace D Q C) (j : List (Entry D Q)) → TraceFacts race cur In Fresh Empty Sound t → Owned o t → Conforms race t j → (o' : Owner) × Owned o' (all_followed race t j)
  unfolding Conforms all_followed MayCome followed
  owned_run o t [] b a c = (o, a)
  owned_run o t (e ∷ j) b a c =
      let r = entry_owned o t e.actor e.how e.tag e.request b a c.0.0 in
      owned_run r.0 (followed race t e) j (trace_step race cur In Fresh Empty Sound laws t e b c.0)
      (subst (λ reply. Owned r.0 (follow_over race t e.actor e.how e.tag e.request reply (serve race.select t.store e.request).0)) (sym c.0.1) r.1) c.1

  -- nobody has started
  pub none_owned : (instances : ℕ) (st : Store D) (scripts : List C) → Owned (λ p. None) (open_trace st instances scripts)
  unfolding heard_of state_of nth Every
  none_owned instances st scripts i past e = all instances i e
    where
      all : (n k : ℕ) → nth (replicate n (record { runs = []; asked = [] })) k ≡ Some past → PastOwned (λ p. None) st i past
      all zero k f = absurd (cc)
      all (suc n) zero f = absurd (cc)
      all (suc n) (suc zero) f = let same_past : record { runs = []; asked = [] } ≡ past = cc in subst (PastOwned (λ p. None) st i) same_past (record { starts = λ g. tt; cost = λ g. refl; asked = tt })
      all (suc n) (suc (suc k)) f = all n (suc k) f

  -- each start is short, and looks at the store once
  pub all_short : (instances : ℕ) (st : Store D) (scripts : List C) (j : List (Entry D Q)) → TraceFacts race cur In Fresh Empty Sound (open_trace st instances scripts) → Conforms race (open_trace st instances scripts) j
      → (i : ℕ) (past : Past D Q) (g : ℕ) → nth (all_followed race (open_trace st instances scripts) j).pasts i ≡ Some past
      → Within race cur In Fresh Empty Sound laws (pages i) (race.settings i) (laws.runs i) (laws.not_outdated i) (paged i) (all_followed race (open_trace st instances scripts) j).store 14 (heard_of g past.runs) × (state_of g past.runs ≡ Init → heard_of g past.runs ≡ 0)
  all_short instances st scripts j b c i past g e =
      let r = owned_run (λ p. None) (open_trace st instances scripts) j b (none_owned instances st scripts) c in
      let own = r.1 i past e in (
        cost_bound race cur In Fresh Empty Sound laws (pages i) (race.settings i) (laws.runs i) (laws.not_outdated i) (paged i) (all_followed race (open_trace st instances scripts) j).store (heard_of g past.runs) (state_of g past.runs) (own.cost g),
        cost_init race cur In Fresh Empty Sound laws (pages i) (race.settings i) (laws.runs i) (laws.not_outdated i) (paged i) (all_followed race (open_trace st instances scripts) j).store (heard_of g past.runs) (state_of g past.runs) (own.cost g),
      )
