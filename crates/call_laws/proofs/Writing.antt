-- The plans of writing calls, on generations.
use Rattle.std.proofs.Common.{◌≡◌, ◌⊎◌, Bool, true, false, Option, Some, None, List, [], ◌∷◌, refl, sym, ◌∙◌, ap, subst, if◌then◌else◌}
use mathlib.Core.Logic.◌⊎◌.{inl, inr}
use Rattle.base_model.specs.Keyed.{Text, same, at}
use Rattle.race_model.specs.Stores.{Rows, Table, Write, Request, Reply, write_all, items_of, found, empty_table}
use Rattle.race_model.specs.Stores.Request.{Get, Bulk}
use Rattle.race_model.specs.Generations.{Generation, Generations, of_alias, get_in, bulk_reply, bulk_in_one, told_by, written_in, left_by}
use Rattle.document_model.specs.Documents.{Doc}
use Rattle.document_model.specs.Registries.{Registry}
use Rattle.call_model.specs.Words.{Words}
use Rattle.call_model.specs.Calls.{Answer}
use Rattle.query_model.specs.Queries.{Query, select}
use Rattle.call_model.specs.Steps.{Turn, each_turn, all_denied, item_step, form, Work, Outcome, needs_no_store, called_over}
use Rattle.call_model.specs.Steps.Turn.{Denied, Goes}
use Rattle.call_model.specs.Steps.Work.{Writing}
use Rattle.call_model.specs.Plans.{Next, Ready, readied, raws_of, writes_of, answers, bulk_answer, blocked_answers, is_blind, all_blind, writing_first, sent, after_read, writing_then, writing_last, first_of_work, then_of_work, last_of_work}
use Rattle.call_model.specs.Plans.Next.{Answers, Asks}
use Rattle.call_model.specs.Scripts.{own, with_table, replaced, replaced_where}
use Rattle.call_laws.specs.Meanings.{KeepsAliases, Keeps}
use Rattle.call_laws.proofs.Aliases.{NoAlias, keeps_sent}
use Rattle.call_laws.proofs.Items.{SameRow}
use Rattle.call_laws.proofs.Bulks.{Apart, Stand, ready_by, readied_found, readied_blind, all_sent, each_open, each_blocked, none_sent, denied_answers}

-- generations with other rows

module _ {D : Type 0} (name : Text) where
  open_is : (writes : List (Write D)) (h : Generation D) → h.blocked ≡ false → Rattle.race_model.specs.Generations.with_table h.blocked h writes ≡ with_table h (write_all h.table writes)
  open_is writes h b = rw b refl

  written_open : (writes : List (Write D)) (gs : Generations D) (g : Generation D) → of_alias name gs ≡ Some g → g.blocked ≡ false → written_in name writes gs ≡ replaced name (write_all g.table writes) gs
  unfolding of_alias written_in replaced
  written_open writes [] g e b = absurd (cc)
  written_open writes (h ∷ gs) g e b = by (same name h.alias) e (λ x. written_open writes gs g x b)
    where
      by : (t : Bool) → (if t then Some h else of_alias name gs) ≡ Some g → (of_alias name gs ≡ Some g → written_in name writes gs ≡ replaced name (write_all g.table writes) gs)
          → (if t then Rattle.race_model.specs.Generations.with_table h.blocked h writes ∷ gs else h ∷ written_in name writes gs) ≡ (if t then with_table h (write_all g.table writes) ∷ gs else h ∷ replaced name (write_all g.table writes) gs)
      by true e i =
          let is : h ≡ g = cc in
          let open_h : h.blocked ≡ false = ap (λ x. x.blocked) is ∙ b in
          subst (λ (x : Generation D). (Rattle.race_model.specs.Generations.with_table h.blocked h writes ∷ gs) ≡ (with_table h (write_all x.table writes) ∷ gs)) is (ap (λ x. x ∷ gs) (open_is writes h open_h))
      by false e i = ap (λ x. h ∷ x) (i e)

  written_blocked : (writes : List (Write D)) (gs : Generations D) (g : Generation D) → of_alias name gs ≡ Some g → g.blocked ≡ true → written_in name writes gs ≡ gs
  unfolding of_alias written_in
  written_blocked writes [] g e b = refl
  written_blocked writes (h ∷ gs) g e b = by (same name h.alias) e (λ x. written_blocked writes gs g x b)
    where
      by : (t : Bool) → (if t then Some h else of_alias name gs) ≡ Some g → (of_alias name gs ≡ Some g → written_in name writes gs ≡ gs)
          → (if t then Rattle.race_model.specs.Generations.with_table h.blocked h writes ∷ gs else h ∷ written_in name writes gs) ≡ h ∷ gs
      by true e i = let is : h ≡ g = cc in let shut : h.blocked ≡ true = ap (λ x. x.blocked) is ∙ b in rw shut refl
      by false e i = ap (λ x. h ∷ x) (i e)

  pub replaced_same : (gs : Generations D) (g : Generation D) → of_alias name gs ≡ Some g → replaced name g.table gs ≡ gs
  unfolding of_alias replaced
  replaced_same [] g e = refl
  replaced_same (h ∷ gs) g e = by (same name h.alias) e (λ x. replaced_same gs g x)
    where
      by : (t : Bool) → (if t then Some h else of_alias name gs) ≡ Some g → (of_alias name gs ≡ Some g → replaced name g.table gs ≡ gs)
          → (if t then with_table h g.table ∷ gs else h ∷ replaced name g.table gs) ≡ h ∷ gs
      by true e i = let is : g ≡ h = cc in ap (λ x. with_table h x.table ∷ gs) is
      by false e i = ap (λ x. h ∷ x) (i e)

  written_none : (writes : List (Write D)) (gs : Generations D) → of_alias name gs ≡ None → written_in name writes gs ≡ gs
  unfolding of_alias written_in
  written_none writes [] e = refl
  written_none writes (h ∷ gs) e = by (same name h.alias) e (λ x. written_none writes gs x)
    where
      by : (t : Bool) → (if t then Some h else of_alias name gs) ≡ None → (of_alias name gs ≡ None → written_in name writes gs ≡ gs)
          → (if t then Rattle.race_model.specs.Generations.with_table h.blocked h writes ∷ gs else h ∷ written_in name writes gs) ≡ h ∷ gs
      by true e i = absurd (cc)
      by false e i = ap (λ x. h ∷ x) (i e)

module _ {A O F : Type 0} (w : Words A O F) (reg : Registry O) where
  abbrev pub name : Text
  name = w.version_alias reg.version

  -- what the call means, from its first request's generations to those of its last
  abbrev pub outcome : Work A → Generations (Doc A) → Generations (Doc A) → Outcome A
  outcome work gs later = called_over w reg work (needs_no_store work) (own w reg gs) (own w reg later)

  -- the answer and what the request leaves are what the call means
  pub record Done (work : Work A) (gs later : Generations (Doc A)) (ask : Request (Doc A) (Query F)) (a : Answer A) : Type 0 where
    pub answer : a ≡ (outcome work gs later).1
    pub effect : left_by later ask ≡ replaced_where name (outcome work gs later).0 later
    pub keeps : Keeps later ask

  -- the generation of the version may have become this one
  pub record Grown (gs later : Generations (Doc A)) : Type 0 where
    pub grown : (g : Generation (Doc A)) → own w reg gs ≡ Some g → (h : Generation (Doc A)) × (own w reg later ≡ Some h) × ((raw : Text) → SameRow (at raw g.table.rows) (at raw h.table.rows))

  -- what the first reply leads to is as the call means
  abbrev pub Fate : Work A → Generations (Doc A) → Request (Doc A) (Query F) → Next A F → Type 0
  Fate work gs ask (Answers a) = Done work gs gs ask a
  Fate work gs ask (Asks second) =
      (left_by gs ask ≡ gs) × Keeps gs ask × ((later : Generations (Doc A)) → Grown gs later → Done work gs later second (last_of_work w reg work (told_by (select w.holds) gs ask) (told_by (select w.holds) later second)))

  -- no item reads nothing
  unfoldable pub NoneBlind : List (Turn A) → Type 0
  NoneBlind [] = Unit {0}
  NoneBlind (Denied r ∷ ts) = NoneBlind ts
  NoneBlind (Goes raw act ∷ ts) = (is_blind act ≡ false) × NoneBlind ts

  stand_now : (t : Table (Doc A)) (ts : List (Turn A)) → Stand t.rows t ts
  unfolding Stand
  stand_now t [] = tt
  stand_now t (Denied r ∷ ts) = stand_now t ts
  stand_now t (Goes raw act ∷ ts) = (λ e. refl, λ e. refl, stand_now t ts)

  stand_later : (read : Rows (Doc A)) (t : Table (Doc A)) (ts : List (Turn A)) → NoneBlind ts → ((raw : Text) → SameRow (at raw read) (at raw t.rows)) → Stand read t ts
  unfolding Stand NoneBlind
  stand_later read t [] n f = tt
  stand_later read t (Denied r ∷ ts) n f = stand_later read t ts n f
  stand_later read t (Goes raw act ∷ ts) n f = (f raw, λ e. absurd (cc), stand_later read t ts n.1 f)

  all_denied_is : (ts : List (Turn A)) → raws_of ts ≡ [] → all_denied ts ≡ true
  all_denied_is [] e = refl
  all_denied_is (Denied r ∷ ts) e = all_denied_is ts e
  all_denied_is (Goes raw act ∷ ts) e = absurd (cc)

  some_goes_is : (ts : List (Turn A)) (raw : Text) (raws : List Text) → raws_of ts ≡ raw ∷ raws → all_denied ts ≡ false
  some_goes_is [] raw raws e = absurd (cc)
  some_goes_is (Denied r ∷ ts) raw raws e = some_goes_is ts raw raws e
  some_goes_is (Goes other act ∷ ts) raw raws e = refl

  module _ (space : Text) (alone : Bool) (ts : List (Turn A)) (apart : Apart ts) (no_alias : NoAlias ts) where
    abbrev turn_by_turn : Rows (Doc A) → Generation (Doc A) → Table (Doc A) × List (Answer A)
    turn_by_turn read g = each_turn (item_step w reg space read g.blocked) ts g.table

    -- a bulk of all that the items send
    record Sent (read : Rows (Doc A)) (g : Generation (Doc A)) (gs : Generations (Doc A)) : Type 0 where
      answer : bulk_answer reg alone (ready_by w reg space read ts) (bulk_reply g.blocked g (writes_of (ready_by w reg space read ts))) ≡ form alone (turn_by_turn read g).1
      effect : written_in name (writes_of (ready_by w reg space read ts)) gs ≡ replaced name (turn_by_turn read g).0 gs
      keeps : Keeps {F = F} gs (Bulk name (writes_of (ready_by w reg space read ts)))

    keeps_bulk : (read : Rows (Doc A)) (g : Generation (Doc A)) (gs : Generations (Doc A)) → Stand read g.table ts → own w reg gs ≡ Some g → Keeps {F = F} gs (Bulk name (writes_of (ready_by w reg space read ts)))
    keeps_bulk read g gs s e h f = let is : g ≡ h = cc in subst (λ x. KeepsAliases x.table (write_all x.table (writes_of (ready_by w reg space read ts)))) is (keeps_sent w reg space read ts g.table apart s no_alias)

    bulk_sent : (read : Rows (Doc A)) (g : Generation (Doc A)) (gs : Generations (Doc A)) → Stand read g.table ts → own w reg gs ≡ Some g → Sent read g gs
    bulk_sent read g gs s e = by g.blocked refl
      where
        rs : List (Ready A)
        rs = ready_by w reg space read ts

        by : (b : Bool) → g.blocked ≡ b → Sent read g gs
        by false is =
            let both : all_sent w reg space rs g.table ≡ each_turn (item_step w reg space read false) ts g.table = each_open w reg space read ts g.table apart s in
            record {
              answer = rw is (ap (λ x. form alone x.1) both);
              effect = rw is (written_open name (writes_of rs) gs g e is ∙ ap (λ x. replaced name x.0 gs) both);
              keeps = keeps_bulk read g gs s e;
            }
        by true is =
            let both : each_turn (item_step w reg space read true) ts g.table ≡ (g.table, blocked_answers rs) = each_blocked w reg space read ts g.table s in
            record {
              answer = rw is (ap (λ x. form alone x.1) (sym both));
              effect = rw is (written_blocked name (writes_of rs) gs g e is ∙ (sym (replaced_same name gs g e) ∙ ap (λ x. replaced name x.0 gs) (sym both)));
              keeps = keeps_bulk read g gs s e;
            }

    abbrev work : Work A
    work = Writing alone space ts

    -- no item is left to judge
    fate_denied : (gs : Generations (Doc A)) (blind : Bool) → raws_of ts ≡ []
        → Fate work gs (writing_first w reg space blind [] ts) (writing_then w reg alone space blind [] ts (told_by (select w.holds) gs (writing_first w reg space blind [] ts)))
    unfolding left_by
    fate_denied gs blind e = record {
      answer = rw (all_denied_is ts e) (ap (form alone) (denied_answers w reg space ts (item_step w reg space [] false) empty_table e));
      effect = rw (all_denied_is ts e) refl;
      keeps = tt;
    }

    no_store : (raw : Text) (raws : List Text) → raws_of ts ≡ raw ∷ raws → needs_no_store work ≡ false
    no_store raw raws e = some_goes_is ts raw raws e

    -- a bulk at once
    fate_blind : (gs : Generations (Doc A)) (raw : Text) (raws : List Text) → raws_of ts ≡ raw ∷ raws → all_blind ts ≡ true
        → Fate work gs (writing_first w reg space true (raw ∷ raws) ts) (writing_then w reg alone space true (raw ∷ raws) ts (told_by (select w.holds) gs (writing_first w reg space true (raw ∷ raws) ts)))
    unfolding left_by told_by
    fate_blind gs raw raws e b = by (own w reg gs) refl
      where
        rs : List (Ready A)
        rs = readied w reg space ts []

        by : (o : Option (Generation (Doc A))) → own w reg gs ≡ o → Done work gs gs (Bulk name (writes_of rs)) (bulk_answer reg alone rs (bulk_in_one (own w reg gs) name (writes_of rs)))
        by None is = record {
          answer = rw (no_store raw raws e, is) refl;
          effect = rw (no_store raw raws e, is) (written_none name (writes_of rs) gs is);
          keeps = λ g f. absurd (cc);
        }
        by (Some g) is =
            let s : Sent g.table.rows g gs = bulk_sent g.table.rows g gs (stand_now g.table ts) is in
            let same : readied w reg space ts [] ≡ ready_by w reg space g.table.rows ts = readied_blind w reg space g.table.rows ts b in
            record {
              answer = rw (no_store raw raws e, is, same) s.answer;
              effect = rw (no_store raw raws e, is, same) s.effect;
              keeps = rw same s.keeps;
            }

    -- a read, and a bulk where items are left
    none_left : (g : Generation (Doc A)) (gs : Generations (Doc A)) → own w reg gs ≡ Some g → writes_of (ready_by w reg space g.table.rows ts) ≡ []
        → (form alone (answers reg (ready_by w reg space g.table.rows ts) []) ≡ form alone (turn_by_turn g.table.rows g).1) × (gs ≡ replaced name (turn_by_turn g.table.rows g).0 gs)
    unfolding write_all items_of
    none_left g gs is e = by g.blocked refl
      where
        rs : List (Ready A)
        rs = ready_by w reg space g.table.rows ts

        Claim : Bool → Type 0
        Claim b = (form alone (answers reg rs []) ≡ form alone (each_turn (item_step w reg space g.table.rows b) ts g.table).1) × (gs ≡ replaced name (each_turn (item_step w reg space g.table.rows b) ts g.table).0 gs)

        by : (b : Bool) → g.blocked ≡ b → Claim g.blocked
        by false f =
            let nothing : ◌≡◌ {A = Table (Doc A) × List (Answer A)} (g.table, answers reg rs []) (all_sent w reg space rs g.table) =
            subst (λ (ws : List (Write (Doc A))). ◌≡◌ {A = Table (Doc A) × List (Answer A)} (g.table, answers reg rs []) (write_all g.table ws, answers reg rs (items_of g.table ws))) (sym e) refl in
            let both : ◌≡◌ {A = Table (Doc A) × List (Answer A)} (g.table, answers reg rs []) (each_turn (item_step w reg space g.table.rows false) ts g.table) = nothing ∙ each_open w reg space g.table.rows ts g.table apart (stand_now g.table ts) in
            subst Claim (sym f) (ap (λ x. form alone x.1) both, sym (replaced_same name gs g is) ∙ ap (λ x. replaced name x.0 gs) both)
        by true f =
            let both : each_turn (item_step w reg space g.table.rows true) ts g.table ≡ (g.table, blocked_answers rs) = each_blocked w reg space g.table.rows ts g.table (stand_now g.table ts) in
            subst Claim (sym f) (ap (form alone) (sym (none_sent w reg space rs e)) ∙ ap (λ x. form alone x.1) (sym both), sym (replaced_same name gs g is) ∙ ap (λ x. replaced name x.0 gs) (sym both))

    fate_sent : (gs : Generations (Doc A)) (raw : Text) (raws : List Text) (g : Generation (Doc A)) → raws_of ts ≡ raw ∷ raws → NoneBlind ts → own w reg gs ≡ Some g
        → (rs : List (Ready A)) → rs ≡ ready_by w reg space g.table.rows ts → (ws : List (Write (Doc A))) → writes_of rs ≡ ws
        → ((second : Reply (Doc A)) → writing_last w reg alone space ts (told_by (select w.holds) gs (Get name (raw ∷ raws))) second ≡ bulk_answer reg alone rs second)
        → Fate work gs (Get name (raw ∷ raws)) (sent w reg alone ws rs)
    unfolding left_by told_by
    fate_sent gs raw raws g e n is rs same [] f last =
        let k : writes_of (ready_by w reg space g.table.rows ts) ≡ [] = ap (λ x. writes_of x) (sym same) ∙ f in
        let both = none_left g gs is k in
        record {
          answer = rw (no_store raw raws e, is, same) both.0;
          effect = rw (no_store raw raws e, is) both.1;
          keeps = tt;
        }
    fate_sent gs raw raws g e n is rs same (x ∷ ws) f last = (refl, tt, later_done)
      where
        later_done : (later : Generations (Doc A)) → Grown gs later → Done work gs later (Bulk name (x ∷ ws)) (last_of_work w reg work (told_by (select w.holds) gs (Get name (raw ∷ raws))) (told_by (select w.holds) later (Bulk name (x ∷ ws))))
        later_done later grown =
            let more = grown.grown g is in
            let s : Sent g.table.rows more.0 later = bulk_sent g.table.rows more.0 later (stand_later g.table.rows more.0.table ts n more.2) more.1 in
            let k : (x ∷ ws) ≡ writes_of (ready_by w reg space g.table.rows ts) = sym f ∙ ap (λ z. writes_of z) same in
            record {
              answer = last (told_by (select w.holds) later (Bulk name (x ∷ ws))) ∙ (rw (no_store raw raws e, is, more.1, same, k) s.answer);
              effect = rw (no_store raw raws e, is, more.1, k) s.effect;
              keeps = rw k s.keeps;
            }

    fate_seeing : (gs : Generations (Doc A)) (raw : Text) (raws : List Text) → raws_of ts ≡ raw ∷ raws → NoneBlind ts
        → Fate work gs (writing_first w reg space false (raw ∷ raws) ts) (writing_then w reg alone space false (raw ∷ raws) ts (told_by (select w.holds) gs (writing_first w reg space false (raw ∷ raws) ts)))
    unfolding left_by told_by
    fate_seeing gs raw raws e n = by (own w reg gs) refl
      where
        by : (o : Option (Generation (Doc A))) → own w reg gs ≡ o → Fate work gs (Get name (raw ∷ raws)) (after_read w reg alone space ts (get_in (own w reg gs) name (raw ∷ raws)))
        by None is = rw is (record { answer = rw (no_store raw raws e, is) refl; effect = rw (no_store raw raws e, is) refl; keeps = tt })
        by (Some g) is =
            let rs : List (Ready A) = readied w reg space ts (found g.table.rows (raw ∷ raws)) in
            let same : rs ≡ ready_by w reg space g.table.rows ts = subst (λ x. readied w reg space ts (found g.table.rows x) ≡ ready_by w reg space g.table.rows ts) e (readied_found w reg space g.table.rows ts) in
            subst (λ o. Fate work gs (Get name (raw ∷ raws)) (after_read w reg alone space ts (get_in o name (raw ∷ raws)))) (sym is)
            (fate_sent gs raw raws g e n is rs same (writes_of rs) refl (λ second. rw is refl))

    -- the plan of a writing call
    pub fate_writing : (all_blind ts ≡ true) ⊎ ((all_blind ts ≡ false) × NoneBlind ts) → (gs : Generations (Doc A)) → Fate work gs (first_of_work w reg work) (then_of_work w reg work (told_by (select w.holds) gs (first_of_work w reg work)))
    fate_writing even gs = by (raws_of ts) refl
      where
        Claim : Bool → List Text → Type 0
        Claim blind raws = Fate work gs (writing_first w reg space blind raws ts) (writing_then w reg alone space blind raws ts (told_by (select w.holds) gs (writing_first w reg space blind raws ts)))

        by : (raws : List Text) → raws_of ts ≡ raws → Claim (all_blind ts) (raws_of ts)
        by [] e = subst (Claim (all_blind ts)) (sym e) (fate_denied gs (all_blind ts) e)
        by (raw ∷ raws) e = subst (Claim (all_blind ts)) (sym e) (elim even [
          | inl b ↦ subst (λ x. Claim x (raw ∷ raws)) (sym b) (fate_blind gs raw raws e b)
          | inr n ↦ subst (λ x. Claim x (raw ∷ raws)) (sym n.0) (fate_seeing gs raw raws e n.1)
        ])
