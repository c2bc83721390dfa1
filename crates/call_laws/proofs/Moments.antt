-- A call whose read and last request meet one state is the one-thread step.
use Rattle.std.proofs.Common.{◌≡◌, Bool, true, false, Option, Some, None, List, [], ◌∷◌, refl, sym, ◌∙◌, ap, subst, not}
use Rattle.base_model.specs.Keyed.{Text, at}
use Rattle.race_model.specs.Stores.{Cell, Rows, Table, empty_table}
use Rattle.race_model.specs.Generations.{Generation}
use Rattle.document_model.specs.Documents.{Doc}
use Rattle.document_model.specs.Registries.{Registry}
use Rattle.call_model.specs.Words.{Words}
use Rattle.call_model.specs.Calls.{Act, Call, Answer}
use Rattle.call_model.specs.declared.refuse.Refuse.{Refuse}
use Rattle.call_model.specs.Calls.Call.{Changing, BulkCreating, Getting, BulkGetting, Resolving, Finding}
use Rattle.call_model.specs.Calls.Answer.{Refused}
use Rattle.call_model.specs.Acts.{is_space, bad_space, Deed, judge, do_deed, act_step}
use Rattle.call_model.specs.Acts.Deed.{Deny, Make, Remake, Drop}
use Rattle.call_model.specs.Steps.{Turn, Stepper, and_then, turns, each_turn, all_denied, item_over, item_step, Look, all_refused, all_got, looks, find_words, resolve_words, alias_of, form, creates, Work, unless, unless_words, work_of, Outcome, work_step, call_step, needs_no_store, called_over, called}
use Rattle.call_model.specs.Steps.Turn.{Denied, Goes}
use Rattle.call_model.specs.Steps.Look.{Refuses, At}
use Rattle.call_model.specs.Steps.Work.{Refusing, Writing, Looking, Searching, Following}
use Rattle.call_laws.specs.Meanings.{then_on}
use Rattle.call_laws.proofs.Items.{same_self}
use Rattle.call_laws.proofs.Bulks.{NoneOf, Apart, Others, written_others, dropped_others}
use Rattle.call_laws.proofs.Fates.{turns_apart}

module _ {A O F : Type 0} (w : Words A O F) (reg : Registry O) (space : Text) (blocked : Bool) where
  one_act : Stepper A
  one_act raw act t = act_step w reg space blocked raw act t

  pub do_others : (b : Bool) (raw : Text) (act : Act A) (deed : Deed A) (row : Option (Cell (Doc A))) (t : Table (Doc A)) → Others raw t (do_deed reg b raw act deed row t).0
  do_others b raw act (Deny r) row t = λ other n. refl
  do_others true raw act (Make doc) row t = λ other n. refl
  do_others true raw act (Remake m doc) row t = λ other n. refl
  do_others true raw act (Drop m) row t = λ other n. refl
  do_others false raw act (Make doc) (Some c) t = λ other n. refl
  do_others false raw act (Make doc) None t = written_others t raw doc
  do_others false raw act (Remake m doc) row t = written_others t raw doc
  do_others false raw act (Drop m) row t = dropped_others t raw

  step_others : (raw : Text) (act : Act A) (t : Table (Doc A)) → Others raw t (act_step w reg space blocked raw act t).0
  unfolding act_step
  step_others raw act t = do_others blocked raw act (judge w reg space act (at raw t.rows)) (at raw t.rows) t

  item_is_act : (raw : Text) (act : Act A) (t : Table (Doc A)) (deed : Deed A) → judge w reg space act (at raw t.rows) ≡ deed → item_over w reg space blocked raw act deed (at raw t.rows) t ≡ act_step w reg space blocked raw act t
  unfolding act_step
  item_is_act raw act t (Deny r) j = rw j refl
  item_is_act raw act t (Make doc) j = rw (same_self (at raw t.rows)) refl
  item_is_act raw act t (Remake m doc) j = rw (same_self (at raw t.rows)) refl
  item_is_act raw act t (Drop m) j = rw (same_self (at raw t.rows)) refl

  -- the rows of the items left are as they were read
  unfoldable Level : Rows (Doc A) → Table (Doc A) → List (Turn A) → Type 0
  Level read t [] = Unit {0}
  Level read t (Denied r ∷ ts) = Level read t ts
  Level read t (Goes raw act ∷ ts) = (at raw read ≡ at raw t.rows) × Level read t ts

  level_now : (t : Table (Doc A)) (ts : List (Turn A)) → Level t.rows t ts
  unfolding Level
  level_now t [] = tt
  level_now t (Denied r ∷ ts) = level_now t ts
  level_now t (Goes raw act ∷ ts) = (refl, level_now t ts)

  level_kept : (read : Rows (Doc A)) (t new : Table (Doc A)) (raw : Text) (ts : List (Turn A)) → Others raw t new → NoneOf raw ts → Level read t ts → Level read new ts
  unfolding Level NoneOf
  level_kept read t new raw [] k n l = tt
  level_kept read t new raw (Denied r ∷ ts) k n l = level_kept read t new raw ts k n l
  level_kept read t new raw (Goes other act ∷ ts) k n l = (l.0 ∙ sym (k other n.0), level_kept read t new raw ts k n.1 l.1)

  each_level : (read : Rows (Doc A)) (ts : List (Turn A)) (t : Table (Doc A)) → Apart ts → Level read t ts → each_turn (item_step w reg space read blocked) ts t ≡ each_turn (λ raw act table. act_step w reg space blocked raw act table) ts t
  unfolding Apart Level each_turn item_step
  each_level read [] t a l = refl
  each_level read (Denied r ∷ ts) t a l = ap (and_then (Refused r)) (each_level read ts t a l)
  each_level read (Goes raw act ∷ ts) t a l =
      let now : item_over w reg space blocked raw act (judge w reg space act (at raw read)) (at raw read) t ≡ act_step w reg space blocked raw act t =
      subst (λ o. item_over w reg space blocked raw act (judge w reg space act o) o t ≡ act_step w reg space blocked raw act t) (sym l.0) (item_is_act raw act t (judge w reg space act (at raw t.rows)) refl) in
      let u : Table (Doc A) = (act_step w reg space blocked raw act t).0 in
      rw now (ap (and_then (act_step w reg space blocked raw act t).1) (each_level read ts u a.1 (level_kept read t u raw ts (step_others raw act t) a.0 l.1)))

abbrev denials : {A : Type 0} → List (Turn A) → List (Answer A)
denials [] = []
denials (Denied r ∷ ts) = Refused r ∷ denials ts
denials (Goes raw act ∷ ts) = denials ts

module _ {A O F : Type 0} (w : Words A O F) (reg : Registry O) where
  all_denials : (f : Stepper A) (ts : List (Turn A)) (t : Table (Doc A)) → all_denied ts ≡ true → each_turn f ts t ≡ (t, denials ts)
  unfolding each_turn
  all_denials f [] t e = refl
  all_denials f (Denied r ∷ ts) t e = ap (and_then (Refused r)) (all_denials f ts t e)
  all_denials f (Goes raw act ∷ ts) t e = absurd (cc)

  all_refusals : (space : Text) (ls : List Look) (one two : Rows (Doc A)) → all_refused ls ≡ true → all_got reg space ls one ≡ all_got reg space ls two
  unfolding all_got
  all_refusals space [] one two e = refl
  all_refusals space (Refuses r ∷ ls) one two e = ap (λ x. Refused r ∷ x) (all_refusals space ls one two e)
  all_refusals space (At t ∷ ls) one two e = absurd (cc)

  -- one outcome on a table
  pub record Same (t : Table (Doc A)) (one two : Outcome A) : Type 0 where
    pub answer : one.1 ≡ two.1
    pub table : then_on one.0 t ≡ then_on two.0 t

  module _ (g : Generation (Doc A)) where
    abbrev Level_work : Work A → Type 0
    Level_work work = Same g.table (called_over w reg work (needs_no_store work) (Some g) (Some g)) (work_step w reg g.blocked g.table work)

    writing_same : (alone : Bool) (space : Text) (ts : List (Turn A)) → Apart ts → Level_work (Writing alone space ts)
    writing_same alone space ts apart = by (all_denied ts) refl
      where
        by : (b : Bool) → all_denied ts ≡ b → Same g.table (called_over w reg (Writing alone space ts) b (Some g) (Some g)) (work_step w reg g.blocked g.table (Writing alone space ts))
        by true e =
            let one = all_denials (item_step w reg space [] false) ts empty_table e in
            let two = all_denials (λ raw act table. act_step w reg space g.blocked raw act table) ts g.table e in
            record { answer = ap (λ x. form alone x.1) one ∙ sym (ap (λ x. form alone x.1) two); table = sym (ap (λ x. x.0) two) }
        by false e =
            let both = each_level w reg space g.blocked g.table.rows ts g.table apart (level_now w reg space g.blocked g.table ts) in
            record { answer = ap (λ x. form alone x.1) both; table = ap (λ x. x.0) both }

    looking_same : (alone : Bool) (space : Text) (ls : List Look) → Level_work (Looking alone space ls)
    looking_same alone space ls = by (all_refused ls) refl
      where
        by : (b : Bool) → all_refused ls ≡ b → Same g.table (called_over w reg (Looking alone space ls) b (Some g) (Some g)) (work_step w reg g.blocked g.table (Looking alone space ls))
        by true e = record { answer = ap (form alone) (all_refusals space ls [] g.table.rows e); table = refl }
        by false e = record { answer = refl; table = refl }

    refusing_same : (r : Refuse) → Level_work (Refusing r)
    refusing_same r = record { answer = refl; table = refl }

    same_unless : (b : Bool) (r : Refuse) (work : Work A) → Level_work work → Level_work (unless b r work)
    same_unless true r work f = refusing_same r
    same_unless false r work f = f

    same_words : (o : Option Refuse) (work : Work A) → Level_work work → Level_work (unless_words o work)
    same_words (Some r) work f = refusing_same r
    same_words None work f = f

    pub one_moment : (call : Call A) → Same g.table (called w reg call (Some g) (Some g)) (call_step w reg g.blocked g.table call)
    unfolding called call_step work_of
    one_moment (Changing space act) = same_unless (bad_space space act) Refuse.BadSpace (Writing true space (turns w reg space [] (act ∷ []))) (writing_same true space (turns w reg space [] (act ∷ [])) (turns_apart w reg space (act ∷ []) []))
    one_moment (BulkCreating space os overwrite time) =
        same_unless (not (is_space space)) Refuse.BadSpace (Writing false space (turns w reg space [] (creates overwrite time os))) (writing_same false space (turns w reg space [] (creates overwrite time os)) (turns_apart w reg space (creates overwrite time os) []))
    one_moment (Getting space t) = same_unless (not (is_space space)) Refuse.BadSpace (Looking true space (looks reg (t ∷ []))) (looking_same true space (looks reg (t ∷ [])))
    one_moment (BulkGetting space ts) = same_unless (not (is_space space)) Refuse.BadSpace (Looking false space (looks reg ts)) (looking_same false space (looks reg ts))
    one_moment (Resolving space q) = same_words (resolve_words reg space q) (Following space q) (record { answer = rw (same_self (at (alias_of space q) g.table.rows)) refl; table = refl })
    one_moment (Finding space f) = same_words (find_words w reg space f) (Searching space f) (record { answer = refl; table = refl })
