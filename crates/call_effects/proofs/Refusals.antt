-- What is refused changes nothing.
use Rattle.std.proofs.Common.{◌≡◌, Bool, true, false, not, Option, Some, None, List, [], ◌∷◌, refl, sym, ◌∙◌, ap, subst}
use mathlib.Core.Logic.◌⊎◌.{inl, inr}
use Rattle.base_model.specs.Keyed.{Text, at}
use Rattle.race_model.specs.Stores.{Cell, Rows, Table}
use Rattle.race_model.specs.Generations.{Generation}
use Rattle.race_tables.proofs.Keys.{same_is}
use Rattle.document_model.specs.Documents.{Doc, lists}
use Rattle.document_model.specs.Registries.{Registry}
use Rattle.call_model.specs.declared.refuse.Refuse.{Refuse}
use Rattle.call_model.specs.Words.{Words}
use Rattle.call_model.specs.Calls.{NewObject, Act, Call, One, Answer}
use Rattle.call_model.specs.Calls.Act.{Create, Update, Delete, Share}
use Rattle.call_model.specs.Calls.Call.{Changing, BulkCreating, Getting, BulkGetting, Resolving, Finding}
use Rattle.call_model.specs.Calls.Answer.{Each, Refused}
use Rattle.call_model.specs.Acts.{Deed, judge, do_deed, act_step, success, dropped_one, bad_space, is_space, own_words, raw_of, target_of}
use Rattle.call_model.specs.Acts.Deed.{Deny, Make, Remake, Drop}
use Rattle.call_model.specs.Steps.{Turn, Stepper, number_of, same_number, where_same, item_over, item_step, turn_over, taken_after, turns, each_turn, all_denied, each_of, form, one_of, creates, looks, find_words, resolve_words, Work, unless, unless_words, work_of, Outcome, needs_no_store, rows_of, called_in, called_over, called}
use Rattle.call_model.specs.Steps.Turn.{Goes}
use Rattle.call_model.specs.Steps.Work.{Writing, Looking, Searching, Following}
use Rattle.call_laws.specs.Meanings.{then_on}
use Rattle.call_effects.specs.Effects.{RefusedAt, AllRefused}
use Rattle.call_laws.proofs.Items.{Sees, judge_sees}
use Rattle.call_laws.proofs.Bulks.{Others}
use Rattle.call_laws.proofs.Moments.{do_others}

module _ {A O F : Type 0} (w : Words A O F) (reg : Registry O) (space : Text) where
  success_not : (raw : Text) (act : Act A) (n : _) (doc : Doc A) (r : Refuse) → success reg raw act n doc ≡ Refused r → ⊥
  success_not raw (Create o overwrite time) n doc r e = cc
  success_not raw (Update c time) n doc r e = cc
  success_not raw (Delete t f) n doc r e = cc
  success_not raw (Share t x y time) n doc r e = cc

  dropped_not : (act : Act A) (r : Refuse) → dropped_one act ≡ Refused r → ⊥
  dropped_not (Create o overwrite time) r e = cc
  dropped_not (Update c time) r e = cc
  dropped_not (Delete t f) r e = cc
  dropped_not (Share t x y time) r e = cc

  deed_refused : (b : Bool) (raw : Text) (act : Act A) (deed : Deed A) (row : Option (Cell (Doc A))) (t : Table (Doc A)) (r : Refuse) → (do_deed reg b raw act deed row t).1 ≡ Refused r → (do_deed reg b raw act deed row t).0 ≡ t
  deed_refused b raw act (Deny q) row t r e = refl
  deed_refused true raw act (Make doc) row t r e = refl
  deed_refused true raw act (Remake m doc) row t r e = refl
  deed_refused true raw act (Drop m) row t r e = refl
  deed_refused false raw act (Make doc) (Some c) t r e = refl
  deed_refused false raw act (Make doc) None t r e = absurd (success_not raw act t.next doc r e)
  deed_refused false raw act (Remake m doc) row t r e = absurd (success_not raw act t.next doc r e)
  deed_refused false raw act (Drop m) row t r e = absurd (dropped_not act r e)

  step_refused : (blocked : Bool) (raw : Text) (act : Act A) (t : Table (Doc A)) (r : Refuse) → (act_step w reg space blocked raw act t).1 ≡ Refused r → (act_step w reg space blocked raw act t).0 ≡ t
  unfolding act_step
  step_refused blocked raw act t r e = deed_refused blocked raw act (judge w reg space act (at raw t.rows)) (at raw t.rows) t r e

  module _ (read : Rows (Doc A)) (blocked : Bool) where
    abbrev step : Stepper A
    step raw act t = item_step w reg space read blocked raw act t

    -- a step, by the deed that the row read gives
    by_same : (b : Bool) (raw : Text) (act : Act A) (seen now : Option _) (t : Table (Doc A)) (r : Refuse) → (where_same w reg space blocked raw act b seen now t).1 ≡ Refused r → (where_same w reg space blocked raw act b seen now t).0 ≡ t
    by_same true raw act seen now t r e = step_refused blocked raw act t r e
    by_same false raw act seen now t r e = refl

    over_refused : (raw : Text) (act : Act A) (deed : Deed A) (seen : Option (Cell (Doc A))) (t : Table (Doc A)) (r : Refuse) → (item_over w reg space blocked raw act deed seen t).1 ≡ Refused r → (item_over w reg space blocked raw act deed seen t).0 ≡ t
    over_refused raw act (Deny q) seen t r e = refl
    over_refused raw act (Make doc) seen t r e = by_same (same_number (number_of seen) (number_of (at raw t.rows))) raw act (number_of seen) (number_of (at raw t.rows)) t r e
    over_refused raw act (Remake m doc) seen t r e = by_same (same_number (number_of seen) (number_of (at raw t.rows))) raw act (number_of seen) (number_of (at raw t.rows)) t r e
    over_refused raw act (Drop m) seen t r e = by_same (same_number (number_of seen) (number_of (at raw t.rows))) raw act (number_of seen) (number_of (at raw t.rows)) t r e

    item_refused : (raw : Text) (act : Act A) (t : Table (Doc A)) (r : Refuse) → (step raw act t).1 ≡ Refused r → (step raw act t).0 ≡ t
    unfolding item_step
    item_refused raw act t r e = over_refused raw act (judge w reg space act (at raw read)) (at raw read) t r e

    others_if : (b : Bool) (raw : Text) (act : Act A) (seen now : Option _) (t : Table (Doc A)) → Others raw t (where_same w reg space blocked raw act b seen now t).0
    unfolding act_step
    others_if true raw act seen now t = do_others w reg space blocked blocked raw act (judge w reg space act (at raw t.rows)) (at raw t.rows) t
    others_if false raw act seen now t = λ other n. refl

    over_others : (raw : Text) (act : Act A) (deed : Deed A) (seen : Option (Cell (Doc A))) (t : Table (Doc A)) → Others raw t (item_over w reg space blocked raw act deed seen t).0
    over_others raw act (Deny q) seen t = λ other n. refl
    over_others raw act (Make doc) seen t = others_if (same_number (number_of seen) (number_of (at raw t.rows))) raw act (number_of seen) (number_of (at raw t.rows)) t
    over_others raw act (Remake m doc) seen t = others_if (same_number (number_of seen) (number_of (at raw t.rows))) raw act (number_of seen) (number_of (at raw t.rows)) t
    over_others raw act (Drop m) seen t = others_if (same_number (number_of seen) (number_of (at raw t.rows))) raw act (number_of seen) (number_of (at raw t.rows)) t

    pub item_others : (raw : Text) (act : Act A) (t : Table (Doc A)) → Others raw t (step raw act t).0
    unfolding item_step
    item_others raw act t = over_others raw act (judge w reg space act (at raw read)) (at raw read) t

    -- a create answers an object or a refusal
    abbrev IsOne : Answer A → Type 0
    IsOne (Answer.Object o) = Unit {0}
    IsOne (Refused r) = Unit {0}
    IsOne _ = ⊥

    create_deed : (b : Bool) (raw : Text) (o : NewObject A) (over : Bool) (time : Option Text) (deed : Deed A) (seen row : Option (Cell (Doc A))) (t : Table (Doc A)) → Sees (Create o over time) seen deed → IsOne (do_deed reg b raw (Create o over time) deed row t).1
    create_deed b raw o over time (Deny q) seen row t s = tt
    create_deed true raw o over time (Make doc) seen row t s = tt
    create_deed true raw o over time (Remake m doc) seen row t s = tt
    create_deed true raw o over time (Drop m) seen row t s = tt
    create_deed false raw o over time (Make doc) seen (Some c) t s = tt
    create_deed false raw o over time (Make doc) seen None t s = tt
    create_deed false raw o over time (Remake m doc) seen row t s = tt
    create_deed false raw o over time (Drop m) seen row t s = let e = s.4 None in absurd (cc)

    create_if : (b : Bool) (raw : Text) (o : NewObject A) (over : Bool) (time : Option Text) (seen now : Option _) (t : Table (Doc A)) → IsOne (where_same w reg space blocked raw (Create o over time) b seen now t).1
    unfolding act_step
    create_if true raw o over time seen now t = create_deed blocked raw o over time (judge w reg space (Create o over time) (at raw t.rows)) (at raw t.rows) (at raw t.rows) t (judge_sees w reg space (Create o over time) (at raw t.rows))
    create_if false raw o over time seen now t = tt

    create_over : (raw : Text) (o : NewObject A) (over : Bool) (time : Option Text) (deed : Deed A) (seen : Option (Cell (Doc A))) (t : Table (Doc A)) → IsOne (item_over w reg space blocked raw (Create o over time) deed seen t).1
    create_over raw o over time (Deny q) seen t = tt
    create_over raw o over time (Make doc) seen t = create_if (same_number (number_of seen) (number_of (at raw t.rows))) raw o over time (number_of seen) (number_of (at raw t.rows)) t
    create_over raw o over time (Remake m doc) seen t = create_if (same_number (number_of seen) (number_of (at raw t.rows))) raw o over time (number_of seen) (number_of (at raw t.rows)) t
    create_over raw o over time (Drop m) seen t = create_if (same_number (number_of seen) (number_of (at raw t.rows))) raw o over time (number_of seen) (number_of (at raw t.rows)) t

    create_one : (raw : Text) (o : NewObject A) (over : Bool) (time : Option Text) (t : Table (Doc A)) → IsOne (step raw (Create o over time) t).1
    unfolding item_step
    create_one raw o over time t = create_over raw o over time (judge w reg space (Create o over time) (at raw read)) (at raw read) t

    one_refused : (a : Answer A) (r : Refuse) → IsOne a → one_of a ≡ One.Refused r → a ≡ Refused r
    one_refused (Answer.Object o) r i e = absurd (cc)
    one_refused (Refused q) r i e = let f : q ≡ r = cc in ap (λ x. Refused x) f
    one_refused (Each os) r i e = absurd i
    one_refused Answer.Deleted r i e = absurd i
    one_refused (Answer.Page os x y z) r i e = absurd i
    one_refused (Answer.Spaces s) r i e = absurd i
    one_refused (Answer.Resolved o m x) r i e = absurd i

    -- the row of a raw id whose items are all refused stays
    row_stays : (raw : Text) (over : Bool) (time : Option Text) (os : List (NewObject A)) (taken : List Text) (t : Table (Doc A)) → RefusedAt reg space raw os (each_of (each_turn step (turns w reg space taken (creates over time os)) t).1)
        → at raw (each_turn step (turns w reg space taken (creates over time os)) t).0.rows ≡ at raw t.rows
    unfolding turns each_turn
    row_stays raw over time [] taken t h = refl
    row_stays raw over time (o ∷ os) taken t h = by (own_words w reg act) (lists other taken) (λ u k. row_stays raw over time os (taken_after (own_words w reg act) other taken) u k) h
      where
        act : Act A
        act = Create o over time

        other : Text
        other = raw_of reg space (target_of act)

        goes : (rest : List (Turn A)) → ((u : Table (Doc A)) → RefusedAt reg space raw os (each_of (each_turn step rest u).1) → at raw (each_turn step rest u).0.rows ≡ at raw u.rows)
            → RefusedAt reg space raw (o ∷ os) (each_of (each_turn step (Goes other act ∷ rest) t).1) → at raw (each_turn step (Goes other act ∷ rest) t).0.rows ≡ at raw t.rows
        goes rest more k = more (step other act t).0 k.1 ∙ elim (same_is raw other) [
          | inl is ↦ (let q = k.0 (sym is.1) in ap (λ (x : Table (Doc A)). at raw x.rows) (item_refused other act t q.0 (one_refused (step other act t).1 q.0 (create_one other o over time t) q.1)))
          | inr apart ↦ item_others other act t raw apart.1
        ]

        by : (words : Option Refuse) (b : Bool) → ((u : Table (Doc A)) → RefusedAt reg space raw os (each_of (each_turn step (turns w reg space (taken_after words other taken) (creates over time os)) u).1) → at raw (each_turn step (turns w reg space (taken_after words other taken) (creates over time os)) u).0.rows ≡ at raw u.rows)
            → RefusedAt reg space raw (o ∷ os) (each_of (each_turn step (turn_over words b other act ∷ turns w reg space (taken_after words other taken) (creates over time os)) t).1)
            → at raw (each_turn step (turn_over words b other act ∷ turns w reg space (taken_after words other taken) (creates over time os)) t).0.rows ≡ at raw t.rows
        by (Some r) b more k = more t k.1
        by None true more k = more t k.1
        by None false more k = goes (turns w reg space (other ∷ taken) (creates over time os)) more k

    -- where every item is refused the table stays
    table_stays : (over : Bool) (time : Option Text) (os : List (NewObject A)) (taken : List Text) (t : Table (Doc A)) → AllRefused (each_of (each_turn step (turns w reg space taken (creates over time os)) t).1)
        → (each_turn step (turns w reg space taken (creates over time os)) t).0 ≡ t
    unfolding turns each_turn
    table_stays over time [] taken t h = refl
    table_stays over time (o ∷ os) taken t h = by (own_words w reg act) (lists other taken) (λ u k. table_stays over time os (taken_after (own_words w reg act) other taken) u k) h
      where
        act : Act A
        act = Create o over time

        other : Text
        other = raw_of reg space (target_of act)

        by : (words : Option Refuse) (b : Bool) → ((u : Table (Doc A)) → AllRefused (each_of (each_turn step (turns w reg space (taken_after words other taken) (creates over time os)) u).1) → (each_turn step (turns w reg space (taken_after words other taken) (creates over time os)) u).0 ≡ u)
            → AllRefused (each_of (each_turn step (turn_over words b other act ∷ turns w reg space (taken_after words other taken) (creates over time os)) t).1)
            → (each_turn step (turn_over words b other act ∷ turns w reg space (taken_after words other taken) (creates over time os)) t).0 ≡ t
        by (Some r) b more k = more t k.1
        by None true more k = more t k.1
        by None false more k = more (step other act t).0 k.1 ∙ item_refused other act t k.0.0 (one_refused (step other act t).1 k.0.0 (create_one other o over time t) k.0.1)

    -- a call of one item
    alone_refused : (act : Act A) (words : Option Refuse) (b : Bool) (raw : Text) (t : Table (Doc A)) (r : Refuse) → form true (each_turn step (turn_over words b raw act ∷ []) t).1 ≡ Refused r → (each_turn step (turn_over words b raw act ∷ []) t).0 ≡ t
    unfolding each_turn
    alone_refused act (Some q) b raw t r e = refl
    alone_refused act None true raw t r e = refl
    alone_refused act None false raw t r e = item_refused raw act t r e

module _ {A O F : Type 0} (w : Words A O F) (reg : Registry O) (read : Option (Generation (Doc A))) (g : Generation (Doc A)) where
  abbrev Quiet : Outcome A → Type 0
  Quiet out = (r : Refuse) → out.1 ≡ Refused r → then_on out.0 g.table ≡ g.table

  quiet_over : (work : Work A) (b : Bool) → Quiet (called_in w reg work (rows_of read) g.blocked g.table) → Quiet (called_over w reg work b read (Some g))
  quiet_over work true q = λ r e. refl
  quiet_over work false q = q

  quiet_work : (work : Work A) → Quiet (called_in w reg work (rows_of read) g.blocked g.table) → Quiet (called_over w reg work (needs_no_store work) read (Some g))
  quiet_work work q = quiet_over work (needs_no_store work) q

  quiet_unless : (b : Bool) (why : Refuse) (work : Work A) → Quiet (called_over w reg work (needs_no_store work) read (Some g)) → Quiet (called_over w reg (unless b why work) (needs_no_store (unless b why work)) read (Some g))
  quiet_unless true why work q = λ r e. refl
  quiet_unless false why work q = q

  quiet_words : (o : Option Refuse) (work : Work A) → Quiet (called_over w reg work (needs_no_store work) read (Some g)) → Quiet (called_over w reg (unless_words o work) (needs_no_store (unless_words o work)) read (Some g))
  quiet_words (Some why) work q = λ r e. refl
  quiet_words None work q = q

  -- a refused call leaves its table as it was
  pub refused_quiet : (call : Call A) → Quiet (called w reg call read (Some g))
  unfolding called work_of turns
  refused_quiet (Changing space act) = quiet_unless (bad_space space act) Refuse.BadSpace (Writing true space (turns w reg space [] (act ∷ []))) (quiet_work (Writing true space (turns w reg space [] (act ∷ []))) (λ r e. alone_refused w reg space (rows_of read) g.blocked act (own_words w reg act) (lists (raw_of reg space (target_of act)) []) (raw_of reg space (target_of act)) g.table r e))
  refused_quiet (BulkCreating space os over time) = quiet_unless (not (is_space space)) Refuse.BadSpace (Writing false space (turns w reg space [] (creates over time os))) (quiet_work (Writing false space (turns w reg space [] (creates over time os))) (λ r e. absurd (cc)))
  refused_quiet (Getting space t) = quiet_unless (not (is_space space)) Refuse.BadSpace (Looking true space (looks reg (t ∷ []))) (quiet_work (Looking true space (looks reg (t ∷ []))) (λ r e. refl))
  refused_quiet (BulkGetting space ts) = quiet_unless (not (is_space space)) Refuse.BadSpace (Looking false space (looks reg ts)) (quiet_work (Looking false space (looks reg ts)) (λ r e. refl))
  refused_quiet (Resolving space q) = quiet_words (resolve_words reg space q) (Following space q) (quiet_work (Following space q) (λ r e. refl))
  refused_quiet (Finding space f) = quiet_words (find_words w reg space f) (Searching space f) (quiet_work (Searching space f) (λ r e. refl))

  -- a bulk, item by item
  module _ (space : Text) (os : List (NewObject A)) (over : Bool) (time : Option Text) where
    abbrev items : List (Turn A)
    items = turns w reg space [] (creates over time os)

    abbrev result : Table (Doc A) × List (Answer A)
    result = each_turn (item_step w reg space (rows_of read) g.blocked) items g.table

    abbrev Bulk : Type 0
    Bulk = (ones : List (One A)) → (called w reg (BulkCreating space os over time) read (Some g)).1 ≡ Each ones →
        ((raw : Text) → RefusedAt reg space raw os ones → at raw (then_on (called w reg (BulkCreating space os over time) read (Some g)).0 g.table).rows ≡ at raw g.table.rows)
        × (AllRefused ones → then_on (called w reg (BulkCreating space os over time) read (Some g)).0 g.table ≡ g.table)

    abbrev Stays : Work A → Bool → List (One A) → Type 0
    Stays work b ones =
        ((raw : Text) → RefusedAt reg space raw os ones → at raw (then_on (called_over w reg work b read (Some g)).0 g.table).rows ≡ at raw g.table.rows)
        × (AllRefused ones → then_on (called_over w reg work b read (Some g)).0 g.table ≡ g.table)

    -- a refused item leaves its row as it was
    pub bulk_quiet : Bulk
    unfolding called work_of
    bulk_quiet ones e = by (not (is_space space)) e
      where
        judged : (denied : Bool) → (called_over w reg (Writing false space items) denied read (Some g)).1 ≡ Each ones → Stays (Writing false space items) denied ones
        judged true e = (λ raw h. refl, λ h. refl)
        judged false e =
            let is : each_of result.1 ≡ ones = cc in (
              λ raw h. row_stays w reg space (rows_of read) g.blocked raw over time os [] g.table (subst (RefusedAt reg space raw os) (sym is) h),
              λ h. table_stays w reg space (rows_of read) g.blocked over time os [] g.table (subst AllRefused (sym is) h),
            )

        by : (bad : Bool) → (called_over w reg (unless bad Refuse.BadSpace (Writing false space items)) (needs_no_store (unless bad Refuse.BadSpace (Writing false space items))) read (Some g)).1 ≡ Each ones
            → Stays (unless bad Refuse.BadSpace (Writing false space items)) (needs_no_store (unless bad Refuse.BadSpace (Writing false space items))) ones
        by true e = (λ raw h. refl, λ h. refl)
        by false e = judged (all_denied items) e

-- without an index nothing is left to change
pub nothing_left : {A O F : Type 0} (w : Words A O F) (reg : Registry O) (read : Option (Generation (Doc A))) (call : Call A) → (called w reg call read None).0 ≡ None
unfolding called
nothing_left w reg read call = by (work_of w reg call) (needs_no_store (work_of w reg call))
  where
    by : (work : Work _) (b : Bool) → (called_over w reg work b read None).0 ≡ None
    by work true = refl
    by work false = refl
