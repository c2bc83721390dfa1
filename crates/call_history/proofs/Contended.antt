-- A call is busy only where somebody else wrote its raw id between its two requests.
use Rattle.std.proofs.Common.{◌≡◌, ◌≢◌, ◌⊎◌, ℕ, Bool, true, false, not, ◌&&◌, Option, Some, None, List, [], ◌∷◌, refl, sym, ◌∙◌, ap, subst, if◌then◌else◌}
use mathlib.Core.Logic.◌⊎◌.{inl, inr}
use Rattle.base_model.specs.Keyed.{Text, same, at}
use Rattle.race_model.specs.Stores.{Cell, Rows, Table, Write, Item, Request, write, write_all, new_over, put_over, delete_over, written, dropped, expected, empty_table}
use Rattle.race_model.specs.Machines.{Settings}
use Rattle.race_model.specs.Generations.{Generation, Generations, of_alias, with_table, written_in, left_by, Move, block_last, install, move}
use Rattle.race_model.specs.Generations.Move.{Stay, Migrate, Install}
use Rattle.race_tables.proofs.Keys.{same_is}
use Rattle.race_history.proofs.Lining.{written_here, written_other}
use Rattle.document_model.specs.Documents.{Doc, lists}
use Rattle.document_model.specs.Registries.{Registry}
use Rattle.query_model.specs.Queries.{Query}
use Rattle.call_model.specs.declared.refuse.Refuse.{Refuse}
use Rattle.call_model.specs.declared.refuse.Refuse.TheVariants.{Busy, BadSpace, UnsupportedType, BadId, BadToken, TooNew}
use Rattle.call_model.specs.Words.{Words}
use Rattle.call_model.specs.Calls.{NewObject, Act, Call, One, Answer}
use Rattle.call_model.specs.Calls.Act.{Create, Update, Delete, Share}
use Rattle.call_model.specs.Calls.Call.{Changing, BulkCreating}
use Rattle.call_model.specs.Calls.Answer.{Each, Refused}
use Rattle.call_model.specs.Acts.{Deed, judge, do_deed, act_step, act_on, on_row, overwriting, spaces_left, success, dropped_one, token_is, is_wide, taken_away, added, or_no_space, updated, created, overwritten, is_seen, bad_space, is_space, own_words, first_of, raw_of, target_of}
use Rattle.call_model.specs.Acts.Deed.{Deny, Make, Remake, Drop}
use Rattle.call_model.specs.Steps.{Turn, Stepper, number_of, same_number, missed, where_same, item_over, item_step, turn_over, taken_after, turns, each_turn, all_denied, each_of, one_of, creates, Work, unless, work_of, needs_no_store, called_over, called}
use Rattle.call_model.specs.Steps.Turn.{Denied, Goes}
use Rattle.call_model.specs.Steps.Work.{Refusing, Writing}
use Rattle.call_laws.proofs.Items.{same_self}
use Rattle.call_laws.proofs.Bulks.{NoneOf, Apart, written_others, dropped_others}
use Rattle.call_laws.proofs.Fates.{turns_apart}
use Rattle.call_effects.proofs.Refusals.{item_others}
use Rattle.call_history.specs.Plans.{Path}
use Rattle.call_history.specs.Claims.{raw_written, OtherRaws, LeavesAlone, Untouched, NeverBusyAt}
use Rattle.call_history.proofs.Growing.{migrate_stays}

-- the row of a raw id that nobody writes

module _ {A : Type 0} (raw : Text) where
  new_other : (o : Option (Cell (Doc A))) (t : Table (Doc A)) (other : Text) (doc : Doc A) → raw ≢ other → at raw (new_over o t other doc).0.rows ≡ at raw t.rows
  new_other None t other doc n = written_others t other doc raw n
  new_other (Some c) t other doc n = refl

  row_if : (b : Bool) (t : Table (Doc A)) (x y : Table (Doc A) × Item) → at raw x.0.rows ≡ at raw t.rows → at raw y.0.rows ≡ at raw t.rows → at raw (if b then x else y).0.rows ≡ at raw t.rows
  row_if true t x y p q = p
  row_if false t x y p q = q

  put_other : (o : Option (Cell (Doc A))) (t : Table (Doc A)) (other : Text) (doc : Doc A) (expect : Option ℕ) → raw ≢ other → at raw (put_over o t other doc expect).0.rows ≡ at raw t.rows
  put_other None t other doc None n = written_others t other doc raw n
  put_other None t other doc (Some s) n = refl
  put_other (Some c) t other doc expect n = row_if (expected expect c.seq) t (written t other doc, Item.Written t.next) (t, Item.Conflict (Some c.seq)) (written_others t other doc raw n) refl

  delete_other : (o : Option (Cell (Doc A))) (t : Table (Doc A)) (other : Text) (expect : Option ℕ) → raw ≢ other → at raw (delete_over o t other expect).0.rows ≡ at raw t.rows
  delete_other None t other expect n = refl
  delete_other (Some c) t other expect n = row_if (expected expect c.seq) t (dropped t other, Item.Written t.next) (t, Item.Conflict (Some c.seq)) (dropped_others t other raw n) refl

  write_other : (t : Table (Doc A)) (x : Write (Doc A)) → raw ≢ raw_written x → at raw (write t x).0.rows ≡ at raw t.rows
  unfolding write
  write_other t (Write.Create other doc) n = new_other (at other t.rows) t other doc n
  write_other t (Write.Put other doc expect) n = put_other (at other t.rows) t other doc expect n
  write_other t (Write.Delete other expect) n = delete_other (at other t.rows) t other expect n

  writes_other : (writes : List (Write (Doc A))) (t : Table (Doc A)) → OtherRaws raw writes → at raw (write_all t writes).rows ≡ at raw t.rows
  unfolding write_all OtherRaws
  writes_other [] t o = refl
  writes_other (x ∷ writes) t o = writes_other writes (write t x).0 o.1 ∙ write_other t x o.0

  -- the generation is there, with that row
  record Row (later : Generations (Doc A)) (name : Text) (g : Generation (Doc A)) : Type 0 where
    now : Generation (Doc A)
    is : of_alias name later ≡ Some now
    row : at raw now.table.rows ≡ at raw g.table.rows

  block_row : (gs : Generations (Doc A)) (name : Text) (g : Generation (Doc A)) → of_alias name gs ≡ Some g → Row (block_last gs) name g
  unfolding of_alias block_last
  block_row [] name g e = absurd (cc)
  block_row (x ∷ []) name g e = by (same name x.alias) refl e
    where
      new : Generation (Doc A)
      new = record { alias = x.alias; index = x.index; blocked = true; table = x.table }

      by : (b : Bool) → same name x.alias ≡ b → (if b then Some x else None) ≡ Some g → Row (new ∷ []) name g
      by true s f = let is : x ≡ g = cc in record { now = new; is = rw s refl; row = ap (λ (z : Generation (Doc A)). at raw z.table.rows) is }
      by false s f = absurd (cc)
  block_row (x ∷ y ∷ gs) name g e = by (same name x.alias) refl (block_row (y ∷ gs) name g) e
    where
      by : (b : Bool) → same name x.alias ≡ b → (of_alias name (y ∷ gs) ≡ Some g → Row (block_last (y ∷ gs)) name g) → (if b then Some x else of_alias name (y ∷ gs)) ≡ Some g → Row (x ∷ block_last (y ∷ gs)) name g
      by true s k f = record { now = g; is = rw s f; row = refl }
      by false s k f = let z = k f in record { now = z.now; is = rw s z.is; row = z.row }

  bulk_row : (n : Text) (writes : List (Write (Doc A))) (gs : Generations (Doc A)) (name : Text) (g : Generation (Doc A)) → (n ≡ name → OtherRaws raw writes) → of_alias name gs ≡ Some g → Row (written_in n writes gs) name g
  bulk_row n writes gs name g k e = elim (same_is name n) [
    | inl s ↦ (let f : of_alias n gs ≡ Some g = subst (λ x. of_alias x gs ≡ Some g) s.1 e in
        record { now = with_table g.blocked g writes; is = subst (λ x. of_alias x (written_in n writes gs) ≡ Some (with_table g.blocked g writes)) (sym s.1) (written_here n writes gs g f); row = by g.blocked (k (sym s.1)) })
    | inr s ↦ record { now = g; is = written_other n writes gs name s.1 ∙ e; row = refl }
  ]
    where
      by : (b : Bool) → OtherRaws raw writes → at raw (with_table b g writes).table.rows ≡ at raw g.table.rows
      by true h = refl
      by false h = writes_other writes g.table h

  asked_row : {F : Type 0} (gs : Generations (Doc A)) (ask : Request (Doc A) (Query F)) (name : Text) (g : Generation (Doc A)) → LeavesAlone name raw (Move.Ask ask) → of_alias name gs ≡ Some g → Row (left_by gs ask) name g
  unfolding left_by
  asked_row gs Request.Ping name g k e = record { now = g; is = e; row = refl }
  asked_row gs Request.State name g k e = record { now = g; is = e; row = refl }
  asked_row gs (Request.Create n from) name g k e = record { now = g; is = e; row = refl }
  asked_row gs (Request.Block n) name g k e = record { now = g; is = e; row = refl }
  asked_row gs (Request.Clone n m) name g k e = record { now = g; is = e; row = refl }
  asked_row gs (Request.OpenPit n) name g k e = record { now = g; is = e; row = refl }
  asked_row gs (Request.ReadPit p q) name g k e = record { now = g; is = e; row = refl }
  asked_row gs (Request.ClosePit p) name g k e = record { now = g; is = e; row = refl }
  asked_row gs (Request.Get n raws) name g k e = record { now = g; is = e; row = refl }
  asked_row gs (Request.Search n q) name g k e = record { now = g; is = e; row = refl }
  asked_row gs (Request.Bulk n writes) name g k e = bulk_row n writes gs name g k e
  asked_row gs (Request.Aliases actions) name g k e = record { now = g; is = e; row = refl }

  install_row : {F : Type 0} (v : Settings (Doc A) (Query F)) (gs : Generations (Doc A)) (name : Text) (g : Generation (Doc A)) → of_alias name gs ≡ Some g → Row (install v gs) name g
  unfolding of_alias
  install_row v [] name g e = absurd (cc)
  install_row v (x ∷ gs) name g e = record { now = g; is = e; row = refl }

  move_row : {F : Type 0} (gs : Generations (Doc A)) (m : Move (Doc A) (Query F)) (name : Text) (g : Generation (Doc A)) → LeavesAlone name raw m → of_alias name gs ≡ Some g → Row (move gs m) name g
  move_row gs Stay name g k e = record { now = g; is = e; row = refl }
  move_row gs Move.Block name g k e = block_row gs name g e
  move_row gs (Migrate v) name g k e = record { now = g; is = migrate_stays v gs name g e; row = refl }
  move_row gs (Install v) name g k e = install_row v gs name g e
  move_row gs (Move.Ask ask) name g k e = asked_row gs ask name g k e

  path_row : {F : Type 0} (settings : ℕ → Settings (Doc A) (Query F)) (ms : List (Move (Doc A) (Query F))) (gs later : Generations (Doc A)) (name : Text) (g : Generation (Doc A)) → Path settings gs ms later → Untouched name raw ms → of_alias name gs ≡ Some g → Row later name g
  unfolding Path Untouched
  path_row settings [] gs later name g p u e = record { now = g; is = subst (λ x. of_alias name x ≡ Some g) p e; row = refl }
  path_row settings (m ∷ ms) gs later name g p u e =
      let a : Row (move gs m) name g = move_row gs m name g u.0 e in
      let b : Row later name a.now = path_row settings ms (move gs m) later name a.now p.1 u.1 a.is in
      record { now = b.now; is = b.is; row = b.row ∙ a.row }

  pub untouched_row : {F : Type 0} (settings : ℕ → Settings (Doc A) (Query F)) (ms : List (Move (Doc A) (Query F))) (gs later : Generations (Doc A)) (name : Text) (g h : Generation (Doc A)) → Path settings gs ms later → Untouched name raw ms → of_alias name gs ≡ Some g → of_alias name later ≡ Some h
      → at raw g.table.rows ≡ at raw h.table.rows
  untouched_row settings ms gs later name g h p u e f =
      let r : Row later name g = path_row settings ms gs later name g p u e in
      let both : Some r.now ≡ Some h = sym r.is ∙ f in
      let one : r.now ≡ h = cc in
      sym (subst (λ (z : Generation (Doc A)). at raw z.table.rows ≡ at raw g.table.rows) one r.row)

-- an item whose row is as it was read isn't busy

abbrev NotBusy : Refuse → Type 0
NotBusy r = (a b : Option ℕ) → r ≢ Busy a b

abbrev pub NotBusyAnswer : {A : Type 0} → Answer A → Type 0
NotBusyAnswer x = (a b : Option ℕ) → x ≢ Refused (Busy a b)

abbrev NotBusyDeed : {A : Type 0} → Deed A → Type 0
NotBusyDeed (Deny r) = NotBusy r
NotBusyDeed _ = Unit {0}

refused_not : {A : Type 0} (r : Refuse) → NotBusy r → NotBusyAnswer {A = A} (Refused r)
refused_not r n a b e = let f : r ≡ Busy a b = cc in n a b f

-- the first of three refusals
three : (a b c : Bool) (x y z r : Refuse) → NotBusy x → NotBusy y → NotBusy z → first_of ((a, x) ∷ (b, y) ∷ (c, z) ∷ []) ≡ Some r → NotBusy r
three true b c x y z r p q s e = let f : x ≡ r = cc in subst NotBusy f p
three false true c x y z r p q s e = let f : y ≡ r = cc in subst NotBusy f q
three false false true x y z r p q s e = let f : z ≡ r = cc in subst NotBusy f s
three false false false x y z r p q s e = absurd (cc)

two_three : (a b : Bool) (r : Refuse) → first_of ((a, UnsupportedType) ∷ (b, BadId) ∷ []) ≡ Some r → first_of ((a, UnsupportedType) ∷ (b, BadId) ∷ (false, BadId) ∷ []) ≡ Some r
two_three true b r e = e
two_three false true r e = e
two_three false false r e = absurd (cc)

module _ {A O F : Type 0} (w : Words A O F) (reg : Registry O) (space : Text) where
  busy_if : (b : Bool) (x y : Deed A) → NotBusyDeed x → NotBusyDeed y → NotBusyDeed (if b then x else y)
  busy_if true x y p q = p
  busy_if false x y p q = q

  conflict_not : NotBusy Refuse.Conflict
  conflict_not a b e = cc

  left_not : (seq : ℕ) (doc : Doc A) (time : Option Text) (spaces : List Text) → NotBusyDeed (spaces_left seq doc time spaces)
  left_not seq doc time [] = tt
  left_not seq doc time (s ∷ spaces) = tt

  act_not : (act : Act A) (seq : ℕ) (doc : Doc A) → NotBusyDeed (act_on w act seq doc)
  act_not (Create o over time) seq doc = conflict_not
  act_not (Update c time) seq doc = busy_if (token_is w c.token seq) (Remake seq (updated w c time doc)) (Deny Refuse.Conflict) tt conflict_not
  act_not (Delete t f) seq doc = busy_if (is_wide doc.namespaces && not f) (Deny Refuse.NeedsForce) (Drop seq) (λ a b e. cc) tt
  act_not (Share t x y time) seq doc = left_not seq doc time (taken_away y (added x (or_no_space doc.namespaces)))

  row_not : (act : Act A) (row : Option (Cell (Doc A))) → NotBusyDeed (on_row w reg space act row)
  row_not act None = λ a b e. cc
  row_not act (Some c) = busy_if (is_seen reg space (target_of act).type_name c.doc) (act_on w act c.seq c.doc) (Deny Refuse.NotFound) (act_not act c.seq c.doc) (λ a b e. cc)

  judge_not : (act : Act A) (row : Option (Cell (Doc A))) → NotBusyDeed (judge w reg space act row)
  unfolding judge
  judge_not (Create o false time) row = tt
  judge_not (Create o true time) None = tt
  judge_not (Create o true time) (Some c) = busy_if (is_seen reg space o.type_name c.doc) (Remake c.seq (overwritten (created w reg space o time) c.doc)) (Deny Refuse.Conflict) tt conflict_not
  judge_not (Update c time) row = row_not (Update c time) row
  judge_not (Delete t f) row = row_not (Delete t f) row
  judge_not (Share t x y time) row = row_not (Share t x y time) row

  success_not : (raw : Text) (act : Act A) (n : ℕ) (doc : Doc A) → NotBusyAnswer (success reg raw act n doc)
  success_not raw (Create o over time) n doc a b e = cc
  success_not raw (Update c time) n doc a b e = cc
  success_not raw (Delete t f) n doc a b e = cc
  success_not raw (Share t x y time) n doc a b e = cc

  dropped_not : (act : Act A) → NotBusyAnswer (dropped_one act)
  dropped_not (Create o over time) a b e = cc
  dropped_not (Update c time) a b e = cc
  dropped_not (Delete t f) a b e = cc
  dropped_not (Share t x y time) a b e = cc

  do_not : (blocked : Bool) (raw : Text) (act : Act A) (deed : Deed A) (row : Option (Cell (Doc A))) (t : Table (Doc A)) → NotBusyDeed deed → NotBusyAnswer (do_deed reg blocked raw act deed row t).1
  do_not blocked raw act (Deny r) row t n = refused_not r n
  do_not true raw act (Make doc) row t n = λ a b e. cc
  do_not true raw act (Remake m doc) row t n = λ a b e. cc
  do_not true raw act (Drop m) row t n = λ a b e. cc
  do_not false raw act (Make doc) (Some c) t n = λ a b e. cc
  do_not false raw act (Make doc) None t n = success_not raw act t.next doc
  do_not false raw act (Remake m doc) row t n = success_not raw act t.next doc
  do_not false raw act (Drop m) row t n = dropped_not act

  module _ (read : Rows (Doc A)) (blocked : Bool) where
    same_not : (raw : Text) (act : Act A) (seen : Option (Cell (Doc A))) (t : Table (Doc A)) → seen ≡ at raw t.rows → NotBusyAnswer (where_same w reg space blocked raw act (same_number (number_of seen) (number_of (at raw t.rows))) (number_of seen) (number_of (at raw t.rows)) t).1
    unfolding act_step
    same_not raw act seen t e =
        subst (λ x. NotBusyAnswer (where_same w reg space blocked raw act (same_number (number_of x) (number_of (at raw t.rows))) (number_of x) (number_of (at raw t.rows)) t).1) (sym e)
        (subst (λ b. NotBusyAnswer (where_same w reg space blocked raw act b (number_of (at raw t.rows)) (number_of (at raw t.rows)) t).1) (sym (same_self (at raw t.rows)))
        (do_not blocked raw act (judge w reg space act (at raw t.rows)) (at raw t.rows) t (judge_not act (at raw t.rows))))

    over_not : (raw : Text) (act : Act A) (deed : Deed A) (seen : Option (Cell (Doc A))) (t : Table (Doc A)) → NotBusyDeed deed → seen ≡ at raw t.rows → NotBusyAnswer (item_over w reg space blocked raw act deed seen t).1
    over_not raw act (Deny r) seen t n e = refused_not r n
    over_not raw act (Make doc) seen t n e = same_not raw act seen t e
    over_not raw act (Remake m doc) seen t n e = same_not raw act seen t e
    over_not raw act (Drop m) seen t n e = same_not raw act seen t e

    abbrev step : Stepper A
    step raw act t = item_step w reg space read blocked raw act t

    item_not : (raw : Text) (act : Act A) (t : Table (Doc A)) → at raw read ≡ at raw t.rows → NotBusyAnswer (step raw act t).1
    unfolding item_step
    item_not raw act t e = over_not raw act (judge w reg space act (at raw read)) (at raw read) t (judge_not act (at raw read)) e

    words_not : (act : Act A) (r : Refuse) → own_words w reg act ≡ Some r → NotBusy r
    unfolding own_words
    words_not (Create o over time) r e = three _ _ _ UnsupportedType BadId TooNew r (λ a b f. cc) (λ a b f. cc) (λ a b f. cc) e
    words_not (Update c time) r e = three _ _ _ UnsupportedType BadId BadToken r (λ a b f. cc) (λ a b f. cc) (λ a b f. cc) e
    words_not (Delete t f) r e = three _ _ false UnsupportedType BadId BadId r (λ a b g. cc) (λ a b g. cc) (λ a b g. cc) (two_three _ _ r e)
    words_not (Share t x y time) r e = three _ _ false UnsupportedType BadId BadId r (λ a b g. cc) (λ a b g. cc) (λ a b g. cc) (two_three _ _ r e)

    turn_not : (act : Act A) (o : Option Refuse) → own_words w reg act ≡ o → (b : Bool) (raw : Text) (t : Table (Doc A)) → at raw read ≡ at raw t.rows → NotBusyAnswer (Rattle.call_model.specs.Steps.form true (each_turn step (turn_over o b raw act ∷ []) t).1)
    unfolding each_turn
    turn_not act (Some r) e b raw t same = refused_not r (words_not act r e)
    turn_not act None e true raw t same = λ a c f. cc
    turn_not act None e false raw t same = item_not raw act t same

    -- an item of a bulk
    one_not : (x : Answer A) → NotBusyAnswer x → (a b : Option ℕ) → one_of x ≢ One.Refused (Busy a b)
    one_not (Answer.Object o) n a b e = cc
    one_not (Refused r) n a b e = let f : r ≡ Busy a b = cc in n a b (ap (λ z. Refused z) f)
    one_not (Each os) n a b e = cc
    one_not Answer.Deleted n a b e = cc
    one_not (Answer.Page os x y z) n a b e = cc
    one_not (Answer.Spaces s) n a b e = cc
    one_not (Answer.Resolved o m x) n a b e = cc

    -- no item of this raw id is left
    none_busy : (raw : Text) (over : Bool) (time : Option Text) (os : List (NewObject A)) (taken : List Text) (t : Table (Doc A)) → NoneOf raw (turns w reg space taken (creates over time os)) → NeverBusyAt reg space raw os (each_of (each_turn step (turns w reg space taken (creates over time os)) t).1)
    unfolding turns each_turn NoneOf
    none_busy raw over time [] taken t n = tt
    none_busy raw over time (o ∷ os) taken t n = by (own_words w reg act) refl (lists other taken) (λ u k. none_busy raw over time os (taken_after (own_words w reg act) other taken) u k) n
      where
        act : Act A
        act = Create o over time

        other : Text
        other = raw_of reg space (target_of act)

        by : (words : Option Refuse) → own_words w reg act ≡ words → (b : Bool) → ((u : Table (Doc A)) → NoneOf raw (turns w reg space (taken_after words other taken) (creates over time os)) → NeverBusyAt reg space raw os (each_of (each_turn step (turns w reg space (taken_after words other taken) (creates over time os)) u).1))
            → NoneOf raw (turn_over words b other act ∷ turns w reg space (taken_after words other taken) (creates over time os))
            → NeverBusyAt reg space raw (o ∷ os) (each_of (each_turn step (turn_over words b other act ∷ turns w reg space (taken_after words other taken) (creates over time os)) t).1)
        by (Some r) e b more k = (λ s a c. one_not (Refused r) (refused_not r (words_not act r e)) a c, more t k)
        by None e true more k = (λ s a c. one_not (Refused Refuse.Conflict) (refused_not Refuse.Conflict conflict_not) a c, more t k)
        by None e false more k = (λ s. absurd (k.0 s), more (step other act t).0 k.1)

    bulk_busy : (raw : Text) (over : Bool) (time : Option Text) (os : List (NewObject A)) (taken : List Text) (t : Table (Doc A)) → Apart (turns w reg space taken (creates over time os)) → at raw read ≡ at raw t.rows → NeverBusyAt reg space raw os (each_of (each_turn step (turns w reg space taken (creates over time os)) t).1)
    unfolding turns each_turn Apart
    bulk_busy raw over time [] taken t apart same = tt
    bulk_busy raw over time (o ∷ os) taken t apart same = by (own_words w reg act) refl (lists other taken) (λ u k s. bulk_busy raw over time os (taken_after (own_words w reg act) other taken) u k s) (λ u k. none_busy raw over time os (taken_after (own_words w reg act) other taken) u k) apart
      where
        act : Act A
        act = Create o over time

        other : Text
        other = raw_of reg space (target_of act)

        by : (words : Option Refuse) → own_words w reg act ≡ words → (b : Bool)
            → ((u : Table (Doc A)) → Apart (turns w reg space (taken_after words other taken) (creates over time os)) → at raw read ≡ at raw u.rows → NeverBusyAt reg space raw os (each_of (each_turn step (turns w reg space (taken_after words other taken) (creates over time os)) u).1))
            → ((u : Table (Doc A)) → NoneOf raw (turns w reg space (taken_after words other taken) (creates over time os)) → NeverBusyAt reg space raw os (each_of (each_turn step (turns w reg space (taken_after words other taken) (creates over time os)) u).1))
            → Apart (turn_over words b other act ∷ turns w reg space (taken_after words other taken) (creates over time os))
            → NeverBusyAt reg space raw (o ∷ os) (each_of (each_turn step (turn_over words b other act ∷ turns w reg space (taken_after words other taken) (creates over time os)) t).1)
        by (Some r) e b more none k = (λ s a c. one_not (Refused r) (refused_not r (words_not act r e)) a c, more t k same)
        by None e true more none k = (λ s a c. one_not (Refused Refuse.Conflict) (refused_not Refuse.Conflict conflict_not) a c, more t k same)
        by None e false more none k = elim (same_is raw other) [
          | inl is ↦ (
            λ s a c. one_not (step other act t).1 (item_not other act t (subst (λ x. at x read ≡ at x t.rows) is.1 same)) a c,
            none (step other act t).0 (subst (λ x. NoneOf x (turns w reg space (other ∷ taken) (creates over time os))) (sym is.1) k.0),
          )
          | inr n ↦ (
            λ s. absurd (n.1 (sym s)),
            more (step other act t).0 k.1 (same ∙ sym (item_others w reg space read blocked other act t raw n.1)),
          )
        ]

module _ {A O F : Type 0} (w : Words A O F) (reg : Registry O) (space : Text) (seen now : Generation (Doc A)) where
  pub change_not : (act : Act A) → at (raw_of reg space (target_of act)) seen.table.rows ≡ at (raw_of reg space (target_of act)) now.table.rows → NotBusyAnswer (called w reg (Changing space act) (Some seen) (Some now)).1
  unfolding called work_of turns
  change_not act same = by (bad_space space act)
    where
      ts : List (Turn A)
      ts = turn_over (own_words w reg act) (lists (raw_of reg space (target_of act)) []) (raw_of reg space (target_of act)) act ∷ []

      one : (b : Bool) → NotBusyAnswer (called_over w reg (Writing true space ts) b (Some seen) (Some now)).1
      one true = denied (own_words w reg act) refl (lists (raw_of reg space (target_of act)) [])
        where
          denied : (o : Option Refuse) → own_words w reg act ≡ o → (b : Bool) → NotBusyAnswer (Rattle.call_model.specs.Steps.form true (each_turn (item_step w reg space [] false) (turn_over o b (raw_of reg space (target_of act)) act ∷ []) empty_table).1)
          denied o e b = turn_not w reg space [] false act o e b (raw_of reg space (target_of act)) empty_table refl
      one false = turn_not w reg space seen.table.rows now.blocked act (own_words w reg act) refl (lists (raw_of reg space (target_of act)) []) (raw_of reg space (target_of act)) now.table same

      by : (bad : Bool) → NotBusyAnswer (called_over w reg (unless bad BadSpace (Writing true space ts)) (needs_no_store (unless bad BadSpace (Writing true space ts))) (Some seen) (Some now)).1
      by true = λ a b e. cc
      by false = one (all_denied ts)

  pub items_not : (raw : Text) (os : List (NewObject A)) (over : Bool) (time : Option Text) (ones : List (One A)) → at raw seen.table.rows ≡ at raw now.table.rows → (called w reg (BulkCreating space os over time) (Some seen) (Some now)).1 ≡ Each ones → NeverBusyAt reg space raw os ones
  unfolding called work_of
  items_not raw os over time ones same e = by (not (is_space space)) e
    where
      ts : List (Turn A)
      ts = turns w reg space [] (creates over time os)

      judged : (b : Bool) → (called_over w reg (Writing false space ts) b (Some seen) (Some now)).1 ≡ Each ones → NeverBusyAt reg space raw os ones
      judged true f =
          let is : each_of (each_turn (item_step w reg space [] false) ts empty_table).1 ≡ ones = cc in
          subst (NeverBusyAt reg space raw os) is (bulk_busy w reg space [] false raw over time os [] empty_table (turns_apart w reg space (creates over time os) []) refl)
      judged false f =
          let is : each_of (each_turn (item_step w reg space seen.table.rows now.blocked) ts now.table).1 ≡ ones = cc in
          subst (NeverBusyAt reg space raw os) is (bulk_busy w reg space seen.table.rows now.blocked raw over time os [] now.table (turns_apart w reg space (creates over time os) []) same)

      by : (bad : Bool) → (called_over w reg (unless bad BadSpace (Writing false space ts)) (needs_no_store (unless bad BadSpace (Writing false space ts))) (Some seen) (Some now)).1 ≡ Each ones → NeverBusyAt reg space raw os ones
      by true f = absurd (cc)
      by false f = judged (all_denied ts) f
