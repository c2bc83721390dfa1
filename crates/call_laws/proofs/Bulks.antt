-- The items of a bulk: all writes at once are what the items mean one by one.
use Rattle.std.proofs.Common.{◌≡◌, ◌≢◌, ℕ, Bool, true, false, Option, Some, None, List, [], ◌∷◌, refl, sym, ap, subst, ◌==◌, if◌then◌else◌}
use Rattle.base_model.specs.Keyed.{Text, at}
use Rattle.race_model.specs.Stores.{Cell, Rows, Table, Item, write, write_all, items_of, written, dropped, expected, found, found_one, new_over, put_over, delete_over}
use Rattle.race_tables.proofs.Keys.{at_put_other, at_without_other}
use Rattle.document_model.specs.Documents.{Doc}
use Rattle.document_model.specs.Registries.{Registry}
use Rattle.call_model.specs.Words.{Words}
use Rattle.call_model.specs.Calls.{Act, Answer}
use Rattle.call_model.specs.Calls.Act.{Create, Update, Delete, Share}
use Rattle.call_model.specs.declared.refuse.Refuse.TheVariants.{WriteBlocked}
use Rattle.call_model.specs.Calls.Answer.{Refused}
use Rattle.call_model.specs.Acts.{Deed, judge}
use Rattle.call_model.specs.Acts.Deed.{Deny, Make, Remake, Drop}
use Rattle.call_model.specs.Steps.{Turn, Stepper, and_then, each_turn, item_over, item_step}
use Rattle.call_model.specs.Steps.Turn.{Denied, Goes}
use Rattle.call_model.specs.Plans.{Ready, ready_over, cell_of, readied, raws_of, write_of, writes_of, told, answers, blocked_answers, is_blind, all_blind}
use Rattle.call_model.specs.Plans.Ready.{Settled, Sends}
use Rattle.call_laws.proofs.Items.{SameRow, IsWrite, open_item, blocked_item}

-- no item left to judge has the raw id
unfoldable pub NoneOf : {A : Type 0} → Text → List (Turn A) → Type 0
NoneOf raw [] = Unit {0}
NoneOf raw (Denied r ∷ ts) = NoneOf raw ts
NoneOf raw (Goes other act ∷ ts) = (other ≢ raw) × NoneOf raw ts

-- the items left to judge have different raw ids
unfoldable pub Apart : {A : Type 0} → List (Turn A) → Type 0
Apart [] = Unit {0}
Apart (Denied r ∷ ts) = Apart ts
Apart (Goes raw act ∷ ts) = NoneOf raw ts × Apart ts

-- for each item, rows of one number are one; a create that reads nothing meets the table of its read
unfoldable pub Stand : {A : Type 0} → Rows (Doc A) → Table (Doc A) → List (Turn A) → Type 0
Stand read t [] = Unit {0}
Stand read t (Denied r ∷ ts) = Stand read t ts
Stand read t (Goes raw act ∷ ts) = SameRow (at raw read) (at raw t.rows) × (is_blind act ≡ true → at raw read ≡ at raw t.rows) × Stand read t ts

-- all raw ids but one have the same rows
abbrev pub Others : {D : Type 0} → Text → (t new : Table D) → Type 0
Others raw t new = (other : Text) → other ≢ raw → at other new.rows ≡ at other t.rows

if_others : {D : Type 0} (raw : Text) (t : Table D) (b : Bool) (x y : Table D × Item) → Others raw t x.0 → Others raw t y.0 → Others raw t (if b then x else y).0
if_others raw t true x y p q = p
if_others raw t false x y p q = q

pub written_others : {D : Type 0} (t : Table D) (raw : Text) (doc : D) → Others raw t (written t raw doc)
written_others t raw doc other n = at_put_other other raw (record { seq = t.next; doc = doc }) t.rows n

pub dropped_others : {D : Type 0} (t : Table D) (raw : Text) → Others raw t (dropped t raw)
dropped_others t raw other n = at_without_other other raw t.rows n

new_others : {D : Type 0} (o : Option (Cell D)) (t : Table D) (raw : Text) (doc : D) → Others raw t (new_over o t raw doc).0
new_others None t raw doc = written_others t raw doc
new_others (Some c) t raw doc = λ other n. refl

put_others : {D : Type 0} (o : Option (Cell D)) (t : Table D) (raw : Text) (doc : D) (s : ℕ) → Others raw t (put_over o t raw doc (Some s)).0
put_others None t raw doc s = λ other n. refl
put_others (Some c) t raw doc s = if_others raw t (s == c.seq) (written t raw doc, Item.Written t.next) (t, Item.Conflict (Some c.seq)) (written_others t raw doc) (λ other n. refl)

drop_others : {D : Type 0} (o : Option (Cell D)) (t : Table D) (raw : Text) (s : Option ℕ) → Others raw t (delete_over o t raw s).0
drop_others None t raw s = λ other n. refl
drop_others (Some c) t raw s = if_others raw t (expected s c.seq) (dropped t raw, Item.Written t.next) (t, Item.Conflict (Some c.seq)) (dropped_others t raw) (λ other n. refl)

pub write_others : {A : Type 0} (t : Table (Doc A)) (raw : Text) (deed : Deed A) → Others raw t (write t (write_of raw deed)).0
unfolding write
write_others t raw (Make doc) = new_others (at raw t.rows) t raw doc
write_others t raw (Remake s doc) = put_others (at raw t.rows) t raw doc s
write_others t raw (Drop s) = drop_others (at raw t.rows) t raw (Some s)
write_others t raw (Deny r) = drop_others (at raw t.rows) t raw None

pub stand_kept : {A : Type 0} (read : Rows (Doc A)) (t new : Table (Doc A)) (raw : Text) (ts : List (Turn A)) → Others raw t new → NoneOf raw ts → Stand read t ts → Stand read new ts
unfolding NoneOf Stand
stand_kept read t new raw [] k n s = tt
stand_kept read t new raw (Denied r ∷ ts) k n s = stand_kept read t new raw ts k n s
stand_kept read t new raw (Goes other act ∷ ts) k n s =
    let e : at other t.rows ≡ at other new.rows = sym (k other n.0) in (
      subst (λ x. SameRow (at other read) x) e s.0,
      subst (λ x. is_blind act ≡ true → at other read ≡ x) e s.1,
      stand_kept read t new raw ts k n.1 s.2,
    )

module _ {A O F : Type 0} (w : Words A O F) (reg : Registry O) (space : Text) where
  abbrev pub ready_by : Rows (Doc A) → List (Turn A) → List (Ready A)
  ready_by read [] = []
  ready_by read (Denied r ∷ ts) = Settled r ∷ ready_by read ts
  ready_by read (Goes raw act ∷ ts) = ready_over raw act (judge w reg space act (at raw read)) ∷ ready_by read ts

  found_cell : (o : Option (Cell (Doc A))) (raw : Text) → cell_of (found_one o raw) ≡ o
  found_cell None raw = refl
  found_cell (Some c) raw = refl

  pub readied_found : (read : Rows (Doc A)) (ts : List (Turn A)) → readied w reg space ts (found read (raws_of ts)) ≡ ready_by read ts
  unfolding readied
  readied_found read [] = refl
  readied_found read (Denied r ∷ ts) = ap (λ x. Settled r ∷ x) (readied_found read ts)
  readied_found read (Goes raw act ∷ ts) = rw (found_cell (at raw read) raw, readied_found read ts) refl

  blind_judge : (act : Act A) (a b : Option (Cell (Doc A))) → is_blind act ≡ true → judge w reg space act a ≡ judge w reg space act b
  unfolding judge
  blind_judge (Create o false time) a b e = refl
  blind_judge (Create o true time) a b e = absurd (cc)
  blind_judge (Update c time) a b e = absurd (cc)
  blind_judge (Delete t f) a b e = absurd (cc)
  blind_judge (Share t x y time) a b e = absurd (cc)

  pub readied_blind : (read : Rows (Doc A)) (ts : List (Turn A)) → all_blind ts ≡ true → readied w reg space ts [] ≡ ready_by read ts
  unfolding readied
  readied_blind read [] b = refl
  readied_blind read (Denied r ∷ ts) b = ap (λ x. Settled r ∷ x) (readied_blind read ts b)
  readied_blind read (Goes raw act ∷ ts) b = by (is_blind act) refl b (λ x. readied_blind read ts x)
    where
      by : (t : Bool) → is_blind act ≡ t → (if t then all_blind ts else false) ≡ true → (all_blind ts ≡ true → readied w reg space ts [] ≡ ready_by read ts) → (ready_over raw act (judge w reg space act None) ∷ readied w reg space ts []) ≡ ready_by read (Goes raw act ∷ ts)
      by true e b h = rw (blind_judge act None (at raw read) e, h b) refl
      by false e b h = absurd (cc)

  step : Rows (Doc A) → Bool → Stepper A
  step read blocked raw act t = item_over w reg space blocked raw act (judge w reg space act (at raw read)) (at raw read) t

  -- all writes and their answers
  abbrev pub all_sent : List (Ready A) → Table (Doc A) → Table (Doc A) × List (Answer A)
  all_sent rs t = (write_all t (writes_of rs), answers reg rs (items_of t (writes_of rs)))

  open_at : (raw : Text) (act : Act A) (seen : Option (Cell (Doc A))) (t : Table (Doc A)) (deed : Deed A) → judge w reg space act seen ≡ deed → IsWrite deed → SameRow seen (at raw t.rows) → (is_blind act ≡ true → seen ≡ at raw t.rows)
      → ((write t (write_of raw deed)).0, told reg raw act deed (write t (write_of raw deed)).1) ≡ item_over w reg space false raw act deed seen t
  open_at raw act seen t deed j i s b =
      subst (λ d. IsWrite d → ((write t (write_of raw d)).0, told reg raw act d (write t (write_of raw d)).1) ≡ item_over w reg space false raw act d seen t) j (λ k. open_item w reg space raw act seen t k s b) i

  -- one more item that sends
  sends : (raw : Text) (act : Act A) (deed : Deed A) (rs : List (Ready A)) (t : Table (Doc A)) (now : Table (Doc A) × Answer A) (rest : Table (Doc A) → Table (Doc A) × List (Answer A))
      → ((write t (write_of raw deed)).0, told reg raw act deed (write t (write_of raw deed)).1) ≡ now → all_sent rs (write t (write_of raw deed)).0 ≡ rest (write t (write_of raw deed)).0
      → all_sent (Sends raw act deed ∷ rs) t ≡ and_then now.1 (rest now.0)
  unfolding write_all items_of answers
  sends raw act deed rs t now rest e f = subst (λ p. all_sent (Sends raw act deed ∷ rs) t ≡ and_then p.1 (rest p.0)) e (ap (and_then (told reg raw act deed (write t (write_of raw deed)).1)) f)

  pub each_open : (read : Rows (Doc A)) (ts : List (Turn A)) (t : Table (Doc A)) → Apart ts → Stand read t ts → all_sent (ready_by read ts) t ≡ each_turn (item_step w reg space read false) ts t
  unfolding Apart Stand each_turn item_step write_all items_of answers
  each_open read [] t a s = refl
  each_open read (Denied r ∷ ts) t a s = ap (and_then (Refused r)) (each_open read ts t a s)
  each_open read (Goes raw act ∷ ts) t a s = by (λ x y. each_open read ts x a.1 y) (judge w reg space act (at raw read)) refl
    where
      Claim : Table (Doc A) → Type 0
      Claim x = all_sent (ready_by read ts) x ≡ each_turn (item_step w reg space read false) ts x

      rest : ((x : Table (Doc A)) → Stand read x ts → Claim x) → (deed : Deed A) → Claim (write t (write_of raw deed)).0
      rest h deed = h (write t (write_of raw deed)).0 (stand_kept read t (write t (write_of raw deed)).0 raw ts (write_others t raw deed) a.0 s.2)

      by : ((x : Table (Doc A)) → Stand read x ts → Claim x) → (deed : Deed A) → judge w reg space act (at raw read) ≡ deed → all_sent (ready_over raw act deed ∷ ready_by read ts) t ≡ and_then (item_over w reg space false raw act deed (at raw read) t).1 (each_turn (item_step w reg space read false) ts (item_over w reg space false raw act deed (at raw read) t).0)
      by h (Deny r) j = ap (and_then (Refused r)) (h t s.2)
      by h (Make doc) j = sends raw act (Make doc) (ready_by read ts) t (item_over w reg space false raw act (Make doc) (at raw read) t) (each_turn (item_step w reg space read false) ts) (open_at raw act (at raw read) t (Make doc) j tt s.0 s.1) (rest h (Make doc))
      by h (Remake n doc) j = sends raw act (Remake n doc) (ready_by read ts) t (item_over w reg space false raw act (Remake n doc) (at raw read) t) (each_turn (item_step w reg space read false) ts) (open_at raw act (at raw read) t (Remake n doc) j tt s.0 s.1) (rest h (Remake n doc))
      by h (Drop n) j = sends raw act (Drop n) (ready_by read ts) t (item_over w reg space false raw act (Drop n) (at raw read) t) (each_turn (item_step w reg space read false) ts) (open_at raw act (at raw read) t (Drop n) j tt s.0 s.1) (rest h (Drop n))

  blocked_at : (raw : Text) (act : Act A) (seen : Option (Cell (Doc A))) (t : Table (Doc A)) (deed : Deed A) → judge w reg space act seen ≡ deed → IsWrite deed → SameRow seen (at raw t.rows) → item_over w reg space true raw act deed seen t ≡ (t, Refused WriteBlocked)
  blocked_at raw act seen t deed j i s = subst (λ d. IsWrite d → item_over w reg space true raw act d seen t ≡ (t, Refused WriteBlocked)) j (λ k. blocked_item w reg space raw act seen t k s) i

  stops : (act : Act A) (t : Table (Doc A)) (now : Table (Doc A) × Answer A) (rest : Table (Doc A) → Table (Doc A) × List (Answer A)) (os : List (Answer A)) → now ≡ (t, Refused WriteBlocked) → rest t ≡ (t, os) → and_then now.1 (rest now.0) ≡ (t, Refused WriteBlocked ∷ os)
  stops act t now rest os e f = subst (λ p. and_then p.1 (rest p.0) ≡ (t, Refused WriteBlocked ∷ os)) (sym e) (ap (and_then (Refused WriteBlocked)) f)

  pub each_blocked : (read : Rows (Doc A)) (ts : List (Turn A)) (t : Table (Doc A)) → Stand read t ts → each_turn (item_step w reg space read true) ts t ≡ (t, blocked_answers (ready_by read ts))
  unfolding Stand each_turn item_step
  each_blocked read [] t s = refl
  each_blocked read (Denied r ∷ ts) t s = ap (and_then (Refused r)) (each_blocked read ts t s)
  each_blocked read (Goes raw act ∷ ts) t s = by (each_blocked read ts t s.2) (judge w reg space act (at raw read)) refl
    where
      rest : Table (Doc A) → Table (Doc A) × List (Answer A)
      rest x = each_turn (item_step w reg space read true) ts x

      by : rest t ≡ (t, blocked_answers (ready_by read ts)) → (deed : Deed A) → judge w reg space act (at raw read) ≡ deed
          → and_then (item_over w reg space true raw act deed (at raw read) t).1 (rest (item_over w reg space true raw act deed (at raw read) t).0) ≡ (t, blocked_answers (ready_over raw act deed ∷ ready_by read ts))
      by h (Deny r) j = ap (and_then (Refused r)) h
      by h (Make doc) j = stops act t (item_over w reg space true raw act (Make doc) (at raw read) t) rest (blocked_answers (ready_by read ts)) (blocked_at raw act (at raw read) t (Make doc) j tt s.0) h
      by h (Remake n doc) j = stops act t (item_over w reg space true raw act (Remake n doc) (at raw read) t) rest (blocked_answers (ready_by read ts)) (blocked_at raw act (at raw read) t (Remake n doc) j tt s.0) h
      by h (Drop n) j = stops act t (item_over w reg space true raw act (Drop n) (at raw read) t) rest (blocked_answers (ready_by read ts)) (blocked_at raw act (at raw read) t (Drop n) j tt s.0) h

  -- where no item sends, the block says nothing
  pub none_sent : (rs : List (Ready A)) → writes_of rs ≡ [] → blocked_answers rs ≡ answers reg rs []
  unfolding answers
  none_sent [] e = refl
  none_sent (Settled r ∷ rs) e = ap (λ x. Refused r ∷ x) (none_sent rs e)
  none_sent (Sends raw act deed ∷ rs) e = absurd (cc)

  -- where no item is left to judge
  pub denied_answers : (ts : List (Turn A)) (f : Stepper A) (t : Table (Doc A)) → raws_of ts ≡ [] → answers reg (readied w reg space ts []) [] ≡ (each_turn f ts t).1
  unfolding answers readied each_turn
  denied_answers [] f t e = refl
  denied_answers (Denied r ∷ ts) f t e = ap (λ x. Refused r ∷ x) (denied_answers ts f t e)
  denied_answers (Goes raw act ∷ ts) f t e = absurd (cc)
