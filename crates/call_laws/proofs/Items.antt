-- One item of a bulk: its write and the item that answers it are what the call means.
use Rattle.std.proofs.Common.{◌≡◌, ℕ, ◌⊎◌, Bool, true, false, Option, Some, None, List, [], ◌∷◌, refl, sym, ◌∙◌, subst, arith, ◌==◌, ◌&&◌, not, if◌then◌else◌}
use Rattle.std.proofs.lemmas.Bool.Decides.{nat_tests}
use mathlib.Core.Logic.◌⊎◌.{inl, inr}
use Rattle.base_model.specs.Keyed.{Text, same, at}
use Rattle.race_model.specs.Stores.{Cell, Table, Item, write, new_over, put_over, delete_over, written, dropped}
use Rattle.document_model.specs.Documents.{Doc, visible}
use Rattle.document_model.specs.Registries.{Registry}
use Rattle.call_model.specs.Words.{Words}
use Rattle.call_model.specs.Calls.{Act, Answer}
use Rattle.call_model.specs.Calls.Act.{Create, Update, Delete, Share}
use Rattle.call_model.specs.declared.refuse.Refuse.TheVariants.{NotFound, Conflict, WriteBlocked, NeedsForce, Busy}
use Rattle.call_model.specs.Calls.Answer.{Refused}
use Rattle.call_model.specs.Acts.{Deed, judge, do_deed, act_step, is_seen, act_on, on_row, token_is, is_wide, spaces_left, taken_away, added, or_no_space, target_of, created, updated, overwritten, kind_of}
use Rattle.call_model.specs.Acts.Deed.{Deny, Make, Remake, Drop}
use Rattle.call_model.specs.Steps.{gone, missed, number_of, same_number, where_same, item_over}
use Rattle.call_model.specs.Plans.{write_of, there, told, is_blind}

-- rows with one number are one
abbrev pub SameRow : {A : Type 0} → Option (Cell (Doc A)) → Option (Cell (Doc A)) → Type 0
SameRow a b = same_number (number_of a) (number_of b) ≡ true → a ≡ b

nat_refl : (n : ℕ) → (n == n) ≡ true
nat_refl n = grind (arith, nat_tests)

pub same_self : {A : Type 0} (a : Option (Cell (Doc A))) → same_number (number_of a) (number_of a) ≡ true
same_self None = refl
same_self (Some c) = nat_refl c.seq

pub same_equal : {A : Type 0} (a b : Option (Cell (Doc A))) → a ≡ b → same_number (number_of a) (number_of b) ≡ true
same_equal a b e = subst (λ x. same_number (number_of a) (number_of x) ≡ true) e (same_self a)

pub there_blind : {A : Type 0} (act : Act A) (n : ℕ) → is_blind act ≡ true → there act n ≡ Conflict
there_blind (Create o false time) n b = refl
there_blind (Create o true time) n b = absurd (cc)
there_blind (Update c time) n b = absurd (cc)
there_blind (Delete t f) n b = absurd (cc)
there_blind (Share t x y time) n b = absurd (cc)

pub there_seeing : {A : Type 0} (act : Act A) (n : ℕ) → is_blind act ≡ false → there act n ≡ Busy None (Some n)
there_seeing (Create o false time) n b = absurd (cc)
there_seeing (Create o true time) n b = refl
there_seeing (Update c time) n b = refl
there_seeing (Delete t f) n b = refl
there_seeing (Share t x y time) n b = refl

-- what a deed says of the row that it was judged by
abbrev pub Sees : {A : Type 0} → Act A → Option (Cell (Doc A)) → Deed A → Type 0
Sees act row (Deny r) = Unit {0}
Sees act row (Make doc) = (is_blind act ≡ true) ⊎ ((row ≡ None) × (is_blind act ≡ false))
Sees act row (Remake seen doc) = (c : Cell _) × (row ≡ Some c) × (c.seq ≡ seen) × (same c.doc.type_name (target_of act).type_name ≡ true)
Sees act row (Drop seen) = (c : Cell _) × (row ≡ Some c) × (c.seq ≡ seen) × (same c.doc.type_name (target_of act).type_name ≡ true) × ((n : Option ℕ) → gone act n ≡ NotFound)

abbrev pub IsWrite : {A : Type 0} → Deed A → Type 0
IsWrite (Deny r) = ⊥
IsWrite _ = Unit {0}

module _ {A O F : Type 0} (w : Words A O F) (reg : Registry O) (space : Text) where
  abbrev SameType : Act A → Cell (Doc A) → Type 0
  SameType act c = same c.doc.type_name (target_of act).type_name ≡ true

  sees_if : (act : Act A) (row : Option (Cell (Doc A))) (b : Bool) (x y : Deed A) → (b ≡ true → Sees act row x) → Sees act row y → Sees act row (if b then x else y)
  sees_if act row true x y p q = p refl
  sees_if act row false x y p q = q

  and_left : (a b : Bool) → (a && b) ≡ true → a ≡ true
  and_left true b e = refl
  and_left false b e = absurd (cc)

  seen_type : (act : Act A) (c : Cell (Doc A)) → is_seen reg space (target_of act).type_name c.doc ≡ true → SameType act c
  unfolding is_seen
  seen_type act c e = and_left (same c.doc.type_name (target_of act).type_name) (visible (kind_of reg (target_of act).type_name) space c.doc) e

  spaces_see : (act : Act A) (c : Cell (Doc A)) (time : Option Text) → SameType act c → ((n : Option ℕ) → gone act n ≡ NotFound) → (spaces : List Text) → Sees act (Some c) (spaces_left c.seq c.doc time spaces)
  spaces_see act c time t g [] = (c, refl, refl, t, g)
  spaces_see act c time t g (s ∷ spaces) = (c, refl, refl, t)

  act_sees : (act : Act A) (c : Cell (Doc A)) → SameType act c → Sees act (Some c) (act_on w act c.seq c.doc)
  act_sees (Create o overwrite time) c t = tt
  act_sees (Update ch time) c t = sees_if (Update ch time) (Some c) (token_is w ch.token c.seq) (Remake c.seq (updated w ch time c.doc)) (Deny Conflict) (λ e. (c, refl, refl, t)) tt
  act_sees (Delete goal f) c t = sees_if (Delete goal f) (Some c) (is_wide c.doc.namespaces && not f) (Deny NeedsForce) (Drop c.seq) (λ e. tt) (c, refl, refl, t, λ n. refl)
  act_sees (Share goal x y time) c t = spaces_see (Share goal x y time) c time t (λ n. refl) (taken_away y (added x (or_no_space c.doc.namespaces)))

  row_sees : (act : Act A) (row : Option (Cell (Doc A))) → Sees act row (on_row w reg space act row)
  row_sees act None = tt
  row_sees act (Some c) = sees_if act (Some c) (is_seen reg space (target_of act).type_name c.doc) (act_on w act c.seq c.doc) (Deny NotFound) (λ e. act_sees act c (seen_type act c e)) tt

  pub judge_sees : (act : Act A) (row : Option (Cell (Doc A))) → Sees act row (judge w reg space act row)
  unfolding judge
  judge_sees (Create o false time) row = inl refl
  judge_sees (Create o true time) None = inr (refl, refl)
  judge_sees (Create o true time) (Some c) =
      let new : Doc A = created w reg space o time in
      sees_if (Create o true time) (Some c) (is_seen reg space new.type_name c.doc) (Remake c.seq (overwritten new c.doc)) (Deny Conflict) (λ e. (c, refl, refl, seen_type (Create o true time) c e)) tt
  judge_sees (Update ch time) row = row_sees (Update ch time) row
  judge_sees (Delete t f) row = row_sees (Delete t f) row
  judge_sees (Share t x y time) row = row_sees (Share t x y time) row

  -- a write, by the row that is there
  abbrev write_by : Option (Cell (Doc A)) → Table (Doc A) → Text → Deed A → Table (Doc A) × Item
  write_by o t raw (Make doc) = new_over o t raw doc
  write_by o t raw (Remake seen doc) = put_over o t raw doc (Some seen)
  write_by o t raw (Drop seen) = delete_over o t raw (Some seen)
  write_by o t raw (Deny r) = delete_over o t raw None

  write_is : (t : Table (Doc A)) (raw : Text) (deed : Deed A) → write t (write_of raw deed) ≡ write_by (at raw t.rows) t raw deed
  unfolding write
  write_is t raw (Make doc) = refl
  write_is t raw (Remake seen doc) = refl
  write_is t raw (Drop seen) = refl
  write_is t raw (Deny r) = refl

  -- what the item means, by the row that was seen and the row that is there
  abbrev item_by : Bool → Text → Act A → Bool → (seen now : Option (Cell (Doc A))) → Table (Doc A) → Table (Doc A) × Answer A
  item_by blocked raw act true seen now t = do_deed reg blocked raw act (judge w reg space act now) now t
  item_by blocked raw act false seen now t = (t, Refused (missed blocked act (number_of seen) (number_of now)))

  where_is : (blocked : Bool) (raw : Text) (act : Act A) (b : Bool) (seen : Option (Cell (Doc A))) (t : Table (Doc A)) → where_same w reg space blocked raw act b (number_of seen) (number_of (at raw t.rows)) t ≡ item_by blocked raw act b seen (at raw t.rows) t
  unfolding act_step
  where_is blocked raw act true seen t = refl
  where_is blocked raw act false seen t = refl

  item_is : (blocked : Bool) (raw : Text) (act : Act A) (deed : Deed A) (seen : Option (Cell (Doc A))) (t : Table (Doc A)) → IsWrite deed → item_over w reg space blocked raw act deed seen t ≡ item_by blocked raw act (same_number (number_of seen) (number_of (at raw t.rows))) seen (at raw t.rows) t
  item_is blocked raw act (Deny r) seen t i = absurd i
  item_is blocked raw act (Make doc) seen t i = where_is blocked raw act (same_number (number_of seen) (number_of (at raw t.rows))) seen t
  item_is blocked raw act (Remake s doc) seen t i = where_is blocked raw act (same_number (number_of seen) (number_of (at raw t.rows))) seen t
  item_is blocked raw act (Drop s) seen t i = where_is blocked raw act (same_number (number_of seen) (number_of (at raw t.rows))) seen t

  -- the write and the answer that its item gives
  abbrev sent : Text → Act A → Deed A → Option (Cell (Doc A)) → Table (Doc A) → Table (Doc A) × Answer A
  sent raw act deed now t = ((write_by now t raw deed).0, told reg raw act deed (write_by now t raw deed).1)

  made : (raw : Text) (act : Act A) (doc : Doc A) (now : Option (Cell (Doc A))) (t : Table (Doc A)) → is_blind act ≡ true → judge w reg space act now ≡ Make doc → sent raw act (Make doc) now t ≡ item_by false raw act true now now t
  made raw act doc None t b j = rw j refl
  made raw act doc (Some c) t b j = rw (j, there_blind act c.seq b) refl

  made_over : (raw : Text) (act : Act A) (doc : Doc A) (now : Option (Cell (Doc A))) (t : Table (Doc A)) → is_blind act ≡ false → judge w reg space act None ≡ Make doc → sent raw act (Make doc) now t ≡ item_by false raw act (same_number None (number_of now)) None now t
  made_over raw act doc None t b j = rw j refl
  made_over raw act doc (Some c) t b j = rw (there_seeing act c.seq b) refl

  remade : (raw : Text) (act : Act A) (c : Cell (Doc A)) (doc : Doc A) (now : Option (Cell (Doc A))) (t : Table (Doc A)) → judge w reg space act (Some c) ≡ Remake c.seq doc → SameRow (Some c) now
      → sent raw act (Remake c.seq doc) now t ≡ item_by false raw act (same_number (Some c.seq) (number_of now)) (Some c) now t
  remade raw act c doc None t j s = refl
  remade raw act c doc (Some n) t j s = by (c.seq == n.seq) s
    where
      by : (b : Bool) → (b ≡ true → Some c ≡ Some n) →
          ((if◌then◌else◌ {A = Table (Doc A) × Item} b (written t raw doc, Item.Written t.next) (t, Item.Conflict (Some n.seq))).0, told reg raw act (Remake c.seq doc) (if◌then◌else◌ {A = Table (Doc A) × Item} b (written t raw doc, Item.Written t.next) (t, Item.Conflict (Some n.seq))).1)
          ≡ item_by false raw act b (Some c) (Some n) t
      by true e = let f : Some c ≡ Some n = e refl in let k : judge w reg space act (Some n) ≡ Remake c.seq doc = subst (λ x. judge w reg space act x ≡ Remake c.seq doc) f j in rw k refl
      by false e = refl

  dropped_ok : (raw : Text) (act : Act A) (c : Cell (Doc A)) (now : Option (Cell (Doc A))) (t : Table (Doc A)) → judge w reg space act (Some c) ≡ Drop c.seq → SameRow (Some c) now → ((n : Option ℕ) → gone act n ≡ NotFound)
      → sent raw act (Drop c.seq) now t ≡ item_by false raw act (same_number (Some c.seq) (number_of now)) (Some c) now t
  dropped_ok raw act c None t j s g = rw (g (Some c.seq)) refl
  dropped_ok raw act c (Some n) t j s g = by (c.seq == n.seq) s
    where
      by : (b : Bool) → (b ≡ true → Some c ≡ Some n) →
          ((if◌then◌else◌ {A = Table (Doc A) × Item} b (dropped t raw, Item.Written t.next) (t, Item.Conflict (Some n.seq))).0, told reg raw act (Drop c.seq) (if◌then◌else◌ {A = Table (Doc A) × Item} b (dropped t raw, Item.Written t.next) (t, Item.Conflict (Some n.seq))).1)
          ≡ item_by false raw act b (Some c) (Some n) t
      by true e = let f : Some c ≡ Some n = e refl in let k : judge w reg space act (Some n) ≡ Drop c.seq = subst (λ x. judge w reg space act x ≡ Drop c.seq) f j in rw k refl
      by false e = refl

  -- the write of a deed and its answer are what the item means
  sent_is : (raw : Text) (act : Act A) (deed : Deed A) (seen now : Option (Cell (Doc A))) (t : Table (Doc A)) → judge w reg space act seen ≡ deed → IsWrite deed → Sees act seen deed → SameRow seen now → (is_blind act ≡ true → seen ≡ now)
      → sent raw act deed now t ≡ item_by false raw act (same_number (number_of seen) (number_of now)) seen now t
  sent_is raw act (Deny r) seen now t j i k s b = absurd i
  sent_is raw act (Make doc) seen now t j i k s b = elim k [
    | inl blind ↦ let e : seen ≡ now = b blind in
        subst (λ x. sent raw act (Make doc) x t ≡ item_by false raw act (same_number (number_of seen) (number_of x)) seen x t) e (rw (same_self seen) (made raw act doc seen t blind j))
    | inr free ↦ subst (λ x. judge w reg space act x ≡ Make doc → sent raw act (Make doc) now t ≡ item_by false raw act (same_number (number_of x) (number_of now)) x now t) (sym free.0) (made_over raw act doc now t free.1) j
  ]
  sent_is raw act (Remake n doc) seen now t j i k s b =
      let j1 : judge w reg space act (Some k.0) ≡ Remake n doc = subst (λ x. judge w reg space act x ≡ Remake n doc) k.1 j in
      let j2 : judge w reg space act (Some k.0) ≡ Remake k.0.seq doc = subst (λ m. judge w reg space act (Some k.0) ≡ Remake m doc) (sym k.2) j1 in
      let s1 : SameRow (Some k.0) now = subst (λ x. SameRow x now) k.1 s in
      subst (λ m. sent raw act (Remake m doc) now t ≡ item_by false raw act (same_number (number_of seen) (number_of now)) seen now t) k.2
      (subst (λ x. sent raw act (Remake k.0.seq doc) now t ≡ item_by false raw act (same_number (number_of x) (number_of now)) x now t) (sym k.1) (remade raw act k.0 doc now t j2 s1))
  sent_is raw act (Drop n) seen now t j i k s b =
      let j1 : judge w reg space act (Some k.0) ≡ Drop n = subst (λ x. judge w reg space act x ≡ Drop n) k.1 j in
      let j2 : judge w reg space act (Some k.0) ≡ Drop k.0.seq = subst (λ m. judge w reg space act (Some k.0) ≡ Drop m) (sym k.2) j1 in
      let s1 : SameRow (Some k.0) now = subst (λ x. SameRow x now) k.1 s in
      subst (λ m. sent raw act (Drop m) now t ≡ item_by false raw act (same_number (number_of seen) (number_of now)) seen now t) k.2
      (subst (λ x. sent raw act (Drop k.0.seq) now t ≡ item_by false raw act (same_number (number_of x) (number_of now)) x now t) (sym k.1) (dropped_ok raw act k.0 now t j2 s1 k.4))

  -- where the index is open
  pub open_item : (raw : Text) (act : Act A) (seen : Option (Cell (Doc A))) (t : Table (Doc A)) → IsWrite (judge w reg space act seen) → SameRow seen (at raw t.rows) → (is_blind act ≡ true → seen ≡ at raw t.rows)
      → ((write t (write_of raw (judge w reg space act seen))).0, told reg raw act (judge w reg space act seen) (write t (write_of raw (judge w reg space act seen))).1) ≡ item_over w reg space false raw act (judge w reg space act seen) seen t
  open_item raw act seen t i s b =
      let deed : Deed A = judge w reg space act seen in
      rw (write_is t raw deed) (sent_is raw act deed seen (at raw t.rows) t refl i (judge_sees act seen) s b ∙ sym (item_is false raw act deed seen t i))

  blocked_do : (raw : Text) (act : Act A) (deed : Deed A) (now : Option (Cell (Doc A))) (t : Table (Doc A)) → IsWrite deed → do_deed reg true raw act deed now t ≡ (t, Refused WriteBlocked)
  blocked_do raw act (Deny r) now t i = absurd i
  blocked_do raw act (Make doc) now t i = refl
  blocked_do raw act (Remake n doc) now t i = refl
  blocked_do raw act (Drop n) now t i = refl

  blocked_by : (raw : Text) (act : Act A) (b : Bool) (seen now : Option (Cell (Doc A))) (t : Table (Doc A)) → IsWrite (judge w reg space act seen) → (b ≡ true → seen ≡ now) → item_by true raw act b seen now t ≡ (t, Refused WriteBlocked)
  blocked_by raw act true seen now t i s = blocked_do raw act (judge w reg space act now) now t (subst (λ x. IsWrite (judge w reg space act x)) (s refl) i)
  blocked_by raw act false seen now t i s = refl

  -- where it is blocked
  pub blocked_item : (raw : Text) (act : Act A) (seen : Option (Cell (Doc A))) (t : Table (Doc A)) → IsWrite (judge w reg space act seen) → SameRow seen (at raw t.rows)
      → item_over w reg space true raw act (judge w reg space act seen) seen t ≡ (t, Refused WriteBlocked)
  blocked_item raw act seen t i s =
      item_is true raw act (judge w reg space act seen) seen t i ∙ blocked_by raw act (same_number (number_of seen) (number_of (at raw t.rows))) seen (at raw t.rows) t i s
