-- No client's write takes or changes an alias document.
use Rattle.std.proofs.Common.{◌≡◌, Bool, true, false, ◌||◌, not, Option, Some, None, List, [], ◌∷◌, refl, sym, ◌∙◌, ap, subst, ◌==◌, if◌then◌else◌, is_none}
use mathlib.Core.Logic.◌⊎◌.{inl, inr}
use Rattle.base_model.specs.Keyed.{Text, same, at}
use Rattle.race_model.specs.Stores.{Cell, Rows, Table, Item, write, write_all, written, dropped, put_over, delete_over}
use Rattle.race_tables.proofs.Keys.{same_true, same_refl, same_is}
use Rattle.document_model.specs.Documents.{Doc, lists}
use Rattle.document_model.specs.Registries.{Registry, alias_type, known}
use Rattle.call_model.specs.Words.{Words}
use Rattle.call_model.specs.Calls.{Act}
use Rattle.call_model.specs.declared.refuse.Refuse.{Refuse}
use Rattle.call_model.specs.Calls.Act.{Create, Update, Delete, Share}
use Rattle.call_model.specs.declared.refuse.Refuse.TheVariants.{UnsupportedType}
use Rattle.call_model.specs.Acts.{Deed, judge, first_of, bad_id, bad_token, stamp_too_new, own_words, is_multiple, raw_of, target_of}
use Rattle.call_model.specs.Acts.Deed.{Deny, Make, Remake, Drop}
use Rattle.call_model.specs.Steps.{Turn, turn_over, taken_after, turns}
use Rattle.call_model.specs.Steps.Turn.{Denied, Goes}
use Rattle.call_model.specs.Plans.{Ready, ready_over, write_of, writes_of}
use Rattle.call_laws.specs.Meanings.{KeepsAliases}
use Rattle.call_laws.proofs.Items.{SameRow, Sees, IsWrite, judge_sees}
use Rattle.call_laws.proofs.Bulks.{Apart, Stand, write_others, stand_kept, ready_by}

-- no item is of an alias document
unfoldable pub NoAlias : {A : Type 0} → List (Turn A) → Type 0
NoAlias [] = Unit {0}
NoAlias (Denied r ∷ ts) = NoAlias ts
NoAlias (Goes raw act ∷ ts) = (same (target_of act).type_name alias_type ≡ false) × NoAlias ts

first_is : (a b : Bool) (r : Refuse) (rest : List (Bool × Refuse)) → first_of ((a || b, r) ∷ rest) ≡ None → a ≡ false
first_is true b r rest e = absurd (cc)
first_is false b r rest e = refl

or_left : (a b : Bool) → (a || b) ≡ false → a ≡ false
or_left true b e = absurd (cc)
or_left false b e = refl

keeps_all : {A : Type 0} (t u v : Table (Doc A)) → KeepsAliases t u → KeepsAliases u v → KeepsAliases t v
keeps_all t u v a b raw c e k = b raw c (a raw c e k) k

module _ {A O F : Type 0} (w : Words A O F) (reg : Registry O) (space : Text) where
  words_no_alias : (act : Act A) → own_words w reg act ≡ None → same (target_of act).type_name alias_type ≡ false
  unfolding own_words
  words_no_alias (Create o overwrite time) e = first_is (same o.type_name alias_type) (is_none (known reg o.type_name)) UnsupportedType ((bad_id o.id, Refuse.BadId) ∷ (stamp_too_new (known reg o.type_name) o.given, Refuse.TooNew) ∷ []) e
  words_no_alias (Update ch time) e = first_is (same ch.target.type_name alias_type) (is_none (known reg ch.target.type_name)) UnsupportedType ((bad_id ch.target.id, Refuse.BadId) ∷ (bad_token w ch.token, Refuse.BadToken) ∷ []) e
  words_no_alias (Delete t f) e = first_is (same t.type_name alias_type) (is_none (known reg t.type_name)) UnsupportedType ((bad_id t.id, Refuse.BadId) ∷ []) e
  words_no_alias (Share t x y time) e =
      or_left (same t.type_name alias_type) (is_none (known reg t.type_name))
      (first_is (same t.type_name alias_type || is_none (known reg t.type_name)) (not (is_multiple (known reg t.type_name))) UnsupportedType ((bad_id t.id, Refuse.BadId) ∷ []) e)

  pub turns_no_alias : (acts : List (Act A)) (taken : List Text) → NoAlias (turns w reg space taken acts)
  unfolding turns NoAlias
  turns_no_alias [] taken = tt
  turns_no_alias (act ∷ acts) taken = by (own_words w reg act) refl (lists other taken) (turns_no_alias acts (taken_after (own_words w reg act) other taken))
    where
      other : Text
      other = raw_of reg space (target_of act)

      by : (o : Option Refuse) → own_words w reg act ≡ o → (b : Bool) → NoAlias (turns w reg space (taken_after o other taken) acts) → NoAlias (turn_over o b other act ∷ turns w reg space (taken_after o other taken) acts)
      by (Some r) e b h = h
      by None e true h = h
      by None e false h = (words_no_alias act e, h)

  -- a row that the deed's row is isn't of an alias document
  not_alias : (act : Act A) (c1 c : Cell (Doc A)) (now : Option (Cell (Doc A))) → same c1.doc.type_name (target_of act).type_name ≡ true → same (target_of act).type_name alias_type ≡ false → now ≡ Some c → SameRow (Some c1) now → same c.doc.type_name alias_type ≡ true → (c1.seq == c.seq) ≡ true → ⊥
  not_alias act c1 c now t n e s k b =
      let s1 : SameRow (Some c1) (Some c) = subst (SameRow (Some c1)) e s in
      let one : Some c1 ≡ Some c = s1 b in
      let is : c1 ≡ c = cc in
      let a : c1.doc.type_name ≡ (target_of act).type_name = same_true c1.doc.type_name (target_of act).type_name t in
      let d : c.doc.type_name ≡ alias_type = same_true c.doc.type_name alias_type k in
      let f : (target_of act).type_name ≡ alias_type = sym a ∙ (ap (λ x. x.doc.type_name) is ∙ d) in
      let g : same (target_of act).type_name alias_type ≡ true = subst (λ x. same x alias_type ≡ true) (sym f) (same_refl alias_type) in
      let h : true ≡ false = sym g ∙ n in cc

  if_same : (raw : Text) (c : Cell (Doc A)) (b : Bool) (x y : Table (Doc A) × Item) → (b ≡ true → ⊥) → at raw y.0.rows ≡ Some c → at raw (if b then x else y).0.rows ≡ Some c
  if_same raw c true x y n e = absurd (n refl)
  if_same raw c false x y n e = e

  keeps_same : (raw : Text) (act : Act A) (seen : Option (Cell (Doc A))) (t : Table (Doc A)) (deed : Deed A) → IsWrite deed → Sees act seen deed → same (target_of act).type_name alias_type ≡ false → SameRow seen (at raw t.rows) → (c : Cell (Doc A)) → at raw t.rows ≡ Some c → same c.doc.type_name alias_type ≡ true
      → at raw (write t (write_of raw deed)).0.rows ≡ Some c
  unfolding write
  keeps_same raw act seen t (Deny r) i k n s c e a = absurd i
  keeps_same raw act seen t (Make doc) i k n s c e a = rw e e
  keeps_same raw act seen t (Remake m doc) i k n s c e a =
      subst (λ o. at raw (put_over o t raw doc (Some m)).0.rows ≡ Some c) (sym e)
      (if_same raw c (m == c.seq) (written t raw doc, Item.Written t.next) (t, Item.Conflict (Some c.seq))
      (λ b. not_alias act k.0 c (at raw t.rows) k.3 n e (subst (λ x. SameRow x (at raw t.rows)) k.1 s) a (subst (λ x. (x == c.seq) ≡ true) (sym k.2) b)) e)
  keeps_same raw act seen t (Drop m) i k n s c e a =
      subst (λ o. at raw (delete_over o t raw (Some m)).0.rows ≡ Some c) (sym e)
      (if_same raw c (m == c.seq) (dropped t raw, Item.Written t.next) (t, Item.Conflict (Some c.seq))
      (λ b. not_alias act k.0 c (at raw t.rows) k.3 n e (subst (λ x. SameRow x (at raw t.rows)) k.1 s) a (subst (λ x. (x == c.seq) ≡ true) (sym k.2) b)) e)

  keeps_one : (raw : Text) (act : Act A) (seen : Option (Cell (Doc A))) (t : Table (Doc A)) (deed : Deed A) → IsWrite deed → judge w reg space act seen ≡ deed → same (target_of act).type_name alias_type ≡ false → SameRow seen (at raw t.rows) → KeepsAliases t (write t (write_of raw deed)).0
  keeps_one raw act seen t deed i j n s other c e a = elim (same_is other raw) [
    | inl is ↦
        let f : at raw t.rows ≡ Some c = subst (λ x. at x t.rows ≡ Some c) is.1 e in
        subst (λ x. at x (write t (write_of raw deed)).0.rows ≡ Some c) (sym is.1) (keeps_same raw act seen t deed i (subst (Sees act seen) j (judge_sees w reg space act seen)) n s c f a)
    | inr apart ↦ write_others t raw deed other apart.1 ∙ e
  ]

  -- all that the items of a bulk send
  pub keeps_sent : (read : Rows (Doc A)) (ts : List (Turn A)) (t : Table (Doc A)) → Apart ts → Stand read t ts → NoAlias ts → KeepsAliases t (write_all t (writes_of (ready_by w reg space read ts)))
  unfolding Apart Stand NoAlias write_all
  keeps_sent read [] t a s n = λ raw c e k. e
  keeps_sent read (Denied r ∷ ts) t a s n = keeps_sent read ts t a s n
  keeps_sent read (Goes raw act ∷ ts) t a s n = by (λ x y. keeps_sent read ts x a.1 y n.1) (judge w reg space act (at raw read)) refl
    where
      rs : List (Ready A)
      rs = ready_by w reg space read ts

      send : ((x : Table (Doc A)) → Stand read x ts → KeepsAliases x (write_all x (writes_of rs))) → (deed : Deed A) → IsWrite deed → judge w reg space act (at raw read) ≡ deed → KeepsAliases t (write_all (write t (write_of raw deed)).0 (writes_of rs))
      send h deed i j =
          let u : Table (Doc A) = (write t (write_of raw deed)).0 in
          keeps_all t u (write_all u (writes_of rs)) (keeps_one raw act (at raw read) t deed i j n.0 s.0) (h u (stand_kept read t u raw ts (write_others t raw deed) a.0 s.2))

      by : ((x : Table (Doc A)) → Stand read x ts → KeepsAliases x (write_all x (writes_of rs))) → (deed : Deed A) → judge w reg space act (at raw read) ≡ deed → KeepsAliases t (write_all t (writes_of (ready_over raw act deed ∷ rs)))
      by h (Deny r) j = h t s.2
      by h (Make doc) j = send h (Make doc) tt j
      by h (Remake m doc) j = send h (Remake m doc) tt j
      by h (Drop m) j = send h (Drop m) tt j
