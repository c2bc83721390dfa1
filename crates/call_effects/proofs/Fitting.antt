-- What calls write fits its raw id.
use Rattle.std.proofs.Common.{◌≡◌, ◌≢◌, ◌⊎◌, ℕ, Bool, true, false, ◌&&◌, ◌||◌, not, Option, Some, None, List, [], ◌∷◌, ◌++◌, refl, sym, ◌∙◌, ap, subst, arith, ◌==◌, if◌then◌else◌, is_none, is_some, nat_lt}
use Rattle.std.proofs.lemmas.Bool.Decides.{nat_tests}
use mathlib.Core.Logic.◌⊎◌.{inl, inr}
use Rattle.base_model.specs.Keyed.{Text, same, at}
use Rattle.race_model.specs.Stores.{Cell, Rows, Table, written, dropped}
use Rattle.race_model.specs.Generations.{Generation}
use Rattle.race_tables.proofs.Keys.{at_put, at_without, same_is, same_true}
use Rattle.version_token.specs.declared.Ver.{Ver}
use Rattle.space_scope.specs.declared.kind.Kind.{Kind}
use Rattle.space_scope.specs.declared.kind.Kind.TheVariants.{Single, Multiple, MultipleIsolated, Agnostic}
use Rattle.document_model.specs.Documents.{ver_lt, below, Doc, after, joined, lists, listed, raw_id, visible, default_space}
use Rattle.document_model.specs.Registries.{Known, Registry, known, greater, greatest, latest, fits, fits_kind, fits_either, is_shared, own_raw, has_id}
use Rattle.query_model.specs.declared.parts.Target.{Target}
use Rattle.call_model.specs.declared.refuse.Refuse.{Refuse}
use Rattle.call_model.specs.declared.refuse.Refuse.TheVariants.{UnsupportedType}
use Rattle.call_model.specs.Words.{Words}
use Rattle.call_model.specs.Calls.{NewObject, Act, Call}
use Rattle.call_model.specs.Calls.Act.{Create, Update, Delete, Share}
use Rattle.call_model.specs.Calls.Call.{Changing, BulkCreating, Getting, BulkGetting, Resolving, Finding}
use Rattle.call_model.specs.Acts.{Deed, judge, do_deed, act_step, bad_space, is_space, own_words, raw_of, target_of, kind_of, kind_over, latest_of, new_space, new_spaces, created, overwritten, updated, respaced, is_seen, act_on, on_row, spaces_left, taken_away, added, or_no_space, token_is, is_wide, first_of, is_unknown, bad_id, bad_token, is_multiple, stamp_too_new}
use Rattle.call_model.specs.Acts.Deed.{Deny, Make, Remake, Drop}
use Rattle.call_model.specs.Steps.{Turn, number_of, same_number, where_same, item_over, item_step, turn_over, taken_after, turns, each_turn, all_denied, all_refused, creates, looks, find_words, resolve_words, Work, unless, unless_words, work_of, needs_no_store, rows_of, called_in, called_over, called}
use Rattle.call_model.specs.Steps.Turn.{Denied, Goes}
use Rattle.call_model.specs.Steps.Work.{Writing, Looking, Searching, Following}
use Rattle.call_laws.specs.Meanings.{then_on}
use Rattle.call_effects.specs.Effects.{AllFit}
use Rattle.call_effects.proofs.Versions.{lt_trans}

nat_same : (n : ℕ) → (n == n) ≡ true
nat_same n = grind (arith, nat_tests)

-- what follows a front
after_front : (p x : Text) → after p (p ++ x) ≡ Some x
unfolding after
after_front [] x = refl
after_front (a ∷ p) x = rw (nat_same a) (after_front p x)

after_name : (name id : Text) → after (joined name []) (joined name id) ≡ Some id
unfolding after
after_name [] id = refl
after_name (a ∷ name) id = rw (nat_same a) (after_name name id)

after_space : (space name id : Text) → after (joined space (joined name [])) (joined space (joined name id)) ≡ Some id
unfolding after
after_space [] name id = after_name name id
after_space (a ∷ space) name id = rw (nat_same a) (after_space space name id)

has_some : (id : Text) → bad_id id ≡ false → has_id (Some id) ≡ true
has_some [] e = absurd (cc)
has_some (b ∷ id) e = refl

-- the raw id of an object is that of a document in its space
own_single : {A : Type 0} (b : Bool) (space name id raw : Text) (doc : Doc A) → same space default_space ≡ b → bad_id id ≡ false → raw ≡ raw_id Single space name id → doc.type_name ≡ name → doc.namespace ≡ new_space Single space → own_raw raw doc ≡ true
own_single true space name id raw doc s e r t n = rw (r, t, n, s, after_name name id) (has_some id e)
own_single false space name id raw doc s e r t n = rw (r, t, n, s, after_space space name id) (has_some id e)

own_named : {A : Type 0} (name id raw : Text) (doc : Doc A) → bad_id id ≡ false → raw ≡ joined name id → doc.type_name ≡ name → doc.namespace ≡ None → own_raw raw doc ≡ true
own_named name id raw doc e r t n = rw (r, t, n, after_name name id) (has_some id e)

-- the latest version isn't below that from which a type is shareable
greater_not : (s u v : Ver) → ver_lt u s ≡ false → ver_lt (greater (Some u) v) s ≡ false
greater_not s u v e = by (ver_lt u v) refl (ver_lt v s) refl
  where
    by : (b : Bool) → ver_lt u v ≡ b → (c : Bool) → ver_lt v s ≡ c → ver_lt (if b then v else u) s ≡ false
    by false f c g = e
    by true f false g = g
    by true f true g = let h : ver_lt u s ≡ true = lt_trans u v s f g in absurd (cc)

greatest_not : {O : Type 0} (s u : Ver) (steps : List (Ver × List O)) → ver_lt u s ≡ false → below (greatest (Some u) steps) s ≡ false
unfolding greatest
greatest_not s u [] e = e
greatest_not s u (x ∷ steps) e = greatest_not s (greater (Some u) x.0) steps (greater_not s u x.0 e)

pub ver_self : (v : Ver) → ver_lt v v ≡ false
unfolding ver_lt
ver_self v = let a : nat_lt v.major v.major ≡ false = grind (arith, nat_tests) in let b : nat_lt v.minor v.minor ≡ false = grind (arith, nat_tests) in let c : nat_lt v.patch v.patch ≡ false = grind (arith, nat_tests) in rw (a, b, c) refl

latest_shared : {O : Type 0} (o : Option Ver) (steps : List (Ver × List O)) → is_shared o (greatest o steps) ≡ true
latest_shared None steps = refl
latest_shared (Some s) steps = rw (greatest_not s s steps (ver_self s)) refl

and_both : (a b : Bool) → a ≡ true → b ≡ true → (a && b) ≡ true
and_both a b e f = rw (e, f) refl

and_left : (a b : Bool) → (a && b) ≡ true → a ≡ true
and_left true b e = refl
and_left false b e = absurd (cc)

and_right : (a b : Bool) → (a && b) ≡ true → b ≡ true
and_right true b e = e
and_right false b e = absurd (cc)

none_not : (o : Option (List Text)) → is_some o ≡ true → is_none o ≡ false
none_not None e = absurd (cc)
none_not (Some s) e = refl

not_false : (b : Bool) → not b ≡ false → b ≡ true
not_false true e = refl
not_false false e = absurd (cc)

or_right : (a b : Bool) → (a || b) ≡ false → b ≡ false
or_right true b e = absurd (cc)
or_right false b e = e

-- tests that came to nothing
head_is : (a : Bool) (r : Refuse) (rest : List (Bool × Refuse)) → first_of ((a, r) ∷ rest) ≡ None → a ≡ false
head_is true r rest e = absurd (cc)
head_is false r rest e = refl

second : (a b : Bool) (r q : Refuse) (rest : List (Bool × Refuse)) → first_of ((a, r) ∷ (b, q) ∷ rest) ≡ None → b ≡ false
second true b r q rest e = absurd (cc)
second false b r q rest e = head_is b q rest e

kept_either : {A : Type 0} (b : Bool) (raw : Text) (old new : Doc A) → new.type_name ≡ old.type_name → new.namespace ≡ old.namespace → is_none new.namespaces ≡ is_none old.namespaces → is_some new.namespaces ≡ is_some old.namespaces
    → {c : Bool} → c ≡ b → fits_either b raw old ≡ true → fits_either c raw new ≡ true
kept_either true raw old new n p a s e f = rw (e, s, p, n) f
kept_either false raw old new n p a s e f = rw (e, a, p, n) f

listed_some : (space : Text) (o : Option (List Text)) → listed space o ≡ true → is_some o ≡ true
listed_some space None e = absurd (cc)
listed_some space (Some s) e = refl

module _ {A O F : Type 0} (w : Words A O F) (reg : Registry O) (space : Text) where
  abbrev FitsDoc : Text → Doc A → Type 0
  FitsDoc raw doc = (t : Known O) → known reg doc.type_name ≡ Some t → fits t raw doc ≡ true

  abbrev FitsRow : Text → Option (Cell (Doc A)) → Type 0
  FitsRow raw None = Unit {0}
  FitsRow raw (Some c) = FitsDoc raw c.doc

  abbrev FitsDeed : Text → Deed A → Type 0
  FitsDeed raw (Make doc) = FitsDoc raw doc
  FitsDeed raw (Remake seen doc) = FitsDoc raw doc
  FitsDeed raw _ = Unit {0}

  shared_is : (o : Option (List Text)) → is_none o ≡ false → is_some o ≡ true
  shared_is None e = absurd (cc)
  shared_is (Some s) e = refl

  multiple : (t : Known O) (name id raw : Text) (doc : Doc A) → bad_id id ≡ false → raw ≡ joined name id → doc.type_name ≡ name → doc.namespace ≡ None → is_none doc.namespaces ≡ false → doc.stamp ≡ latest t → fits_either (is_shared t.shareable_at doc.stamp) raw doc ≡ true
  multiple t name id raw doc e r n p s l =
      rw (l, latest_shared t.shareable_at t.steps)
      (and_both (is_some doc.namespaces && is_none doc.namespace) (own_raw raw doc) (and_both (is_some doc.namespaces) (is_none doc.namespace) (shared_is doc.namespaces s) (ap is_none p)) (own_named name id raw doc e r n p))

  -- a document of a known type in the form of a new one
  new_fits : (k : Kind) (t : Known O) (name id raw : Text) (doc : Doc A) → t.kind ≡ k → bad_id id ≡ false → raw ≡ raw_id k space name id → doc.type_name ≡ name → doc.namespace ≡ new_space k space → is_none doc.namespaces ≡ is_none (new_spaces k space) → doc.stamp ≡ latest t
      → fits_kind k t.shareable_at raw doc ≡ true
  new_fits Single t name id raw doc k e r n p s l = and_both (is_none doc.namespaces) (own_raw raw doc) s (own_single (same space default_space) space name id raw doc refl e r n p)
  new_fits Agnostic t name id raw doc k e r n p s l = and_both (is_none doc.namespace) (is_none doc.namespaces && own_raw raw doc) (ap is_none p) (and_both (is_none doc.namespaces) (own_raw raw doc) s (own_named name id raw doc e r n p))
  new_fits Multiple t name id raw doc k e r n p s l = multiple t name id raw doc e r n p s l
  new_fits MultipleIsolated t name id raw doc k e r n p s l = multiple t name id raw doc e r n p s l

  words_id : (act : Act A) → own_words w reg act ≡ None → bad_id (target_of act).id ≡ false
  unfolding own_words
  words_id (Create o over time) e = second (is_unknown reg o.type_name) (bad_id o.id) UnsupportedType Refuse.BadId ((stamp_too_new (known reg o.type_name) o.given, Refuse.TooNew) ∷ []) e
  words_id (Update c time) e = second (is_unknown reg c.target.type_name) (bad_id c.target.id) UnsupportedType Refuse.BadId ((bad_token w c.token, Refuse.BadToken) ∷ []) e
  words_id (Delete t f) e = second (is_unknown reg t.type_name) (bad_id t.id) UnsupportedType Refuse.BadId [] e
  words_id (Share t x y time) e = second (is_unknown reg t.type_name || not (is_multiple (known reg t.type_name))) (bad_id t.id) UnsupportedType Refuse.BadId [] e

  is_multiple_kind : (t : Known O) → is_multiple (Some t) ≡ true → t.kind ≡ Multiple
  is_multiple_kind t e = by t.kind refl e
    where
      by : (k : Kind) → t.kind ≡ k → is_multiple (Some (record { kind = k; shareable_at = t.shareable_at; steps = t.steps })) ≡ true → t.kind ≡ Multiple
      by Multiple f g = f
      by Single f g = absurd (cc)
      by MultipleIsolated f g = absurd (cc)
      by Agnostic f g = absurd (cc)

  -- a shared type is of the kind that can be shared
  words_kind : (goal : Target) (x y : List Text) (time : Option Text) (t : Known O) → own_words w reg (Share goal x y time) ≡ None → known reg goal.type_name ≡ Some t → t.kind ≡ Multiple
  unfolding own_words
  words_kind goal x y time t e k =
      let f : (is_unknown reg goal.type_name || not (is_multiple (known reg goal.type_name))) ≡ false = head_is (is_unknown reg goal.type_name || not (is_multiple (known reg goal.type_name))) UnsupportedType ((bad_id goal.id, Refuse.BadId) ∷ []) e in
      let g : not (is_multiple (known reg goal.type_name)) ≡ false = or_right (is_unknown reg goal.type_name) (not (is_multiple (known reg goal.type_name))) f in
      is_multiple_kind t (subst (λ x. is_multiple x ≡ true) k (not_false (is_multiple (known reg goal.type_name)) g))

  created_fits : (o : NewObject A) (over : Bool) (time : Option Text) (raw : Text) → own_words w reg (Create o over time) ≡ None → raw ≡ raw_of reg space (record { type_name = o.type_name; id = o.id }) → FitsDoc raw (created w reg space o time)
  created_fits o over time raw e r t k =
      let kind : kind_of reg o.type_name ≡ t.kind = ap kind_over k in
      new_fits t.kind t o.type_name o.id raw (created w reg space o time) refl (words_id (Create o over time) e) (r ∙ ap (λ x. raw_id x space o.type_name o.id) kind) refl
      (ap (λ x. new_space x space) kind) (ap (λ x. is_none (new_spaces x space)) kind) (ap latest_of k)

  seen_name : (name : Text) (doc : Doc A) → is_seen reg space name doc ≡ true → doc.type_name ≡ name
  unfolding is_seen
  seen_name name doc e = same_true doc.type_name name (and_left (same doc.type_name name) (visible (kind_of reg name) space doc) e)

  seen_visible : (name : Text) (doc : Doc A) → is_seen reg space name doc ≡ true → visible (kind_of reg name) space doc ≡ true
  unfolding is_seen
  seen_visible name doc e = and_right (same doc.type_name name) (visible (kind_of reg name) space doc) e

  -- the namespaces of a visible document that fits are there where those of a new one are
  spaces_as_new : (k : Kind) (v : Option Ver) (raw : Text) (doc : Doc A) → fits_kind k v raw doc ≡ true → visible k space doc ≡ true → is_none doc.namespaces ≡ is_none (new_spaces k space)
  spaces_as_new Single v raw doc f s = and_left (is_none doc.namespaces) (own_raw raw doc) f
  spaces_as_new Agnostic v raw doc f s = and_left (is_none doc.namespaces) (own_raw raw doc) (and_right (is_none doc.namespace) (is_none doc.namespaces && own_raw raw doc) f)
  spaces_as_new Multiple v raw doc f s = none_not doc.namespaces (listed_some space doc.namespaces s)
  spaces_as_new MultipleIsolated v raw doc f s = none_not doc.namespaces (listed_some space doc.namespaces s)

  overwritten_fits : (o : NewObject A) (over : Bool) (time : Option Text) (raw : Text) (old : Doc A) → own_words w reg (Create o over time) ≡ None → raw ≡ raw_of reg space (record { type_name = o.type_name; id = o.id }) → is_seen reg space o.type_name old ≡ true → FitsDoc raw old
      → FitsDoc raw (overwritten (created w reg space o time) old)
  overwritten_fits o over time raw old e r s f t k =
      let kind : kind_of reg o.type_name ≡ t.kind = ap kind_over k in
      let g : fits t raw old ≡ true = f t (ap (known reg) (seen_name o.type_name old s) ∙ k) in
      let v : visible t.kind space old ≡ true = subst (λ x. visible x space old ≡ true) kind (seen_visible o.type_name old s) in
      new_fits t.kind t o.type_name o.id raw (overwritten (created w reg space o time) old) refl (words_id (Create o over time) e) (r ∙ ap (λ x. raw_id x space o.type_name o.id) kind) refl
      (ap (λ x. new_space x space) kind) (spaces_as_new t.kind t.shareable_at raw old g v) (ap latest_of k)

  -- a document with the same type, stamp and namespace, and namespaces where the other has some
  kept_fits : (k : Kind) (v : Option Ver) (raw : Text) (old new : Doc A) → new.type_name ≡ old.type_name → new.namespace ≡ old.namespace → new.stamp ≡ old.stamp → is_none new.namespaces ≡ is_none old.namespaces → is_some new.namespaces ≡ is_some old.namespaces
      → fits_kind k v raw old ≡ true → fits_kind k v raw new ≡ true
  kept_fits Single v raw old new n p s a b f = rw (n, p, a) f
  kept_fits Agnostic v raw old new n p s a b f = rw (n, p, a) f
  kept_fits Multiple v raw old new n p s a b f = kept_either (is_shared v old.stamp) raw old new n p a b (ap (is_shared v) s) f
  kept_fits MultipleIsolated v raw old new n p s a b f = kept_either (is_shared v old.stamp) raw old new n p a b (ap (is_shared v) s) f

  respaced_fits : (goal : Target) (x y : List Text) (time : Option Text) (spaces : List Text) (raw : Text) (old : Doc A) → own_words w reg (Share goal x y time) ≡ None → is_seen reg space goal.type_name old ≡ true → FitsDoc raw old → FitsDoc raw (respaced spaces time old)
  respaced_fits goal x y time spaces raw old e s f t k =
      let name : old.type_name ≡ goal.type_name = seen_name goal.type_name old s in
      let k2 : known reg goal.type_name ≡ Some t = ap (known reg) (sym name) ∙ k in
      let kind : kind_of reg goal.type_name ≡ Multiple = ap kind_over k2 ∙ words_kind goal x y time t e k2 in
      let v : is_some old.namespaces ≡ true = listed_some space old.namespaces (subst (λ z. visible z space old ≡ true) kind (seen_visible goal.type_name old s)) in
      kept_fits t.kind t.shareable_at raw old (respaced spaces time old) refl refl refl (sym (none_not old.namespaces v)) (sym v) (f t k)

  fits_if : (raw : Text) (b : Bool) (x y : Deed A) → (b ≡ true → FitsDeed raw x) → FitsDeed raw y → FitsDeed raw (if b then x else y)
  fits_if raw true x y p q = p refl
  fits_if raw false x y p q = q

  left_fits : (goal : Target) (x y : List Text) (time : Option Text) (raw : Text) (seq : ℕ) (old : Doc A) → own_words w reg (Share goal x y time) ≡ None → is_seen reg space goal.type_name old ≡ true → FitsDoc raw old → (spaces : List Text) → FitsDeed raw (spaces_left seq old time spaces)
  left_fits goal x y time raw seq old e s f [] = tt
  left_fits goal x y time raw seq old e s f (z ∷ spaces) = respaced_fits goal x y time (z ∷ spaces) raw old e s f

  act_fits : (act : Act A) (raw : Text) (seq : ℕ) (old : Doc A) → own_words w reg act ≡ None → is_seen reg space (target_of act).type_name old ≡ true → FitsDoc raw old → FitsDeed raw (act_on w act seq old)
  act_fits (Create o over time) raw seq old e s f = tt
  act_fits (Update c time) raw seq old e s f = fits_if raw (token_is w c.token seq) (Remake seq (updated w c time old)) (Deny Refuse.Conflict) (λ g t k. kept_fits t.kind t.shareable_at raw old (updated w c time old) refl refl refl refl refl (f t k)) tt
  act_fits (Delete t x) raw seq old e s f = fits_if raw (is_wide old.namespaces && not x) (Deny Refuse.NeedsForce) (Drop seq) (λ g. tt) tt
  act_fits (Share goal x y time) raw seq old e s f = left_fits goal x y time raw seq old e s f (taken_away y (added x (or_no_space old.namespaces)))

  row_fits : (act : Act A) (raw : Text) (row : Option (Cell (Doc A))) → own_words w reg act ≡ None → FitsRow raw row → FitsDeed raw (on_row w reg space act row)
  row_fits act raw None e f = tt
  row_fits act raw (Some c) e f = fits_if raw (is_seen reg space (target_of act).type_name c.doc) (act_on w act c.seq c.doc) (Deny Refuse.NotFound) (λ s. act_fits act raw c.seq c.doc e s f) tt

  judge_fits : (act : Act A) (raw : Text) (row : Option (Cell (Doc A))) → own_words w reg act ≡ None → raw ≡ raw_of reg space (target_of act) → FitsRow raw row → FitsDeed raw (judge w reg space act row)
  unfolding judge
  judge_fits (Create o false time) raw row e r f = created_fits o false time raw e r
  judge_fits (Create o true time) raw None e r f = created_fits o true time raw e r
  judge_fits (Create o true time) raw (Some c) e r f = fits_if raw (is_seen reg space o.type_name c.doc) (Remake c.seq (overwritten (created w reg space o time) c.doc)) (Deny Refuse.Conflict) (λ s. overwritten_fits o true time raw c.doc e r s f) tt
  judge_fits (Update c time) raw row e r f = row_fits (Update c time) raw row e f
  judge_fits (Delete t x) raw row e r f = row_fits (Delete t x) raw row e f
  judge_fits (Share t x y time) raw row e r f = row_fits (Share t x y time) raw row e f

  -- a table whose rows fit
  abbrev FitTable : Table (Doc A) → Type 0
  FitTable t = AllFit reg t.rows

  row_of : (t : Table (Doc A)) (raw : Text) → FitTable t → FitsRow raw (at raw t.rows)
  row_of t raw f = by (at raw t.rows) refl
    where
      by : (o : Option (Cell (Doc A))) → at raw t.rows ≡ o → FitsRow raw o
      by None e = tt
      by (Some c) e = λ k is. f raw c k e is

  written_fits : (t : Table (Doc A)) (raw : Text) (doc : Doc A) → FitTable t → FitsDoc raw doc → FitTable (written t raw doc)
  written_fits t raw doc f d other c k e is = by (same_is other raw) (sym (at_put other raw (record { seq = t.next; doc = doc }) t.rows) ∙ e)
    where
      new : Cell (Doc A)
      new = record { seq = t.next; doc = doc }

      by : ((same other raw ≡ true) × (other ≡ raw)) ⊎ ((same other raw ≡ false) × (other ≢ raw)) → (if same other raw then Some new else at other t.rows) ≡ Some c → fits k other c.doc ≡ true
      by (inl s) g =
          let h : Some new ≡ Some c = subst (λ b. (if b then Some new else at other t.rows) ≡ Some c) s.0 g in
          let one : new ≡ c = cc in
          subst (λ x. fits k x c.doc ≡ true) (sym s.1) (subst (λ (x : Cell (Doc A)). known reg x.doc.type_name ≡ Some k → fits k raw x.doc ≡ true) one (d k) is)
      by (inr s) g = f other c k (subst (λ b. (if b then Some new else at other t.rows) ≡ Some c) s.0 g) is

  dropped_fits : (t : Table (Doc A)) (raw : Text) → FitTable t → FitTable (dropped t raw)
  dropped_fits t raw f other c k e is = by (same other raw) refl (sym (at_without other raw t.rows) ∙ e)
    where
      by : (b : Bool) → same other raw ≡ b → (if same other raw then None else at other t.rows) ≡ Some c → fits k other c.doc ≡ true
      by true s g = let h : ◌≡◌ {A = Option (Cell (Doc A))} None (Some c) = subst (λ b. (if b then None else at other t.rows) ≡ Some c) s g in absurd (cc)
      by false s g = f other c k (subst (λ b. (if b then None else at other t.rows) ≡ Some c) s g) is

  do_fits : (b : Bool) (raw : Text) (act : Act A) (deed : Deed A) (row : Option (Cell (Doc A))) (t : Table (Doc A)) → FitTable t → FitsDeed raw deed → FitTable (do_deed reg b raw act deed row t).0
  do_fits b raw act (Deny q) row t f d = f
  do_fits true raw act (Make doc) row t f d = f
  do_fits true raw act (Remake m doc) row t f d = f
  do_fits true raw act (Drop m) row t f d = f
  do_fits false raw act (Make doc) (Some c) t f d = f
  do_fits false raw act (Make doc) None t f d = written_fits t raw doc f d
  do_fits false raw act (Remake m doc) row t f d = written_fits t raw doc f d
  do_fits false raw act (Drop m) row t f d = dropped_fits t raw f

  -- an item that its own words don't refuse
  record Said (raw : Text) (act : Act A) : Type 0 where
    words : own_words w reg act ≡ None
    is : raw ≡ raw_of reg space (target_of act)

  unfoldable AllSaid : List (Turn A) → Type 0
  AllSaid [] = Unit {0}
  AllSaid (Denied r ∷ ts) = AllSaid ts
  AllSaid (Goes raw act ∷ ts) = Said raw act × AllSaid ts

  turns_said : (acts : List (Act A)) (taken : List Text) → AllSaid (turns w reg space taken acts)
  unfolding turns AllSaid
  turns_said [] taken = tt
  turns_said (act ∷ acts) taken = by (own_words w reg act) refl (lists other taken) (turns_said acts (taken_after (own_words w reg act) other taken))
    where
      other : Text
      other = raw_of reg space (target_of act)

      by : (o : Option Refuse) → own_words w reg act ≡ o → (b : Bool) → AllSaid (turns w reg space (taken_after o other taken) acts) → AllSaid (turn_over o b other act ∷ turns w reg space (taken_after o other taken) acts)
      by (Some r) e b h = h
      by None e true h = h
      by None e false h = (record { words = e; is = refl }, h)

  module _ (read : Rows (Doc A)) (blocked : Bool) where
    same_fits : (b : Bool) (raw : Text) (act : Act A) (seen now : Option ℕ) (t : Table (Doc A)) → Said raw act → FitTable t → FitTable (where_same w reg space blocked raw act b seen now t).0
    unfolding act_step
    same_fits true raw act seen now t s f = do_fits blocked raw act (judge w reg space act (at raw t.rows)) (at raw t.rows) t f (judge_fits act raw (at raw t.rows) s.words s.is (row_of t raw f))
    same_fits false raw act seen now t s f = f

    over_fits : (raw : Text) (act : Act A) (deed : Deed A) (seen : Option (Cell (Doc A))) (t : Table (Doc A)) → Said raw act → FitTable t → FitTable (item_over w reg space blocked raw act deed seen t).0
    over_fits raw act (Deny q) seen t s f = f
    over_fits raw act (Make doc) seen t s f = same_fits (same_number (number_of seen) (number_of (at raw t.rows))) raw act (number_of seen) (number_of (at raw t.rows)) t s f
    over_fits raw act (Remake m doc) seen t s f = same_fits (same_number (number_of seen) (number_of (at raw t.rows))) raw act (number_of seen) (number_of (at raw t.rows)) t s f
    over_fits raw act (Drop m) seen t s f = same_fits (same_number (number_of seen) (number_of (at raw t.rows))) raw act (number_of seen) (number_of (at raw t.rows)) t s f

    each_fits : (ts : List (Turn A)) (t : Table (Doc A)) → AllSaid ts → FitTable t → FitTable (each_turn (item_step w reg space read blocked) ts t).0
    unfolding each_turn item_step AllSaid
    each_fits [] t s f = f
    each_fits (Denied r ∷ ts) t s f = each_fits ts t s f
    each_fits (Goes raw act ∷ ts) t s f = each_fits ts (item_over w reg space blocked raw act (judge w reg space act (at raw read)) (at raw read) t).0 s.1 (over_fits raw act (judge w reg space act (at raw read)) (at raw read) t s.0 f)

module _ {A O F : Type 0} (w : Words A O F) (reg : Registry O) (read : Option (Generation (Doc A))) (g : Generation (Doc A)) (fit : AllFit reg g.table.rows) where
  abbrev Good : Work A → Type 0
  Good work = AllFit reg (then_on (called_over w reg work (needs_no_store work) read (Some g)).0 g.table).rows

  good_over : (work : Work A) (b : Bool) → AllFit reg (then_on (called_in w reg work (rows_of read) g.blocked g.table).0 g.table).rows → AllFit reg (then_on (called_over w reg work b read (Some g)).0 g.table).rows
  good_over work true h = fit
  good_over work false h = h

  good_writing : (alone : Bool) (space : Text) (acts : List (Act A)) → Good (Writing alone space (turns w reg space [] acts))
  good_writing alone space acts = good_over (Writing alone space (turns w reg space [] acts)) (all_denied (turns w reg space [] acts)) (each_fits w reg space (rows_of read) g.blocked (turns w reg space [] acts) g.table (turns_said w reg space acts []) fit)

  good_unless : (b : Bool) (why : Refuse) (work : Work A) → Good work → Good (unless b why work)
  good_unless true why work h = fit
  good_unless false why work h = h

  good_words : (o : Option Refuse) (work : Work A) → Good work → Good (unless_words o work)
  good_words (Some why) work h = fit
  good_words None work h = h

  pub call_fits : (call : Call A) → AllFit reg (then_on (called w reg call read (Some g)).0 g.table).rows
  unfolding called work_of
  call_fits (Changing space act) = good_unless (bad_space space act) Refuse.BadSpace (Writing true space (turns w reg space [] (act ∷ []))) (good_writing true space (act ∷ []))
  call_fits (BulkCreating space os over time) = good_unless (not (is_space space)) Refuse.BadSpace (Writing false space (turns w reg space [] (creates over time os))) (good_writing false space (creates over time os))
  call_fits (Getting space t) = good_unless (not (is_space space)) Refuse.BadSpace (Looking true space (looks reg (t ∷ []))) (good_over (Looking true space (looks reg (t ∷ []))) (all_refused (looks reg (t ∷ []))) fit)
  call_fits (BulkGetting space ts) = good_unless (not (is_space space)) Refuse.BadSpace (Looking false space (looks reg ts)) (good_over (Looking false space (looks reg ts)) (all_refused (looks reg ts)) fit)
  call_fits (Resolving space q) = good_words (resolve_words reg space q) (Following space q) fit
  call_fits (Finding space f) = good_words (find_words w reg space f) (Searching space f) fit
