-- A race of two target sets, with clients of each version that write, for which all premises hold.
use Rattle.std.proofs.Common.{◌≡◌, ◌≢◌, ℕ, suc, ◌+◌, ◌≤◌, ◌⊎◌, List, [], ◌∷◌, ◌++◌, length, take, drop, Bool, true, false, Option, Some, None, refl, sym, ◌∙◌, ap, subst, if◌then◌else◌, IsTrue, nat_lt, ◌==◌, arith}
use Rattle.std.proofs.lemmas.Bool.Decides.{nat_tests}
use Rattle.std.proofs.lemmas.List.{take-append-drop}
use mathlib.Core.Logic.◌⊎◌.{inl, inr}
use Rattle.base_model.specs.Keyed.{Text, same}
use Rattle.race_model.specs.Stores.{Rows, Request, Write}
use Rattle.race_model.specs.Stores.Request.{Bulk}
use Rattle.race_model.specs.Machines.{Settings}
use Rattle.base_model.specs.Outcomes.Outcome.{Outputs}
use Rattle.race_model.specs.Journals.{Has}
use Rattle.race_model.specs.Worlds.{Race}
use Rattle.race_model.specs.Sorted.{IsSorted, last_key}
use Rattle.base_model.specs.Keyed.{at, put, text_lt}
use Rattle.race_model.specs.Stores.{Index, serve}
use Rattle.race_model.specs.Machines.{request}
use Rattle.race_model.specs.Sorted.{Each, AllAbove}
use Rattle.race_model.specs.Migrated.{IsGoodOutcome}
use Rattle.race_model.specs.Journals.{Conforms, MayCome, state_of, all_followed}
use Rattle.race_model.specs.History.{found_after_all, facts_from}
use Rattle.race_model.specs.Worlds.{Entry, nth}
use Rattle.race_model.specs.Worlds.Actor.{Instance}
use Rattle.race_model.specs.Worlds.How.{Heard}
use Rattle.race_model.specs.Openings.{Scenario, opening_store, IsJournal, trace_after, facts_since}
use Rattle.race_model.specs.Openings.Opening.{OneGeneration}
use Rattle.race_tables.proofs.Lists.{none_some, some_same}
use Rattle.race_claims.specs.OneVersion.{IsOneVersion}
use Rattle.race_claims.specs.Unhindered.{FindsUnknown, IsClear, OnlyTo, AtOwn, IsUnhindered}
use Rattle.race_model.specs.Premises.{RaceLaws, IsFair, AllSound, Paged, FreshWrites, Paged, NamesApart, VersionsInOrder, NotBelow, AsksOf}
use Rattle.race_tables.proofs.Keys.{same_true, same_refl}
use Rattle.race_rows.proofs.Pages.{chosen, skips, none_taken, all_true}

abbrev Q : Type 0
Q = ℕ × Option Text

abbrev is_above : ℕ → Text → Bool
is_above v [] = false
is_above v (k ∷ []) = false
is_above v (k ∷ w ∷ n) = nat_lt v w

abbrev set_of : ℕ → Settings ℕ Q
set_of v = record {
  current = 1 ∷ [];
  version = 2 ∷ v ∷ [];
  target = 3 ∷ v ∷ [];
  temp = 4 ∷ v ∷ [];
  is_later = λ n. is_above v n;
  is_same = λ n. same n (3 ∷ v ∷ []);
  unknown = (0, None);
  page = λ a. (1, a);
  outdated = λ a. (0, a);
  outcome = λ raw doc. Outputs ((raw, doc + 100) ∷ []);
  attempts = 15;
}

abbrev sets : List (Settings ℕ Q)
sets = set_of 11 ∷ set_of 12 ∷ set_of 13 ∷ []

-- a client of version 11 + c that writes
abbrev asks : ℕ → Option (Request ℕ Q)
asks c = if nat_lt c 3 then Some (Bulk (2 ∷ 12 ∷ []) (Write.Create (12 ∷ []) c ∷ [])) else None

-- instances of version 12 where the test holds, and of version 13
abbrev pub race_by : (ℕ → Bool) → Race ℕ Q ℕ
race_by is_older = record {
  select = record { rows = λ q rows. chosen q.0 q.1 rows; total = λ q rows. length rows };
  settings = λ i. if is_older i then set_of 12 else set_of 13;
  clients = record { asks = asks; told = λ c r. c + 1; call = λ c. c + 1 };
}

abbrev pub two_sets : Race ℕ Q ℕ
two_sets = race_by (λ i. i == 1)

-- each set is that of a version
is_set : (v : Settings ℕ Q) → Has v sets → (n : ℕ) × (v ≡ set_of n)
unfolding Has
is_set v (inl e) = (11, e)
is_set v (inr (inl e)) = (12, e)
is_set v (inr (inr (inl e))) = (13, e)
is_set v (inr (inr (inr e))) = absurd e

set_apart : (n m : ℕ) → (set_of n ≡ set_of m) ⊎ (((set_of n).version ≢ (set_of m).version) × ((set_of n).target ≢ (set_of m).target) × ((set_of n).temp ≢ (set_of m).temp))
set_apart n m = by (n == m) refl
  where
    by : (t : Bool) → (n == m) ≡ t → (set_of n ≡ set_of m) ⊎ (((set_of n).version ≢ (set_of m).version) × ((set_of n).target ≢ (set_of m).target) × ((set_of n).temp ≢ (set_of m).temp))
    by true e = inl (ap set_of (let z : n ≡ m = grind (arith, nat_tests) in z))
    by false e =
        let x : n ≢ m = λ z. grind (arith, nat_tests) in
        inr (λ z. x (cc), λ z. x (cc), λ z. x (cc))

example_names : NamesApart (1 ∷ []) (λ v. Has v sets)
example_names = record {
  current = λ v i. let e = is_set v i in rw e.1 refl;
  cur_ver = λ v i. let e = is_set v i in subst (λ z. 1 ∷ [] ≢ z.version) (sym e.1) (λ z. cc);
  cur_target = λ v i. let e = is_set v i in subst (λ z. 1 ∷ [] ≢ z.target) (sym e.1) (λ z. cc);
  cur_temp = λ v i. let e = is_set v i in subst (λ z. 1 ∷ [] ≢ z.temp) (sym e.1) (λ z. cc);
  ver_target = λ v w i j. let e = is_set v i in let f = is_set w j in subst (λ z. z.version ≢ w.target) (sym e.1) (subst (λ z. 2 ∷ e.0 ∷ [] ≢ z.target) (sym f.1) (λ z. cc));
  ver_temp = λ v w i j. let e = is_set v i in let f = is_set w j in subst (λ z. z.version ≢ w.temp) (sym e.1) (subst (λ z. 2 ∷ e.0 ∷ [] ≢ z.temp) (sym f.1) (λ z. cc));
  target_temp = λ v w i j. let e = is_set v i in let f = is_set w j in subst (λ z. z.target ≢ w.temp) (sym e.1) (subst (λ z. 3 ∷ e.0 ∷ [] ≢ z.temp) (sym f.1) (λ z. cc));
  apart = λ v w i j. let e = is_set v i in let f = is_set w j in
      subst (λ z. (z ≡ w) ⊎ ((z.version ≢ w.version) × (z.target ≢ w.target) × (z.temp ≢ w.temp))) (sym e.1)
      (subst (λ z. (set_of e.0 ≡ z) ⊎ ((2 ∷ e.0 ∷ [] ≢ z.version) × (3 ∷ e.0 ∷ [] ≢ z.target) × (4 ∷ e.0 ∷ [] ≢ z.temp))) (sym f.1) (set_apart e.0 f.0));
}

same_number : (n m : ℕ) → same (3 ∷ m ∷ []) (3 ∷ n ∷ []) ≡ true → n ≡ m
same_number n m e = let z : 3 ∷ m ∷ [] ≡ 3 ∷ n ∷ [] = same_true (3 ∷ m ∷ []) (3 ∷ n ∷ []) e in cc

number_rises : (u v w : ℕ) → NotBelow (set_of u) (3 ∷ v ∷ []) → nat_lt w v ≡ false → same (3 ∷ v ∷ []) (3 ∷ w ∷ []) ≡ false → NotBelow (set_of u) (3 ∷ w ∷ [])
number_rises u v w (inl later) below other = inl (by (nat_lt u w) refl)
  where
    by : (t : Bool) → nat_lt u w ≡ t → nat_lt u w ≡ true
    by true e = e
    by false e = grind (arith, nat_tests)
number_rises u v w (inr equal) below other =
    let is : u ≡ v = same_number u v equal in
    let x : v ≢ w = λ z. (let y : same (3 ∷ v ∷ []) (3 ∷ w ∷ []) ≡ true = subst (λ k. same (3 ∷ v ∷ []) (3 ∷ k ∷ []) ≡ true) z (same_refl (3 ∷ v ∷ [])) in let q : true ≡ false = sym y ∙ other in cc) in
    inl (grind (arith, nat_tests))

example_order : VersionsInOrder (λ v. Has v sets)
example_order = record {
  own = λ v i. let e = is_set v i in subst (λ z. z.is_same z.target ≡ true) (sym e.1) (same_refl (3 ∷ e.0 ∷ []));
  is_own = λ v w i j h. let e = is_set v i in let f = is_set w j in
      let k : same (3 ∷ f.0 ∷ []) (3 ∷ e.0 ∷ []) ≡ true = subst (λ z. same z.target (3 ∷ e.0 ∷ []) ≡ true) f.1 (subst (λ z. z.is_same w.target ≡ true) e.1 h) in
      e.1 ∙ ap set_of (same_number e.0 f.0 k) ∙ sym f.1;
  rises = λ u v w i j k not later equal. let a = is_set u i in let b = is_set v j in let c = is_set w k in
      subst (λ z. NotBelow z w.target) (sym a.1) (subst (λ z. NotBelow (set_of a.0) z.target) (sym c.1) (number_rises a.0 b.0 c.0
      (subst (λ z. NotBelow (set_of a.0) z.target) b.1 (subst (λ z. NotBelow z v.target) a.1 not))
      (subst (λ z. is_above c.0 z.target ≡ false) b.1 (subst (λ z. z.is_later v.target ≡ false) c.1 later))
      (subst (λ z. same z.target (3 ∷ c.0 ∷ []) ≡ false) b.1 (subst (λ z. z.is_same v.target ≡ false) c.1 equal))));
}

asked : (b : Bool) (c : ℕ) (ask : Request ℕ Q) → (if b then Some (Bulk (2 ∷ 12 ∷ []) (Write.Create (12 ∷ []) c ∷ [])) else None) ≡ Some ask → AsksOf (λ v. Has v sets) (λ v raw doc. IsTrue true) ask
unfolding FreshWrites Has
asked true c ask e = let is : Bulk (2 ∷ 12 ∷ []) (Write.Create (12 ∷ []) c ∷ []) ≡ ask = cc in subst (AsksOf (λ v. Has v sets) (λ v raw doc. IsTrue true)) is (set_of 12, inr (inl refl), refl, (refl, tt))
asked false c ask e = absurd (cc)

runs : (b : Bool) → Has (if b then set_of 12 else set_of 13) sets
unfolding Has
runs true = inr (inl refl)
runs false = inr (inr (inl refl))

calm : (b : Bool) (after : Option Text) (rows : Rows ℕ) → chosen ((if b then set_of 12 else set_of 13).outdated after).0 ((if b then set_of 12 else set_of 13).outdated after).1 rows ≡ []
unfolding chosen
calm true after rows = refl
calm false after rows = refl

-- the opening: two rows of the first version
abbrev rows : Rows ℕ
rows = (10 ∷ [], record { seq = 0; doc = 1 }) ∷ (11 ∷ [], record { seq = 1; doc = 2 }) ∷ []

abbrev pub two_versions : Scenario ℕ Q ℕ
two_versions = record { race = two_sets; current = 1 ∷ []; sets = sets; opening = OneGeneration (set_of 11) (record { rows = rows; next = 2 }); instances = 2; scripts = 0 ∷ [] }

-- the premises can be met
laws_by : (is_older : ℕ → Bool) → RaceLaws (race_by is_older) (1 ∷ []) (λ v. Has v sets) (λ v raw doc. IsTrue true) (λ c. IsTrue true)
unfolding chosen
laws_by is_older = record {
  names = example_names;
  order = example_order;
  runs = λ i. runs (is_older i);
  page = λ v i before rest sorted. let e = is_set v i in
      (take 2 rest, drop 2 rest, sym (take-append-drop 2 rest), subst (λ z. chosen (z.page (last_key None before)).0 (z.page (last_key None before)).1 (before ++ rest) ≡ take 2 rest) (sym e.1) (ap (take 2) (skips before rest sorted)), none_taken rest);
  selects_fresh = λ v i q docs a. all_true (chosen q.0 q.1 docs);
  not_outdated = λ i after docs a. calm (is_older i) after docs;
  fresh_outputs = λ v i raw doc out h. refl;
  asks = λ c ask sound e. asked (nat_lt c 3) c ask e;
  told = λ c ask reply sound e f. refl;
}

pub fair : IsFair two_versions (λ v raw doc. true) (λ c. true)
unfolding Has IsSorted AllAbove Each AllSound text_lt
fair = record { laws = laws_by (λ i. i == 1); opens = (inl refl, ((refl, tt), (tt, tt)), (refl, (refl, tt))); sound = (refl, tt) }

shorter : (rest : Rows ℕ) → (take 2 rest ≡ []) ⊎ (suc (length (drop 2 rest)) ≤ length rest)
shorter [] = inl refl
shorter (x ∷ []) = inr (omega arith)
shorter (x ∷ y ∷ rest) = inr (omega arith)

paged : (b : Bool) (before rest : Rows ℕ) → IsSorted (before ++ rest) →
    chosen ((if b then set_of 12 else set_of 13).page (last_key None before)).0 ((if b then set_of 12 else set_of 13).page (last_key None before)).1 (before ++ rest) ≡ take 2 rest
unfolding chosen
paged true before rest sorted = ap (take 2) (skips before rest sorted)
paged false before rest sorted = ap (take 2) (skips before rest sorted)

pub pages : (i : ℕ) → Paged two_sets.select (two_sets.settings i) (λ rows. length rows)
pages i = record { fewer = λ before rest sorted. (take 2 rest, drop 2 rest, sym (take-append-drop 2 rest), paged (i == 1) before rest sorted, shorter rest) }

-- each target's name has its version
abbrev pub version_in : Text → Option Text
version_in (k ∷ v ∷ []) = Some (v ∷ [])
version_in _ = None

pub knows : (v : Settings ℕ Q) → Has v sets → (version : Text) × (version_in v.target ≡ Some version)
knows v i = let e = is_set v i in (e.0 ∷ [], subst (λ z. version_in z.target ≡ Some (e.0 ∷ [])) (sym e.1) refl)

found : (b : Bool) (docs : Rows ℕ) → chosen (if b then set_of 12 else set_of 13).unknown.0 (if b then set_of 12 else set_of 13).unknown.1 docs ≡ []
unfolding chosen
found true docs = refl
found false docs = refl

pub finds : (i : ℕ) → FindsUnknown two_sets.select (two_sets.settings i)
finds i docs good = found (i == 1) docs

-- the first entry of a start of instance 1, at which nothing stands against it
abbrev first : Entry ℕ Q
first = record { actor = Instance 1; tag = 1; how = Heard; request = Request.State; reply = (serve two_sets.select (opening_store (1 ∷ []) two_versions.opening) Request.State).1 }

pub first_conforms : IsJournal two_versions (first ∷ [])
unfolding Conforms MayCome nth request serve state_of
first_conforms = (((arith_le, refl), refl), tt)
  where
    arith_le : 0 ≤ 1
    arith_le = omega arith

all_good : (docs : Rows ℕ) → Each (λ raw doc. IsGoodOutcome ((set_of 12).outcome raw doc)) docs
unfolding Each
all_good [] = tt
all_good (r ∷ docs) = (tt, all_good docs)

pub clear : IsClear (set_of 12) (3 ∷ 11 ∷ []) (opening_store (1 ∷ []) two_versions.opening) Request.State
unfolding at same
clear = record {
  own_source = λ looks n index kind e. elim kind [ inl is ↦ absurd (no_temp n index is e) | inr is ↦ absurd (no_target n index is e) ];
  good = λ index e. all_good index.table.rows;
  clean = λ index e b. absurd (still_open index e b);
}
  where
    no_temp : (n : Text) (index : Index ℕ) → n ≡ 4 ∷ 12 ∷ [] → at n (opening_store (1 ∷ []) two_versions.opening).indices ≡ Some index → ⊥
    no_temp n index is e = none_some index (at (4 ∷ 12 ∷ []) (opening_store (1 ∷ []) two_versions.opening).indices) refl (subst (λ m. at m (opening_store (1 ∷ []) two_versions.opening).indices ≡ Some index) is e)

    no_target : (n : Text) (index : Index ℕ) → n ≡ 3 ∷ 12 ∷ [] → at n (opening_store (1 ∷ []) two_versions.opening).indices ≡ Some index → ⊥
    no_target n index is e = none_some index (at (3 ∷ 12 ∷ []) (opening_store (1 ∷ []) two_versions.opening).indices) refl (subst (λ m. at m (opening_store (1 ∷ []) two_versions.opening).indices ≡ Some index) is e)

    still_open : (index : Index ℕ) → at (3 ∷ 11 ∷ []) (opening_store (1 ∷ []) two_versions.opening).indices ≡ Some index → index.blocked ≡ true → ⊥
    still_open index e b =
        let is : record { blocked = false; source = None; table = record { rows = rows; next = 2 } } ≡ index = some_same _ index (at (3 ∷ 11 ∷ []) (opening_store (1 ∷ []) two_versions.opening).indices) refl e in
        let x : false ≡ true = ap (λ (z : Index ℕ). z.blocked) is ∙ b in
        cc

pub unhindered : IsUnhindered two_sets 1 1 (set_of 12) (facts_since two_versions version_in [] (first ∷ [])) (trace_after two_versions []) (first ∷ []) (at (1 ∷ []) (trace_after two_versions []).store.aliases)
unfolding all_followed facts_from OnlyTo AtOwn at put same text_lt found_after_all
unhindered = inr (refl, tt, ((λ own. clear), tt))

-- every instance is of version 12, above the opening's
abbrev pub one_version : Scenario ℕ Q ℕ
one_version = record { race = race_by (λ i. true); current = 1 ∷ []; sets = sets; opening = OneGeneration (set_of 11) (record { rows = rows; next = 2 }); instances = 2; scripts = 0 ∷ [] }

pub one_fair : IsFair one_version (λ v raw doc. true) (λ c. true)
unfolding Has IsSorted AllAbove Each AllSound text_lt
one_fair = record { laws = laws_by (λ i. true); opens = (inl refl, ((refl, tt), (tt, tt)), (refl, (refl, tt))); sound = (refl, tt) }

pub one_is : IsOneVersion one_version (set_of 12)
unfolding same
one_is = record { all = λ i. refl; above = (refl, refl) }
