-- Rollouts for which all premises hold: a chain of three versions, over documents and over nothing, with clients that write.
use Rattle.std.proofs.Common.{◌≡◌, ◌≢◌, ◌<◌, ◌^◌, ℕ, List, [], ◌∷◌, Bool, true, false, Option, Some, None, refl, sym, ap, subst, arith, if◌then◌else◌, ◌==◌}
use mathlib.Core.Logic.◌⊎◌.{inl, inr}
use lib.Chars.{codes}
use Rattle.base_model.specs.Keyed.{Text, Keyed, same, text_lt, at}
use Rattle.race_model.specs.Stores.{Cell, Table}
use Rattle.race_model.specs.Worlds.{Event}
use Rattle.race_model.specs.Worlds.Event.{Step}
use Rattle.race_model.specs.Journals.{Has}
use Rattle.race_model.specs.Sorted.{AllAbove, IsSorted}
use Rattle.race_model.specs.Openings.{world_after}
use Rattle.race_follow.proofs.Laws.{worlds_conform}
use Rattle.space_scope.specs.declared.kind.Kind.TheVariants.{Single}
use Rattle.document_model.specs.Documents.{ver_lt, Doc, lists}
use Rattle.document_model.specs.Registries.{names_apart}
use Rattle.version_token.specs.declared.Ver.{Ver}
use Rattle.version_token.specs.Version.{IsVer}
use Rattle.raw_id.specs.IndexNames.{version_alias}
use Rattle.call_model.specs.Words.{Words}
use Rattle.call_model.specs.Scripts.{Script}
use Rattle.call_model.specs.History.{IsLegal}
use Rattle.call_model.specs.Upgrades.{TargetSet, Start, Rollout, scenario_of, named_version}
use Rattle.call_model.specs.Upgrades.Start.{Empty, Holding}
use Rattle.call_laws.specs.Meanings.{Numbered}
use Rattle.upgrade_laws.specs.Premises.{IsRegistry, product_names, HasProductNames, StartsWell, AllBegin, IsRollout, IsOfOneSet}
use Rattle.upgrade_laws.proofs.Claims.{legal}
use Rattle.call_rows.proofs.Example.{words as plain_words}
use Rattle.call_rows.proofs.Example.{version, registry, set_of, default_space, create, update, get, client, plain_doc}

abbrev dashboard : Text
dashboard = codes "dashboard"

-- the opening's set, and two sets with pages of two rows and of one
abbrev old : TargetSet ℕ
old = set_of 1000 (registry 11 dashboard Single)

abbrev new : TargetSet ℕ
new = set_of 2 (registry 12 dashboard Single)

abbrev newest : TargetSet ℕ
newest = set_of 1 (registry 13 dashboard Single)

abbrev sets : List (TargetSet ℕ)
sets = old ∷ new ∷ newest ∷ []

-- instance 1 is of the last version, all others of the one before
abbrev set_at : ℕ → TargetSet ℕ
set_at i = if i == 1 then newest else new

-- the words of the worked calls, with the product's aliases of versions
abbrev words : Words (Keyed Text) ℕ ℕ
words = record {
  transforms = plain_words.transforms;
  merge = plain_words.merge;
  text_at = plain_words.text_at;
  token_number = plain_words.token_number;
  version_alias = version_alias;
  read_filter = plain_words.read_filter;
  holds = plain_words.holds;
}

abbrev writer : TargetSet ℕ → Script (Keyed Text) ℕ
writer s = client s.registry (create default_space dashboard (codes "x") [] ∷ update dashboard (codes "x") ((codes "n", codes "1") ∷ []) None ∷ get dashboard (codes "x") ∷ [])

abbrev three_rows : Table (Doc (Keyed Text))
three_rows = record {
  rows = (codes "dashboard:a", record { seq = 0; doc = plain_doc dashboard }) ∷ (codes "dashboard:b", record { seq = 1; doc = plain_doc dashboard }) ∷ (codes "dashboard:c", record { seq = 2; doc = plain_doc dashboard }) ∷ [];
  next = 3;
}

abbrev rollout_by : (ℕ → TargetSet ℕ) → Start (Keyed Text) ℕ → Rollout (Keyed Text) ℕ ℕ
rollout_by set_of start = record { words = words; names = product_names; sets = sets; set_of = set_of; start = start; instances = 3; scripts = writer old ∷ writer new ∷ writer newest ∷ [] }

abbrev rollout : Start (Keyed Text) ℕ → Rollout (Keyed Text) ℕ ℕ
rollout start = rollout_by set_at start

-- something holds of each set
each_set : (P : TargetSet ℕ → Type 0) → P old → P new → P newest → (s : TargetSet ℕ) → Has s sets → P s
unfolding Has
each_set P a b c s h = elim h [
  | inl e ↦ subst P (sym e) a
  | inr k ↦ elim k [ inl e ↦ subst P (sym e) b | inr l ↦ elim l [ inl e ↦ subst P (sym e) c | inr m ↦ absurd m ] ]
]

-- one set for each version
one_each : (s t : TargetSet ℕ) → Has s sets → Has t sets → s.registry.version ≡ t.registry.version → s ≡ t
one_each s t h k = each_set (λ x. (y : TargetSet ℕ) → Has y sets → x.registry.version ≡ y.registry.version → x ≡ y)
    (each_set (λ y. old.registry.version ≡ y.registry.version → old ≡ y) (λ e. refl) (other old new (λ e. cc)) (other old newest (λ e. cc)))
    (each_set (λ y. new.registry.version ≡ y.registry.version → new ≡ y) (other new old (λ e. cc)) (λ e. refl) (other new newest (λ e. cc)))
    (each_set (λ y. newest.registry.version ≡ y.registry.version → newest ≡ y) (other newest old (λ e. cc)) (other newest new (λ e. cc)) (λ e. refl)) s h t k
  where
    other : (x y : TargetSet ℕ) → x.registry.version.minor ≢ y.registry.version.minor → x.registry.version ≡ y.registry.version → x ≡ y
    other x y n e = absurd (n (ap (λ (v : Ver). v.minor) e))

named : HasProductNames words product_names sets
named = record {
  product = refl;
  alias = λ v. refl;
  bounded = each_set (λ s. IsVer s.registry.version) (small 11 (omega arith)) (small 12 (omega arith)) (small 13 (omega arith));
  one_each = one_each;
}
  where
    small : (minor : ℕ) → minor < 2 ^ 64 → IsVer (version minor)
    small minor lt = (omega arith, lt, omega arith)

set_is_in : (i : ℕ) → Has (set_at i) sets
unfolding Has
set_is_in i = by (i == 1)
  where
    by : (b : Bool) → Has (if b then newest else new) sets
    by true = inr (inr (inl refl))
    by false = inr (inl refl)

set_isnt_old : (i : ℕ) → set_at i ≢ old
set_isnt_old i = by (i == 1)
  where
    by : (b : Bool) → (if b then newest else new) ≢ old
    by true e = let f : ◌≡◌ {A = ℕ} 1 1000 = ap (λ (x : TargetSet ℕ). x.batch) e in absurd (cc)
    by false e = let f : ◌≡◌ {A = ℕ} 2 1000 = ap (λ (x : TargetSet ℕ). x.batch) e in absurd (cc)

-- a rollout of some of the three versions, however its store opens
holds_by : (set_of : ℕ → TargetSet ℕ) → ((i : ℕ) → Has (set_of i) sets) → (start : Start (Keyed Text) ℕ) → StartsWell sets set_of start → IsRollout (rollout_by set_of start)
unfolding Has AllBegin names_apart lists same
holds_by set_of runs start well = record {
  names = named;
  registries = each_set (λ s. IsRegistry s.registry) refl refl refl;
  batches = each_set (λ s. 0 < s.batch) (omega arith) (omega arith) (omega arith);
  runs = runs;
  start = well;
  scripts = (
    record { unheard = refl; first = refl; set = old; is_in = inl refl; registry = refl },
    (record { unheard = refl; first = refl; set = new; is_in = inr (inl refl); registry = refl }, (record { unheard = refl; first = refl; set = newest; is_in = inr (inr (inl refl)); registry = refl }, tt)),
  );
}

-- a chain of three versions
holds_of : (start : Start (Keyed Text) ℕ) → StartsWell sets set_at start → IsRollout (rollout start)
holds_of start well = holds_by set_at set_is_in start well

if_numbered : (raw key : Text) (x c : Cell (Doc (Keyed Text))) (o : Option (Cell (Doc (Keyed Text)))) → x.seq < 3 → (o ≡ Some c → c.seq < 3) → (b : Bool) → (if b then Some x else o) ≡ Some c → c.seq < 3
if_numbered raw key x c o l f true e = let is : x ≡ c = cc in subst (λ (z : Cell (Doc (Keyed Text))). z.seq < 3) is l
if_numbered raw key x c o l f false e = f e

rows_are_numbered : Numbered three_rows
unfolding at
rows_are_numbered raw c e =
    if_numbered raw (codes "dashboard:a") (record { seq = 0; doc = plain_doc dashboard }) c _ (omega arith)
    (if_numbered raw (codes "dashboard:b") (record { seq = 1; doc = plain_doc dashboard }) c _ (omega arith)
    (if_numbered raw (codes "dashboard:c") (record { seq = 2; doc = plain_doc dashboard }) c None (omega arith) (λ f. absurd (cc)) (same raw (codes "dashboard:c")))
    (same raw (codes "dashboard:b")))
    (same raw (codes "dashboard:a")) e

over_documents : IsRollout (rollout (Holding old three_rows))
unfolding Has IsSorted AllAbove text_lt
over_documents = holds_of (Holding old three_rows) (inl refl, set_isnt_old, ((refl, (refl, tt)), ((refl, tt), (tt, tt))), rows_are_numbered)

over_nothing : IsRollout (rollout Empty)
over_nothing = holds_of Empty tt

-- a schedule with a client that writes between the requests of two instances: its journal is legal
abbrev schedule : List Event
schedule = Event.Start 1 ∷ Event.Start 2 ∷ Step 1 ∷ Event.Client 1 ∷ Step 2 ∷ Step 1 ∷ Event.Client 1 ∷ Step 2 ∷ Step 2 ∷ Event.Client 1 ∷ Step 1 ∷ Event.Client 2 ∷ []

schedule_is_legal : (start : Start (Keyed Text) ℕ) → StartsWell sets set_at start → IsLegal words (named_version product_names) (scenario_of (rollout start)) (world_after (scenario_of (rollout start)) schedule).journal
schedule_is_legal start well =
    legal (rollout start) (holds_of start well) (world_after (scenario_of (rollout start)) schedule).journal
    (worlds_conform (scenario_of (rollout start)) schedule)

-- a rollout of one version above the opening's: a start fails by documents alone
one_set : Rollout (Keyed Text) ℕ ℕ
one_set = rollout_by (λ i. new) (Holding old three_rows)

new_isnt_old : new ≢ old
new_isnt_old e = let f : ◌≡◌ {A = ℕ} 2 1000 = ap (λ (x : TargetSet ℕ). x.batch) e in absurd (cc)

one_set_is : IsRollout one_set × IsOfOneSet one_set new
unfolding one_set Has IsSorted AllAbove text_lt ver_lt
one_set_is = (
  holds_by (λ i. new) (λ i. inr (inl refl)) (Holding old three_rows) (inl refl, (λ i. new_isnt_old), ((refl, (refl, tt)), ((refl, tt), (tt, tt))), rows_are_numbered),
  record { all = λ i. refl; above = refl },
)
