-- Members by their keys: places, soundness and the order of keys.
use Rattle.std.proofs.Common.{◌≡◌, ℕ, zero, suc, ◌∷◌, [], List, Option, Some, None, option_map, slice_get, Bool, true, false, not, Ordering, Less, Equal, Greater, refl, sym, ap, ◌∙◌, true≢false, inl, inr}
use Rattle.std.specs.Option.{unwrap_or}
use Rattle.std.specs.List.{list_all, remove}
use Rattle.std.specs.Str.{bytes_eq}
use Rattle.std.specs.Ordering.{nat_cmp, is_lt, is_eq, ordering_reverse}
use Rattle.std.specs.Cmp.Lexicographic.{slice_cmp, nat_list_cmp_total}
use Rattle.std.proofs.lemmas.Bool.{cases_Bool, and_parts, and_from}
use Rattle.std.proofs.lemmas.Map.Text.{is_eq-slice_cmp}
use Rattle.std.proofs.lemmas.Slice.Eq.{bytes_eq-Decides}
use Rattle.base_model.specs.Keyed.{Text}
use Rattle.so_js.specs.Tree.{is_sound, are_rising, keys_of}
use Rattle.so_js.specs.Printing.{members_are_sound}
use Rattle.so_js.specs.declared.js.Js.{Js}
use Rattle.so_js.specs.declared.js.Member.{Member}
use Rattle.so_js.proofs.TreeLaws.{IsBelowAll, IsBelowAll-lower, is_Less, are_rising_parts}
use Rattle.transform_ops.specs.Attributes.{named, value_at, without, place_at, placed, with_value}

-- ---- places

-- what taking the member at its place out leaves, and its value
pub record IsTaken (key : Text) (ms : List (Member Js)) (at : ℕ) (m : Member Js) : Type 0 where
  pub value : value_at key ms ≡ Some m.value
  pub rest : remove ms at ≡ without key ms

abbrev Takes : Text → List (Member Js) → ℕ → Type 0
Takes key ms at = (m : Member Js) → slice_get ms at ≡ Some m → IsTaken key ms at m

option_suc : (o : Option ℕ) (at : ℕ) → option_map suc o ≡ Some at → (n : ℕ) × (o ≡ Some n) × (suc n ≡ at)
option_suc None at h = cc h
option_suc (Some n) at h = (n, refl, ap (λ (o : Option ℕ). unwrap_or o 0) h)

pub taken_at : (key : Text) (ms : List (Member Js)) (at : ℕ) → place_at key ms ≡ Some at → (m : Member Js) → slice_get ms at ≡ Some m → IsTaken key ms at m
taken_at key [] at h m is = cc h
taken_at key (n ∷ ms) zero h m is = elim (cases_Bool (bytes_eq n.key key)) [
  | inl same ↦
      let own : n ≡ m = cc in
      record { value = rw same (ap (λ (k : Member Js). Some k.value) own); rest = rw same refl }
  | inr other ↦
      let k = option_suc (place_at key ms) zero (rw other at h) in
      cc k.2
]
taken_at key (n ∷ ms) (suc at) h m is = elim (cases_Bool (bytes_eq n.key key)) [
  | inl same ↦
      let wrong : Some zero ≡ Some (suc at) = rw same at h in
      cc wrong
  | inr other ↦
      let k = option_suc (place_at key ms) (suc at) (rw other at h) in
      let here : place_at key ms ≡ Some at = k.1 ∙ ap Some (cc k.2) in
      let rest = taken_at key ms at here m is in
      record { value = rw other rest.value; rest = rw other (ap (λ (xs : List (Member Js)). n ∷ xs) rest.rest) }
]

option_suc_none : (o : Option ℕ) → option_map suc o ≡ None → o ≡ None
option_suc_none None h = refl
option_suc_none (Some n) h = cc h

-- where the key isn't there, there is no value and nothing to leave out
pub none_at : (key : Text) (ms : List (Member Js)) → place_at key ms ≡ None → (value_at key ms ≡ None) × (without key ms ≡ ms)
none_at key [] h = (refl, refl)
none_at key (n ∷ ms) h = elim (cases_Bool (bytes_eq n.key key)) [
  | inl same ↦
      let wrong : Some zero ≡ None = rw same at h in
      cc wrong
  | inr other ↦
      let rest = none_at key ms (option_suc_none (place_at key ms) (rw other at h)) in
      (rw other rest.0, rw other (ap (λ (xs : List (Member Js)). n ∷ xs) rest.1))
]

-- ---- other keys

-- taking another member out leaves the value under a key
pub value_at-without : (key other : Text) (ms : List (Member Js)) → bytes_eq key other ≡ false → value_at other (without key ms) ≡ value_at other ms
value_at-without key other [] apart = refl
value_at-without key other (n ∷ ms) apart = elim (cases_Bool (bytes_eq n.key key)) [
  | inl same ↦
      let own : n.key ≡ key = (bytes_eq-Decides n.key key).0 same in
      let differs : bytes_eq n.key other ≡ false = ap (λ (k : Text). bytes_eq k other) own ∙ apart in
      rw (same, differs) refl
  | inr stays ↦ elim (cases_Bool (bytes_eq n.key other)) [
    | inl there ↦ rw (stays, there) refl
    | inr passed ↦ rw (stays, passed) (value_at-without key other ms apart)
  ]
]

-- ---- soundness

pub placed-before : (m n : Member Js) (ns : List (Member Js)) → is_lt (slice_cmp nat_cmp m.key n.key) ≡ true → placed m (n ∷ ns) ≡ m ∷ n ∷ ns
placed-before m n ns h = rw h refl

pub placed-behind : (m n : Member Js) (ns : List (Member Js)) → is_lt (slice_cmp nat_cmp m.key n.key) ≡ false → placed m (n ∷ ns) ≡ n ∷ placed m ns
placed-behind m n ns h = rw h refl

-- the members have no such key
abbrev pub lacks : Text → List (Member Js) → Bool
lacks key ms = list_all (λ m. not (bytes_eq m.key key)) ms

not-true : (b : Bool) → not b ≡ true → b ≡ false
not-true true h = cc h
not-true false h = refl

values_sound : List (Member Js) → Type 0
values_sound ms = list_all (λ m. is_sound m.value) ms ≡ true

pub values-placed : (test : Member Js → Bool) (m : Member Js) (ns : List (Member Js)) → test m ≡ true → list_all test ns ≡ true → list_all test (placed m ns) ≡ true
values-placed test m [] own others = and_from _ _ own refl
values-placed test m (n ∷ ns) own others = elim (cases_Bool (is_lt (slice_cmp nat_cmp m.key n.key))) [
  | inl before ↦ rw (placed-before m n ns before) (and_from _ _ own others)
  | inr behind ↦ rw (placed-behind m n ns behind) (and_from _ _ (and_parts _ _ others).0 (values-placed test m ns own (and_parts _ _ others).1))
]

pub values-without : (test : Member Js → Bool) (key : Text) (ns : List (Member Js)) → list_all test ns ≡ true → list_all test (without key ns) ≡ true
values-without test key [] others = refl
values-without test key (n ∷ ns) others = elim (cases_Bool (bytes_eq n.key key)) [
  | inl same ↦ rw same (and_parts _ _ others).1
  | inr other ↦ rw other (and_from _ _ (and_parts _ _ others).0 (values-without test key ns (and_parts _ _ others).1))
]

rising_from : (k : Text) (more : List Text) → IsBelowAll k more → are_rising more ≡ true → are_rising (k ∷ more) ≡ true
rising_from k [] below rising = refl
rising_from k (l ∷ more) below rising = and_from _ _ (ap is_lt below.0) rising

below-placed : (k : Text) (m : Member Js) (ns : List (Member Js)) → slice_cmp nat_cmp k m.key ≡ Less → IsBelowAll k (keys_of ns) → IsBelowAll k (keys_of (placed m ns))
below-placed k m [] first below = (first, tt)
below-placed k m (n ∷ ns) first below = elim (cases_Bool (is_lt (slice_cmp nat_cmp m.key n.key))) [
  | inl before ↦ rw (placed-before m n ns before) (first, below)
  | inr behind ↦ rw (placed-behind m n ns behind) (below.0, below-placed k m ns first below.1)
]

below-without : (k key : Text) (ns : List (Member Js)) → IsBelowAll k (keys_of ns) → IsBelowAll k (keys_of (without key ns))
below-without k key [] below = tt
below-without k key (n ∷ ns) below = elim (cases_Bool (bytes_eq n.key key)) [
  | inl same ↦ rw same below.1
  | inr other ↦ rw other (below.0, below-without k key ns below.1)
]

-- a key that is neither below another nor the same is above it
is_above : (m n : Text) (order : Ordering) → slice_cmp nat_cmp n m ≡ order → is_lt (slice_cmp nat_cmp m n) ≡ false → bytes_eq n m ≡ false → order ≡ Less
is_above m n Less is behind other = refl
is_above m n Equal is behind other = absurd (true≢false (sym (sym (is_eq-slice_cmp n m) ∙ ap is_eq is) ∙ other))
is_above m n Greater is behind other = absurd (true≢false (sym (ap is_lt (nat_list_cmp_total.antisymm m n ∙ ap ordering_reverse is)) ∙ behind))

-- a key below another is another
is_other : (k n : Text) → slice_cmp nat_cmp k n ≡ Less → bytes_eq n k ≡ false
is_other k n less = elim (cases_Bool (bytes_eq n k)) [
  | inl same ↦
      let differs : false ≡ bytes_eq k n = sym (ap is_eq less) ∙ is_eq-slice_cmp k n in
      let equal : bytes_eq k n ≡ true = (bytes_eq-Decides k n).1 (sym ((bytes_eq-Decides n k).0 same)) in
      absurd (true≢false (sym (differs ∙ equal)))
  | inr other ↦ other
]

lacks-below : (k : Text) (ns : List (Member Js)) → IsBelowAll k (keys_of ns) → lacks k ns ≡ true
lacks-below k [] below = refl
lacks-below k (n ∷ ns) below = and_from _ _ (ap not (is_other k n.key below.0)) (lacks-below k ns below.1)

pub rising-placed : (m : Member Js) (ns : List (Member Js)) → lacks m.key ns ≡ true → are_rising (keys_of ns) ≡ true → are_rising (keys_of (placed m ns)) ≡ true
rising-placed m [] none rising = refl
rising-placed m (n ∷ ns) none rising =
    let parts = are_rising_parts n.key (keys_of ns) rising in
    let others = and_parts (not (bytes_eq n.key m.key)) (lacks m.key ns) none in
    elim (cases_Bool (is_lt (slice_cmp nat_cmp m.key n.key))) [
      | inl before ↦
          let first = is_Less (slice_cmp nat_cmp m.key n.key) before in
          rw (placed-before m n ns before) (rising_from m.key (keys_of (n ∷ ns)) (first, IsBelowAll-lower m.key n.key (keys_of ns) first parts.0) rising)
      | inr behind ↦
          let first : slice_cmp nat_cmp n.key m.key ≡ Less = is_above m.key n.key (slice_cmp nat_cmp n.key m.key) refl behind (not-true (bytes_eq n.key m.key) others.0) in
          rw (placed-behind m n ns behind) (rising_from n.key (keys_of (placed m ns)) (below-placed n.key m ns first parts.0) (rising-placed m ns others.1 parts.1))
    ]

pub rising-without : (key : Text) (ns : List (Member Js)) → are_rising (keys_of ns) ≡ true → are_rising (keys_of (without key ns)) ≡ true
rising-without key [] rising = refl
rising-without key (n ∷ ns) rising =
    let parts = are_rising_parts n.key (keys_of ns) rising in
    elim (cases_Bool (bytes_eq n.key key)) [
      | inl same ↦ rw same parts.1
      | inr other ↦ rw other (rising_from n.key (keys_of (without key ns)) (below-without n.key key ns parts.0) (rising-without key ns parts.1))
    ]

-- keys rise, so a member that is taken out leaves none of its key
pub lacks-without : (key : Text) (ns : List (Member Js)) → are_rising (keys_of ns) ≡ true → lacks key (without key ns) ≡ true
lacks-without key [] rising = refl
lacks-without key (n ∷ ns) rising =
    let parts = are_rising_parts n.key (keys_of ns) rising in
    elim (cases_Bool (bytes_eq n.key key)) [
      | inl same ↦
          let own : n.key ≡ key = (bytes_eq-Decides n.key key).0 same in
          rw same (ap (λ (k : Text). lacks k ns) (sym own) ∙ lacks-below n.key ns parts.0)
      | inr other ↦ rw other (and_from _ _ (ap not other) (lacks-without key ns parts.1))
    ]

pub lacks-None : (key : Text) (ns : List (Member Js)) → value_at key ns ≡ None → lacks key ns ≡ true
lacks-None key [] none = refl
lacks-None key (n ∷ ns) none = elim (cases_Bool (bytes_eq n.key key)) [
  | inl same ↦
      let wrong : Some n.value ≡ None = rw same at none in
      cc wrong
  | inr other ↦ and_from _ _ (ap not other) (lacks-None key ns (rw other at none))
]

pub lacks-values-without : (key other : Text) (ns : List (Member Js)) → lacks key ns ≡ true → lacks key (without other ns) ≡ true
lacks-values-without key other ns none = values-without (λ m. not (bytes_eq m.key key)) other ns none

-- sound members, one level
pub sound-without : (key : Text) (ms : List (Member Js)) → members_are_sound ms ≡ true → members_are_sound (without key ms) ≡ true
sound-without key ms sound =
    let parts = and_parts _ _ sound in
    and_from _ _ (values-without (λ m. is_sound m.value) key ms parts.0) (rising-without key ms parts.1)

pub sound-placed : (m : Member Js) (ms : List (Member Js)) → is_sound m.value ≡ true → lacks m.key ms ≡ true → members_are_sound ms ≡ true → members_are_sound (placed m ms) ≡ true
sound-placed m ms own none sound =
    let parts = and_parts _ _ sound in
    and_from _ _ (values-placed (λ n. is_sound n.value) m ms own parts.0) (rising-placed m ms none parts.1)

pub sound-with_value : (key : Text) (value : Js) (ms : List (Member Js)) → is_sound value ≡ true → members_are_sound ms ≡ true → members_are_sound (with_value key value ms) ≡ true
sound-with_value key value ms own sound =
    sound-placed (named key value) (without key ms) own (lacks-without key ms (and_parts _ _ sound).1) (sound-without key ms sound)
