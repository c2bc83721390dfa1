-- Two lists of members in rising order of key as one.
use Rattle.std.proofs.Common.{◌≡◌, List, [], ◌∷◌, ◌++◌, true, false, Ordering, Less, Equal, Greater, refl, sym, ap, subst, ◌∙◌, true≢false, inl, inr, append_assoc}
use Rattle.std.specs.List.{list_all}
use Rattle.std.specs.Str.{bytes_eq}
use Rattle.std.specs.Ordering.{nat_cmp, is_lt, is_eq, ordering_reverse}
use Rattle.std.specs.Cmp.Lexicographic.{slice_cmp, nat_list_cmp_total}
use Rattle.std.proofs.lemmas.Bool.{cases_Bool, and_parts, and_from}
use Rattle.std.proofs.lemmas.Map.Text.{is_eq-slice_cmp}
use Rattle.std.proofs.lemmas.Slice.Eq.{bytes_eq-Decides}
use Rattle.base_model.specs.Keyed.{Text}
use Rattle.so_js.specs.Tree.{is_sound, are_rising, keys_of}
use Rattle.so_js.specs.Printing.{members_are_sound}
use Rattle.so_js.specs.declared.js.Js.{Js}
use Rattle.so_js.specs.declared.js.Member.{Member}
use Rattle.so_js.proofs.TreeLaws.{IsBelowAll, IsBelowAll-lower, is_Less, are_rising_parts}
use Rattle.transform_ops.specs.Attributes.{named, without, placed, with_value}
use Rattle.transform_ops.proofs.AttributeLaws.{placed-before, placed-behind, sound-with_value}
use Rattle.call_words.specs.Product.{with_members}
use Rattle.object_acts.specs.Merging.{below_key, behind_key}

-- ---- the order of two keys

-- a key that isn't below another and isn't the same is above it
is_above : (k n : Text) (order : Ordering) → slice_cmp nat_cmp k n ≡ order → is_lt (slice_cmp nat_cmp n k) ≡ false → bytes_eq n k ≡ false → order ≡ Less
is_above k n Less is behind other = refl
is_above k n Equal is behind other =
    let same : bytes_eq k n ≡ true = sym (is_eq-slice_cmp k n) ∙ ap is_eq is in
    let back : bytes_eq n k ≡ true = (bytes_eq-Decides n k).1 (sym ((bytes_eq-Decides k n).0 same)) in
    absurd (true≢false (sym back ∙ other))
is_above k n Greater is behind other = absurd (true≢false (sym (ap is_lt (nat_list_cmp_total.antisymm n k ∙ ap ordering_reverse is)) ∙ behind))

-- a key below another is another
is_other : (k n : Text) → slice_cmp nat_cmp k n ≡ Less → bytes_eq n k ≡ false
is_other k n less = elim (cases_Bool (bytes_eq n k)) [
  | inl same ↦
      let differs : false ≡ bytes_eq k n = sym (ap is_eq less) ∙ is_eq-slice_cmp k n in
      let equal : bytes_eq k n ≡ true = (bytes_eq-Decides k n).1 (sym ((bytes_eq-Decides n k).0 same)) in
      absurd (true≢false (sym (differs ∙ equal)))
  | inr other ↦ other
]

is_other_back : (k n : Text) → slice_cmp nat_cmp k n ≡ Less → bytes_eq k n ≡ false
is_other_back k n less = sym (is_eq-slice_cmp k n) ∙ ap is_eq less

-- and that one isn't below it
not_below : (k n : Text) → slice_cmp nat_cmp k n ≡ Less → is_lt (slice_cmp nat_cmp n k) ≡ false
not_below k n less = ap is_lt (nat_list_cmp_total.antisymm n k ∙ ap ordering_reverse less)

-- no key is below itself
not_below_same : (k n : Text) → bytes_eq n k ≡ true → is_lt (slice_cmp nat_cmp n k) ≡ false
not_below_same k n same = by (slice_cmp nat_cmp n k) refl
  where
    by : (order : Ordering) → slice_cmp nat_cmp n k ≡ order → is_lt order ≡ false
    by Less is = absurd (true≢false (sym same ∙ is_other_back n k is))
    by Equal is = refl
    by Greater is = refl

-- ---- one member at its place

without_lacking : (key : Text) (ms : List (Member Js)) → IsBelowAll key (keys_of ms) → without key ms ≡ ms
without_lacking key [] below = refl
without_lacking key (n ∷ ms) below = rw (is_other key n.key below.0) (ap (λ (all : List (Member Js)). n ∷ all) (without_lacking key ms below.1))

placed_first : (m : Member Js) (ms : List (Member Js)) → IsBelowAll m.key (keys_of ms) → placed m ms ≡ m ∷ ms
placed_first m [] below = refl
placed_first m (n ∷ ms) below = placed-before m n ms (ap is_lt below.0)

-- behind a member of a lower key
with_value-behind : (key : Text) (value : Js) (n : Member Js) (ms : List (Member Js)) → slice_cmp nat_cmp n.key key ≡ Less → with_value key value (n ∷ ms) ≡ n ∷ with_value key value ms
with_value-behind key value n ms lower =
    rw (is_other_back n.key key lower) (placed-behind (named key value) n (without key ms) (not_below n.key key lower))

-- among members whose keys rise
pub with_value-cut : (key : Text) (value : Js) (ms : List (Member Js)) → are_rising (keys_of ms) ≡ true → with_value key value ms ≡ below_key key ms ++ named key value ∷ behind_key key ms
with_value-cut key value [] rising = refl
with_value-cut key value (n ∷ ms) rising =
    let parts = are_rising_parts n.key (keys_of ms) rising in
    elim (cases_Bool (is_lt (slice_cmp nat_cmp n.key key))) [
      | inl lower ↦
          rw lower (with_value-behind key value n ms (is_Less _ lower) ∙ ap (λ (all : List (Member Js)). n ∷ all) (with_value-cut key value ms parts.1))
      | inr notlower ↦ elim (cases_Bool (bytes_eq n.key key)) [
        | inl same ↦
            let own : n.key ≡ key = (bytes_eq-Decides n.key key).0 same in
            let first : IsBelowAll key (keys_of ms) = subst (λ (k : Text). IsBelowAll k (keys_of ms)) own parts.0 in
            rw (notlower, same) (placed_first (named key value) ms first)
        | inr other ↦
            let higher : slice_cmp nat_cmp key n.key ≡ Less = is_above key n.key (slice_cmp nat_cmp key n.key) refl notlower other in
            let all : IsBelowAll key (keys_of ms) = IsBelowAll-lower key n.key (keys_of ms) higher parts.0 in
            rw (notlower, other) (ap (λ (rest : List (Member Js)). placed (named key value) (n ∷ rest)) (without_lacking key ms all) ∙ placed-before (named key value) n ms (ap is_lt higher))
      ]
    ]

-- ---- many members

with_members-behind : (given : List (Member Js)) (n : Member Js) (ms : List (Member Js)) → IsBelowAll n.key (keys_of given) → with_members given (n ∷ ms) ≡ n ∷ with_members given ms
unfolding with_members
with_members-behind [] n ms below = refl
with_members-behind (g ∷ given) n ms below =
    ap (with_members given) (with_value-behind g.key g.value n ms below.0) ∙ with_members-behind given n (with_value g.key g.value ms) below.1

with_members-front : (key : Text) (given rest ms : List (Member Js)) → IsBelowAll key (keys_of given) → with_members given (below_key key rest ++ ms) ≡ below_key key rest ++ with_members given ms
with_members-front key given [] ms below = refl
with_members-front key given (n ∷ rest) ms below = elim (cases_Bool (is_lt (slice_cmp nat_cmp n.key key))) [
  | inl lower ↦
      let all : IsBelowAll n.key (keys_of given) = IsBelowAll-lower n.key key (keys_of given) (is_Less _ lower) below in
      rw lower (with_members-behind given n (below_key key rest ++ ms) all ∙ ap (λ (more : List (Member Js)). n ∷ more) (with_members-front key given rest ms below))
  | inr notlower ↦ rw notlower refl
]

-- one step of the pass
pub members_step : (g : Member Js) (given ms : List (Member Js)) → are_rising (keys_of (g ∷ given)) ≡ true → are_rising (keys_of ms) ≡ true
    → with_members (g ∷ given) ms ≡ (below_key g.key ms ++ g ∷ []) ++ with_members given (behind_key g.key ms)
unfolding with_members
members_step g given ms rising old =
    let parts = are_rising_parts g.key (keys_of given) rising in
    ap (with_members given) (with_value-cut g.key g.value ms old)
    ∙ with_members-front g.key given ms (g ∷ behind_key g.key ms) parts.0
    ∙ ap (λ (more : List (Member Js)). below_key g.key ms ++ more) (with_members-behind given g (behind_key g.key ms) parts.0)
    ∙ sym (append_assoc (below_key g.key ms) (g ∷ []) (with_members given (behind_key g.key ms)))

pub rising_behind : (key : Text) (ms : List (Member Js)) → are_rising (keys_of ms) ≡ true → are_rising (keys_of (behind_key key ms)) ≡ true
rising_behind key [] rising = refl
rising_behind key (n ∷ ms) rising =
    let parts = are_rising_parts n.key (keys_of ms) rising in
    elim (cases_Bool (is_lt (slice_cmp nat_cmp n.key key))) [
      | inl lower ↦ rw lower (rising_behind key ms parts.1)
      | inr notlower ↦ elim (cases_Bool (bytes_eq n.key key)) [
        | inl same ↦ rw (notlower, same) parts.1
        | inr other ↦ rw (notlower, other) rising
      ]
    ]

pub members_none : (ms : List (Member Js)) → with_members [] ms ≡ ms
unfolding with_members
members_none ms = refl

-- ---- soundness

pub members_sound : (given ms : List (Member Js)) → members_are_sound given ≡ true → members_are_sound ms ≡ true → members_are_sound (with_members given ms) ≡ true
unfolding with_members
members_sound [] ms sound old = old
members_sound (g ∷ given) ms sound old =
    let values = and_parts (list_all (λ m. is_sound m.value) (g ∷ given)) (are_rising (keys_of (g ∷ given))) sound in
    let own = and_parts (is_sound g.value) (list_all (λ m. is_sound m.value) given) values.0 in
    let rising = are_rising_parts g.key (keys_of given) values.1 in
    members_sound given (with_value g.key g.value ms) (and_from _ _ own.1 rising.1) (sound-with_value g.key g.value ms own.0 old)

-- ---- the pass

-- one given member further
pub pass_on : (all more next : List (Member Js)) (m n : Member Js) (given rest behind whole : List (Member Js))
    → all ++ with_members (m ∷ given) rest ≡ whole → are_rising (keys_of (m ∷ given)) ≡ true → are_rising (keys_of rest) ≡ true
    → more ≡ all ++ below_key m.key rest → behind ≡ behind_key m.key rest → n ≡ m → next ≡ more ++ n ∷ []
    → next ++ with_members given behind ≡ whole
pass_on all more next m n given rest behind whole before rising old copied left clone pushed =
    let lower = below_key m.key rest in
    let later = with_members given (behind_key m.key rest) in
    ap (λ (b : List (Member Js)). next ++ with_members given b) left
    ∙ ap (λ (a : List (Member Js)). a ++ later) pushed
    ∙ ap (λ (k : Member Js). (more ++ k ∷ []) ++ later) clone
    ∙ ap (λ (a : List (Member Js)). (a ++ m ∷ []) ++ later) copied
    ∙ ap (λ (a : List (Member Js)). a ++ later) (append_assoc all lower (m ∷ []))
    ∙ append_assoc all (lower ++ m ∷ []) later
    ∙ ap (λ (a : List (Member Js)). all ++ a) (sym (members_step m given rest rising old))
    ∙ before

-- no given member is left
pub pass_done : (all rest result left items given old : List (Member Js)) → left ≡ [] → all ++ with_members left rest ≡ with_members items old → result ≡ all ++ rest → items ≡ given
    → result ≡ with_members given old
pass_done all rest result left items given old none whole copied own =
    copied
    ∙ ap (λ (a : List (Member Js)). all ++ a) (sym (members_none rest))
    ∙ ap (λ (a : List (Member Js)). all ++ with_members a rest) (sym none)
    ∙ whole
    ∙ ap (λ (a : List (Member Js)). with_members a old) own

pub rising_rest : (m : Member Js) (given : List (Member Js)) → are_rising (keys_of (m ∷ given)) ≡ true → are_rising (keys_of given) ≡ true
rising_rest m given rising = (are_rising_parts m.key (keys_of given) rising).1
