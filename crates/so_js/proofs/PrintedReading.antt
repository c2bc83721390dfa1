-- The compact text of a sound tree is read as what the tree stands for.
use Rattle.std.proofs.Common.{◌≡◌, ℕ, suc, ◌<◌, ◌≤◌, ◌^◌, map, List, [], ◌∷◌, ◌++◌, Option, Some, option_map, option_and_then, Bool, true, Less, Greater, refl, sym, ap, ◌∙◌, subst, arith, append-nil}
use Rattle.std.proofs.lemmas.Bool.{and_parts}
use Rattle.std.proofs.lemmas.Bool.Decides.{nat_tests}
use Rattle.std.specs.Prelude.{⊤, pos, negsuc, ℤ}
use Rattle.std.specs.List.{list_all}
use Rattle.std.specs.Ordering.{nat_cmp, ordering_reverse}
use Rattle.std.specs.Cmp.Lexicographic.{slice_cmp, nat_list_cmp_total}
use Rattle.std.specs.Int.Signed.{mag}
use Rattle.json.specs.Json as json
use Rattle.json.specs.Lex.{tokens}
use Rattle.json.specs.Token.{Token}
use Rattle.json.specs.Print.{IsNumber}
use Rattle.json.specs.Tree as tree
use Rattle.json.proofs.Printed.Tokens.{tokens-print}
use Rattle.json.proofs.Printed.Trees.{ArePrintable-json_tokens, value-json_tokens}
use Rattle.json.proofs.Printed.Decimals.{IsNumber-decimal, IsNumber-signed_decimal}
use Rattle.serde_json.specs.Data.{Num, unsigned, negative, float, Data, null, boolean, number, string, array, object, Items as Values, no_items, item, Members, no_members, member, put, depth, items_depth, members_depth}
use Rattle.serde_json.specs.Find.{of_integer}
use Rattle.serde_json.specs.Read.{read, of_json, of_items, of_members, number_of, max_depth}
use Rattle.serde_json.specs.Written.{outline, items_outline, members_outline, compact_text, number_text}
use Rattle.serde_json.proofs.Numbers.{number_of-decimal, number_of-negative}
use Rattle.serde_json.proofs.Texts.{print-outline}
use Rattle.so_js.specs.declared.js.Js.{Js}
use Rattle.so_js.specs.declared.js.Js.TheFolds.{map-Js, fold-roll-Js, ind-Js}
use Rattle.so_js.specs.declared.js.Js.TheOpen.{Js-F}
use Rattle.so_js.specs.declared.js.Member.{Member}
use Rattle.so_js.specs.Tree.{is_sound, sound_step, is_in_range, are_rising, keys_of, data_of, data_step, values_of, members_of}
use Rattle.so_js.proofs.TreeLaws.{with_value, IsBelowAll, are_rising_parts}

-- ---- values that a sound tree can stand for

abbrev IsWhole : Num → Type 0
IsWhole (unsigned n) = n < 2 ^ 64
IsWhole (negative (pos n)) = ⊥
IsWhole (negative (negsuc n)) = n < 2 ^ 63
IsWhole (float x) = ⊥

-- the key is below each of these
abbrev IsFirst : List ℕ → Members → Type 0
IsFirst k no_members = ⊤
IsFirst k (member l d ms) = (slice_cmp nat_cmp k l ≡ Less) × IsFirst k ms

abbrev mutual
  IsSound : Data → Type 0
  IsSound null = ⊤
  IsSound (boolean b) = ⊤
  IsSound (number n) = IsWhole n
  IsSound (string s) = ⊤
  IsSound (array ds) = AreSound ds
  IsSound (object ms) = HasSound ms

  AreSound : Values → Type 0
  AreSound no_items = ⊤
  AreSound (item d ds) = IsSound d × AreSound ds

  HasSound : Members → Type 0
  HasSound no_members = ⊤
  HasSound (member k d ms) = IsSound d × IsFirst k ms × HasSound ms

-- ---- a sound tree stands for one

abbrev StandsForSound : Js → Type 0
StandsForSound js = is_sound js ≡ true → IsSound (data_of js)

abbrev Shown : Type 0
Shown = (js : Js) × StandsForSound js

whole_fits : (z : ℤ) → is_in_range z ≡ true → IsSound (number (of_integer z))
whole_fits (pos n) h = grind (arith, nat_tests)
whole_fits (negsuc n) h = grind (arith, nat_tests)

items_sound : (all : List Shown) → list_all (λ sound. sound) (map is_sound (map (λ e. e.0) all)) ≡ true → AreSound (values_of (map data_of (map (λ e. e.0) all)))
items_sound [] h = tt
items_sound (e ∷ all) h =
    let parts = and_parts (is_sound e.0) _ h in
    (e.1 parts.0, items_sound all parts.1)

first_sound : (k : List ℕ) (ms : List (Member Shown)) → IsBelowAll k (keys_of ms) → IsFirst k (members_of (map (with_value data_of) (map (with_value (λ e. e.0)) ms)))
first_sound k [] h = tt
first_sound k (m ∷ ms) h = (h.0, first_sound k ms h.1)

members_sound : (ms : List (Member Shown)) → list_all (λ m. m.value) (map (with_value is_sound) (map (with_value (λ e. e.0)) ms)) ≡ true → are_rising (keys_of ms) ≡ true
    → HasSound (members_of (map (with_value data_of) (map (with_value (λ e. e.0)) ms)))
members_sound [] h rising = tt
members_sound (m ∷ ms) h rising =
    let parts = and_parts (is_sound m.value.0) _ h in
    let below = are_rising_parts m.key (keys_of ms) rising in
    (m.value.1 parts.0, first_sound m.key ms below.0, members_sound ms parts.1 below.1)

keys_same : (ms : List (Member Shown)) → keys_of (map (with_value is_sound) (map (with_value (λ e. e.0)) ms)) ≡ keys_of ms
keys_same [] = refl
keys_same (m ∷ ms) = ap (λ keys. m.key ∷ keys) (keys_same ms)

sound_at : (y : Js-F Shown) → sound_step (map-Js Js Bool is_sound (map-Js Shown Js (λ e. e.0) y)) ≡ true → IsSound (data_step (map-Js Js Data data_of (map-Js Shown Js (λ e. e.0) y)))
sound_at Js-F.Null h = tt
sound_at (Js-F.Bool b) h = tt
sound_at (Js-F.Whole z) h = whole_fits z h
sound_at (Js-F.Str s) h = tt
sound_at (Js-F.Items all) h = items_sound all h
sound_at (Js-F.Object ms) h =
    let parts = and_parts (list_all (λ m. m.value) (map (with_value is_sound) (map (with_value (λ e. e.0)) ms))) _ h in
    members_sound ms parts.0 (subst (λ keys. are_rising keys ≡ true) (keys_same ms) parts.1)

stands_for_sound : (js : Js) → is_sound js ≡ true → IsSound (data_of js)
stands_for_sound = ind-Js StandsForSound (λ x y is h.
    subst IsSound (sym (fold-roll-Js Data data_step x))
    (subst (λ z. sound_step (map-Js Js Bool is_sound z) ≡ true → IsSound (data_step (map-Js Js Data data_of z))) is (sound_at y) (sym (fold-roll-Js Bool sound_step x) ∙ h)))

-- ---- members that go in one after another

abbrev join : Members → Members → Members
join no_members ms = ms
join (member k d rest) ms = member k d (join rest ms)

join-assoc : (a b c : Members) → join (join a b) c ≡ join a (join b c)
join-assoc no_members b c = refl
join-assoc (member k d a) b c = ap (member k d) (join-assoc a b c)

join-nil : (a : Members) → join a no_members ≡ a
join-nil no_members = refl
join-nil (member k d a) = ap (member k d) (join-nil a)

-- each key of these is below k
abbrev Below : Members → List ℕ → Type 0
Below no_members k = ⊤
Below (member l d ms) k = (slice_cmp nat_cmp k l ≡ Greater) × Below ms k

abbrev AllBelow : Members → Members → Type 0
AllBelow found no_members = ⊤
AllBelow found (member k d ms) = Below found k × AllBelow found ms

put_last : (found : Members) (k : List ℕ) (d : Data) → Below found k → put k d found ≡ join found (member k d no_members)
put_last no_members k d h = refl
put_last (member l e ms) k d h = rw h.0 (ap (member l e) (put_last ms k d h.1))

Below-join : (found : Members) (k l : List ℕ) (d : Data) → Below found l → slice_cmp nat_cmp l k ≡ Greater → Below (join found (member k d no_members)) l
Below-join no_members k l d h g = (g, tt)
Below-join (member m e ms) k l d h g = (h.0, Below-join ms k l d h.1 g)

AllBelow-join : (found : Members) (k : List ℕ) (d : Data) (ms : Members) → AllBelow found ms → IsFirst k ms → AllBelow (join found (member k d no_members)) ms
AllBelow-join found k d no_members h f = tt
AllBelow-join found k d (member l e ms) h f =
    (Below-join found k l d h.0 (nat_list_cmp_total.antisymm l k ∙ ap ordering_reverse f.0), AllBelow-join found k d ms h.1 f.1)

none_below : (ms : Members) → AllBelow no_members ms
none_below no_members = tt
none_below (member k d ms) = (tt, none_below ms)

-- ---- the JSON of sound data is that data

number_back : (n : Num) → IsWhole n → number_of (number_text n) ≡ Some n
number_back (unsigned n) h = number_of-decimal n h
number_back (negative (pos n)) h = absurd h
number_back (negative (negsuc n)) h = number_of-negative n h
number_back (float x) h = absurd h

mag_fits : (n : ℕ) → n < 2 ^ 63 → mag (negsuc n) < 2 ^ 63
mag_fits n h = h

number_is : (n : Num) → IsWhole n → IsNumber (number_text n)
number_is (unsigned n) h = IsNumber-decimal n h
number_is (negative (pos n)) h = absurd h
number_is (negative (negsuc n)) h = IsNumber-signed_decimal (negsuc n) (mag_fits n h)
number_is (float x) h = absurd h

mutual
  json_back : (d : Data) → IsSound d → of_json (outline d) ≡ Some d
  json_back null h = refl
  json_back (boolean b) h = refl
  json_back (number n) h = ap (option_map number) (number_back n h)
  json_back (string s) h = refl
  json_back (array ds) h = ap (option_map array) (items_back ds h)
  json_back (object ms) h = ap (option_map object) (members_back ms no_members h (none_below ms))

  items_back : (ds : Values) → AreSound ds → of_items (items_outline ds) ≡ Some ds
  items_back no_items h = refl
  items_back (item d ds) h = rw (json_back d h.0) (ap (option_map (item d)) (items_back ds h.1))

  members_back : (ms found : Members) → HasSound ms → AllBelow found ms → of_members (members_outline ms) found ≡ Some (join found ms)
  members_back no_members found h b = ap Some (sym (join-nil found))
  members_back (member k d ms) found h b =
      rw (json_back d h.0) (
      ap (of_members (members_outline ms)) (put_last found k d b.0)
      ∙ (members_back ms (join found (member k d no_members)) h.2 (AllBelow-join found k d ms b.1 h.1) ∙ ap Some (join-assoc found (member k d no_members) ms)))

mutual
  numbers_are : (d : Data) → IsSound d → tree.HasNumbers (outline d)
  numbers_are null h = tt
  numbers_are (boolean b) h = tt
  numbers_are (number n) h = number_is n h
  numbers_are (string s) h = tt
  numbers_are (array ds) h = items_numbers ds h
  numbers_are (object ms) h = members_numbers ms h

  items_numbers : (ds : Values) → AreSound ds → tree.ItemsHaveNumbers (items_outline ds)
  items_numbers no_items h = tt
  items_numbers (item d ds) h = (numbers_are d h.0, items_numbers ds h.1)

  members_numbers : (ms : Members) → HasSound ms → tree.MembersHaveNumbers (members_outline ms)
  members_numbers no_members h = tt
  members_numbers (member k d ms) h = (numbers_are d h.0, members_numbers ms h.2)

mutual
  depth_same : (d : Data) → tree.depth (outline d) ≡ depth d
  depth_same null = refl
  depth_same (boolean b) = refl
  depth_same (number n) = refl
  depth_same (string s) = refl
  depth_same (array ds) = ap suc (items_depth_same ds)
  depth_same (object ms) = ap suc (members_depth_same ms)

  items_depth_same : (ds : Values) → tree.items_depth (items_outline ds) ≡ items_depth ds
  items_depth_same no_items = refl
  items_depth_same (item d ds) = rw (depth_same d, items_depth_same ds)

  members_depth_same : (ms : Members) → tree.members_depth (members_outline ms) ≡ members_depth ms
  members_depth_same no_members = refl
  members_depth_same (member k d ms) = rw (depth_same d, members_depth_same ms)

abbrev whole : Option (json.Json × List Token) → Option Data
whole o = option_and_then of_json (option_and_then (λ p. json.if_last p.0 p.1) o)

-- the compact text of sound data reads as that data
pub read-compact_text : (d : Data) → IsSound d → depth d ≤ max_depth → read (compact_text d) ≡ Some d
read-compact_text d h shallow =
    let shown = tokens-print (tree.json_tokens (outline d)) (ArePrintable-json_tokens (outline d) (numbers_are d h)) in
    let same : tokens (compact_text d) ≡ tree.json_tokens (outline d) ++ [] = ap tokens (sym (print-outline d)) ∙ (shown ∙ sym (append-nil _)) in
    ap whole (ap (json.value max_depth) same ∙ value-json_tokens (outline d) max_depth [] (omega (arith, depth_same d))) ∙ json_back d h

-- and so is the compact text of a sound tree
pub read-printed : (js : Js) → is_sound js ≡ true → depth (data_of js) ≤ max_depth → read (compact_text (data_of js)) ≡ Some (data_of js)
read-printed js sound shallow = read-compact_text (data_of js) (stands_for_sound js sound) shallow
