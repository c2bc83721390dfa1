-- The members of an object, one of them by its key.
use Rattle.std.specs.Prelude.{ℕ, suc, List, [], ◌∷◌, Option, Some, None, option_map, find, insert, if◌then◌else◌}
use Rattle.std.specs.Ordering.{nat_cmp, is_lt}
use Rattle.std.specs.Cmp.Lexicographic.{slice_cmp}
use Rattle.std.specs.Str.{bytes_eq}
use Rattle.base_model.specs.Keyed.{Text}
use Rattle.so_js.specs.declared.js.Js.{Js}
use Rattle.so_js.specs.declared.js.Member.{Member}

abbrev pub named : Text → Js → Member Js
named key value = record { key = key; value = value }

-- the value under a key
abbrev pub value_at : Text → List (Member Js) → Option Js
value_at key ms = option_map (λ m. m.value) (find (λ m. bytes_eq m.key key) ms)

-- without the member of this key
abbrev pub without : Text → List (Member Js) → List (Member Js)
without key [] = []
without key (m ∷ ms) = if bytes_eq m.key key then ms else m ∷ without key ms

-- the place of the first member of this key
abbrev pub place_at : Text → List (Member Js) → Option ℕ
place_at key [] = None
place_at key (m ∷ ms) = if bytes_eq m.key key then Some 0 else option_map suc (place_at key ms)

-- the place of the first member whose key is above this one, or behind them all
abbrev pub place_among : Text → List (Member Js) → ℕ
place_among key [] = 0
place_among key (n ∷ ns) = if is_lt (slice_cmp nat_cmp key n.key) then 0 else suc (place_among key ns)

-- with a member at its place in the order of keys
abbrev pub placed : Member Js → List (Member Js) → List (Member Js)
placed m ns = insert ns (place_among m.key ns) m

-- with this value under a key, in the place of what was there
abbrev pub with_value : Text → Js → List (Member Js) → List (Member Js)
with_value key value ms = placed (named key value) (without key ms)
