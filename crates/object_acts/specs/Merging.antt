-- Members in rising order of key, cut at a key.
use Rattle.std.specs.Prelude.{List, [], ◌∷◌, if◌then◌else◌}
use Rattle.std.specs.Ordering.{nat_cmp, is_lt}
use Rattle.std.specs.Cmp.Lexicographic.{slice_cmp}
use Rattle.std.specs.Str.{bytes_eq}
use Rattle.base_model.specs.Keyed.{Text}
use Rattle.so_js.specs.declared.js.Js.{Js}
use Rattle.so_js.specs.declared.js.Member.{Member}

-- the first members, while their keys are below this one
abbrev pub below_key : Text → List (Member Js) → List (Member Js)
below_key key [] = []
below_key key (m ∷ ms) = if is_lt (slice_cmp nat_cmp m.key key) then m ∷ below_key key ms else []

-- what follows them, without a first member of this key
abbrev pub behind_key : Text → List (Member Js) → List (Member Js)
behind_key key [] = []
behind_key key (m ∷ ms) = if is_lt (slice_cmp nat_cmp m.key key) then behind_key key ms else if bytes_eq m.key key then ms else m ∷ ms
