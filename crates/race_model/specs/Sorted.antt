-- Lists in rising order of their keys, and what holds of each row.
use Rattle.std.specs.Prelude.{◌≡◌, true, [], ◌∷◌, Option, Some}
use Rattle.base_model.specs.Keyed.{Text, Keyed, text_lt}
use Rattle.race_model.specs.Stores.{Rows}

-- each key of the list is above k
unfoldable pub AllAbove : {V : Type 0} → Text → Keyed V → Type 0
AllAbove k [] = Unit {0}
AllAbove k (e ∷ es) = (text_lt k e.0 ≡ true) × AllAbove k es

-- the keys rise
unfoldable pub IsSorted : {V : Type 0} → Keyed V → Type 0
IsSorted [] = Unit {0}
IsSorted (e ∷ es) = AllAbove e.0 es × IsSorted es

-- the last key, and the one given where there is no row
unfoldable pub last_key : {V : Type 0} → Option Text → Keyed V → Option Text
last_key after [] = after
last_key after (e ∷ es) = last_key (Some e.0) es

-- something holds of each row's raw id and document
unfoldable pub Each : {D : Type 0} → (Text → D → Type 0) → Rows D → Type 0
Each P [] = Unit {0}
Each P (r ∷ rs) = P r.0 r.1.doc × Each P rs
