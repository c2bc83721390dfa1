-- What holds of a store with aliases at all times, and how far its numbers have come.
use Rattle.std.specs.Prelude.{◌≡◌, ℕ, ◌+◌, ◌≤◌, ◌*◌, ◌^◌, [], ◌∷◌, length, None}
use Rattle.std.specs.Option.{IsSome}
use Rattle.base_model.specs.Keyed.{Text, Keyed, at}
use Rattle.race_model.specs.Sorted.{IsSorted}
use Rattle.race_model.specs.Stores.{Table, Index, Store}

-- each alias is no index's name, and names an index
unfoldable pub AreAliases : {D : Type 0} → Keyed (Index D) → Keyed Text → Type 0
AreAliases indices [] = Unit {0}
AreAliases indices (e ∷ es) = (at e.0 indices ≡ None) × IsSome (at e.1 indices) × AreAliases indices es

-- indices and aliases rise by name, no alias has an index's name, and each names an index
pub record IsOrderly {D : Type 0} (st : Store D) : Type 0 where
  pub indices : IsSorted st.indices
  pub aliases : IsSorted st.aliases
  pub named : AreAliases st.indices st.aliases

-- a table has no more rows than its next number, which is at most n
pub record IsWithin {D : Type 0} (n : ℕ) (t : Table D) : Type 0 where
  pub rows : length t.rows ≤ t.next
  pub next : t.next ≤ n

-- the same of the table of each index
unfoldable pub AllWithin : {D : Type 0} → ℕ → Keyed (Index D) → Type 0
AllWithin n [] = Unit {0}
AllWithin n (e ∷ es) = IsWithin n e.1.table × AllWithin n es

-- how far the next number of a table may have come after so many requests
abbrev pub reach : ℕ → ℕ
reach requests = 2 ^ 62 + 65536 * requests

-- the numbers of a store after so many requests from an opening
pub record HasRoom {D : Type 0} (requests : ℕ) (st : Store D) : Type 0 where
  pub tables : AllWithin (reach requests) st.indices
  pub pits : st.opened ≤ requests
