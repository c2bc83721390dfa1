-- Which replies fit a request, by their form, their lists and their numbers.
use Rattle.std.specs.Prelude.{ℕ, Bool, true, false, not, ◌&&◌, List, [], ◌∷◌, length, Option, Some, None, ◌==◌, nat_le}
use Rattle.base_model.specs.Keyed.{Text, Keyed, same, text_lt}
use Rattle.race_model.specs.Stores.{Cell, Write, Item, Request, Reply, Refusal}
use Rattle.race_model.specs.Stores.Write.{Put, Delete}
use Rattle.race_model.specs.Stores.Item.{Written, Conflict, NotFound}
use Rattle.race_model.specs.Stores.Request.{Ping, Create, Block, Clone, OpenPit, ReadPit, ClosePit, Get, Search, Bulk, Aliases}
use Rattle.race_model.specs.Stores.Reply.{Done, Seen, Pit, Selected, Found, Items, Refused}
use Rattle.race_model.specs.Stores.Refusal.{Exists, NameTaken, NoIndex, NotBlocked, Blocked, NoPit, AliasMissing, AliasTaken}

-- the names rise
unfoldable pub rising_from : {V : Type 0} → Text → Keyed V → Bool
rising_from name [] = true
rising_from name (e ∷ es) = text_lt name e.0 && rising_from e.0 es

-- the names of the list rise
abbrev pub rising : {V : Type 0} → Keyed V → Bool
rising [] = true
rising (e ∷ es) = rising_from e.0 es

-- another number than the one that was expected
abbrev pub is_other : Option ℕ → ℕ → Bool
is_other None n = false
is_other (Some s) n = not (n == s)

-- a number was expected
abbrev pub is_given : Option ℕ → Bool
is_given None = false
is_given (Some s) = true

-- the result of one write
abbrev pub fits_item : {D : Type 0} → Write D → Item → Bool
fits_item write (Written n) = true
fits_item (Write.Create raw doc) (Item.Exists n) = true
fits_item (Put raw doc expect) (Conflict None) = is_given expect
fits_item (Put raw doc expect) (Conflict (Some n)) = is_other expect n
fits_item (Delete raw expect) (Conflict (Some n)) = is_other expect n
fits_item (Delete raw expect) NotFound = true
fits_item _ _ = false

-- one item for each write
unfoldable pub fits_items : {D : Type 0} → List (Write D) → List Item → Bool
fits_items [] [] = true
fits_items (w ∷ ws) (i ∷ is) = fits_item w i && fits_items ws is
fits_items _ _ = false

-- a row that was found has the raw id
abbrev pub fits_found : {D : Type 0} → Text → Option (Text × Cell D) → Bool
fits_found raw None = true
fits_found raw (Some row) = same raw row.0

-- a row or none for each raw id, with that raw id
unfoldable pub fits_all_found : {D : Type 0} → List Text → List (Option (Text × Cell D)) → Bool
fits_all_found [] [] = true
fits_all_found (raw ∷ raws) (row ∷ rows) = fits_found raw row && fits_all_found raws rows
fits_all_found _ _ = false

-- no more rows than the query takes
abbrev pub within : Option ℕ → ℕ → Bool
within None n = true
within (Some take) n = nat_le n take

-- the refusals of each request
abbrev pub fits_refusal : {D Q : Type 0} → Request D Q → Refusal → Bool
fits_refusal (Create index source) (Exists name its) = true
fits_refusal (Create index source) (NameTaken name) = true
fits_refusal (Block index) (NoIndex name) = true
fits_refusal (Clone source goal) (Exists name its) = true
fits_refusal (Clone source goal) (NameTaken name) = true
fits_refusal (Clone source goal) (NoIndex name) = true
fits_refusal (Clone source goal) (NotBlocked name) = true
fits_refusal (OpenPit index) (NoIndex name) = true
fits_refusal (ReadPit pit query) (NoPit p) = true
fits_refusal (ClosePit pit) (NoPit p) = true
fits_refusal (Get index raws) (NoIndex name) = true
fits_refusal (Search index query) (NoIndex name) = true
fits_refusal (Bulk index writes) (NoIndex name) = true
fits_refusal (Bulk index writes) (Blocked name) = true
fits_refusal (Aliases actions) (AliasMissing alias index) = true
fits_refusal (Aliases actions) (AliasTaken alias index) = true
fits_refusal (Aliases actions) (NoIndex name) = true
fits_refusal (Aliases actions) (NameTaken name) = true
fits_refusal _ _ = false

-- the reply fits the request; take is how many rows a query takes at most
abbrev pub fits_reply : {D Q : Type 0} → (take : Q → Option ℕ) → Request D Q → Reply D → Bool
fits_reply take ask (Refused why) = fits_refusal ask why
fits_reply take Ping Done = true
fits_reply take Request.State (Seen indices aliases) = rising indices && rising aliases
fits_reply take (Create index source) Done = true
fits_reply take (Block index) Done = true
fits_reply take (Clone source goal) Done = true
fits_reply take (OpenPit index) (Pit p) = true
fits_reply take (ReadPit pit query) (Selected total rows) = within (take query) (length rows)
fits_reply take (ClosePit pit) Done = true
fits_reply take (Get index raws) (Found rows) = fits_all_found raws rows
fits_reply take (Search index query) (Selected total rows) = within (take query) (length rows)
fits_reply take (Bulk index writes) (Items items) = fits_items writes items
fits_reply take (Aliases actions) Done = true
fits_reply take _ _ = false
