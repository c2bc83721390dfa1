-- Pages of rows, and the rows of them that are live.
use Rattle.std.specs.Prelude.{◌≡◌, ℕ, ◌+◌, ◌<◌, ◌≤◌, ◌==◌, true, slice_get, Option, Some, None, IfSome, cond, List, [], ◌∷◌, ◌++◌, length, take, drop}
use Rattle.std.specs.List.{flat_map}
use Rattle.std.specs.Int.{bit_at}
use Rattle.saved_doc.specs.declared.doc.Row.{Row}
use Rattle.doc_table.specs.declared.page.SharedPage.{SharedPage}
use Rattle.doc_table.specs.RowLists.{Each, IsRising, IsNumbered}
use Rattle.doc_table.specs.Marks.{IsMarked}
use Rattle.doc_table.specs.declared.pages.Spot.{Spot}
use Rattle.doc_table.specs.Place.{IsBelow, IsAbove, IsPlace}

-- the rows whose bits are set, where the first one's bit is bit i
abbrev pub live_from : ℕ → ℕ → List Row → List Row
live_from bits i [] = []
live_from bits i (x ∷ xs) = cond (bit_at bits i == 1) (x ∷ live_from bits (i + 1) xs) (live_from bits (i + 1) xs)

-- all rows of a page, and those that are live
abbrev pub page_rows : SharedPage → List Row
page_rows h = h.page.value

abbrev pub live_rows : SharedPage → List Row
live_rows h = live_from h.live 0 (page_rows h)

abbrev pub all_rows : List SharedPage → List Row
all_rows = flat_map page_rows

abbrev pub rows_of : List SharedPage → List Row
rows_of = flat_map live_rows

-- a page has 1 to 64 rows, and the mark of the first
abbrev pub IsSound : SharedPage → Type 0
IsSound h = (0 < length (page_rows h)) × (length (page_rows h) ≤ 64) × IsMarked h.mark (page_rows h)

-- the pages are sound, and all rows rise, page after page
pub record IsPages (pages : List SharedPage) : Type 0 where
  pub sound : Each IsSound pages
  pub rising : IsRising (all_rows pages)

-- r can stand in this page alone
pub record IsPageOf (r : List ℕ) (pages : List SharedPage) (p : ℕ) : Type 0 where
  pub within : p < length pages
  pub lower : Each (IsBelow r) (all_rows (take p pages))
  pub higher : Each (IsAbove r) (all_rows (drop (p + 1) pages))

-- where there are pages, r can stand in this one alone, at this place among its rows
pub record IsHere (r : List ℕ) (pages : List SharedPage) (s : Spot) : Type 0 where
  pub page : IsPageOf r pages s.page
  pub place : IfSome (slice_get pages s.page) (λ h. IsPlace r (page_rows h) s.place)

abbrev pub IsSpot : List ℕ → List SharedPage → Spot → Type 0
IsSpot r pages s = 0 < length pages → IsHere r pages s

-- the rows of h stand in two pages
pub record IsHalved (h low high : SharedPage) : Type 0 where
  pub all : page_rows low ++ page_rows high ≡ page_rows h
  pub alive : live_rows low ++ live_rows high ≡ live_rows h
  pub lower : IsSound low
  pub upper : IsSound high

-- the live rows are those of a table
pub record IsPaged (pages : List SharedPage) (next : ℕ) : Type 0 where
  pub numbered : IsNumbered (rows_of pages) next
  pub paged : IsPages pages

-- ---- a reader at an index of a page

abbrev pub left_in : Option SharedPage → ℕ → List Row
left_in None at = []
left_in (Some h) at = live_from h.live at (drop at (page_rows h))

abbrev pub rows_left : List SharedPage → ℕ → ℕ → List Row
rows_left pages p at = left_in (slice_get pages p) at ++ rows_of (drop (p + 1) pages)

abbrev pub IsLiveAt : SharedPage → ℕ → Type 0
IsLiveAt h i = (i < length (page_rows h)) × ((bit_at h.live i == 1) ≡ true)
