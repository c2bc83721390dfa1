-- Lists of rows in rising order of raw id.
use Rattle.std.specs.Prelude.{◌≡◌, ◌≢◌, ℕ, ◌+◌, ◌<◌, ◌==◌, Bool, true, false, List, [], ◌∷◌, ◌++◌, Option, Some, None}
use Rattle.std.specs.List.{filter, find}
use Rattle.std.specs.Ordering.{nat_cmp, is_lt, is_eq, is_gt}
use Rattle.std.specs.Cmp.Lexicographic.{slice_cmp}
use Rattle.std.specs.declared.cmp.Ordering.{Ordering}
use Rattle.std.specs.declared.cmp.Ordering.TheVariants.{Less}
use Rattle.saved_doc.specs.declared.doc.Row.{Row}

-- the order of raw ids, byte by byte
abbrev pub order : List ℕ → List ℕ → Ordering
order = slice_cmp nat_cmp

-- P holds of each
abbrev pub Each : {X : Type 0} → (X → Type 0) → List X → Type 0
Each P [] = Unit {0}
Each P (x ∷ xs) = P x × Each P xs

-- R holds of each and each later one
abbrev pub Pairwise : {X : Type 0} → (X → X → Type 0) → List X → Type 0
Pairwise R [] = Unit {0}
Pairwise R (x ∷ xs) = Each (R x) xs × Pairwise R xs

abbrev pub IsRising : List Row → Type 0
IsRising = Pairwise (λ x y. order x.raw y.raw ≡ Less)

abbrev pub IsApart : List Row → Type 0
IsApart = Pairwise (λ x y. x.seq ≢ y.seq)

-- the raw ids rise, and the numbers are all different and all below the next one
pub record IsNumbered (rows : List Row) (next : ℕ) : Type 0 where
  pub rising : IsRising rows
  pub apart : IsApart rows
  pub fresh : Each (λ x. x.seq < next) rows

-- ---- a raw id's row, and the rows below and above

abbrev pub below : List ℕ → List Row → List Row
below r = filter (λ x. is_lt (order x.raw r))

abbrev pub found : List ℕ → List Row → Option Row
found r = find (λ x. is_eq (order x.raw r))

abbrev pub above : List ℕ → List Row → List Row
above r = filter (λ x. is_gt (order x.raw r))

-- the rows with this one added, or in place of the one with its raw id
abbrev pub with_row : Row → List Row → List Row
with_row x rows = below x.raw rows ++ x ∷ above x.raw rows

-- ---- what the calls ask

-- whether a number that is expected is the one that is there
abbrev pub meets : Option ℕ → Option ℕ → Bool
meets None now = true
meets (Some s) None = false
meets (Some s) (Some now) = s == now

-- whether a row is above a raw id, if one is given
abbrev pub is_after : Option (List ℕ) → Row → Bool
is_after None x = true
is_after (Some r) x = is_gt (order x.raw r)

-- all rows are above a raw id, if one is given
abbrev pub IsAllAfter : Option (List ℕ) → List Row → Type 0
IsAllAfter r = Each (λ x. is_after r x ≡ true)

abbrev pub rows_after : Option (List ℕ) → List Row → List Row
rows_after r = filter (is_after r)

-- the rows with numbers that count from n
abbrev pub counted_from : ℕ → List Row → List Row
counted_from n [] = []
counted_from n (x ∷ xs) = record x { seq = n } ∷ counted_from (n + 1) xs
