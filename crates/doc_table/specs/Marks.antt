-- The first bytes of a text as two numbers, and those after a known beginning as one, which tell most texts apart.
use Rattle.std.specs.Prelude.{◌≡◌, ℕ, zero, suc, ◌+◌, ◌*◌, ◌^◌, ◌<◌, Bool, true, List, [], ◌∷◌, ◌++◌, length, drop, get_or, nat_lt}
use Rattle.saved_doc.specs.declared.doc.Row.{Row}
use Rattle.doc_table.specs.declared.mark.Mark.{Mark}
use Rattle.doc_table.specs.RowLists.{Each}

-- the first k bytes as the digits of a number, where a byte that is missing counts as 0
unfoldable pub mark_of : ℕ → List ℕ → ℕ
mark_of zero r = 0
mark_of (suc k) [] = 0
mark_of (suc k) (b ∷ r) = b * 256 ^ k + mark_of k r

abbrev pub IsByte : ℕ → Type 0
IsByte b = b < 256

-- m is the mark of r, a text of bytes
pub record IsMarkOf (m : Mark) (r : List ℕ) : Type 0 where
  pub first : m.first ≡ mark_of 16 r
  pub second : m.second ≡ mark_of 16 (drop 16 r)
  pub bytes : Each IsByte r

-- m is the mark of the first row's raw id
abbrev pub IsMarked : Mark → List Row → Type 0
IsMarked m [] = Unit {0}
IsMarked m (x ∷ xs) = IsMarkOf m x.raw

-- r begins with p
abbrev pub Begins : List ℕ → List ℕ → Type 0
Begins p r = r ≡ p ++ drop (length p) r

-- r, a text of bytes, begins with p, and m is the number of the 8 bytes after it
pub record IsWordOf (p : List ℕ) (m : ℕ) (r : List ℕ) : Type 0 where
  pub whole : Begins p r
  pub mark : m ≡ mark_of 8 (drop (length p) r)
  pub bytes : Each IsByte r

-- the marks are those of the rows' raw ids, which begin with p, one each in order
abbrev pub AreMarks : List ℕ → List ℕ → List Row → Type 0
AreMarks p [] [] = Unit {0}
AreMarks p [] (x ∷ xs) = ⊥
AreMarks p (m ∷ ms) [] = ⊥
AreMarks p (m ∷ ms) (x ∷ xs) = IsWordOf p m x.raw × AreMarks p ms xs

-- the mark before an index, if there is one, is below a key
abbrev pub ends_below : List ℕ → ℕ → ℕ → Bool
ends_below ms zero key = true
ends_below ms (suc i) key = nat_lt (get_or ms i key) key
