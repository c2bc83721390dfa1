-- Pages of two rows.
use Rattle.std.proofs.Common.{◌≡◌, ℕ, zero, suc, [], ◌∷◌, ◌++◌, take, Bool, true, false, Option, Some, None, refl, ap, if◌then◌else◌, IsTrue}
use Rattle.base_model.specs.Keyed.{Text, text_lt}
use Rattle.race_model.specs.Stores.{Rows}
use Rattle.race_model.specs.Sorted.{AllAbove, IsSorted, last_key, Each}
use Rattle.race_tables.proofs.Tables.{lt_trans, lt_irrefl}

unfoldable pub above : Option Text → Rows ℕ → Rows ℕ
above None rows = rows
above (Some a) [] = []
above (Some a) (r ∷ rs) = if text_lt a r.0 then r ∷ above (Some a) rs else above (Some a) rs

unfoldable pub chosen : ℕ → Option Text → Rows ℕ → Rows ℕ
chosen zero after rows = []
chosen (suc n) after rows = take 2 (above after rows)

all_above : (k : Text) (rest : Rows ℕ) → AllAbove k rest → above (Some k) rest ≡ rest
unfolding above AllAbove
all_above k [] a = refl
all_above k (r ∷ rest) a = rw (a.0) (ap (λ x. r ∷ x) (all_above k rest a.1))

NotAbove : Text → Rows ℕ → Type 0
NotAbove last [] = Unit {0}
NotAbove last (x ∷ xs) = (text_lt last x.0 ≡ false) × NotAbove last xs

drops : (last : Text) (xs rest : Rows ℕ) → NotAbove last xs → AllAbove last rest → above (Some last) (xs ++ rest) ≡ rest
unfolding above NotAbove
drops last [] rest n a = all_above last rest a
drops last (x ∷ xs) rest n a = rw n.0 (drops last xs rest n.1 a)

record Last (k : Text) (xs rest : Rows ℕ) : Type 0 where
  last : Text
  is : last_key (Some k) xs ≡ Some last
  not_below : text_lt last k ≡ false
  front : NotAbove last xs
  back : AllAbove last rest

not_lt : (l k x : Text) → text_lt l x ≡ false → text_lt k x ≡ true → text_lt l k ≡ false
not_lt l k x e f = by (text_lt l k) refl
  where
    by : (t : Bool) → text_lt l k ≡ t → text_lt l k ≡ false
    by false g = g
    by true g = let h : text_lt l x ≡ true = lt_trans l k x g f in absurd (cc)

last_of_front : (k : Text) (xs rest : Rows ℕ) → IsSorted (xs ++ rest) → AllAbove k (xs ++ rest) → Last k xs rest
unfolding last_key AllAbove IsSorted NotAbove
last_of_front k [] rest a b = record { last = k; is = refl; not_below = lt_irrefl k; front = tt; back = b }
last_of_front k (x ∷ xs) rest a b =
    let l = last_of_front x.0 xs rest a.1 a.0 in
    record { last = l.last; is = l.is; not_below = not_lt l.last k x.0 l.not_below b.0; front = (l.not_below, l.front); back = l.back }

pub skips : (before rest : Rows ℕ) → IsSorted (before ++ rest) → above (last_key None before) (before ++ rest) ≡ rest
unfolding above last_key IsSorted NotAbove
skips [] rest a = refl
skips (x ∷ xs) rest a =
    let l = last_of_front x.0 xs rest a.1 a.0 in
    rw l.is (drops l.last (x ∷ xs) rest (l.not_below, l.front) l.back)

pub none_taken : (rest : Rows ℕ) → take 2 rest ≡ [] → rest ≡ []
none_taken [] e = refl
none_taken (r ∷ rest) e = absurd (cc)

pub all_true : (rows : Rows ℕ) → Each (λ raw doc. IsTrue true) rows
unfolding Each
all_true [] = tt
all_true (r ∷ rows) = (refl, all_true rows)
