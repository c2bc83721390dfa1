-- The entries of one call in a journal, and the places of facts.
use Rattle.std.proofs.Common.{◌≡◌, ◌≢◌, ◌<◌, ◌≤◌, ℕ, zero, suc, ◌+◌, Bool, true, false, ◌&&◌, Some, List, [], ◌∷◌, ◌++◌, drop, length, refl, sym, ◌∙◌, ap, arith, ◌==◌, nat_lt, if◌then◌else◌}
use Rattle.std.proofs.lemmas.Bool.Decides.{nat_tests}
use Rattle.base_model.specs.Keyed.{Text}
use Rattle.race_model.specs.Stores.{Request, Reply}
use Rattle.race_model.specs.Worlds.{Entry, nth}
use Rattle.race_model.specs.Worlds.Actor.{Instance, Client}
use Rattle.race_model.specs.Generations.{Generations}
use Rattle.race_model.specs.History.{FoundSoFar, found_after}
use Rattle.call_model.specs.History.{is_client, is_entry, entries_of, first_place, Past, stood_before}

module _ {D Q : Type 0} (k tag : ℕ) where
  -- one more entry that isn't the call's
  pub entries_other : (xs : List (Entry D Q)) (e : Entry D Q) → is_entry k tag e ≡ false → entries_of k tag (xs ++ e ∷ []) ≡ entries_of k tag xs
  unfolding entries_of
  entries_other [] e n = rw n refl
  entries_other (x ∷ xs) e n = by (is_entry k tag x) (entries_other xs e n)
    where
      by : (b : Bool) → entries_of k tag (xs ++ e ∷ []) ≡ entries_of k tag xs → (if b then x ∷ entries_of k tag (xs ++ e ∷ []) else entries_of k tag (xs ++ e ∷ [])) ≡ (if b then x ∷ entries_of k tag xs else entries_of k tag xs)
      by true h = ap (λ z. x ∷ z) h
      by false h = h

  -- one more that is
  pub entries_own : (xs : List (Entry D Q)) (e : Entry D Q) → is_entry k tag e ≡ true → entries_of k tag (xs ++ e ∷ []) ≡ entries_of k tag xs ++ e ∷ []
  unfolding entries_of
  entries_own [] e n = rw n refl
  entries_own (x ∷ xs) e n = by (is_entry k tag x) (entries_own xs e n)
    where
      by : (b : Bool) → entries_of k tag (xs ++ e ∷ []) ≡ entries_of k tag xs ++ e ∷ [] → (if b then x ∷ entries_of k tag (xs ++ e ∷ []) else entries_of k tag (xs ++ e ∷ [])) ≡ (if b then x ∷ entries_of k tag xs else entries_of k tag xs) ++ e ∷ []
      by true h = ap (λ z. x ∷ z) h
      by false h = h

  -- the first entry of a call has its place at the end
  pub first_at_end : (n : ℕ) (xs : List (Entry D Q)) (e : Entry D Q) → is_entry k tag e ≡ true → entries_of k tag xs ≡ [] → first_place k tag n (xs ++ e ∷ []) ≡ n + length xs
  unfolding entries_of first_place
  first_at_end n [] e own n0 = rw own (omega arith)
  first_at_end n (x ∷ xs) e own n0 = by (is_entry k tag x) n0 (λ z. first_at_end (n + 1) xs e own z)
    where
      by : (b : Bool) → (if b then x ∷ entries_of k tag xs else entries_of k tag xs) ≡ [] → (entries_of k tag xs ≡ [] → first_place k tag (n + 1) (xs ++ e ∷ []) ≡ (n + 1) + length xs)
          → (if b then n else first_place k tag (n + 1) (xs ++ e ∷ [])) ≡ n + length (x ∷ xs)
      by true f h = absurd (cc)
      by false f h = h f ∙ omega arith

  -- a call that has an entry keeps its first place
  pub first_stays : (n : ℕ) (xs ys : List (Entry D Q)) (x : Entry D Q) (rest : List (Entry D Q)) → entries_of k tag xs ≡ x ∷ rest → first_place k tag n (xs ++ ys) ≡ first_place k tag n xs
  unfolding entries_of first_place
  first_stays n [] ys x rest e = absurd (cc)
  first_stays n (z ∷ xs) ys x rest e = by (is_entry k tag z) e (λ f. first_stays (n + 1) xs ys x rest f)
    where
      by : (b : Bool) → (if b then z ∷ entries_of k tag xs else entries_of k tag xs) ≡ x ∷ rest → (entries_of k tag xs ≡ x ∷ rest → first_place k tag (n + 1) (xs ++ ys) ≡ first_place k tag (n + 1) xs)
          → (if b then n else first_place k tag (n + 1) (xs ++ ys)) ≡ (if b then n else first_place k tag (n + 1) xs)
      by true f h = refl
      by false f h = h f

pub own_entry : {D Q : Type 0} (k tag : ℕ) (e : Entry D Q) → e.actor ≡ Client k → e.tag ≡ tag → is_entry k tag e ≡ true
own_entry k tag e a t = let x : (k == k) ≡ true = grind (arith, nat_tests) in let y : (tag == tag) ≡ true = grind (arith, nat_tests) in rw (a, t, x) y

pub other_tag : {D Q : Type 0} (k tag : ℕ) (e : Entry D Q) → e.tag ≢ tag → is_entry k tag e ≡ false
other_tag k tag e n = by (is_client k e.actor) (tag == e.tag) refl
  where
    by : (a b : Bool) → (tag == e.tag) ≡ b → (a && b) ≡ false
    by false b f = refl
    by true false f = refl
    by true true f = let g : tag ≡ e.tag = grind (arith, nat_tests) in absurd (n (sym g))

pub other_client : {D Q : Type 0} (k j tag : ℕ) (e : Entry D Q) → e.actor ≡ Client j → k ≢ j → is_entry k tag e ≡ false
other_client k j tag e a n = by (k == j) refl
  where
    by : (b : Bool) → (k == j) ≡ b → is_entry k tag e ≡ false
    by false f = rw (a, f) refl
    by true f = let g : k ≡ j = grind (arith, nat_tests) in absurd (n g)

pub no_client : {D Q : Type 0} (k i tag : ℕ) (e : Entry D Q) → e.actor ≡ Instance i → is_entry k tag e ≡ false
no_client k i tag e a = rw a refl

-- each entry counts one place
pub found_place : {D Q : Type 0} (current : Text) (f : FoundSoFar) (ask : Request D Q) (reply : Reply D) → (found_after current f ask reply).place ≡ f.place + 1
found_place current f (Request.Block n) Reply.Done = refl
found_place current f (Request.Block n) (Reply.Seen a b) = refl
found_place current f (Request.Block n) (Reply.Pit p) = refl
found_place current f (Request.Block n) (Reply.Selected t rows) = refl
found_place current f (Request.Block n) (Reply.Found rows) = refl
found_place current f (Request.Block n) (Reply.Items items) = refl
found_place current f (Request.Block n) (Reply.Refused r) = refl
found_place current f (Request.Aliases actions) Reply.Done = refl
found_place current f (Request.Aliases actions) (Reply.Seen a b) = refl
found_place current f (Request.Aliases actions) (Reply.Pit p) = refl
found_place current f (Request.Aliases actions) (Reply.Selected t rows) = refl
found_place current f (Request.Aliases actions) (Reply.Found rows) = refl
found_place current f (Request.Aliases actions) (Reply.Items items) = refl
found_place current f (Request.Aliases actions) (Reply.Refused r) = refl
found_place current f Request.Ping reply = refl
found_place current f Request.State reply = refl
found_place current f (Request.Create n from) reply = refl
found_place current f (Request.Clone n m) reply = refl
found_place current f (Request.OpenPit n) reply = refl
found_place current f (Request.ReadPit p q) reply = refl
found_place current f (Request.ClosePit p) reply = refl
found_place current f (Request.Get n raws) reply = refl
found_place current f (Request.Search n q) reply = refl
found_place current f (Request.Bulk n writes) reply = refl

-- the rest of a list
pub drop_next : {T : Type 0} (m : ℕ) (xs ys : List T) (x : T) → drop m xs ≡ x ∷ ys → drop (suc m) xs ≡ ys
drop_next zero (z ∷ xs) ys x e = let f : xs ≡ ys = cc in f
drop_next zero [] ys x e = absurd (cc)
drop_next (suc m) [] ys x e = absurd (cc)
drop_next (suc m) (z ∷ xs) ys x e = drop_next m xs ys x e

pub drop_nth : {T : Type 0} (m : ℕ) (xs ys : List T) (x : T) → drop m xs ≡ x ∷ ys → nth xs (suc m) ≡ Some x
unfolding nth
drop_nth zero (z ∷ xs) ys x e = let f : z ≡ x = cc in ap (λ y. Some y) f
drop_nth zero [] ys x e = absurd (cc)
drop_nth (suc m) [] ys x e = absurd (cc)
drop_nth (suc m) (z ∷ xs) ys x e = drop_nth m xs ys x e

-- what stood before a place
module _ {D : Type 0} (opening : Generations D) where
  pub stood_new : (place q : ℕ) (gs : Generations D) (past : Past D) → place < q → stood_before q opening ((place, gs) ∷ past) ≡ gs
  unfolding stood_before
  stood_new place q gs past l = let b : nat_lt place q ≡ true = grind (arith, nat_tests) in rw b refl

  pub stood_old : (place q : ℕ) (gs : Generations D) (past : Past D) → q ≤ place → stood_before q opening ((place, gs) ∷ past) ≡ stood_before q opening past
  unfolding stood_before
  stood_old place q gs past l = let b : nat_lt place q ≡ false = grind (arith, nat_tests) in rw b refl
