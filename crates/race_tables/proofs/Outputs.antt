-- The outputs of rows: clean rows, a pass over them, and a table of all of them.
use Rattle.std.proofs.Common.{◌≡◌, List, [], ◌∷◌, ◌++◌, Some, None, refl, sym, ◌∙◌, ap, append_assoc}
use Rattle.base_model.specs.Keyed.{Text, Keyed, at}
use Rattle.race_model.specs.Stores.{Rows, Table, Index}
use Rattle.race_model.specs.Machines.{Settings, Cause, Pass, outputs_of}
use Rattle.race_model.specs.Machines.Cause.{UnknownObjects, CorruptObjects, NewerObjects, Collision}
use Rattle.race_model.specs.Migrated.{outs, IsGoodOutcome, NoneHas, AllApart, IsClean}
use Rattle.race_model.specs.Sorted.{IsSorted, Each}
use Rattle.race_tables.proofs.Tables.{Only, Holds, AllHas}
use mathlib.Core.Logic.◌⊎◌.{inl, inr}
use Rattle.race_model.specs.Journals.{Has}

abbrev pub AllGood : {D Q : Type 0} → Settings D Q → Rows D → Type 0
AllGood s rows = Each (λ raw doc. IsGoodOutcome (s.outcome raw doc)) rows

-- the rows can be migrated: each gives outputs or is removed, and no two outputs meet
pub record Clean {D Q : Type 0} (s : Settings D Q) (rows : Rows D) : Type 0 where
  pub good : AllGood s rows
  pub apart : AllApart (outs s rows)

-- the pass knows each of these raw ids
abbrev pub PassOf : {D : Type 0} → Pass → List (Text × D) → Type 0
PassOf pass os = (raw : Text) → at raw pass ≡ None → NoneHas raw os

-- an index is there
abbrev pub Is : {D : Type 0} → Keyed (Index D) → Text → Type 0
Is ixs n = (ix : Index _) × (at n ixs ≡ Some ix)

-- a table of all outputs of these rows, and nothing else
pub record Whole {D Q : Type 0} (s : Settings D Q) (rows : Rows D) (t : Table D) : Type 0 where
  pub only : Only (outs s rows) t.rows
  pub sorted : IsSorted t.rows
  pub holds : Holds (outs s rows) t.rows
  pub clean : Clean s rows

-- the causes that can come
abbrev pub MayFail : Cause → Type 0
MayFail (UnknownObjects raws) = Unit {0}
MayFail (CorruptObjects raws) = Unit {0}
MayFail (NewerObjects raws) = Unit {0}
MayFail (Collision first second raw) = Unit {0}
MayFail _ = ⊥

pub all_has_more : {A : Type 0} (xs ys zs : List A) → ((x : A) → Has x ys → Has x zs) → AllHas xs ys → AllHas xs zs
unfolding AllHas
all_has_more [] ys zs f h = tt
all_has_more (x ∷ xs) ys zs f h = (f x h.0, all_has_more xs ys zs f h.1)

pub all_has_of : {A : Type 0} (xs zs : List A) → ((x : A) → Has x xs → Has x zs) → AllHas xs zs
unfolding AllHas Has
all_has_of [] zs f = tt
all_has_of (x ∷ xs) zs f = (f x (inl refl), all_has_of xs zs (λ y h. f y (inr h)))

pub outs_append : {D Q : Type 0} (s : Settings D Q) (xs ys : Rows D) → outs s (xs ++ ys) ≡ outs s xs ++ outs s ys
unfolding outs
outs_append s [] ys = refl
outs_append s (x ∷ xs) ys = ap (λ os. outputs_of (s.outcome x.0 x.1.doc) ++ os) (outs_append s xs ys) ∙ sym (append_assoc (outputs_of (s.outcome x.0 x.1.doc)) (outs s xs) (outs s ys))

pub is_clean : {D Q : Type 0} (s : Settings D Q) (rows : Rows D) → Clean s rows → IsClean s rows
is_clean s rows c = (c.good, c.apart)
