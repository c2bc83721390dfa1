-- Migrating a table: the table of all outputs of its rows, and which rows can be migrated.
use Rattle.std.specs.Prelude.{◌≡◌, ℕ, ◌+◌, false, List, [], ◌∷◌, ◌++◌, length}
use Rattle.base_model.specs.Keyed.{Text, Keyed, same, put}
use Rattle.base_model.specs.Outcomes.{Outcome}
use Rattle.base_model.specs.Outcomes.Outcome.{Removed, Outputs}
use Rattle.race_model.specs.Stores.{Rows, Table}
use Rattle.race_model.specs.Machines.{Settings, outputs_of}
use Rattle.race_model.specs.Sorted.{Each}

-- all outputs of rows, in order
unfoldable pub outs : {D Q : Type 0} → Settings D Q → Rows D → List (Text × D)
outs s [] = []
outs s (r ∷ rs) = outputs_of (s.outcome r.0 r.1.doc) ++ outs s rs

-- the same in order of raw id
unfoldable pub collected : {D : Type 0} → List (Text × D) → Keyed D
collected [] = []
collected (o ∷ os) = put o.0 o.1 (collected os)

-- the same numbered from n
unfoldable pub cells : {D : Type 0} → ℕ → Keyed D → Rows D
cells n [] = []
cells n (e ∷ es) = (e.0, record { seq = n; doc = e.1 }) ∷ cells (n + 1) es

-- the table of all outputs, numbered 0, 1, .. in order of raw id
abbrev pub migrated : {D Q : Type 0} → Settings D Q → Rows D → Table D
migrated s rows = record { rows = cells 0 (collected (outs s rows)); next = length (collected (outs s rows)) }

-- a document that can be migrated: it is removed or has outputs
abbrev pub IsGoodOutcome : {D : Type 0} → Outcome D → Type 0
IsGoodOutcome Removed = Unit {0}
IsGoodOutcome (Outputs os) = Unit {0}
IsGoodOutcome _ = ⊥

-- no output of these has the raw id
unfoldable pub NoneHas : {D : Type 0} → Text → List (Text × D) → Type 0
NoneHas raw [] = Unit {0}
NoneHas raw (o ∷ os) = (same raw o.0 ≡ false) × NoneHas raw os

-- the raw ids of these outputs are different
unfoldable pub AllApart : {D : Type 0} → List (Text × D) → Type 0
AllApart [] = Unit {0}
AllApart (o ∷ os) = NoneHas o.0 os × AllApart os

-- rows are clean where each can be migrated and no two outputs have one raw id
abbrev pub IsClean : {D Q : Type 0} → Settings D Q → Rows D → Type 0
IsClean s rows = Each (λ raw doc. IsGoodOutcome (s.outcome raw doc)) rows × AllApart (outs s rows)
