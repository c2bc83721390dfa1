-- Items that are judged by their rows.
use Rattle.std.specs.Prelude.{◌≡◌, List, [], ◌∷◌, Option, None, ⊤}
use Rattle.base_model.specs.Keyed.{Text}
use Rattle.race_model.specs.Stores.{Cell}
use Rattle.document_model.specs.Documents.{Doc}
use Rattle.document_model.specs.Registries.{Registry}
use Rattle.so_js.specs.declared.js.Js.{Js}
use Rattle.transform_ops.specs.declared.op.Op.{Op}
use Rattle.call_model.specs.Acts.{own_words, judge}
use Rattle.call_model.specs.Steps.{Turn}
use Rattle.call_model.specs.Steps.Turn.{Denied, Goes}
use Rattle.call_model.specs.Plans.{Ready, ready_over}
use Rattle.call_model.specs.Plans.Ready.{Settled}
use Rattle.call_words.specs.Product.{product_words}

-- the own words of each item that is left to judge don't refuse it
abbrev pub AreJudgeable : Registry Op → List (Turn Js) → Type 0
AreJudgeable reg [] = ⊤
AreJudgeable reg (Denied refusal ∷ turns) = AreJudgeable reg turns
AreJudgeable reg (Goes raw act ∷ turns) = (own_words product_words reg act ≡ None) × AreJudgeable reg turns

-- an item by its row, if there is one
abbrev pub ready_by : Registry Op → Text → Turn Js → Option (Cell (Doc Js)) → Ready Js
ready_by reg space (Denied refusal) row = Settled refusal
ready_by reg space (Goes raw act) row = ready_over raw act (judge product_words reg space act row)

-- the first row, none where no place is left
abbrev pub first_in : {R : Type 0} → List (Option R) → Option R
first_in [] = None
first_in (row ∷ rows) = row

-- the places of rows behind that of an item
abbrev pub rows_behind : {R : Type 0} → Turn Js → List R → List R
rows_behind (Denied refusal) rows = rows
rows_behind (Goes raw act) [] = []
rows_behind (Goes raw act) (row ∷ rows) = rows
