-- One item of a call that writes, after those whose raw ids are taken.
use Rattle.std.specs.Prelude.{◌≡◌, List}
use Rattle.base_model.specs.Keyed.{Text}
use Rattle.document_model.specs.Documents.{lists}
use Rattle.document_model.specs.Registries.{Registry}
use Rattle.so_js.specs.declared.js.Js.{Js}
use Rattle.transform_ops.specs.declared.op.Op.{Op}
use Rattle.call_model.specs.Calls.{Act}
use Rattle.call_model.specs.Acts.{own_words, raw_of, target_of}
use Rattle.call_model.specs.Steps.{Turn, turn_over, taken_after}
use Rattle.call_words.specs.Product.{product_words}

-- what becomes of it
abbrev pub turn_after : Registry Op → Text → (taken : List Text) → Act Js → Turn Js
turn_after reg space taken act = turn_over (own_words product_words reg act) (lists (raw_of reg space (target_of act)) taken) (raw_of reg space (target_of act)) act

-- the raw ids that are taken after it
abbrev pub taken_by : Registry Op → Text → (taken : List Text) → Act Js → List Text
taken_by reg space taken act = taken_after (own_words product_words reg act) (raw_of reg space (target_of act)) taken

-- both lists have the same texts
pub record AreSame (a b : List Text) : Type 0 where
  pub same : (text : Text) → lists text a ≡ lists text b
