-- The page of a find from the store's reply.
use Rattle.std.specs.Prelude.{ℕ}
use Rattle.race_model.specs.Stores.{Reply}
use Rattle.race_model.specs.Stores.Reply.{Selected}
use Rattle.document_model.specs.Documents.{Doc}
use Rattle.document_model.specs.Registries.{Registry}
use Rattle.so_js.specs.declared.js.Js.{Js}
use Rattle.transform_ops.specs.declared.op.Op.{Op}
use Rattle.call_model.specs.Calls.{Answer}
use Rattle.call_model.specs.Calls.Answer.{Page}
use Rattle.call_model.specs.declared.refuse.Refuse.TheVariants.{NotReady}
use Rattle.call_model.specs.Steps.{all_shown, refused}

-- the objects that the store selected, under the page that was asked for
abbrev pub page_from : Registry Op → (page per_page : ℕ) → Reply (Doc Js) → Answer Js
page_from reg page per_page (Selected total rows) = Page (all_shown reg rows) page per_page total
page_from reg page per_page _ = refused NotReady
