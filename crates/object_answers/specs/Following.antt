-- A resolve by its two reads, as the definition of plans has them.
use Rattle.std.specs.Prelude.{ℕ, [], ◌∷◌, Option, Some, None, if◌then◌else◌}
use Rattle.base_model.specs.Keyed.{Text}
use Rattle.race_model.specs.Stores.{Cell, Reply}
use Rattle.race_model.specs.Stores.Reply.{Found}
use Rattle.document_model.specs.Documents.{Doc}
use Rattle.document_model.specs.Registries.{Registry}
use Rattle.query_model.specs.declared.parts.Target.{Target}
use Rattle.so_js.specs.declared.js.Js.{Js}
use Rattle.transform_ops.specs.declared.op.Op.{Op}
use Rattle.call_model.specs.Calls.{Answer}
use Rattle.call_model.specs.declared.refuse.Refuse.TheVariants.{NotReady, Busy}
use Rattle.call_model.specs.Steps.{number_of, same_number, alias_target, resolved_by, refused}
use Rattle.call_model.specs.Plans.{cell_of}
use Rattle.call_words.specs.Product.{product_words}
use Rattle.call_words.specs.Told.{answer_with_token}
use Rattle.object_answers.specs.declared.resolving.Followed.{Followed}
use Rattle.object_answers.specs.declared.resolving.Followed.TheVariants.{Answered, Leads}

-- by the target that the alias names, if any, the exact row and the alias's
abbrev pub followed_over : Registry Op → Text → Target → Option Target → (exact link : Option (Cell (Doc Js))) → Followed
followed_over reg space q None exact link = Answered (answer_with_token (resolved_by reg space q None exact (λ a. None)))
followed_over reg space q (Some goal) exact link = Leads (number_of link) goal

-- what the first reply leads to
abbrev pub followed : Registry Op → Text → Target → Reply (Doc Js) → Followed
followed reg space q (Found (exact ∷ link ∷ [])) = followed_over reg space q (alias_target product_words (cell_of link)) (cell_of exact) (cell_of link)
followed reg space q _ = Answered (answer_with_token (refused NotReady))

-- by the rows of the second read, where the alias has the number that was seen
abbrev pub between_over : Registry Op → Text → Target → Option ℕ → (exact link goal : Option (Cell (Doc Js))) → Answer Js
between_over reg space q seen exact link goal =
    if same_number seen (number_of link) then resolved_by reg space q (alias_target product_words link) exact (λ a. goal) else refused (Busy seen (number_of link))

-- the answer from the second reply
abbrev pub between : Registry Op → Text → Target → Option ℕ → Reply (Doc Js) → Answer Js
between reg space q seen (Found (exact ∷ link ∷ goal ∷ [])) = between_over reg space q seen (cell_of exact) (cell_of link) (cell_of goal)
between reg space q seen _ = refused NotReady
