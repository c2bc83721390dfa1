-- What items answer, one after another.
use Rattle.std.proofs.Common.{◌≡◌, List, [], ◌∷◌, ◌++◌, map, refl, sym, ap, ◌∙◌}
use Rattle.document_model.specs.Registries.{Registry}
use Rattle.so_js.specs.declared.js.Js.{Js}
use Rattle.transform_ops.specs.declared.op.Op.{Op}
use Rattle.doc_table.specs.declared.writes.Item.{Item}
use Rattle.doc_table.specs.Tables.{item_of}
use Rattle.call_model.specs.Plans as plans
use Rattle.call_model.specs.Plans.Ready.{Settled, Sends}
use Rattle.call_words.specs.declared.answers.Answer.{Answer}
use Rattle.call_words.specs.Told.{answer_with_token}
use Rattle.object_items.specs.declared.readying.Ready.{Ready}
use Rattle.object_items.specs.Mapped.{ready_of}
use Rattle.object_items.specs.Answering.{results_behind}
use Rattle.object_items.proofs.Lists.{added_on}

-- the rest of the items answer by the results behind that of the first
answers_first : (reg : Registry Op) (item : plans.Ready Js) (items : List (plans.Ready Js)) (results : List Item)
    → map answer_with_token (plans.answers reg (item ∷ items) (map item_of results))
    ≡ map answer_with_token (plans.answers reg (item ∷ []) (map item_of results)) ++ map answer_with_token (plans.answers reg items (map item_of (results_behind item results)))
unfolding plans.answers
answers_first reg (Settled refusal) items results = refl
answers_first reg (Sends raw act deed) items [] = refl
answers_first reg (Sends raw act deed) items (result ∷ results) = refl

-- one item further
pub answers_on : (reg : Registry Op) (done more : List Answer) (item : Ready) (items : List Ready) (results rest : List Item) (whole : List Answer)
    → done ++ map answer_with_token (plans.answers reg (map ready_of (item ∷ items)) (map item_of results)) ≡ whole
    → more ≡ done ++ map answer_with_token (plans.answers reg (ready_of item ∷ []) (map item_of results)) → rest ≡ results_behind (ready_of item) results
    → more ++ map answer_with_token (plans.answers reg (map ready_of items) (map item_of rest)) ≡ whole
answers_on reg done more item items results rest whole before added left =
    ap (λ (is : List Item). more ++ map answer_with_token (plans.answers reg (map ready_of items) (map item_of is))) left
    ∙ added_on done more (map answer_with_token (plans.answers reg (ready_of item ∷ []) (map item_of results)))
    (map answer_with_token (plans.answers reg (map ready_of items) (map item_of (results_behind (ready_of item) results)))) whole added
    (ap (λ (all : List Answer). done ++ all) (sym (answers_first reg (ready_of item) (map ready_of items) results)) ∙ before)
