-- Items that are judged by their rows, one after another.
use Rattle.std.proofs.Common.{◌≡◌, List, [], ◌∷◌, ◌++◌, Option, Some, None, map, option_map, refl, sym, ap, ◌∙◌}
use Rattle.base_model.specs.Keyed.{Text}
use Rattle.document_model.specs.Registries.{Registry}
use Rattle.saved_doc.specs.declared.doc.Row.{Row}
use Rattle.so_js.specs.declared.js.Js.{Js}
use Rattle.transform_ops.specs.declared.op.Op.{Op}
use Rattle.doc_query.specs.Mapped.{cell_of}
use Rattle.doc_table.specs.Tables as tables
use Rattle.call_model.specs.Steps as steps
use Rattle.call_model.specs.Steps.Turn.{Denied, Goes}
use Rattle.call_model.specs.Plans as plans
use Rattle.call_words.specs.Product.{product_words}
use Rattle.object_items.specs.declared.placing.Turn.{Turn}
use Rattle.object_items.specs.declared.readying.Ready.{Ready}
use Rattle.object_items.specs.Mapped.{turn_of, ready_of}
use Rattle.object_items.specs.Judging.{AreJudgeable, ready_by, first_in, rows_behind}
use Rattle.object_items.proofs.Lists.{map_pushed}

-- the rest of the items are judged by the rows behind that of the first
readied_first : (reg : Registry Op) (space : Text) (turn : steps.Turn Js) (turns : List (steps.Turn Js)) (rows : List (Option Row))
    → plans.readied product_words reg space (turn ∷ turns) (map (option_map cell_of) rows)
    ≡ ready_by reg space turn (option_map tables.cell_of (first_in rows)) ∷ plans.readied product_words reg space turns (map (option_map cell_of) (rows_behind turn rows))
unfolding plans.readied
readied_first reg space (Denied refusal) turns rows = refl
readied_first reg space (Goes raw act) turns [] = refl
readied_first reg space (Goes raw act) turns (None ∷ rows) = refl
readied_first reg space (Goes raw act) turns (Some row ∷ rows) = refl

-- one item further
pub readied_on : (reg : Registry Op) (space : Text) (items next : List Ready) (item : Ready) (turn : Turn) (turns : List Turn) (rows rest : List (Option Row)) (first : Option Row) (whole : List (plans.Ready Js))
    → map ready_of items ++ plans.readied product_words reg space (map turn_of (turn ∷ turns)) (map (option_map cell_of) rows) ≡ whole
    → first ≡ first_in rows → ready_of item ≡ ready_by reg space (turn_of turn) (option_map tables.cell_of first) → rest ≡ rows_behind (turn_of turn) rows → next ≡ items ++ item ∷ []
    → map ready_of next ++ plans.readied product_words reg space (map turn_of turns) (map (option_map cell_of) rest) ≡ whole
readied_on reg space items next item turn turns rows rest first whole before own is left pushed =
    let later = plans.readied product_words reg space (map turn_of turns) (map (option_map cell_of) (rows_behind (turn_of turn) rows)) in
    ap (λ (all : List Ready). map ready_of all ++ plans.readied product_words reg space (map turn_of turns) (map (option_map cell_of) rest)) pushed
    ∙ ap (λ (r : List (Option Row)). map ready_of (items ++ item ∷ []) ++ plans.readied product_words reg space (map turn_of turns) (map (option_map cell_of) r)) left
    ∙ map_pushed ready_of items item later
    ∙ ap (λ (one : plans.Ready Js). map ready_of items ++ one ∷ later) is
    ∙ ap (λ (row : Option Row). map ready_of items ++ ready_by reg space (turn_of turn) (option_map tables.cell_of row) ∷ later) own
    ∙ ap (λ (all : List (plans.Ready Js)). map ready_of items ++ all) (sym (readied_first reg space (turn_of turn) (map turn_of turns) rows))
    ∙ before

pub judgeable_parts : (reg : Registry Op) (turn : steps.Turn Js) (turns : List (steps.Turn Js)) → AreJudgeable reg (turn ∷ turns) → AreJudgeable reg (turn ∷ []) × AreJudgeable reg turns
judgeable_parts reg (Denied refusal) turns h = (tt, h)
judgeable_parts reg (Goes raw act) turns h = ((h.0, tt), h.1)
