use Rattle.std.proofs.Common.{◌≡◌, ◌++◌, map, drop}
use Rattle.doc_table.specs.Tables.{item_of}
use Rattle.call_model.specs.Plans.{answers}
use Rattle.call_words.specs.Told.{answer_with_token}
use Rattle.object_items.specs.Mapped.{ready_of}
use Rattle.object_items.proofs.answering.answers.Given as goal

-- the answers so far, and those of the items that are left by the results that are left, make the whole
abbrev pub invariant-loop-item : goal.invariant-loop-item
invariant-loop-item l =
    l.answers ++ map answer_with_token (answers l.reg (map ready_of (drop l.item-index l.item-items)) (map item_of l.rest))
    ≡ map answer_with_token (answers l.reg (map ready_of l.item-items) (map item_of l.fn.results))
