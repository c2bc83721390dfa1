use Rattle.std.proofs.Common.{rules}
use Rattle.std.proofs.lemmas.List.Sorted.{answers_always}
use Rattle.doc_query.proofs.TimeOrder.{later, by_later, latest_first}
use Rattle.doc_query.proofs.sorting.sort_latest_first.Goals as goal

pub returns : goal.returns
returns c =
    latest_first _ _ (c.in_ok-sort_by.ensures.sorted later by_later (answers_always _ _ _ (λ f a r g h. search rules)))
    (c.sort_by.ensures.stable later by_later (answers_always _ _ _ (λ f a r g h. search rules)))
