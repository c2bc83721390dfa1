use Rattle.std.proofs.Common.{rules}
use Rattle.std.proofs.lemmas.List.Sorted.{answers_always}
use Rattle.doc_query.proofs.TimeOrder.{earlier, by_earlier, earliest_first}
use Rattle.doc_query.proofs.sorting.sort_earliest_first.Goals as goal

pub returns : goal.returns
returns c =
    earliest_first _ _ (c.in_ok-sort_by.ensures.sorted earlier by_earlier (answers_always _ _ _ (λ f a r g h. search rules)))
    (c.sort_by.ensures.stable earlier by_earlier (answers_always _ _ _ (λ f a r g h. search rules)))
