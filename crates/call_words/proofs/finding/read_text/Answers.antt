use Rattle.std.proofs.Common.{ap, sym, ◌∙◌}
use Rattle.call_words.specs.Product.{filter_in}
use Rattle.call_words.proofs.Filters.{none_without_tree}
use Rattle.call_words.proofs.finding.read_text.Goals as goal

pub returns-in-Err-clause-bad : goal.returns-in-Err-clause-bad
returns-in-Err-clause-bad c = λ bad.
    sym (ap filter_in c.as_str.ensures)
    ∙ none_without_tree c.as_str.result.now (c.in-Err.ensures.bad bad) (c.one_tree.ensures.read c.as_str.result.now)
