use Rattle.std.proofs.Common.{◌∙◌}
use Rattle.call_words.proofs.Lists.{all_with_kinds}
use Rattle.call_words.proofs.finding.with_kinds.Goals as goal

pub returns : goal.returns
returns c = c.in_ok-all.ensures ∙ all_with_kinds c.args.reg.now c.args.types.now
