use Rattle.std.proofs.Common.{◌∙◌}
use Rattle.so_js.proofs.TreeLaws.{is_sound-Items}
use Rattle.report.proofs.trees.Tree.items.Goals as goal

pub invariant_of-result : goal.invariant_of-result
invariant_of-result c = is_sound-Items c.trees.inside.items ∙ c.trees.invariant
