use Rattle.std.proofs.Common.{length, take, ap, sym, ◌∙◌, Some}
use Rattle.std.specs.Option.{option_copied}
use Rattle.index_store.proofs.Fronts.{chosen_after}
use Rattle.index_store.proofs.reading.front.Goals as goal

pub returns-clause-total : goal.returns-clause-total
returns-clause-total c = c.count_after.ensures ∙ ap length (sym (chosen_after (option_copied c.args.after) (Some c.args.most) c.args.table.now.rows))

pub returns-clause-rows : goal.returns-clause-rows
returns-clause-rows c = c.in_ok-take_after.ensures ∙ ap (take c.args.most) (sym (chosen_after (option_copied c.args.after) (Some c.args.most) c.args.table.now.rows))
