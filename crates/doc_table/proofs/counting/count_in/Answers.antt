use Rattle.std.proofs.Common.{length, sym, ◌∙◌, ap}
use Rattle.std.specs.Option.{option_copied}
use Rattle.doc_table.specs.RowLists.{is_after}
use Rattle.doc_table.specs.Pages.{live_rows}
use Rattle.doc_table.proofs.Order.{filter_all}
use Rattle.doc_table.proofs.counting.count_in.Goals as goal

pub returns-else-first : goal.returns-else-first
returns-else-first c = c.count_live.ensures ∙ ap length (sym (filter_all (is_after (option_copied c.args.after)) (live_rows c.args.held.now) (c.requires.later c.if-first.false)))
