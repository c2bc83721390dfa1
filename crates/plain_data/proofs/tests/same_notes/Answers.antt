use Rattle.plain_data.proofs.Comparisons.{texts_equal}
use Rattle.plain_data.proofs.tests.same_notes.Goals as goal

pub returns : goal.returns
returns c = texts_equal c.args.notes.now c.args.other.now c.eq.result c.eq.ensures
