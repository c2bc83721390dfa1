use Rattle.store_words.proofs.Journals.{replayed_on, replays_on}
use Rattle.store_words.proofs.laws.journals_go_on.Goals as goal

pub returns-clause-leaves : goal.returns-clause-leaves
returns-clause-leaves c = λ st entries last. replayed_on st entries last

pub returns-clause-replays : goal.returns-clause-replays
returns-clause-replays c = λ st entries last h same. replays_on st entries last h same
