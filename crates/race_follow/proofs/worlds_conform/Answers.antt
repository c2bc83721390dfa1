use Rattle.race_follow.proofs.Laws.{worlds_conform}
use Rattle.race_follow.proofs.worlds_conform.Goals as goal

pub returns : goal.returns
returns g c = worlds_conform
