use Rattle.race_facts.proofs.Laws.{worlds_race}
use Rattle.race_facts.proofs.worlds_race.Goals as goal

pub returns : goal.returns
returns g c = worlds_race
