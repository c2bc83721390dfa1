use Rattle.upgrade_laws.proofs.Checking.{finds_exactly}
use Rattle.upgrade_laws.proofs.check_finds_the_unknown.Goals as goal

pub returns : goal.returns
returns g c = λ w names set. finds_exactly w names set
