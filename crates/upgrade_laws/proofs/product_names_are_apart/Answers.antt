use Rattle.upgrade_laws.proofs.Naming.{names_apart}
use Rattle.upgrade_laws.proofs.product_names_are_apart.Goals as goal

pub returns : goal.returns
returns g c = λ w names sets has. names_apart w names sets has
