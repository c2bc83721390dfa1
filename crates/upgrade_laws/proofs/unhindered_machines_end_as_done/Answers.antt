use Rattle.upgrade_laws.proofs.Claims.{machine_goes_well}
use Rattle.upgrade_laws.proofs.unhindered_machines_end_as_done.Goals as goal

pub returns : goal.returns
returns g c = λ r events before after first i node m is there running unfailed journal b. machine_goes_well r is events before after first i b.past node m there running unfailed journal b.own b.there b.begins b.unhindered
