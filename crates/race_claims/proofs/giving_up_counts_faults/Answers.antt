use Rattle.race_model.specs.Openings.{opening_store}
use Rattle.race_claims.proofs.Counting.{counted}
use Rattle.race_claims.proofs.giving_up_counts_faults.Goals as goal

pub returns-clause-gave_up : goal.returns-clause-gave_up
returns-clause-gave_up g c = λ s events i node m name faults there is ended. (counted s.race (opening_store s.current s.opening) s.instances s.scripts events i node there m is).gave_up name faults ended

pub returns-clause-goes_on : goal.returns-clause-goes_on
returns-clause-goes_on g c = λ s events i node m ask there is asks. (counted s.race (opening_store s.current s.opening) s.instances s.scripts events i node there m is).goes_on ask asks
