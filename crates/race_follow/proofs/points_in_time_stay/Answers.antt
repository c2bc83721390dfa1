use Rattle.race_follow.proofs.Pits.{opens, takes, rises, kept, reads}
use Rattle.race_follow.proofs.points_in_time_stay.Goals as goal

pub returns-clause-opened : goal.returns-clause-opened
returns-clause-opened g c = opens

pub returns-clause-rows : goal.returns-clause-rows
returns-clause-rows g c = takes

pub returns-clause-counted : goal.returns-clause-counted
returns-clause-counted g c = rises

pub returns-clause-kept : goal.returns-clause-kept
returns-clause-kept g c = kept

pub returns-clause-read : goal.returns-clause-read
returns-clause-read g c = reads
