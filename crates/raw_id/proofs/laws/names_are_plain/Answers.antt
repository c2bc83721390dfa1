use Rattle.raw_id.proofs.RawLaws.{plain_type, plain_space}
use Rattle.raw_id.proofs.laws.names_are_plain.Goals as goal

pub returns-clause-types : goal.returns-clause-types
returns-clause-types c = plain_type

pub returns-clause-spaces : goal.returns-clause-spaces
returns-clause-spaces c = plain_space
