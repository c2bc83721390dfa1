use Rattle.std.proofs.Common.{refl}
use Rattle.object_repo.specs.Sending.Halted.{Unread}
use Rattle.object_repo.proofs.sending.answered.Goals as goal

pub returns-clause-err : goal.returns-clause-err
returns-clause-err g c = Unread c.in-Ok.reply c.in-Ok.ensures.sent refl
