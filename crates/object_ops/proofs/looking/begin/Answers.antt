use Rattle.std.proofs.Common.{map}
use Rattle.space_scope.specs.Spaces.{space_text}
use Rattle.store_words.specs.Words.{request_of}
use Rattle.object_answers.specs.Mapped.{look_of}
use Rattle.object_ops.specs.Mapped.{progress_of}
use Rattle.object_ops.proofs.Starts.{look_begun}
use Rattle.object_ops.proofs.looking.begin.Goals as goal

pub returns-in_ok-request : goal.returns-in_ok-request
returns-in_ok-request c =
    look_begun c.args.reg.now c.args.alone (space_text c.args.space) (map look_of c.args.looks) c.in_ok-raws.raws c.is_empty.result (request_of c.in_ok-request.request) (progress_of c.asking.result)
    c.is_empty.ensures c.if-is_empty.false c.in_ok-raws.ensures c.in_ok-request.ensures c.asking.ensures
