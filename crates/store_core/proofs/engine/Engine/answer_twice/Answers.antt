use Rattle.std.proofs.Common.{◌≤◌, arith}
use Rattle.store_core.specs.Copies.{results_in, writes_in}
use Rattle.store_core.proofs.Replies.{few_results, read_leaves}
use Rattle.store_core.proofs.engine.Engine.answer_twice.Goals as goal

pub copy_of-requires-clause-room : goal.copy_of-requires-clause-room
copy_of-requires-clause-room c =
    let few : results_in c.in-Ok-answer.reply ≤ writes_in c.args.request.now = few_results _ _ c.args.request.now c.in-Ok-answer.reply c.in-Ok-answer.ensures.ok in
    let room = c.in-Ok.ensures.room in
    omega arith

pub returns-in-Err-copy_of-clause-err : goal.returns-in-Err-copy_of-clause-err
returns-in-Err-copy_of-clause-err c = read_leaves _ _ c.args.request.now c.in-Ok-answer.reply c.in-Ok-answer.ensures.ok c.in-Err-copy_of.ensures.err
