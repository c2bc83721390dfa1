use Rattle.store_core.specs.Engines.{store_of}
use Rattle.store_core.proofs.Replies.{orderly_now, fits_now, room_now}
use Rattle.store_core.proofs.serving.answered.Goals as goal

pub returns-in-Ok-clause-orderly : goal.returns-in-Ok-clause-orderly
returns-in-Ok-clause-orderly c = orderly_now (store_of c.args.indices.now c.args.aliases.now) _ c.args.request.now c.in-Ok.reply c.in-Ok.ensures.ok c.requires.orderly

pub returns-in-Ok-clause-fits : goal.returns-in-Ok-clause-fits
returns-in-Ok-clause-fits c = fits_now (store_of c.args.indices.now c.args.aliases.now) _ c.args.request.now c.in-Ok.reply c.in-Ok.ensures.ok c.requires.orderly

pub returns-in-Ok-clause-room : goal.returns-in-Ok-clause-room
returns-in-Ok-clause-room c = λ n s h. room_now (store_of c.args.indices.now c.args.aliases.now) _ n c.args.request.now c.in-Ok.reply c.in-Ok.ensures.ok c.requires.orderly s h
