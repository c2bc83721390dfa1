use Rattle.object_acts.proofs.telling.told.Goals as goal

pub returns-in-Drop : goal.returns-in-Drop
returns-in-Drop c = rw c.in-Drop.is (c.taken.ensures c.args.reg.now c.args.raw.now)
