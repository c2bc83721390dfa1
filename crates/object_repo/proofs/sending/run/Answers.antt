use Rattle.std.proofs.lemmas.Result.{IfErr-weaker}
use Rattle.object_ops.specs.Mapped.{progress_of}
use Rattle.object_repo.specs.Sending.Broke.{AtFirst}
use Rattle.object_repo.proofs.Plans.{broke_second}
use Rattle.object_repo.proofs.sending.run.Goals as goal

pub returns-in-Ok-clause-err : goal.returns-in-Ok-clause-err
returns-in-Ok-clause-err g c =
    IfErr-weaker c.finished.result _ _
    (λ error halted. broke_second c.args.reg.now (progress_of c.args.plan.now) (progress_of c.answered.new.plan) (g.L.Link.failed c.args.link.now) (g.L.Link.failed c.answered.new.link) c.args.tag
    (g.L.Link.entries c.args.link.now) (g.L.Link.entries c.answered.new.link) (g.L.Link.entries c.finished.new.link) error c.in-Ok.ensures.failed c.in-Ok.ensures.ok halted)
    c.finished.ensures.err

pub returns-in-Err-clause-err : goal.returns-in-Err-clause-err
returns-in-Err-clause-err g c = AtFirst c.in-Err.ensures.err
