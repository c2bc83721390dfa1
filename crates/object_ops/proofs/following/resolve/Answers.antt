use Rattle.space_scope.specs.Spaces.{space_text}
use Rattle.object_ops.specs.Mapped.{progress_of}
use Rattle.object_ops.proofs.Spaces.{no_space, space_read, resolve_refused, resolve_begun}
use Rattle.object_ops.proofs.following.resolve.Goals as goal

pub returns-in-None : goal.returns-in-None
returns-in-None c =
    resolve_refused c.args.reg.now c.args.space.now c.args.target.now (progress_of c.refused.result)
    (no_space c.in_ok-space.field-0 c.as_str.result.now c.args.space.now c.in_ok-space.ensures c.in-None.is c.as_str.ensures) (c.refused.ensures c.args.reg.now)

pub returns-in-Some : goal.returns-in-Some
returns-in-Some c =
    let read = space_read c.in_ok-space.field-0 c.in-Some.space c.as_str.result.now c.args.space.now c.in_ok-space.ensures c.in-Some.is c.as_str.ensures in
    resolve_begun c.args.reg.now c.resolve_in.result (space_text c.in-Some.space) c.args.space.now c.args.target.now read.0 read.1 c.resolve_in.ensures
