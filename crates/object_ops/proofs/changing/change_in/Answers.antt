use Rattle.std.proofs.Common.{[], map, sym, subst}
use Rattle.space_scope.specs.Spaces.{space_text}
use Rattle.object_acts.specs.Mapped.{act_of}
use Rattle.object_items.specs.Judging.{AreJudgeable}
use Rattle.object_ops.proofs.Judged.{judgeable}
use Rattle.object_ops.proofs.changing.change_in.Goals as goal

pub begin-requires : goal.begin-requires
begin-requires c = subst (AreJudgeable c.args.reg.now) (sym c.in_ok-turns.ensures) (judgeable c.args.reg.now (space_text c.args.space) [] (map act_of c.args.acts))
