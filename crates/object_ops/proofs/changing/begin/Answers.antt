use Rattle.std.proofs.Common.{map}
use Rattle.space_scope.specs.Spaces.{space_text}
use Rattle.object_items.specs.Mapped.{turn_of}
use Rattle.object_ops.proofs.Starts.{settled_begun, blind_begun}
use Rattle.object_ops.proofs.changing.begin.Goals as goal

pub returns-then-is_empty : goal.returns-then-is_empty
returns-then-is_empty c =
    settled_begun c.args.reg.now c.args.alone (space_text c.args.space) c.settle.result (map turn_of c.args.turns) c.in_ok-raws.raws c.is_empty.result c.is_empty.ensures c.if-is_empty.true c.in_ok-raws.ensures c.settle.ensures

pub returns-then-all_blind : goal.returns-then-all_blind
returns-then-all_blind c =
    blind_begun c.args.reg.now c.args.alone (space_text c.args.space) c.write.result (map turn_of c.args.turns) c.in_ok-raws.raws c.is_empty.result c.all_blind.result
    c.is_empty.ensures c.if-is_empty.false c.in_ok-raws.ensures c.all_blind.ensures c.if-all_blind.true c.write.ensures
