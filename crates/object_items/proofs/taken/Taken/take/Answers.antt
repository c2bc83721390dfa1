use Rattle.std.proofs.Common.{◌≡◌, rules}
use Rattle.object_items.proofs.Placed.{is_free, are_same}
use Rattle.object_items.proofs.taken.Taken.take.Goals as goal

pub returns-clause-free : goal.returns-clause-free
returns-clause-free c =
    let own : c.in_ok-clone.field-0 ≡ c.args.raw.now = search rules in
    let all : c.self.inside.raws.keys ≡ c.args.self.now = search rules in
    is_free c.args.raw.now c.in_ok-clone.field-0 c.args.self.now c.self.inside.raws.keys c.in_ok-is_free.is_free own all c.in_ok-is_free.ensures.added

pub returns-clause-taken : goal.returns-clause-taken
returns-clause-taken c =
    let own : c.in_ok-clone.field-0 ≡ c.args.raw.now = search rules in
    let all : c.self.inside.raws.keys ≡ c.args.self.now = search rules in
    are_same c.args.raw.now c.in_ok-clone.field-0 c.args.self.now c.self.inside.raws.keys c.insert.new.self.keys own all c.in_ok-is_free.ensures.keys
