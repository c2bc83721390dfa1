use Rattle.std.proofs.Common.{rules}
use Rattle.index_store.proofs.Places.{is_place}
use Rattle.index_store.proofs.held.place.Goals as goal

pub returns-then-eq : goal.returns-then-eq
returns-then-eq c = is_place c.args.name.now c.args.indices.now c.loop-i.i c.index-indices-i.result c.requires c.loop-i-test.true c.index-indices-i.is (search rules)
