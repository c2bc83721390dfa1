use Rattle.doc_table.proofs.PageChanges.{page_rising}
use Rattle.doc_table.proofs.pages.with_room.Goals as goal

pub has_room-requires-clause-rising : goal.has_room-requires-clause-rising
has_room-requires-clause-rising c = page_rising c.args.pages.now.items c.args.p c.index.result.now c.requires.pages c.requires.place.within c.index.ensures
