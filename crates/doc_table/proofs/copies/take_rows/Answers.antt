use Rattle.std.specs.Option.{option_copied}
use Rattle.doc_table.proofs.Later.{later_rest}
use Rattle.doc_table.proofs.copies.take_rows.Goals as goal

pub take_pages-requires-clause-later : goal.take_pages-requires-clause-later
take_pages-requires-clause-later c = later_rest (option_copied c.args.after) c.start_of-start.result c.args.pages.now c.start_of-start.ensures.later
