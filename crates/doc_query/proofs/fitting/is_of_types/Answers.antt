use Rattle.std.proofs.Common.{◌∙◌, option_map}
use Rattle.space_scope.specs.Spaces.{space_text}
use Rattle.doc_query.proofs.Searches.{any_is_types}
use Rattle.doc_query.proofs.fitting.is_of_types.Goals as goal

pub returns : goal.returns
returns c = c.has_entry.ensures ∙ any_is_types (option_map space_text c.args.space.now) c.args.doc.now c.args.types.now
