use Rattle.std.proofs.Common.{◌≡◌, map, option_map, drop}
use Rattle.race_model.specs.Replies.{fits_all_found}
use Rattle.doc_query.specs.Mapped.{cell_of}
use Rattle.store_words.proofs.fitting.are_found.Given as goal

-- those so far are rows of their raw ids
abbrev pub invariant-loop-raw : goal.invariant-loop-raw
invariant-loop-raw l = fits_all_found (drop l.raw-index l.raws) (map (option_map cell_of) l.rest) ≡ fits_all_found l.raws (map (option_map cell_of) l.rows)
