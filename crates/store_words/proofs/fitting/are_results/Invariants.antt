use Rattle.std.proofs.Common.{◌≡◌, map, drop}
use Rattle.race_model.specs.Replies.{fits_items}
use Rattle.doc_table.specs.Tables.{item_of, write_of}
use Rattle.store_words.proofs.fitting.are_results.Given as goal

-- those so far are results of their writes
abbrev pub invariant-loop-write : goal.invariant-loop-write
invariant-loop-write l = fits_items (map write_of (drop l.write-index l.writes)) (map item_of l.rest) ≡ fits_items (map write_of l.writes) (map item_of l.items)
