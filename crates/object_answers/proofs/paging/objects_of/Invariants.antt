use Rattle.std.proofs.Common.{◌≡◌, ◌++◌, map, drop}
use Rattle.doc_query.specs.Mapped.{cells_of}
use Rattle.call_model.specs.Steps.{all_shown}
use Rattle.call_words.specs.Told.{shown_with_token}
use Rattle.object_answers.proofs.paging.objects_of.Given as goal

-- the objects so far, and those of the rows that are left
abbrev pub invariant-loop-row : goal.invariant-loop-row
invariant-loop-row l = l.objects ++ map shown_with_token (all_shown l.reg (cells_of (drop l.row-index l.row-items))) ≡ map shown_with_token (all_shown l.reg (cells_of l.row-items))
