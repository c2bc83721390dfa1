use Rattle.std.proofs.Common.{◌≡◌, map, take}
use Rattle.doc_query.proofs.selecting.copied.Given as goal

abbrev pub invariant-loop-row : goal.invariant-loop-row
invariant-loop-row l = l.all ≡ map (λ r. r.now) (take l.row-index l.rows)
