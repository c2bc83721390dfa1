use Rattle.std.proofs.Common.{◌≡◌, find}
use Rattle.std.specs.Str.{bytes_eq}
use Rattle.std.specs.Vec.Iter.{into_iter_items}
use Rattle.saved_doc.proofs.reading.value_in.Given as goal

-- it is the first among those that are left
abbrev pub invariant-loop-member : goal.invariant-loop-member
invariant-loop-member l = find (λ m. bytes_eq m.key l.fn.key) (into_iter_items l.member-iterator) ≡ find (λ m. bytes_eq m.key l.fn.key) l.fn.members
