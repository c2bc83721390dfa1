use Rattle.std.proofs.Common.{◌≡◌, ◌++◌, drop, option_map}
use Rattle.transform_ops.specs.Reading.{replacements_in}
use Rattle.transform_ops.proofs.reading.read_replacements.Given as goal

-- what was read, and what is left, makes the whole
abbrev pub invariant-loop-member : goal.invariant-loop-member
invariant-loop-member l = option_map (λ rest. l.table ++ rest) (replacements_in (drop l.member-index l.member-items)) ≡ replacements_in l.member-items
