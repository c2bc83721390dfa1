use Rattle.std.proofs.Common.{◌≡◌, drop}
use Rattle.std.specs.List.{list_all}
use Rattle.saved_doc.specs.Reading.{is_known_key}
use Rattle.saved_doc.proofs.reading.are_known.Given as goal

-- what is left decides
abbrev pub invariant-loop-member : goal.invariant-loop-member
invariant-loop-member l = list_all (λ m. is_known_key l.type_name m.key) (drop l.member-index l.member-items) ≡ list_all (λ m. is_known_key l.type_name m.key) l.member-items
