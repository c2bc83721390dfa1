use Rattle.std.proofs.Common.{◌≡◌, ◌++◌, true}
use Rattle.std.specs.Vec.Iter.{into_iter_items}
use Rattle.report.specs.Members.{members_there, values_are_sound}
use Rattle.report.proofs.fields.members.Given as goal

-- the members so far, and those of the fields that are left
abbrev pub invariant-loop-field : goal.invariant-loop-field
invariant-loop-field l = record {
  whole : l.members ++ members_there (into_iter_items l.field-iterator) ≡ members_there l.fn.fields;
  sound : values_are_sound l.members ≡ true;
}
