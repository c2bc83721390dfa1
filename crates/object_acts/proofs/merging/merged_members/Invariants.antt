use Rattle.std.proofs.Common.{◌≡◌, ◌++◌, drop, true}
use Rattle.so_js.specs.Tree.{are_rising, keys_of}
use Rattle.call_words.specs.Product.{with_members}
use Rattle.object_acts.proofs.merging.merged_members.Given as goal

-- what was written, and what is left of both lists as one, makes the whole
abbrev pub invariant-loop-member : goal.invariant-loop-member
invariant-loop-member l = record {
  whole : l.all ++ with_members (drop l.member-index l.member-items) l.rest ≡ with_members l.member-items l.fn.old;
  given : are_rising (keys_of (drop l.member-index l.member-items)) ≡ true;
  old : are_rising (keys_of l.rest) ≡ true;
}
