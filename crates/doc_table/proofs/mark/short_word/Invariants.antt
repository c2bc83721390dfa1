use Rattle.std.proofs.Common.{◌≡◌, ◌+◌, ◌-◌, ◌*◌, ◌^◌, ◌<◌, drop}
use Rattle.doc_table.specs.Marks.{mark_of}
use Rattle.doc_table.proofs.mark.short_word.Given as goal

abbrev pub invariant-loop-i : goal.invariant-loop-i
invariant-loop-i l = (l.number < 256 ^ l.i) × (l.number * 256 ^ (8 - l.i) + mark_of (8 - l.i) (drop l.i l.bytes) ≡ mark_of 8 l.bytes)
