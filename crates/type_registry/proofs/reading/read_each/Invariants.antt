use Rattle.std.proofs.Common.{◌≡◌, drop, true, []}
use Rattle.document_model.specs.Registries.{type_names}
use Rattle.so_js.specs.Printing.{are_sound}
use Rattle.type_registry.specs.Reading.{types_after}
use Rattle.type_registry.proofs.ReadingLemmas.{onto}
use Rattle.type_registry.proofs.reading.read_each.Given as goal

-- what was read, and what is left, makes the whole
abbrev pub invariant-loop-item : goal.invariant-loop-item
invariant-loop-item l = record {
  whole : onto l.types (types_after l.top l.names (drop l.item-index l.item-items)) ≡ types_after l.top [] l.item-items;
  sound : are_sound (drop l.item-index l.item-items) ≡ true;
  names : l.names ≡ type_names l.types;
}
