-- A pair that waits for its place.
use Rattle.std.proofs.Common.{Option, Some, None}
use Rattle.base_model.specs.Keyed.{Text, Keyed, put}
use Rattle.alias_table.specs.declared.pair.Pair.{Pair}

-- the entries with the pair that waits, if one does
abbrev pub put_waiting : Option Pair → Keyed Text → Keyed Text
put_waiting None es = es
put_waiting (Some p) es = put p.alias p.index es
