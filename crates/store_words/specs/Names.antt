-- Names that rise.
use Rattle.std.specs.Prelude.{Bool, true, Option, Some, None}
use Rattle.base_model.specs.Keyed.{Text, Keyed, text_lt}
use Rattle.race_model.specs.Replies.{rising, rising_from}

-- the name is above the one before it, if there is one
abbrev pub is_next : Option Text → Text → Bool
is_next None name = true
is_next (Some last) name = text_lt last name

-- the names rise, and from the one before them, if there is one
abbrev pub rising_after : {V : Type 0} → Option Text → Keyed V → Bool
rising_after None es = rising es
rising_after (Some last) es = rising_from last es
