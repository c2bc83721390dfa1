-- The laws, as lemmas.
use Rattle.std.proofs.Common.{List}
use Rattle.race_model.specs.Worlds.{Event}
use Rattle.race_model.specs.Openings.{Scenario, IsJournal, world_after}
use Rattle.race_model.specs.Openings.{opening_store}
use Rattle.race_follow.proofs.Following.{events_conform}

-- Whatever happens in a world, its journal conforms: each reply is the store's, each request is one that its actor may make at that point.
pub worlds_conform : {D Q C : Type 0} → (scenario : Scenario D Q C) (events : List Event) → IsJournal scenario (world_after scenario events).journal
worlds_conform = λ s events. events_conform s.race (opening_store s.current s.opening) s.instances s.scripts events
