-- A journal as a run of one table per version, for several target sets.
use Rattle.std.specs.Prelude.{◌≡◌, ℕ, true, false, List, [], ◌∷◌, Option, Some, None}
use Rattle.base_model.specs.Keyed.{Text}
use Rattle.race_model.specs.Machines.{Settings}
use Rattle.race_model.specs.Generations.{Generation, Generations, Move, of_alias, told_by, move}
use Rattle.race_model.specs.Generations.Move.{Stay, Migrate, Install}
use Rattle.race_model.specs.History.{Fact, FoundSoFar, migrated_fact, installed_fact, facts_of, found_after}
use Rattle.race_model.specs.Worlds.{Race, Actor, Entry}
use Rattle.race_model.specs.Worlds.Actor.{Instance, Client}
use Rattle.race_model.specs.Migrated.{IsClean}

-- the newest generation
unfoldable pub last_generation : {D : Type 0} → Generations D → Option (Generation D)
last_generation [] = None
last_generation (g ∷ []) = Some g
last_generation (g ∷ h ∷ gs) = last_generation (h ∷ gs)

-- a migration to the version of v: the last generation is blocked, clean and of a version below, and there is none of v's version
pub record CanMigrate {D Q : Type 0} (v : Settings D Q) (gs : Generations D) : Type 0 where
  pub last : Generation D
  pub is_last : last_generation gs ≡ Some last
  pub blocked : last.blocked ≡ true
  pub clean : IsClean v last.table.rows
  pub none_of : of_alias v.version gs ≡ None
  pub not_later : v.is_later last.index ≡ false
  pub not_same : v.is_same last.index ≡ false

-- what an instance whose set is v may do to the generations
abbrev pub MayMove : {D Q : Type 0} → Settings D Q → Generations D → Move D Q → Type 0
MayMove v gs Stay = Unit {0}
MayMove v gs Move.Block = (g : Generation _) × (last_generation gs ≡ Some g) × (g.blocked ≡ false)
MayMove v gs (Migrate w) = (w ≡ v) × CanMigrate v gs
MayMove v gs (Install w) = (w ≡ v) × (gs ≡ [])
MayMove v gs (Move.Ask ask) = ⊥

-- an entry is a move that its actor may make
abbrev pub EntryIs : {D Q C : Type 0} → Race D Q C → Generations D → Actor → Entry D Q → Move D Q → Type 0
EntryIs race gs (Instance i) e m = MayMove (race.settings i) gs m
EntryIs race gs (Client k) e m = (m ≡ Move.Ask e.request) × (e.reply ≡ told_by race.select gs e.request)

-- the fact of a move
abbrev pub fact_of : {D Q : Type 0} → (version_in : Text → Option Text) → ℕ → Move D Q → List Fact
fact_of version_in place Stay = []
fact_of version_in place Move.Block = Fact.Block place ∷ []
fact_of version_in place (Migrate v) = migrated_fact (version_in v.target) place v.target
fact_of version_in place (Install v) = installed_fact (version_in v.target) place v.target
fact_of version_in place (Move.Ask ask) = []

-- each entry is a move of the generations, which is its fact by the aliases, and each client is told what its own version's generation tells
unfoldable pub IsRun : {D Q C : Type 0} → Race D Q C → (current : Text) → (version_in : Text → Option Text) → FoundSoFar → Generations D → List (Entry D Q) → Generations D → Type 0
IsRun race current version_in f gs [] last = gs ≡ last
IsRun race current version_in f gs (e ∷ es) last =
    (m : Move _ _) × EntryIs race gs e.actor e m × (facts_of current version_in f e.request e.reply ≡ fact_of version_in f.place m)
    × IsRun race current version_in (found_after current f e.request e.reply) (move gs m) es last
