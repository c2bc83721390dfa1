use Rattle.std.proofs.Common.{◌≡◌, drop}
use Rattle.document_model.specs.Registries.{greatest}
use Rattle.type_registry.proofs.registry.greatest_of.Given as goal

-- the greatest so far stands for those that were passed
abbrev pub invariant-loop-migration : goal.invariant-loop-migration
invariant-loop-migration l = greatest l.found (drop l.migration-index l.migration-items) ≡ greatest l.initial.found l.migration-items
