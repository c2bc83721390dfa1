-- Where alias documents stay, a resolve is one step.
use Rattle.std.proofs.Common.{◌≡◌, Bool, true, false, Option, Some, None, refl, if◌then◌else◌}
use Rattle.base_model.specs.Keyed.{Text, same, at}
use Rattle.race_model.specs.Stores.{Cell}
use Rattle.race_model.specs.Generations.{Generation}
use Rattle.document_model.specs.Documents.{Doc}
use Rattle.document_model.specs.Registries.{Registry, alias_type}
use Rattle.call_model.specs.Words.{Words}
use Rattle.query_model.specs.declared.parts.Target.{Target}
use Rattle.call_model.specs.declared.refuse.Refuse.{Refuse}
use Rattle.call_model.specs.Calls.Call.{Resolving}
use Rattle.call_model.specs.Steps.{number_of, same_number, alias_of, alias_target, resolve_words, unless_words, work_of, work_step, call_step, needs_no_store, called_over, called}
use Rattle.call_model.specs.Steps.Work.{Following}
use Rattle.call_laws.specs.Meanings.{KeepsAliases}
use Rattle.call_laws.proofs.Items.{same_self}

module _ {A O F : Type 0} (w : Words A O F) (reg : Registry O) (space : Text) (q : Target) where
  is_alias : (c : Cell (Doc A)) (a : Target) → alias_target w (Some c) ≡ Some a → same c.doc.type_name alias_type ≡ true
  unfolding alias_target
  is_alias c a e = by (same c.doc.type_name alias_type) _ e
    where
      by : (b : Bool) (o : Option Target) → (if b then o else None) ≡ Some a → b ≡ true
      by true o e = refl
      by false o e = absurd (cc)

  one_number : (g h : Generation (Doc A)) (a : Target) → alias_target w (at (alias_of space q) g.table.rows) ≡ Some a → KeepsAliases g.table h.table → same_number (number_of (at (alias_of space q) g.table.rows)) (number_of (at (alias_of space q) h.table.rows)) ≡ true
  unfolding alias_target
  one_number g h a e k = by (at (alias_of space q) g.table.rows) refl e
    where
      by : (o : Option (Cell (Doc A))) → at (alias_of space q) g.table.rows ≡ o → alias_target w o ≡ Some a → same_number (number_of o) (number_of (at (alias_of space q) h.table.rows)) ≡ true
      by None f e = absurd (cc)
      by (Some c) f e = rw (k (alias_of space q) c f (is_alias c a e)) (same_self (Some c))

  -- where the read shows an alias, the answer is that of one step on the state of the last request
  pub resolve_is_step : (g h : Generation (Doc A)) (a : Target) → alias_target w (at (alias_of space q) g.table.rows) ≡ Some a → KeepsAliases g.table h.table → called w reg (Resolving space q) (Some g) (Some h) ≡ call_step w reg h.blocked h.table (Resolving space q)
  unfolding called call_step work_of
  resolve_is_step g h a e k = by (resolve_words reg space q)
    where
      by : (o : Option Refuse) → called_over w reg (unless_words o (Following space q)) (needs_no_store {A = A} (unless_words o (Following space q))) (Some g) (Some h) ≡ work_step w reg h.blocked h.table (unless_words o (Following space q))
      by (Some r) = refl
      by None = rw (one_number g h a e k) refl
