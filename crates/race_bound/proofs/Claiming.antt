-- Every start is short.
use Rattle.std.proofs.Common.{ℕ, List, Some, sym, ◌∙◌, subst, ◌+◌, ◌*◌, ◌≤◌, ap}
use mathlib.Core.Logic.◌⊎◌.{inl, inr}
use Rattle.base_model.specs.Keyed.{Text}
use Rattle.race_model.specs.Stores.{Table, Store, Rows}
use Rattle.race_model.specs.Machines.{Settings}
use Rattle.race_model.specs.Worlds.{Race, Entry}
use Rattle.race_model.specs.Journals.{open_trace, heard_of, Trace, Has, Conforms, all_followed}
use Rattle.race_tables.proofs.Lists.{Every}
use Rattle.race_model.specs.Premises.{Paged, NamesApart, RaceLaws}
use Rattle.race_facts.proofs.Racing.{TraceFacts}
use Rattle.race_facts.proofs.Facts.{StoreOk}
use Rattle.race_facts.proofs.Opening.{opens_trace}
use Rattle.race_bound.proofs.Costing.{Within}
use Rattle.race_bound.proofs.Bounding.{all_short}
use Rattle.race_bound.specs.Short.{IsShort, AllShort}
use Rattle.race_model.specs.Premises.{Paged}

module _ {D Q C : Type 0} (race : Race D Q C) (cur : Text) (sets : List (Settings D Q)) (Fresh : Settings D Q → Text → D → Type 0) (Sound : C → Type 0) (laws : RaceLaws race cur (λ v. Has v sets) Fresh Sound) where
  abbrev In : Settings D Q → Type 0
  In v = Has v sets

  abbrev names : NamesApart cur In
  names = laws.names

  module _ (Empty : Type 0) (st : Store D) (ok : StoreOk cur In Fresh Empty st) where
    abbrev TraceOk : Trace D Q C → Type 0
    TraceOk t = TraceFacts race cur In Fresh Empty Sound t

    abbrev starts : (instances : ℕ) (scripts : List C) → Every Sound scripts → TraceOk (open_trace st instances scripts)
    starts instances scripts sound = opens_trace race cur sets Fresh Sound laws Empty st ok instances scripts sound

    short_of : (pages : ℕ → Rows D → ℕ) (paged : (i : ℕ) → Paged race.select (race.settings i) (pages i)) (i : ℕ) (x : Store D) (k : ℕ)
        → Within race cur In Fresh Empty Sound laws (pages i) (race.settings i) (laws.runs i) (laws.not_outdated i) (paged i) x 14 k → IsShort (pages i) sets (race.settings i) x k
    short_of pages paged i x k (inl few) = inl few
    short_of pages paged i x k (inr o) = inr (record {
      source = o.0;
      installed = record { set = o.1.ground.set; is_in = o.1.ground.is_in; name = o.1.ground.name; installed = o.1.ground.installed ∙ ap (λ z. Some z) (sym o.1.ground.name) };
      not_later = o.1.ground.not_later;
      not_same = o.1.ground.not_same;
      index = o.1.blocked.index;
      there = o.1.blocked.there;
      blocked = o.1.blocked.blocked;
      few = subst (λ (z : Table D). k ≤ 14 + 2 * pages i z.rows) (sym o.1.blocked.table) o.1.few;
    })

    pub starts_short : (pages : ℕ → Rows D → ℕ) (paged : (i : ℕ) → Paged race.select (race.settings i) (pages i)) (instances : ℕ) (scripts : List C) (j : List (Entry D Q)) → Every Sound scripts → Conforms race (open_trace st instances scripts) j
        → AllShort race pages sets (all_followed race (open_trace st instances scripts) j)
    starts_short pages paged instances scripts j sound c = record {
      short = λ i past g e. short_of pages paged i (all_followed race (open_trace st instances scripts) j).store (heard_of g past.runs) (all_short race cur In Fresh Empty Sound laws pages paged instances st scripts j (starts instances scripts sound) c i past g e).0;
      looks_once = λ i past g e. (all_short race cur In Fresh Empty Sound laws pages paged instances st scripts j (starts instances scripts sound) c i past g e).1;
    }
