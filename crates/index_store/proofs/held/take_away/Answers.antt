use Rattle.std.proofs.Common.{◌≡◌, ap, sym, ◌∙◌, subst, rules}
use Rattle.std.specs.Prelude.{not}
use Rattle.std.specs.Str.{bytes_eq}
use Rattle.std.proofs.lemmas.Fn.{filter_same}
use Rattle.base_model.specs.Keyed.{without}
use Rattle.race_model.specs.Sorted.{IsSorted}
use Rattle.race_tables.proofs.Tables.{sorted_without}
use Rattle.index_store.specs.declared.held.Held.{Held}
use Rattle.index_store.specs.Indices.{indices_of}
use Rattle.index_store.proofs.Places.{without_filter}
use Rattle.index_store.proofs.held.take_away.Goals as goal

pub returns : goal.returns
returns c =
    let e : indices_of c.retain.new.self.items ≡ without c.args.name.now (indices_of c.args.indices.now.items) =
    ap indices_of (filter_same _ (λ (h : Held). not (bytes_eq c.args.name.now h.name)) _ (λ x b f' k. search rules) _ _ c.retain.ensures.filtered)
    ∙ sym (without_filter c.args.name.now c.args.indices.now.items) in
    record {
      sorted = subst IsSorted (sym e) (sorted_without c.args.name.now (indices_of c.args.indices.now.items) c.requires);
      rest = e;
    }
