use Rattle.std.proofs.Common.{ap, ◌∙◌, List, ℕ}
use Rattle.base_model.specs.Keyed.{at}
use Rattle.race_model.specs.Stores.{search_over, meant}
use Rattle.query_model.specs.Queries.{select}
use Rattle.doc_query.specs.Mapped.{query_of, holds_of}
use Rattle.store_core.specs.Engines.{store_of}
use Rattle.store_core.proofs.Names.{meant_missing}
use Rattle.store_core.proofs.Beside.{search_named}
use Rattle.store_core.proofs.reading.search.Goals as goal

pub returns-in-Ok-clause-ok : goal.returns-in-Ok-clause-ok
returns-in-Ok-clause-ok c =
    let st = store_of c.args.indices.now c.args.aliases.now in
    let m = meant st c.args.name.now in
    let q = query_of c.args.query.now in
    c.reply.ensures ∙ c.in-Ok.ensures.ok
    ∙ ap (λ (i : List ℕ). search_over (select holds_of) (at i st.indices) i q) (c.as_str.ensures ∙ c.meant-index.ensures)
    ∙ search_named (select holds_of) (at m st.indices) m c.args.name.now q (λ e. meant_missing st c.args.name.now c.requires e)
