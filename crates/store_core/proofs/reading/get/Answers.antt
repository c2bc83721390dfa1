use Rattle.std.proofs.Common.{ap, ◌∙◌, List, ℕ}
use Rattle.base_model.specs.Keyed.{at}
use Rattle.race_model.specs.Stores.{get_over, meant}
use Rattle.store_core.specs.Engines.{store_of}
use Rattle.store_core.proofs.Names.{meant_missing}
use Rattle.store_core.proofs.Beside.{get_named}
use Rattle.store_core.proofs.reading.get.Goals as goal

pub returns-in-Ok-clause-ok : goal.returns-in-Ok-clause-ok
returns-in-Ok-clause-ok c =
    let st = store_of c.args.indices.now c.args.aliases.now in
    let m = meant st c.args.name.now in
    c.reply.ensures ∙ c.in-Ok.ensures.ok
    ∙ ap (λ (i : List ℕ). get_over (at i st.indices) i c.args.raws.now) (c.as_str.ensures ∙ c.meant-index.ensures)
    ∙ get_named (at m st.indices) m c.args.name.now c.args.raws.now (λ e. meant_missing st c.args.name.now c.requires e)
