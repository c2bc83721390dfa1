use Rattle.std.proofs.Common.{ap, ◌∙◌, List, ℕ}
use Rattle.base_model.specs.Keyed.{at}
use Rattle.race_model.specs.Stores.{open_over, meant}
use Rattle.alias_table.specs.Plans.{keyed_of}
use Rattle.store_core.specs.Engines.{store_of}
use Rattle.store_core.proofs.Names.{meant_missing}
use Rattle.store_core.proofs.Beside.{open_beside, with_reply}
use Rattle.store_core.proofs.writing.open_pit.Goals as goal

pub returns-in-Ok-clause-ok : goal.returns-in-Ok-clause-ok
returns-in-Ok-clause-ok c =
    let st = store_of c.args.indices.now c.args.aliases.now in
    let m = meant st c.args.name.now in
    let pairs = keyed_of c.args.aliases.now in
    with_reply pairs _ _ _ _ c.reply.ensures
    (c.in-Ok.ensures.ok ∙ ap (λ (i : List ℕ). open_over (at i st.indices) c.args.indices.now i) (c.as_str.ensures ∙ c.meant-index.ensures))
    ∙ open_beside (at m st.indices) c.args.indices.now pairs m c.args.name.now (λ e. meant_missing st c.args.name.now c.requires.named e)
