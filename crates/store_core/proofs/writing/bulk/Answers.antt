use Rattle.std.proofs.Common.{ap, sym, ◌∙◌, subst, List, ℕ, map, length, ◌+◌, ◌≤◌, ◌^◌}
use Rattle.std.specs.Option.{IfSome}
use Rattle.base_model.specs.Keyed.{at}
use Rattle.race_model.specs.Stores.{bulk_over, meant}
use Rattle.alias_table.specs.Plans.{keyed_of}
use Rattle.doc_table.specs.Tables.{write_of}
use Rattle.doc_table.specs.declared.writes.Write.{Write}
use Rattle.store_core.specs.Engines.{store_of}
use Rattle.store_core.proofs.Names.{meant_missing}
use Rattle.store_core.proofs.Beside.{bulk_beside, with_reply}
use Rattle.store_core.proofs.writing.bulk.Goals as goal

pub bulk-requires : goal.bulk-requires
bulk-requires c =
    let st = store_of c.args.indices.now c.args.aliases.now in record {
      room =
          subst (λ (i : List ℕ). IfSome (at i st.indices) (λ ix. ix.table.next + length c.in-Ok.copies ≤ 2 ^ 63)) (sym (c.as_str.ensures ∙ c.meant-index.ensures))
          (subst (λ (ws : List Write). IfSome (at (meant st c.args.name.now) st.indices) (λ ix. ix.table.next + length ws ≤ 2 ^ 63)) (sym c.in-Ok.ensures) c.requires.few);
    }

pub returns-in-Ok-bulk-clause-ok : goal.returns-in-Ok-bulk-clause-ok
returns-in-Ok-bulk-clause-ok c =
    let st = store_of c.args.indices.now c.args.aliases.now in
    let m = meant st c.args.name.now in
    let pairs = keyed_of c.args.aliases.now in
    with_reply pairs _ _ _ _ c.reply.ensures
    (c.in-Ok-bulk.ensures.ok
    ∙ ap (λ (i : List ℕ). bulk_over (at i st.indices) c.args.indices.now i i (map write_of c.in-Ok.copies)) (c.as_str.ensures ∙ c.meant-index.ensures)
    ∙ ap (λ (ws : List Write). bulk_over (at m st.indices) c.args.indices.now m m (map write_of ws)) c.in-Ok.ensures)
    ∙ bulk_beside (at m st.indices) c.args.indices.now pairs m c.args.name.now (map write_of c.args.writes.now) (λ e. meant_missing st c.args.name.now c.requires.named e)
