use Rattle.std.proofs.Common.{sym, ap, ◌∙◌}
use Rattle.base_model.specs.Outcomes.Outcome.{Outputs}
use Rattle.document_model.specs.Registries.{known}
use Rattle.doc_transform.proofs.StepLaws.{out_outputs}
use Rattle.doc_transform.proofs.migrating.migrate_known.Goals as goal

pub returns : goal.returns
returns c =
    let reg = c.args.reg.now in
    let doc = c.args.doc.now in
    ap Outputs c.in_ok-outputs.ensures
    ∙ out_outputs reg (known reg doc.type_name) c.args.kind c.args.raw.now doc c.requires (sym c.if-is_newer.ensures) (sym c.if-not-fits_registry.ensures)
