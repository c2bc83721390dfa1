use Rattle.std.proofs.Common.{sym, ◌∙◌}
use Rattle.document_model.specs.Registries.{known}
use Rattle.doc_transform.proofs.StepLaws.{out_removed, out_listed, out_unknown}
use Rattle.doc_transform.proofs.migrating.migrate.Goals as goal

pub returns-then-has_removed_type : goal.returns-then-has_removed_type
returns-then-has_removed_type c = out_removed c.args.reg.now c.args.raw.now c.args.doc.now (sym c.if-has_removed_type.ensures)

pub returns-in_ok-migrated-in-Some : goal.returns-in_ok-migrated-in-Some
returns-in_ok-migrated-in-Some c =
    c.in_ok-migrated-in-Some.ensures ∙ sym (out_listed c.args.reg.now c.args.raw.now c.args.doc.now (sym c.if-has_removed_type.ensures))

pub returns-in-None : goal.returns-in-None
returns-in-None c =
    let reg = c.args.reg.now in
    let doc = c.args.doc.now in
    out_unknown reg (known reg doc.type_name) c.args.raw.now doc c.in-None.ensures ∙ sym (out_listed reg c.args.raw.now doc (sym c.if-has_removed_type.ensures))
