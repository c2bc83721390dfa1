use Rattle.std.specs.Prelude.{codes}
use Rattle.std.proofs.Common.{◌++◌, ◌∷◌, [], List, Option, Some, option_map, sym, ap, ◌∙◌, append-nil}
use Rattle.base_model.specs.Keyed.{Text}
use Rattle.so_js.specs.declared.js.Js.{Js}
use Rattle.so_js.specs.declared.js.Js.TheVariants.{Str}
use Rattle.so_js.specs.declared.js.Member.{Member}
use Rattle.saved_doc.specs.Writing.{if_some, ver_js, refs_js, spaces_js}
use Rattle.saved_doc.proofs.WritingLaws.{written_on}
use Rattle.saved_doc.proofs.writing.members_beside.Goals as goal

pub returns : goal.returns
returns c =
    let d = c.doc.inside in
    let t7 : List (Text × Option Js) = (codes "updated_at", option_map Str d.updated_at) ∷ [] in
    let t6 : List (Text × Option Js) = (codes "typeMigrationVersion", option_map ver_js d.stamp) ∷ t7 in
    let t5 : List (Text × Option Js) = (codes "type", Some (Str d.type_name)) ∷ t6 in
    let t4 : List (Text × Option Js) = (codes "references", Some (refs_js d.references)) ∷ t5 in
    let t3 : List (Text × Option Js) = (codes "originId", option_map Str d.origin) ∷ t4 in
    let t2 : List (Text × Option Js) = (codes "namespaces", option_map spaces_js d.namespaces) ∷ t3 in
    let t1 : List (Text × Option Js) = (codes "namespace", option_map Str d.namespace) ∷ t2 in
    let first = c.in_ok-with.ensures ∙ ap (λ (ms : List (Member Js)). ms ++ if_some (codes "coreMigrationVersion") c.in_ok-version_js.field-0) c.new.ensures in
    rw (← c.doc.view_is) (sym (append-nil c.in_ok-fields.fields.members)
    ∙ written_on _ _ _ _ _ [] c.in_ok-fields.ensures c.in_ok-text_js-2.ensures
    ∙ written_on _ _ _ _ _ t7 c.in_ok-with-7.ensures c.in_ok-version_js-2.ensures
    ∙ written_on _ _ _ _ _ t6 c.in_ok-with-6.ensures (ap (λ (t : List _). Some (Str t)) c.in_ok-clone.ensures.cases)
    ∙ written_on _ _ _ _ _ t5 c.in_ok-with-5.ensures (ap Some c.in_ok-references_js.ensures)
    ∙ written_on _ _ _ _ _ t4 c.in_ok-with-4.ensures c.in_ok-text_js.ensures
    ∙ written_on _ _ _ _ _ t3 c.in_ok-with-3.ensures c.in_ok-spaces_js.ensures
    ∙ written_on _ _ _ _ _ t2 c.in_ok-with-2.ensures c.in_ok-space_js.ensures
    ∙ written_on [] _ _ _ _ t1 first c.in_ok-version_js.ensures)
