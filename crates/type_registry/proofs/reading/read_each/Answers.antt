use Rattle.std.proofs.Common.{◌≡◌, ◌+◌, ◌∷◌, [], ◌++◌, List, drop, true, sym, ap, ◌∙◌, rules, arith}
use Rattle.std.proofs.lemmas.Grind.{common_steps}
use Rattle.std.proofs.lemmas.Bool.{and_parts}
use Rattle.base_model.specs.Keyed.{Text, Keyed}
use Rattle.document_model.specs.Registries.{Known, type_names}
use Rattle.so_js.specs.Printing.{are_sound}
use Rattle.so_js.specs.declared.js.Js.{Js}
use Rattle.transform_ops.specs.declared.op.Op.{Op}
use Rattle.type_registry.specs.Reading.{types_after}
use Rattle.type_registry.proofs.ReadingLemmas.{onto}
use Rattle.type_registry.proofs.ApartLaws.{one_type, names-push, names-apart}
use Rattle.type_registry.proofs.reading.read_each.Goals as goal

pub loop-item-preserved : goal.loop-item-preserved
loop-item-preserved c =
    let top = c.args.top in
    let items = c.as_slice-item-items.result.now in
    let i = c.loop-item.item-index in
    let js = c.item-item.result in
    let t = c.in-Ok.listed in
    let names = c.loop-item.names in
    let types = c.loop-item.types in
    let split : drop i items ≡ js ∷ drop (i + 1) items = first_of (search rules, grind (arith, common_steps)) in
    let name : c.in_ok-clone-in-Ok.field-0 ≡ t.0 = c.in_ok-clone-in-Ok.ensures.cases ∙ ap (λ (p : Text × Known Op). p.0) c.listed.view_is in
    let named : c.push.new.self ≡ names ++ t.0 ∷ [] = c.in_ok-push-in-Ok.ensures.ok ∙ ap (λ (n : Text). names ++ n ∷ []) name in
    let more : c.push-in-Ok.new.self ≡ types ++ t ∷ [] = c.in_ok-push-in-Ok-2.ensures.ok in
    let before : onto types (types_after top names (js ∷ drop (i + 1) items)) ≡ types_after top [] items =
    ap (λ (left : List Js). onto types (types_after top names left)) (sym split) ∙ c.loop-item.invariant.whole in
    let left : are_sound (js ∷ drop (i + 1) items) ≡ true = ap are_sound (sym split) ∙ c.loop-item.invariant.sound in
    record {
      whole = ap (λ (ts : Keyed (Known Op)). onto ts (types_after top c.push.new.self (drop (i + 1) items))) more
          ∙ ap (λ (ns : List Text). onto (types ++ t ∷ []) (types_after top ns (drop (i + 1) items))) named
          ∙ one_type top names types t js (drop (i + 1) items) (types_after top [] items) c.in-Ok.ensures before;
      sound = (and_parts _ _ left).1;
      names = named ∙ ap (λ (ns : List Text). ns ++ t.0 ∷ []) c.loop-item.invariant.names ∙ sym (names-push types t) ∙ sym (ap type_names more);
    }

pub returns-clause-apart : goal.returns-clause-apart
returns-clause-apart c = names-apart c.args.top c.args.items.now c.loop-item.types (first_of (search rules, grind (arith, common_steps)))
