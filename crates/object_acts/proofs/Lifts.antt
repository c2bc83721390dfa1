-- The operations above a stamp, version by version and all at once.
use Rattle.std.proofs.Common.{◌≡◌, List, [], ◌∷◌, ◌++◌, Option, Some, None, false, refl, sym, ap, ◌∙◌, inl, inr}
use Rattle.std.proofs.lemmas.Bool.{cases_Bool}
use Rattle.document_model.specs.Documents.{below}
use Rattle.document_model.specs.Migrations.{all_ops, ops_above}
use Rattle.document_model.specs.Registries.{Known, too_new}
use Rattle.so_js.specs.declared.js.Js.{Js}
use Rattle.transform_ops.specs.declared.op.Op.{Op}
use Rattle.version_token.specs.declared.Ver.{Ver}
use Rattle.doc_transform.specs.Transforming.{effects, attributes_of, lifted as lifted_at_once}
use Rattle.doc_transform.specs.declared.outcome.Lifted.{Lifted}
use Rattle.doc_transform.specs.declared.outcome.Lifted.TheVariants.{Attributes}
use Rattle.call_model.specs.Acts.{latest_of, lifted_above, lifted}
use Rattle.call_model.specs.Calls.Given.{All, Above}
use Rattle.call_words.specs.Product.{product_words}
use Rattle.object_acts.specs.Lifting.{lifted_from}

ops_append : (more ops : List Op) (js : Js) → all_ops effects (ops ++ more) js ≡ all_ops effects more (all_ops effects ops js)
ops_append more [] js = refl
ops_append more (op ∷ ops) js = ops_append more ops (effects.apply op js)

ops_are : (stamp : Option Ver) (steps : List (Ver × List Op)) (js : Js) → all_ops effects (ops_above stamp steps) js ≡ lifted_above product_words stamp steps js
ops_are stamp [] js = refl
ops_are stamp (s ∷ steps) js = elim (cases_Bool (below stamp s.0)) [
  | inl holds ↦ rw holds (ops_append (ops_above stamp steps) s.1 js ∙ ops_are stamp steps (all_ops effects s.1 js))
  | inr other ↦ rw other (ops_are stamp steps js)
]

-- where the stamp isn't too new
pub lift_is : (found : Option (Known Op)) (stamp : Option Ver) (js : Js) → too_new stamp (latest_of found) ≡ false → lifted_at_once found stamp js ≡ Some (lifted_from stamp found js)
lift_is None stamp js h = rw h refl
lift_is (Some t) stamp js h = rw h (ap Some (ops_are stamp t.steps js))

pub lifted_all : (found : Option (Known Op)) (js : Js) → lifted_from None found js ≡ lifted product_words found All js
lifted_all None js = refl
lifted_all (Some t) js = refl

pub lifted_some : (found : Option (Known Op)) (v : Ver) (js : Js) → lifted_from (Some v) found js ≡ lifted product_words found (Above v) js
lifted_some None v js = refl
lifted_some (Some t) v js = refl

-- what lifting gave
pub lift_gives : (found : Option (Known Op)) (stamp : Option Ver) (js : Js) (l : Lifted) (new : Js) → attributes_of l ≡ lifted_at_once found stamp js → l ≡ Attributes new → too_new stamp (latest_of found) ≡ false
    → new ≡ lifted_from stamp found js
lift_gives found stamp js l new gives is old =
    let whole : Some new ≡ Some (lifted_from stamp found js) = sym (ap attributes_of is) ∙ gives ∙ lift_is found stamp js old in
    cc whole
