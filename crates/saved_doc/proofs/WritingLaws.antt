-- Members that are written one after another.
use Rattle.std.proofs.Common.{◌≡◌, ◌++◌, ◌∷◌, List, Option, ap, ◌∙◌, append_assoc}
use Rattle.base_model.specs.Keyed.{Text}
use Rattle.so_js.specs.declared.js.Js.{Js}
use Rattle.so_js.specs.declared.js.Member.{Member}
use Rattle.saved_doc.specs.Writing.{if_some, written}

-- one member more, and the rest of the table behind it
pub written_on : (before after : List (Member Js)) (key : Text) (given value : Option Js) (table : List (Text × Option Js))
    → after ≡ before ++ if_some key given → given ≡ value → after ++ written table ≡ before ++ written ((key, value) ∷ table)
written_on before after key given value table is same =
    ap (λ (all : List (Member Js)). all ++ written table) (is ∙ ap (λ (v : Option Js). before ++ if_some key v) same)
    ∙ append_assoc before (if_some key value) (written table)
