-- Items that answer by the results of their writes.
use Rattle.std.specs.Prelude.{List, [], ◌∷◌}
use Rattle.so_js.specs.declared.js.Js.{Js}
use Rattle.call_model.specs.Plans.{Ready}
use Rattle.call_model.specs.Plans.Ready.{Settled, Sends}

-- the results behind that of an item's write
abbrev pub results_behind : {I : Type 0} → Ready Js → List I → List I
results_behind (Settled refusal) results = results
results_behind (Sends raw act deed) [] = []
results_behind (Sends raw act deed) (result ∷ results) = results
