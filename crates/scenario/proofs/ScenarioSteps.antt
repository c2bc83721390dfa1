-- The end of the lines of known bytes.
use Rattle.std.proofs.Common.{◌≡◌, ℕ, ◌+◌, List, [], ◌∷◌, ◌++◌, Option, Some, None, Ok, sym, ap, ◌∙◌}
use Rattle.std.specs.Io.KnownBytes.{prepend_known, IsAtEnd}
use Rattle.wire_io.specs.declared.lines.Line.TheVariants.{Text, End}
use Rattle.wire_io.specs.Answers.{AnswersNext}
use Rattle.scenario.specs.declared.scenario.Scenario.{Scenario}
use Rattle.wire_io.specs.Lines.{stream_from}
use Rattle.scenario.specs.Scenario.{Continues, ReadsScenario, scenario_from, placed, with_line}

none_behind : (ahead rest : List ℕ) → ahead ++ rest ≡ [] → rest ≡ []
none_behind [] rest h = h
none_behind (b ∷ ahead) rest h = cc

nothing_left : (ahead : List ℕ) (left : Option (List ℕ)) → IsAtEnd (prepend_known ahead left) → IsAtEnd left
nothing_left ahead None h = tt
nothing_left ahead (Some rest) h = none_behind ahead rest h

pub scenario_ends : (old now left : Option (List ℕ)) (ahead : List ℕ) (taken after n : ℕ) (s : Scenario) → Continues old taken now n s → AnswersNext taken now after (prepend_known ahead left) (Ok End) → ReadsScenario old left (Ok s)
scenario_ends None now left ahead taken after n s c h = tt
scenario_ends (Some input) None left ahead taken after n s c h = absurd c
scenario_ends (Some input) (Some rest) left ahead taken after n s c h = (sym c ∙ ap (λ stream. scenario_from stream n (Ok s)) h.0, nothing_left ahead left h.1)

-- one line more of known bytes
pub scenario_goes_on : (old now new : Option (List ℕ)) (taken after n : ℕ) (s more : Scenario) (text : List ℕ) → Continues old taken now n s → AnswersNext taken now after new (Ok (Text text)) → placed (n + 1) (with_line s (n + 1) text) ≡ Ok more
    → Continues old after new (n + 1) more
scenario_goes_on None now new taken after n s more text c h e = tt
scenario_goes_on (Some input) None new taken after n s more text c h e = absurd c
scenario_goes_on (Some input) (Some rest) None taken after n s more text c h e = absurd h
scenario_goes_on (Some input) (Some rest) (Some left) taken after n s more text c h e =
    ap (scenario_from (stream_from after [] left) (n + 1)) (sym e) ∙ sym (ap (λ stream. scenario_from stream n (Ok s)) h) ∙ c
