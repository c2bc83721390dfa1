use Rattle.std.proofs.Common.{List, ℕ, ◌++◌, ap, ◌∙◌}
use Rattle.call_words.specs.declared.answers.Answer.{Answer}
use Rattle.report.specs.Answers.{answer_line_js}
use Rattle.report.specs.Lines.{line_of}
use Rattle.report.specs.declared.answers.AnswerAt.TheVariants.{Input}
use Rattle.kibana_main.specs.Running.{generation_of}
use Rattle.kibana_main.proofs.running.make_call.Goals as goal

pub returns-in_ok-extend_from_slice-in-Ok-clause-line : goal.returns-in_ok-extend_from_slice-in-Ok-clause-line
returns-in_ok-extend_from_slice-in-Ok-clause-line c t holds made =
    c.in_ok-extend_from_slice-in-Ok.ensures.ok
    ∙ ap (λ (line : List ℕ). c.args.lines.now ++ line) (c.as_slice.ensures ∙ c.in_ok-line-in-Ok.ensures ∙ ap (λ (answer : Answer). line_of (answer_line_js (Input c.args.ask.now.at) answer)) (c.in-Ok.ensures.answer (generation_of c.args.reg.now t) holds))
