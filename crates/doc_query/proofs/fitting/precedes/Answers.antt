use Rattle.std.proofs.Common.{arith, ◌∙◌}
use Rattle.std.proofs.lemmas.Bool.Decides.{nat_tests}
use Rattle.document_model.specs.Documents.{ver_lt}
use Rattle.doc_query.proofs.fitting.precedes.Goals as goal

pub returns : goal.returns
unfolding ver_lt
returns c = c.lt.ensures ∙ grind (arith, nat_tests)
