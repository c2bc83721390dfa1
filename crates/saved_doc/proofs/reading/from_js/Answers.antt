use Rattle.std.proofs.Common.{rules, arith}
use Rattle.std.proofs.lemmas.Grind.{common_steps}
use Rattle.saved_doc.proofs.StoredLaws.{doc_in-stored}
use Rattle.saved_doc.proofs.reading.from_js.Goals as goal

pub returns-in_ok-attributes-in-Some-clause-stored : goal.returns-in_ok-attributes-in-Some-clause-stored
returns-in_ok-attributes-in-Some-clause-stored c = doc_in-stored c.args.js.now c.with.result (first_of (search rules, grind (arith, common_steps)))
