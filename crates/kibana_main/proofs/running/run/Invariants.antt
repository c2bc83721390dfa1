use Rattle.std.proofs.Common.{drop}
use Rattle.race_model.specs.Stores.{Table}
use Rattle.document_model.specs.Documents.{Doc}
use Rattle.so_js.specs.declared.js.Js.{Js}
use Rattle.call_words.specs.Limits.{HasFewObjects}
use Rattle.doc_table.specs.RowLists.{Each}
use Rattle.kibana_main.proofs.Runs.{GoesOn}
use Rattle.kibana_main.proofs.running.run.Given as goal

-- the calls that are left have few objects, and the run goes on with them
abbrev pub invariant-loop-ask : goal.invariant-loop-ask
invariant-loop-ask l = record {
  few : Each (λ a. HasFewObjects a.call) (drop l.ask-index l.ask-items);
  going : (now : Table (Doc Js)) × GoesOn l.reg l.table l.ask-items l.ask-index l.link.core l.lines now;
}
