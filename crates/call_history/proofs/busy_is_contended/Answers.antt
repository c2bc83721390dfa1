use Rattle.call_model.specs.Acts.{raw_of, target_of}
use Rattle.call_history.proofs.Contended.{untouched_row, change_not, items_not}
use Rattle.call_history.proofs.busy_is_contended.Goals as goal

pub returns-clause-change : goal.returns-clause-change
returns-clause-change g c = λ w settings reg space act moves gs later seen now a b path e f untouched. change_not w reg space seen now act (untouched_row (raw_of reg space (target_of act)) settings moves gs later (w.version_alias reg.version) seen now path untouched e f) a b

pub returns-clause-item : goal.returns-clause-item
returns-clause-item g c = λ w settings reg space raw objects overwrite time answers moves gs later seen now path e f untouched is.
    items_not w reg space seen now raw objects overwrite time answers (untouched_row raw settings moves gs later (w.version_alias reg.version) seen now path untouched e f) is
