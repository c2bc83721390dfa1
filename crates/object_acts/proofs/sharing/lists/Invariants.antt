use Rattle.std.proofs.Common.{◌≡◌, drop}
use Rattle.document_model.specs.Documents.{lists}
use Rattle.object_acts.proofs.sharing.lists.Given as goal

-- what is left decides
abbrev pub invariant-loop-other : goal.invariant-loop-other
invariant-loop-other l = lists l.text (drop l.other-index l.other-items) ≡ lists l.text l.other-items
