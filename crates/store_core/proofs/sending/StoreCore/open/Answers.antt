use Rattle.std.proofs.Common.{List, sym, subst}
use Rattle.store_words.specs.declared.entry.Entry.{Entry}
use Rattle.store_core.specs.Journals.{IsJournaled}
use Rattle.store_core.proofs.Beginning.{opened_journaled, opened_begun, parts}
use Rattle.store_core.proofs.sending.StoreCore.open.Goals as goal

pub invariant_of-result : goal.invariant_of-result
invariant_of-result c =
    subst (λ (j : List Entry). IsJournaled (parts c.in-Ok-open.opening c.args.limit j c.in-Ok-open-2.engine)) (sym c.new.ensures)
    (opened_journaled c.args.indices c.in-Ok.kept c.args.aliases c.in-Ok-pairs_copy.pairs c.in-Ok-open.opening c.in-Ok-open-2.engine c.args.limit
    c.in-Ok.ensures.same c.in-Ok-pairs_copy.ensures c.in-Ok-open.ensures c.in-Ok-open-2.ensures c.in-Ok.ensures.tables c.requires.numbers c.requires.most)

pub returns-in-Ok-open-2 : goal.returns-in-Ok-open-2
returns-in-Ok-open-2 c =
    opened_begun c.args.indices c.in-Ok.kept c.args.aliases c.in-Ok-pairs_copy.pairs c.in-Ok-open.opening c.in-Ok-open-2.engine c.args.limit c.new.result
    c.in-Ok.ensures.same c.in-Ok-pairs_copy.ensures c.in-Ok-open.ensures c.in-Ok-open-2.ensures c.new.ensures
