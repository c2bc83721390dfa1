use Rattle.std.proofs.Common.{◌≡◌, List, sym, subst, ap, ◌∙◌, arith}
use Rattle.race_model.specs.Stores.{renumbered}
use Rattle.version_token.specs.declared.Ver.{Ver}
use Rattle.version_token.specs.Version.{IsVer}
use Rattle.raw_id.specs.IndexNames.{current_alias, version_alias, target}
use Rattle.doc_table.specs.RowLists.{Each}
use Rattle.index_store.specs.declared.opened.Opened.{Opened}
use Rattle.alias_table.specs.declared.pair.Pair.{Pair}
use Rattle.store_core.specs.Engines.{IsAliasOf}
use Rattle.store_core.specs.Journals.{Journaled}
use Rattle.own_link.specs.Calling.{Holds}
use Rattle.own_link.specs.Links.{Linked}
use Rattle.kibana_main.specs.Running.{generation_of}
use Rattle.kibana_main.proofs.Openings.{index_of, are_aliases, opened_is, opening_holds}
use Rattle.kibana_main.proofs.opening.open.Goals as goal

pub open-requires-clause-aliases : goal.open-requires-clause-aliases
open-requires-clause-aliases c =
    let v = c.version-version.result in
    let apart = c.index_names_are_apart.ensures in
    let fits : IsVer v = (omega arith, omega arith, omega arith) in
    let all = are_aliases (target v) current_alias (version_alias v) (renumbered c.args.table.now) (apart.current v).1 (apart.alias_target v v fits fits) in
    subst (λ (os : List Opened). Each (IsAliasOf os) c.in_ok-aliases.aliases) (sym c.in_ok-indices.ensures) (subst (λ (ps : List Pair). Each (IsAliasOf (index_of v c.args.table.now)) ps) (sym c.in_ok-aliases.ensures) all)

pub returns-clause-exact : goal.returns-clause-exact
returns-clause-exact c =
    ap (λ (l : Linked). l.core) c.new.ensures
    ∙ opened_is c.args.reg.now c.args.table.now c.version-version.result c.in_ok-indices.indices c.in_ok-aliases.aliases c.in_ok-core.core c.version-version.ensures c.in_ok-indices.ensures c.in_ok-aliases.ensures c.in_ok-core.ensures

pub returns-clause-holds : goal.returns-clause-holds
returns-clause-holds c =
    let reg = c.args.reg.now in
    let v = c.version-version.result in
    let fits : IsVer v = (omega arith, omega arith, omega arith) in
    let apart = subst (λ (w : Ver). version_alias w ≡ target w → ⊥) c.version-version.ensures (c.index_names_are_apart.ensures.alias_target v v fits fits) in
    subst (λ (j : Journaled). Holds reg j.store (generation_of reg (renumbered c.args.table.now))) (sym (returns-clause-exact c)) (opening_holds reg c.args.table.now apart)
