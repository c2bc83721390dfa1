use Rattle.std.proofs.Common.{List, [], ◌∷◌, refl, sym, subst, codes}
use Rattle.base_model.specs.Keyed.{same}
use Rattle.race_model.specs.Stores.{Table}
use Rattle.document_model.specs.Documents.{Doc}
use Rattle.so_js.specs.declared.js.Js.{Js}
use Rattle.doc_table.specs.RowLists.{Each}
use Rattle.alias_table.specs.declared.pair.Pair.{Pair}
use Rattle.index_store.specs.declared.opened.Opened.{Opened}
use Rattle.store_core.specs.Engines.{IsAliasOf, is_named}
use Rattle.call_examples.proofs.stores.store.Goals as goal

abbrev one_index : Table (Doc Js) → List Opened
one_index t = record { name = codes ".kibana_7.12.0_001"; table = t } ∷ []

abbrev two_aliases : List Pair
two_aliases = record { alias = codes ".kibana"; index = codes ".kibana_7.12.0_001" } ∷ record { alias = codes ".kibana_7.12.0"; index = codes ".kibana_7.12.0_001" } ∷ []

are_aliases : (t : Table (Doc Js)) → Each (IsAliasOf (one_index t)) two_aliases
unfolding is_named same
are_aliases t = (record { apart = refl; named = refl }, (record { apart = refl; named = refl }, tt))

pub open-requires-clause-aliases : goal.open-requires-clause-aliases
open-requires-clause-aliases c =
    subst (λ (os : List Opened). Each (IsAliasOf os) c.in_ok-aliases.aliases) (sym c.in_ok-indices.ensures)
    (subst (λ (ps : List Pair). Each (IsAliasOf (one_index c.in_ok-table.table)) ps) (sym c.in_ok-aliases.ensures) (are_aliases c.in_ok-table.table))
