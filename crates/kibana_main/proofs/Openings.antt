-- The store that an input opens.
use Rattle.std.proofs.Common.{◌≡◌, ◌≢◌, List, [], ◌∷◌, None, refl, ap, ◌∙◌}
use Rattle.base_model.specs.Keyed.{Text, at, put}
use Rattle.race_model.specs.Stores.{Table, renumbered}
use Rattle.race_tables.proofs.Keys.{same_refl, same_false, at_put_same, at_put_other}
use Rattle.document_model.specs.Documents.{Doc}
use Rattle.document_model.specs.Registries.{Registry}
use Rattle.so_js.specs.declared.js.Js.{Js}
use Rattle.transform_ops.specs.declared.op.Op.{Op}
use Rattle.raw_id.specs.IndexNames.{current_alias, version_alias, target}
use Rattle.doc_table.specs.RowLists.{Each}
use Rattle.index_store.specs.Indices.{open_index, opened_after}
use Rattle.index_store.specs.declared.opened.Opened.{Opened}
use Rattle.alias_table.specs.declared.pair.Pair.{Pair}
use Rattle.store_core.specs.Engines.{IsAliasOf, is_named, paired_after, opened_with}
use Rattle.store_core.specs.Journals.{Journaled, begun}
use Rattle.own_link.specs.Calling.{Holds}
use Rattle.version_token.specs.declared.Ver.{Ver}
use Rattle.kibana_main.specs.Running.{opening_store, journal_limit, generation_of}

-- names other than the one index's may be its aliases
pub are_aliases : (name current of_version : Text) (t : Table (Doc Js)) → current ≢ name → of_version ≢ name
    → Each (IsAliasOf (record { name = name; table = t } ∷ [])) (record { alias = current; index = name } ∷ record { alias = of_version; index = name } ∷ [])
unfolding is_named
are_aliases name current of_version t c v = (
  record { apart = rw (same_false current name c) refl; named = rw (same_refl name) refl },
  (record { apart = rw (same_false of_version name v) refl; named = rw (same_refl name) refl }, tt),
)

-- the opening has the generation of the registry's version
pub opening_holds : (reg : Registry Op) (t : Table (Doc Js)) → version_alias reg.version ≢ target reg.version → Holds reg (opening_store reg t) (generation_of reg (renumbered t))
unfolding opened_after paired_after at
opening_holds reg t apart = record {
  shows = record {
    no_index = at_put_other (version_alias reg.version) (target reg.version) (open_index (renumbered t)) [] apart;
    alias = at_put_same (version_alias reg.version) (target reg.version) (put current_alias (target reg.version) []);
    source = None;
    index = at_put_same (target reg.version) (open_index (renumbered t)) [];
  };
  alias = refl;
}

-- the one index, and its two aliases
abbrev pub index_of : Ver → Table (Doc Js) → List Opened
index_of v t = record { name = target v; table = renumbered t } ∷ []

abbrev pub aliases_of : Ver → List Pair
aliases_of v = record { alias = current_alias; index = target v } ∷ record { alias = version_alias v; index = target v } ∷ []

-- what was opened is the opening of the registry's version
pub opened_is : (reg : Registry Op) (t : Table (Doc Js)) (v : Ver) (indices : List Opened) (aliases : List Pair) (core : Journaled) → v ≡ reg.version → indices ≡ index_of v t → aliases ≡ aliases_of v → core ≡ begun (opened_with indices aliases) journal_limit
    → core ≡ begun (opening_store reg t) journal_limit
opened_is reg t v indices aliases core is one two opened =
    opened ∙ ap (λ (os : List Opened). begun (opened_with os aliases) journal_limit) one ∙ ap (λ (ps : List Pair). begun (opened_with (index_of v t) ps) journal_limit) two ∙ ap (λ (w : Ver). begun (opened_with (index_of w t) (aliases_of w)) journal_limit) is
