-- What a store that begins has under each name.
use Rattle.std.proofs.Common.{◌≡◌, ◌≢◌, [], ◌∷◌, List, refl, ◌∙◌}
use Rattle.base_model.specs.Keyed.{Text, Keyed, at, put}
use Rattle.document_model.specs.Documents.{Doc}
use Rattle.so_js.specs.declared.js.Js.{Js}
use Rattle.race_model.specs.Stores.{Index}
use Rattle.race_tables.proofs.Keys.{at_put_same, at_put_other}
use Rattle.doc_table.specs.RowLists.{Each}
use Rattle.index_store.specs.declared.opened.Opened.{Opened}
use Rattle.index_store.specs.Indices.{open_index, opened_after, AreApart, HasEach}

-- another name has what it had
at_after : (k : Text) (ixs : Keyed (Index (Doc Js))) (os : List Opened) → Each (λ o. k ≢ o.name) os → at k (opened_after ixs os) ≡ at k ixs
unfolding opened_after
at_after k ixs [] a = refl
at_after k ixs (o ∷ os) a = at_after k (put o.name (open_index o.table) ixs) os a.1 ∙ at_put_other k o.name (open_index o.table) ixs a.0

pub has_each : (ixs : Keyed (Index (Doc Js))) (os : List Opened) → AreApart os → HasEach (opened_after ixs os) os
unfolding opened_after
has_each ixs [] a = tt
has_each ixs (o ∷ os) a =
    let ixs2 = put o.name (open_index o.table) ixs in
    (at_after o.name ixs2 os a.0 ∙ at_put_same o.name (open_index o.table) ixs, has_each ixs2 os a.1)
