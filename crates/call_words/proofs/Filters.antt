-- A text that has no tree is no filter.
use Rattle.std.proofs.Common.{◌≡◌, ◌↔◌, ℕ, List, Option, Some, None, refl, option_map}
use Rattle.kql_filter.specs.Filters.{HasTree}
use Rattle.kql_filter.specs.Grammar.{IsFilter}
use Rattle.kql_filter.specs.Parsing.{tree_in}
use Rattle.kql_filter.specs.Tree.{Tree}
use Rattle.call_words.specs.Product.{filter_in}

none_over : (text : List ℕ) (found : Option Tree) → tree_in text ≡ found → (HasTree text → ⊥) → ((x : Tree) → (tree_in text ≡ Some x) ↔ IsFilter text x) → option_map (λ (tree : Tree). text) found ≡ None
none_over text None e treeless law = refl
none_over text (Some x) e treeless law = elim (treeless (x, (law x).0 e)) [ ]

pub none_without_tree : (text : List ℕ) → (HasTree text → ⊥) → ((x : Tree) → (tree_in text ≡ Some x) ↔ IsFilter text x) → filter_in text ≡ None
none_without_tree text treeless law = none_over text (tree_in text) refl treeless law
