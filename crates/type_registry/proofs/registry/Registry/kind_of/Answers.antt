use Rattle.std.proofs.Common.{◌≡◌, true, refl, sym, ap, ◌∙◌}
use Rattle.std.proofs.lemmas.Slice.Eq.{bytes_eq-Decides}
use Rattle.document_model.specs.Names.{is_type_name, is_document_member}
use Rattle.document_model.specs.Registries.{alias_type}
use Rattle.type_registry.proofs.registry.Registry.kind_of.Goals as goal

alias_name : is_type_name alias_type ≡ true
unfolding is_type_name is_document_member
alias_name = refl

pub returns-then-eq-clause-named : goal.returns-then-eq-clause-named
returns-then-eq-clause-named c = ap is_type_name ((bytes_eq-Decides c.args.name.now alias_type).0 (sym c.if-eq.ensures)) ∙ alias_name
