-- The product's names of indices and aliases are apart.
use Rattle.std.proofs.Common.{◌≡◌, ◌≢◌, ◌⊎◌, Bool, true, false, List, refl, sym, ◌∙◌, subst}
use mathlib.Core.Logic.◌⊎◌.{inl, inr}
use Rattle.base_model.specs.Keyed.{Text}
use Rattle.version_token.specs.declared.Ver.{Ver}
use Rattle.document_model.specs.Documents.{ver_lt}
use Rattle.raw_id.specs.IndexNames.{current_alias, version_alias}
use Rattle.raw_id.proofs.IndexLaws.{target_temp, alias_target, alias_temp, one_alias, one_target, one_temp, version_in-target}
use Rattle.call_model.specs.Words.{Words}
use Rattle.call_model.specs.Upgrades.{Named, TargetSet}
use Rattle.call_effects.proofs.Versions.{lt_level}
use Rattle.call_effects.proofs.Fitting.{ver_self}
use Rattle.upgrade_laws.specs.Premises.{product_names, HasProductNames, NamesApart}

same_or_apart : (v w : Ver) → (v ≡ w) ⊎ (v ≢ w)
same_or_apart v w = by (ver_lt v w) (ver_lt w v) refl refl
  where
    below : (a b : Ver) → ver_lt a b ≡ true → a ≢ b
    below a b e s = let x : ver_lt b b ≡ true = subst (λ z. ver_lt z b ≡ true) s e in let y : true ≡ false = sym x ∙ ver_self b in cc

    by : (a b : Bool) → ver_lt v w ≡ a → ver_lt w v ≡ b → (v ≡ w) ⊎ (v ≢ w)
    by true b e f = inr (below v w e)
    by false true e f = inr (λ s. below w v f (sym s))
    by false false e f = inl (lt_level v w e f)

module _ {A O F : Type 0} (w : Words A O F) (names : Named) (sets : List (TargetSet O)) (has : HasProductNames w names sets) where
  abbrev version : TargetSet O → Ver
  version s = s.registry.version

  abbrev alias : TargetSet O → Text
  alias s = w.version_alias (version s)

  alias_is : (s : TargetSet O) → alias s ≡ version_alias (version s)
  alias_is s = has.alias (version s)

  apart_here : NamesApart w product_names sets
  apart_here = record {
    current_alias = λ s h e. let x : current_alias ≡ version_alias (version s) = e ∙ alias_is s in cc;
    current_target = λ s h e. cc;
    current_temp = λ s h e. cc;
    alias_target = λ s t h k e. alias_target (version s) (version t) (has.bounded s h) (has.bounded t k) (sym (alias_is s) ∙ e);
    alias_temp = λ s t h k e. alias_temp (version s) (version t) (has.bounded s h) (has.bounded t k) (sym (alias_is s) ∙ e);
    target_temp = λ s t h k e. target_temp (version s) (version t) (has.bounded s h) (has.bounded t k) e;
    one_each = λ s t h k. elim (same_or_apart (version s) (version t)) [
      | inl e ↦ inl (has.one_each s t h k e)
      | inr n ↦ inr (
        λ e. n (one_alias (version s) (version t) (has.bounded s h) (has.bounded t k) (sym (alias_is s) ∙ e ∙ alias_is t)),
        λ e. n (one_target (version s) (version t) (has.bounded s h) (has.bounded t k) e),
        λ e. n (one_temp (version s) (version t) (has.bounded s h) (has.bounded t k) e),
      )
    ];
    version_named = λ s h. version_in-target (version s) (has.bounded s h);
  }

  pub names_apart : NamesApart w names sets
  names_apart = subst (λ n. NamesApart w n sets) (sym has.product) apart_here
