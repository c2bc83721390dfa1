-- Migrated documents are up to date.
use Rattle.std.proofs.Common.{◌≡◌, Bool, true, false, Option, Some, None, List, [], ◌∷◌, refl, sym, ap, subst, if◌then◌else◌}
use mathlib.Core.Logic.◌⊎◌.{inl, inr}
use Rattle.base_model.specs.Keyed.{Text, same}
use Rattle.race_model.specs.Machines.{outputs_of}
use Rattle.base_model.specs.Outcomes.Outcome.{Removed, TooNew, Corrupt, Outputs}
use Rattle.race_model.specs.Journals.{Has}
use Rattle.version_token.specs.declared.Ver.{Ver}
use Rattle.document_model.specs.Documents.{Doc, lists}
use Rattle.document_model.specs.Registries.{Known, Registry, alias_type, known, greatest, latest, too_new, fits}
use Rattle.document_model.specs.Migrations.{Transforms, Step, Moved, only_ops, with_share, above, shared_over, step_over, all_steps, with_references, moved_refs, stamped, outputs, outcome_known, outcome}
use Rattle.document_model.specs.Migrations.Step.{Share, Ops}
use Rattle.call_model.specs.Upgrades.{is_fresh}
use Rattle.call_laws.proofs.Keeping.{up_to_date_self}

module _ {A O : Type 0} (w : Transforms A O) (reg : Registry O) where
  -- the document keeps its type, and all others are alias documents
  record Kept (name : Text) (m : Moved A) : Type 0 where
    type_name : m.doc.type_name ≡ name
    others : (out : Text × Doc A) → Has out m.others → out.1.type_name ≡ alias_type

  kept_shared : (name : Text) (space : Option Text) (m : Moved A) → Kept name m → Kept name (shared_over w reg.version space m)
  unfolding Has
  kept_shared name None m k = record { type_name = k.type_name; others = k.others }
  kept_shared name (Some s) m k = record {
    type_name = k.type_name;
    others = λ out h. elim h [ inl e ↦ ap (λ x. x.1.type_name) e | inr g ↦ k.others out g ];
  }

  kept_step : (name : Text) (step : Step O) (m : Moved A) → Kept name m → Kept name (step_over w reg.version step m)
  kept_step name Share m k = kept_shared name m.doc.namespace m k
  kept_step name (Ops ops) m k = record { type_name = k.type_name; others = k.others }

  kept_all : (name : Text) (steps : List (Ver × Step O)) (m : Moved A) → Kept name m → Kept name (all_steps w reg.version steps m)
  kept_all name [] m k = k
  kept_all name (s ∷ steps) m k = kept_all name steps (step_over w reg.version s.1 m) (kept_step name s.1 m k)

  alias_fresh : (doc : Doc A) → doc.type_name ≡ alias_type → is_fresh reg doc ≡ true
  unfolding is_fresh known greatest same
  alias_fresh doc e = rw e refl

  stamped_fresh : (t : Known O) (name : Text) (doc : Doc A) → doc.type_name ≡ name → known reg name ≡ Some t → is_fresh reg (stamped doc (latest t) reg.version) ≡ true
  unfolding is_fresh
  stamped_fresh t name doc e k = rw (e, k) (up_to_date_self (latest t))

  outputs_fresh : (t : Known O) (raw : Text) (doc : Doc A) (out : Text × Doc A) → known reg doc.type_name ≡ Some t → Has out (outputs w reg t raw doc) → is_fresh reg out.1 ≡ true
  unfolding Has
  outputs_fresh t raw doc out k h =
      let start : Moved A = record { raw = raw; doc = with_references doc (moved_refs w reg doc.namespace doc.core doc.references); others = [] } in
      let steps : List (Ver × Step O) = above doc.stamp (with_share t.shareable_at (only_ops t.steps)) in
      let kept : Kept doc.type_name (all_steps w reg.version steps start) = kept_all doc.type_name steps start (record { type_name = refl; others = λ o g. absurd g }) in
      elim h [
        | inl e ↦ subst (λ x. is_fresh reg x.1 ≡ true) (sym e) (stamped_fresh t doc.type_name (all_steps w reg.version steps start).doc kept.type_name k)
        | inr g ↦ alias_fresh out.1 (kept.others out g)
      ]

  pub outcome_fresh : (raw : Text) (doc : Doc A) (out : Text × Doc A) → Has out (outputs_of (outcome w reg raw doc)) → is_fresh reg out.1 ≡ true
  unfolding outcome Has
  outcome_fresh raw doc out h = by (lists doc.type_name reg.removed) (known reg doc.type_name) refl h
    where
      inner : (t : Known O) → known reg doc.type_name ≡ Some t → (n f : Bool) → Has out (outputs_of (if n then TooNew else if f then Outputs (outputs w reg t raw doc) else Corrupt)) → is_fresh reg out.1 ≡ true
      inner t e true f h = absurd h
      inner t e false true h = outputs_fresh t raw doc out e h
      inner t e false false h = absurd h

      by : (b : Bool) (o : Option (Known O)) → known reg doc.type_name ≡ o → Has out (outputs_of (if b then Removed else outcome_known w reg o raw doc)) → is_fresh reg out.1 ≡ true
      by true o e h = absurd h
      by false None e h = absurd h
      by false (Some t) e h = inner t e (too_new doc.stamp (latest t)) (fits t raw doc) h
