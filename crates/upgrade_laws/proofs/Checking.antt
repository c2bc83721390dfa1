-- The check for unknown objects finds exactly the rows whose documents no registry knows.
use Rattle.std.proofs.Common.{◌≡◌, Bool, true, false, not, ◌||◌, Option, Some, None, is_some, List, [], ◌∷◌, ◌++◌, map, refl, sym, ◌∙◌, ap, if◌then◌else◌}
use Rattle.base_model.specs.Keyed.{Text, Keyed, same, at}
use Rattle.base_model.specs.Outcomes.{Outcome}
use Rattle.base_model.specs.Outcomes.Outcome.{Removed, TooNew, Corrupt, Outputs}
use Rattle.race_model.specs.Stores.{Cell, Rows}
use Rattle.race_model.specs.Machines.{raws_where, is_unknown}
use Rattle.race_model.specs.Migrated.{IsGoodOutcome}
use Rattle.race_model.specs.Sorted.{Each}
use Rattle.race_claims.specs.Unhindered.{FindsUnknown}
use Rattle.space_scope.specs.declared.kind.Kind.TheVariants.{Agnostic}
use Rattle.document_model.specs.Documents.{Doc, lists}
use Rattle.document_model.specs.Registries.{Known, Registry, alias_type, known, latest, too_new, fits, type_names}
use Rattle.document_model.specs.Migrations.{Transforms, outputs, outcome_known, outcome}
use Rattle.query_model.specs.Queries.{Holds, selects, chosen, select}
use Rattle.call_model.specs.Words.{Words}
use Rattle.call_model.specs.Upgrades.{Named, TargetSet, plain_query, settings_of}

lists_append : (a : Text) (xs ys : List Text) → lists a (xs ++ ys) ≡ (lists a xs || lists a ys)
unfolding lists
lists_append a [] ys = refl
lists_append a (x ∷ xs) ys = by (same a x) (lists_append a xs ys)
  where
    by : (b : Bool) → lists a (xs ++ ys) ≡ (lists a xs || lists a ys) → (if b then true else lists a (xs ++ ys)) ≡ ((if b then true else lists a xs) || lists a ys)
    by true e = refl
    by false e = e

names_known : {O : Type 0} (a : Text) (types : Keyed (Known O)) → lists a (type_names types) ≡ is_some (at a types)
unfolding lists at
names_known a [] = refl
names_known a (t ∷ types) = by (same a t.0) (names_known a types)
  where
    by : (b : Bool) → lists a (type_names types) ≡ is_some (at a types) → (if b then true else lists a (type_names types)) ≡ is_some (if b then Some t.1 else at a types)
    by true e = refl
    by false e = e

-- the row is taken where the tests agree
taken : {D : Type 0} (b c : Bool) (r : Text × Cell D) (xs : Rows D) (raws : List Text) → b ≡ c → map (λ x. x.0) xs ≡ raws → map (λ x. x.0) (if b then r ∷ xs else xs) ≡ (if c then r.0 ∷ raws else raws)
taken true true r xs raws e h = ap (λ x. r.0 ∷ x) h
taken false false r xs raws e h = h
taken true false r xs raws e h = absurd (cc)
taken false true r xs raws e h = absurd (cc)

none_mapped : {D : Type 0} (xs : Rows D) → map (λ x. x.0) xs ≡ [] → xs ≡ []
none_mapped [] e = refl
none_mapped (x ∷ xs) e = absurd (cc)

good_known : {D : Type 0} (o : Outcome D) → IsGoodOutcome o → is_unknown o ≡ false
good_known Removed g = refl
good_known (Outputs os) g = refl
good_known _ g = absurd g

none_where : {D : Type 0} (f : Text → D → Outcome D) (rows : Rows D) → Each (λ raw doc. IsGoodOutcome (f raw doc)) rows → raws_where (λ raw doc. is_unknown (f raw doc)) rows ≡ []
unfolding raws_where Each
none_where f [] g = refl
none_where f (r ∷ rows) g = rw (good_known (f r.0 r.1.doc) g.0) (none_where f rows g.1)

module _ {A O F : Type 0} (holds : Holds A F) (w : Transforms A O) (reg : Registry O) where
  abbrev nots : List Text
  nots = type_names reg.types ++ (reg.removed ++ alias_type ∷ [])

  known_not : (t : Known O) (raw : Text) (doc : Doc A) → is_unknown (outcome_known w reg (Some t) raw doc) ≡ false
  known_not t raw doc = by (too_new doc.stamp (latest t)) (fits t raw doc)
    where
      by : (n f : Bool) → is_unknown (if n then TooNew else if f then Outputs (outputs w reg t raw doc) else Corrupt) ≡ false
      by true f = refl
      by false true = refl
      by false false = refl

  -- what every registry knows of alias documents
  abbrev alias_known : Known O
  alias_known = record { kind = Agnostic; shareable_at = None; steps = [] }

  -- a type that isn't named in the query is unknown
  unknown_is : (raw : Text) (doc : Doc A) → not (lists doc.type_name nots) ≡ is_unknown (outcome w reg raw doc)
  unfolding lists outcome known
  unknown_is raw doc =
      rw (lists_append doc.type_name (type_names reg.types) (reg.removed ++ alias_type ∷ []), lists_append doc.type_name reg.removed (alias_type ∷ []), names_known doc.type_name reg.types)
      (by (at doc.type_name reg.types) (lists doc.type_name reg.removed) (same doc.type_name alias_type))
    where
      by : (o : Option (Known O)) (removed alias : Bool)
          → not (is_some o || (removed || (if alias then true else false))) ≡ is_unknown (if removed then Removed else outcome_known w reg (if alias then Some alias_known else o) raw doc)
      by None true alias = refl
      by (Some t) true alias = refl
      by None false true = sym (known_not alias_known raw doc)
      by (Some t) false true = sym (known_not alias_known raw doc)
      by None false false = refl
      by (Some t) false false = sym (known_not t raw doc)

  selects_unknown : (raw : Text) (doc : Doc A) → selects holds (plain_query nots [] None None) raw doc ≡ is_unknown (outcome w reg raw doc)
  selects_unknown raw doc = by (lists doc.type_name nots) refl ∙ unknown_is raw doc
    where
      by : (b : Bool) → lists doc.type_name nots ≡ b → selects holds (plain_query nots [] None None) raw doc ≡ not (lists doc.type_name nots)
      by true e = rw e refl
      by false e = rw e refl

  chosen_unknown : (rows : Rows (Doc A)) → map (λ x. x.0) (chosen holds (plain_query nots [] None None) rows) ≡ raws_where (λ raw doc. is_unknown (outcome w reg raw doc)) rows
  unfolding chosen raws_where
  chosen_unknown [] = refl
  chosen_unknown (r ∷ rows) = taken (selects holds (plain_query nots [] None None) r.0 r.1.doc) (is_unknown (outcome w reg r.0 r.1.doc)) r (chosen holds (plain_query nots [] None None) rows) _ (selects_unknown r.0 r.1.doc) (chosen_unknown rows)

module _ {A O F : Type 0} (w : Words A O F) (names : Named) (set : TargetSet O) where
  -- the check selects exactly the rows of unknown types
  pub finds_exactly : (rows : Rows (Doc A)) → map (λ x. x.0) ((select w.holds).rows (settings_of w names set).unknown rows) ≡ raws_where (λ raw doc. is_unknown (outcome w.transforms set.registry raw doc)) rows
  finds_exactly rows = chosen_unknown w.holds w.transforms set.registry rows

  pub finds_unknown : FindsUnknown (select w.holds) (settings_of w names set)
  finds_unknown rows good = none_mapped ((select w.holds).rows (settings_of w names set).unknown rows) (finds_exactly rows ∙ none_where (λ raw doc. outcome w.transforms set.registry raw doc) rows good)
