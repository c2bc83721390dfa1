-- Aliases and the names of indices.
use Rattle.std.proofs.Common.{◌≡◌, Bool, true, false, [], ◌∷◌, Option, Some, None, refl, sym, ◌∙◌, ap, subst, if◌then◌else◌}
use Rattle.std.specs.Option.{is_some, IsSome}
use mathlib.Core.Logic.◌⊎◌.{inl, inr}
use Rattle.base_model.specs.Keyed.{Text, Keyed, same, text_lt, at, put, without}
use Rattle.race_model.specs.Sorted.{AllAbove, IsSorted}
use Rattle.race_model.specs.Stores.{Index, Store, aliases_without, meant, index_of, or_name}
use Rattle.race_tables.proofs.Keys.{same_is, same_true, same_refl, at_put_same, at_put_other, at_without_other, at_without}
use Rattle.store_core.specs.Standing.{AreAliases}

-- the value that is there
pub some_is : {A : Type 0} (o : Option A) → IsSome o → (x : A) × (o ≡ Some x)
some_is None h = absurd (cc)
some_is (Some x) h = (x, refl)

pub some_of : {A : Type 0} (o : Option A) (x : A) → o ≡ Some x → IsSome o
some_of o x e = ap is_some e

-- an index has no alias's name
pub index_is_no_alias : {D : Type 0} (name : Text) (ix : Index D) (ixs : Keyed (Index D)) (ps : Keyed Text) → at name ixs ≡ Some ix → AreAliases ixs ps → at name ps ≡ None
unfolding AreAliases at
index_is_no_alias name ix ixs [] e h = refl
index_is_no_alias name ix ixs (a ∷ ps) e h = by (same name a.0) refl (index_is_no_alias name ix ixs ps e h.2)
  where
    by : (s : Bool) → same name a.0 ≡ s → at name ps ≡ None → (if s then Some a.1 else at name ps) ≡ None
    by true p k = let q : at name ixs ≡ None = ap (λ n. at n ixs) (same_true name a.0 p) ∙ h.0 in absurd (cc)
    by false p k = k

-- the index that an alias names is there
pub alias_names : {D : Type 0} (name index : Text) (ixs : Keyed (Index D)) (ps : Keyed Text) → at name ps ≡ Some index → AreAliases ixs ps → IsSome (at index ixs)
unfolding AreAliases at
alias_names name index ixs [] e h = absurd (cc)
alias_names name index ixs (a ∷ ps) e h = by (same name a.0) e (λ f. alias_names name index ixs ps f h.2)
  where
    by : (s : Bool) → (if s then Some a.1 else at name ps) ≡ Some index → (at name ps ≡ Some index → IsSome (at index ixs)) → IsSome (at index ixs)
    by true f k = let q : a.1 ≡ index = cc in subst (λ n. IsSome (at n ixs)) q h.1
    by false f k = k f

-- a name that means no index is no alias either
pub meant_missing : {D : Type 0} (st : Store D) (name : Text) → AreAliases st.indices st.aliases → at (meant st name) st.indices ≡ None → meant st name ≡ name
unfolding meant
meant_missing {D = D} st name h = by (at name st.indices) refl (at name st.aliases) refl
  where
    by : (o : Option (Index D)) → at name st.indices ≡ o → (a : Option Text) → at name st.aliases ≡ a → at (index_of o st name) st.indices ≡ None → index_of o st name ≡ name
    by (Some ix) e a f m = refl
    by None e None f m = rw f refl
    by None e (Some index) f m =
        let q : IsSome (at index st.indices) = alias_names name index st.indices st.aliases f h in
        let k : at index st.indices ≡ None = subst (λ (n : Text). at n st.indices ≡ None) (ap (λ (x : Option Text). or_name x name) f) m in
        let s = some_is (at index st.indices) q in
        absurd (no_value (at index st.indices) s.0 k s.1)
      where
        no_value : (o : Option (Index D)) (x : Index D) → o ≡ None → o ≡ Some x → ⊥
        no_value o x p q = cc

-- ---- what keeps aliases aliases

still_there : {D : Type 0} (q name : Text) (ix : Index D) (ixs : Keyed (Index D)) → IsSome (at q ixs) → IsSome (at q (put name ix ixs))
still_there q name ix ixs h = elim (same_is q name) [
  | inl p ↦ subst (λ n. IsSome (at n (put name ix ixs))) (sym p.1) (some_of _ ix (at_put_same name ix ixs))
  | inr p ↦ subst IsSome (sym (at_put_other q name ix ixs p.1)) h
]

pub named_put : {D : Type 0} (name : Text) (ix : Index D) (ixs : Keyed (Index D)) (ps : Keyed Text) → at name ps ≡ None → AreAliases ixs ps → AreAliases (put name ix ixs) ps
unfolding AreAliases at
named_put name ix ixs [] e h = tt
named_put {D = D} name ix ixs (a ∷ ps) e h = by (same name a.0) refl e (λ f. named_put name ix ixs ps f h.2)
  where
    apart : same name a.0 ≡ false → a.0 ≡ name → ⊥
    apart p q = let r : same name a.0 ≡ true = subst (λ n. same name n ≡ true) (sym q) (same_refl name) in cc

    by : (s : Bool) → same name a.0 ≡ s → (if s then Some a.1 else at name ps) ≡ None → (at name ps ≡ None → AreAliases (put name ix ixs) ps) → (at a.0 (put name ix ixs) ≡ None) × IsSome (at a.1 (put name ix ixs)) × AreAliases (put name ix ixs) ps
    by true p f k = absurd (cc)
    by false p f k = (at_put_other a.0 name ix ixs (λ q. apart p q) ∙ h.0, still_there a.1 name ix ixs h.1, k f)

pub named_without : {D : Type 0} (alias : Text) (ixs : Keyed (Index D)) (ps : Keyed Text) → AreAliases ixs ps → AreAliases ixs (without alias ps)
unfolding AreAliases without
named_without alias ixs [] h = tt
named_without {D = D} alias ixs (a ∷ ps) h = by (same alias a.0) (named_without alias ixs ps h.2)
  where
    by : (s : Bool) → AreAliases ixs (without alias ps) → AreAliases ixs (if s then without alias ps else a ∷ without alias ps)
    by true k = k
    by false k = (h.0, h.1, k)

pub named_add : {D : Type 0} (alias index : Text) (ixs : Keyed (Index D)) (ps : Keyed Text) → at alias ixs ≡ None → IsSome (at index ixs) → AreAliases ixs ps → AreAliases ixs (put alias index ps)
unfolding AreAliases put
named_add alias index ixs [] e f h = (e, f, tt)
named_add alias index ixs (a ∷ ps) e f h = by (same alias a.0) (text_lt alias a.0) (named_add alias index ixs ps e f h.2)
  where
    by : (s t : Bool) → AreAliases ixs (put alias index ps) → AreAliases ixs (if s then (alias, index) ∷ ps else if t then (alias, index) ∷ a ∷ ps else a ∷ put alias index ps)
    by true t k = (e, f, h.2)
    by false true k = (e, f, h)
    by false false k = (h.0, h.1, k)

gone_too : {D : Type 0} (q index : Text) (ixs : Keyed (Index D)) → at q ixs ≡ None → at q (without index ixs) ≡ None
gone_too q index ixs e = elim (same_is q index) [
  | inl p ↦ at_without q index ixs ∙ rw p.0 refl
  | inr p ↦ at_without_other q index ixs p.1 ∙ e
]

pub named_drop : {D : Type 0} (index : Text) (ixs : Keyed (Index D)) (ps : Keyed Text) → AreAliases ixs ps → AreAliases (without index ixs) (aliases_without index ps)
unfolding AreAliases aliases_without
named_drop index ixs [] h = tt
named_drop {D = D} index ixs (a ∷ ps) h = by (same a.1 index) refl (named_drop index ixs ps h.2)
  where
    by : (s : Bool) → same a.1 index ≡ s → AreAliases (without index ixs) (aliases_without index ps) → AreAliases (without index ixs) (if s then aliases_without index ps else a ∷ aliases_without index ps)
    by true p k = k
    by false p k = (gone_too a.0 index ixs h.0, subst IsSome (sym (at_without_other a.1 index ixs (λ q. apart p q))) h.1, k)
      where
        apart : same a.1 index ≡ false → a.1 ≡ index → ⊥
        apart p q = let r : same a.1 index ≡ true = subst (λ n. same n index ≡ true) (sym q) (same_refl index) in cc

-- ---- order

above_without : (j index : Text) (ps : Keyed Text) → AllAbove j ps → AllAbove j (aliases_without index ps)
unfolding AllAbove aliases_without
above_without j index [] h = tt
above_without j index (a ∷ ps) h = by (same a.1 index) (above_without j index ps h.1)
  where
    by : (s : Bool) → AllAbove j (aliases_without index ps) → AllAbove j (if s then aliases_without index ps else a ∷ aliases_without index ps)
    by true k = k
    by false k = (h.0, k)

pub sorted_drop : (index : Text) (ps : Keyed Text) → IsSorted ps → IsSorted (aliases_without index ps)
unfolding IsSorted aliases_without
sorted_drop index [] h = tt
sorted_drop index (a ∷ ps) h = by (same a.1 index) (sorted_drop index ps h.1)
  where
    by : (s : Bool) → IsSorted (aliases_without index ps) → IsSorted (if s then aliases_without index ps else a ∷ aliases_without index ps)
    by true k = k
    by false k = (above_without a.0 index ps h.0, k)
