-- Each listed type is what the registry knows by its name, where no name stands twice.
use Rattle.std.proofs.Common.{◌≡◌, Bool, true, false, ◌&&◌, not, Some, [], ◌∷◌, refl, sym, if◌then◌else◌}
use Rattle.base_model.specs.Keyed.{Text, Keyed, same, at}
use Rattle.race_tables.proofs.Keys.{same_false, same_refl, apart_from_false}
use Rattle.document_model.specs.Documents.{lists}
use Rattle.document_model.specs.Registries.{Known, Registry, alias_type, known, type_names, names_apart}
use Rattle.upgrade_laws.specs.Premises.{IsRegistry}
use Rattle.upgrade_laws.proofs.Selecting.{AllListed}

and_left : (a b : Bool) → (a && b) ≡ true → a ≡ true
and_left true b e = refl
and_left false b e = absurd (cc)

and_right : (a b : Bool) → (a && b) ≡ true → b ≡ true
and_right true b e = e
and_right false b e = absurd (cc)

not_true : (b : Bool) → not b ≡ true → b ≡ false
not_true true e = absurd (cc)
not_true false e = refl

same_sym : (a b : Text) → same a b ≡ false → same b a ≡ false
same_sym a b e = same_false b a (λ f. apart_from_false a b e (sym f))

module _ {O : Type 0} where
  unfoldable AllIn : (all ts : Keyed (Known O)) → Type 0
  AllIn all [] = Unit {0}
  AllIn all (t ∷ ts) = (at t.0 all ≡ Some t.1) × (same t.0 alias_type ≡ false) × AllIn all ts

  all_in_more : (t : Text × Known O) (all ts : Keyed (Known O)) → lists t.0 (type_names ts) ≡ false → AllIn all ts → AllIn (t ∷ all) ts
  unfolding AllIn lists at
  all_in_more t all [] n a = tt
  all_in_more t all (e ∷ ts) n a = by (same t.0 e.0) refl n (λ x. all_in_more t all ts x a.2)
    where
      by : (b : Bool) → same t.0 e.0 ≡ b → (if b then true else lists t.0 (type_names ts)) ≡ false → (lists t.0 (type_names ts) ≡ false → AllIn (t ∷ all) ts) → AllIn (t ∷ all) (e ∷ ts)
      by true f n h = absurd (cc)
      by false f n h = let g : same e.0 t.0 ≡ false = same_sym t.0 e.0 f in (rw g a.0, a.1, h n)

  all_in : (ts : Keyed (Known O)) → names_apart ts ≡ true → AllIn ts ts
  unfolding AllIn names_apart at
  all_in [] n = tt
  all_in (t ∷ ts) n =
      let both : (not (same t.0 alias_type) && not (lists t.0 (type_names ts))) ≡ true = and_left (not (same t.0 alias_type) && not (lists t.0 (type_names ts))) (names_apart ts) n in
      let a : not (same t.0 alias_type) ≡ true = and_left (not (same t.0 alias_type)) (not (lists t.0 (type_names ts))) both in
      let c : lists t.0 (type_names ts) ≡ false = not_true (lists t.0 (type_names ts)) (and_right (not (same t.0 alias_type)) (not (lists t.0 (type_names ts))) both) in
      let d : names_apart ts ≡ true = and_right (not (same t.0 alias_type) && not (lists t.0 (type_names ts))) (names_apart ts) n in
      (rw (same_refl t.0) refl, not_true (same t.0 alias_type) a, all_in_more t ts ts c (all_in ts d))

  listed_in : (reg : Registry O) (ts : Keyed (Known O)) → AllIn reg.types ts → AllListed reg ts
  unfolding AllIn AllListed known
  listed_in reg [] a = tt
  listed_in reg (t ∷ ts) a = (rw (a.1) a.0, listed_in reg ts a.2)

  pub all_listed : (reg : Registry O) → IsRegistry reg → AllListed reg reg.types
  all_listed reg n = listed_in reg reg.types (all_in reg.types n)
