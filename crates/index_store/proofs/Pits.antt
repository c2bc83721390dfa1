-- Points in time that are closed.
use Rattle.std.proofs.Common.{◌≡◌, ℕ, ◌==◌, List, [], ◌∷◌, Bool, true, false, refl, ap, if◌then◌else◌}
use Rattle.std.specs.Prelude.{not}
use Rattle.std.specs.List.{filter}
use Rattle.race_model.specs.Stores.{close}
use Rattle.index_store.specs.declared.kept.Kept.{Kept}
use Rattle.index_store.specs.Indices.{pit_of, pits_of}

pub close_filter : (p : ℕ) (ks : List Kept) → close p (pits_of ks) ≡ pits_of (filter (λ k. not (p == k.number)) ks)
unfolding close
close_filter p [] = refl
close_filter p (k ∷ ks) = by (p == k.number) (close_filter p ks)
  where
    by : (t : Bool) → close p (pits_of ks) ≡ pits_of (filter (λ k. not (p == k.number)) ks) → (if t then close p (pits_of ks) else pit_of k ∷ close p (pits_of ks)) ≡ pits_of (if not t then k ∷ filter (λ k. not (p == k.number)) ks else filter (λ k. not (p == k.number)) ks)
    by true e = e
    by false e = ap (λ es. pit_of k ∷ es) e
