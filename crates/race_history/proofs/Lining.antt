-- Generations in a row: what a block, a migration and a write leave of them.
use Rattle.std.proofs.Common.{◌≡◌, ◌≢◌, List, [], ◌∷◌, Bool, true, false, Some, None, refl, sym, ◌∙◌, ap, subst, if◌then◌else◌}
use mathlib.Core.Logic.◌⊎◌.{inl, inr}
use Rattle.base_model.specs.Keyed.{Text, same}
use Rattle.race_model.specs.Stores.{Write}
use Rattle.race_model.specs.Machines.{Settings}
use Rattle.race_model.specs.Migrated.{migrated}
use Rattle.race_model.specs.Generations.{Generation, Generations, of_alias, written_in, with_table, block_last, migrate, new_generation}
use Rattle.race_tables.proofs.Keys.{same_is, same_refl, same_false}
use Rattle.race_tables.proofs.Lists.{none_some, some_same, apart}
use Rattle.race_model.specs.Runs.{last_generation}

-- no two generations have one alias
unfoldable pub Once : {D : Type 0} → Generations D → Type 0
Once [] = Unit {0}
Once (g ∷ gs) = (of_alias g.alias gs ≡ None) × Once gs

abbrev pub blocked_of : {D : Type 0} → Generation D → Generation D
blocked_of g = record { alias = g.alias; index = g.index; blocked = true; table = g.table }

pub of_first : {D : Type 0} (n : Text) (g : Generation D) (gs : Generations D) → n ≡ g.alias → of_alias n (g ∷ gs) ≡ Some g
unfolding of_alias
of_first n g gs e = rw (e, same_refl g.alias) refl

pub of_rest : {D : Type 0} (n : Text) (g : Generation D) (gs : Generations D) → n ≢ g.alias → of_alias n (g ∷ gs) ≡ of_alias n gs
unfolding of_alias
of_rest n g gs x = rw (same_false n g.alias x) refl

-- the last generation is found under its alias
last_found : {D : Type 0} (gs : Generations D) (l : Generation D) → last_generation gs ≡ Some l → of_alias l.alias gs ≢ None
unfolding last_generation of_alias
last_found [] l e f = cc
last_found (g ∷ []) l e f = let is : g ≡ l = let z : Some g ≡ Some l = e in cc in let y : of_alias l.alias (g ∷ []) ≡ Some g = of_first l.alias g [] (ap (λ (z : Generation _). z.alias) (sym is)) in none_some g (of_alias l.alias (g ∷ [])) f y
last_found (g ∷ h ∷ gs) l e f = elim (same_is l.alias g.alias) [
  | inl p ↦ none_some g (of_alias l.alias (g ∷ h ∷ gs)) f (of_first l.alias g (h ∷ gs) p.1)
  | inr x ↦ last_found (h ∷ gs) l e (sym (of_rest l.alias g (h ∷ gs) x.1) ∙ f)
]

-- the block
pub block_none : {D : Type 0} (gs : Generations D) (n : Text) → of_alias n gs ≡ None → of_alias n (block_last gs) ≡ None
unfolding block_last of_alias
block_none [] n e = e
block_none (g ∷ []) n e = elim (same_is n g.alias) [
  | inl p ↦ none_some g (of_alias n (g ∷ [])) e (of_first n g [] p.1)
  | inr x ↦ of_rest n (blocked_of g) [] x.1
]
block_none (g ∷ h ∷ gs) n e = elim (same_is n g.alias) [
  | inl p ↦ none_some g (of_alias n (g ∷ h ∷ gs)) e (of_first n g (h ∷ gs) p.1)
  | inr x ↦ of_rest n g (block_last (h ∷ gs)) x.1 ∙ block_none (h ∷ gs) n (sym (of_rest n g (h ∷ gs) x.1) ∙ e)
]

pub block_last_is : {D : Type 0} (gs : Generations D) (l : Generation D) → last_generation gs ≡ Some l → last_generation (block_last gs) ≡ Some (blocked_of l)
unfolding block_last last_generation
block_last_is [] l e = absurd (cc)
block_last_is (g ∷ []) l e = let is : g ≡ l = let z : Some g ≡ Some l = e in cc in ap (λ z. Some (blocked_of z)) is
block_last_is (g ∷ h ∷ []) l e = block_last_is (h ∷ []) l e
block_last_is (g ∷ h ∷ k ∷ gs) l e = block_last_is (h ∷ k ∷ gs) l e

pub block_here : {D : Type 0} (gs : Generations D) (l : Generation D) → Once gs → last_generation gs ≡ Some l → of_alias l.alias (block_last gs) ≡ Some (blocked_of l)
unfolding block_last last_generation Once
block_here [] l o e = absurd (cc)
block_here (g ∷ []) l o e = let is : g ≡ l = let z : Some g ≡ Some l = e in cc in subst (λ z. of_alias z.alias (blocked_of g ∷ []) ≡ Some (blocked_of z)) is (of_first g.alias (blocked_of g) [] refl)
block_here (g ∷ h ∷ gs) l o e = elim (same_is l.alias g.alias) [
  | inl p ↦ absurd (last_found (h ∷ gs) l e (subst (λ z. of_alias z (h ∷ gs) ≡ None) (sym p.1) o.0))
  | inr x ↦ of_rest l.alias g (block_last (h ∷ gs)) x.1 ∙ block_here (h ∷ gs) l o.1 e
]

pub block_other : {D : Type 0} (gs : Generations D) (l : Generation D) (n : Text) → last_generation gs ≡ Some l → n ≢ l.alias → of_alias n (block_last gs) ≡ of_alias n gs
unfolding block_last last_generation
block_other [] l n e x = refl
block_other (g ∷ []) l n e x =
    let is : g ≡ l = let z : Some g ≡ Some l = e in cc in
    let y : n ≢ g.alias = subst (λ z. n ≢ z.alias) (sym is) x in
    of_rest n (blocked_of g) [] y ∙ sym (of_rest n g [] y)
block_other (g ∷ h ∷ gs) l n e x = elim (same_is n g.alias) [
  | inl p ↦ of_first n g (block_last (h ∷ gs)) p.1 ∙ sym (of_first n g (h ∷ gs) p.1)
  | inr y ↦ of_rest n g (block_last (h ∷ gs)) y.1 ∙ block_other (h ∷ gs) l n e x ∙ sym (of_rest n g (h ∷ gs) y.1)
]

pub block_once : {D : Type 0} (gs : Generations D) → Once gs → Once (block_last gs)
unfolding block_last Once of_alias
block_once [] o = o
block_once (g ∷ []) o = o
block_once (g ∷ h ∷ gs) o = (block_none (h ∷ gs) g.alias o.0, block_once (h ∷ gs) o.1)

-- the migration
pub migrate_other : {D Q : Type 0} (v : Settings D Q) (gs : Generations D) (n : Text) → n ≢ v.version → of_alias n (migrate v gs) ≡ of_alias n gs
unfolding migrate
migrate_other v [] n x = refl
migrate_other v (g ∷ []) n x = elim (same_is n g.alias) [
  | inl p ↦ of_first n g _ p.1 ∙ sym (of_first n g [] p.1)
  | inr y ↦ of_rest n g _ y.1 ∙ of_rest n (new_generation v (migrated v g.table.rows)) [] x ∙ sym (of_rest n g [] y.1)
]
migrate_other v (g ∷ h ∷ gs) n x = elim (same_is n g.alias) [
  | inl p ↦ of_first n g (migrate v (h ∷ gs)) p.1 ∙ sym (of_first n g (h ∷ gs) p.1)
  | inr y ↦ of_rest n g (migrate v (h ∷ gs)) y.1 ∙ migrate_other v (h ∷ gs) n x ∙ sym (of_rest n g (h ∷ gs) y.1)
]

pub migrate_here : {D Q : Type 0} (v : Settings D Q) (gs : Generations D) (l : Generation D) → last_generation gs ≡ Some l → of_alias v.version gs ≡ None → of_alias v.version (migrate v gs) ≡ Some (new_generation v (migrated v l.table.rows))
unfolding migrate last_generation
migrate_here v [] l e f = absurd (cc)
migrate_here v (g ∷ []) l e f =
    let is : g ≡ l = let z : Some g ≡ Some l = e in cc in
    elim (same_is v.version g.alias) [
      | inl p ↦ none_some g (of_alias v.version (g ∷ [])) f (of_first v.version g [] p.1)
      | inr y ↦ of_rest v.version g _ y.1 ∙ of_first v.version (new_generation v (migrated v g.table.rows)) [] refl ∙ ap (λ (z : Generation _). Some (new_generation v (migrated v z.table.rows))) is
    ]
migrate_here v (g ∷ h ∷ gs) l e f = elim (same_is v.version g.alias) [
  | inl p ↦ none_some g (of_alias v.version (g ∷ h ∷ gs)) f (of_first v.version g (h ∷ gs) p.1)
  | inr y ↦ of_rest v.version g (migrate v (h ∷ gs)) y.1 ∙ migrate_here v (h ∷ gs) l e (sym (of_rest v.version g (h ∷ gs) y.1) ∙ f)
]

pub migrate_last : {D Q : Type 0} (v : Settings D Q) (gs : Generations D) (l : Generation D) → last_generation gs ≡ Some l → last_generation (migrate v gs) ≡ Some (new_generation v (migrated v l.table.rows))
unfolding migrate last_generation
migrate_last v [] l e = absurd (cc)
migrate_last v (g ∷ []) l e = let is : g ≡ l = let z : Some g ≡ Some l = e in cc in ap (λ (z : Generation _). Some (new_generation v (migrated v z.table.rows))) is
migrate_last v (g ∷ h ∷ []) l e = migrate_last v (h ∷ []) l e
migrate_last v (g ∷ h ∷ k ∷ gs) l e = migrate_last v (h ∷ k ∷ gs) l e

pub migrate_once : {D Q : Type 0} (v : Settings D Q) (gs : Generations D) → Once gs → of_alias v.version gs ≡ None → Once (migrate v gs)
unfolding migrate Once of_alias
migrate_once v [] o f = o
migrate_once v (g ∷ []) o f = elim (same_is v.version g.alias) [
  | inl p ↦ none_some g (of_alias v.version (g ∷ [])) f (of_first v.version g [] p.1)
  | inr y ↦ (of_rest g.alias (new_generation v (migrated v g.table.rows)) [] (apart y.1) ∙ o.0, (o.0, tt))
]
migrate_once v (g ∷ h ∷ gs) o f = elim (same_is v.version g.alias) [
  | inl p ↦ none_some g (of_alias v.version (g ∷ h ∷ gs)) f (of_first v.version g (h ∷ gs) p.1)
  | inr y ↦ (migrate_other v (h ∷ gs) g.alias (apart y.1) ∙ o.0, migrate_once v (h ∷ gs) o.1 (sym (of_rest v.version g (h ∷ gs) y.1) ∙ f))
]

-- a write
pub with_alias : {D : Type 0} (b : Bool) (g : Generation D) (ws : List (Write D)) → (with_table b g ws).alias ≡ g.alias
with_alias true g ws = refl
with_alias false g ws = refl

pub with_index_of : {D : Type 0} (b : Bool) (g : Generation D) (ws : List (Write D)) → (with_table b g ws).index ≡ g.index
with_index_of true g ws = refl
with_index_of false g ws = refl

pub written_here : {D : Type 0} (m : Text) (ws : List (Write D)) (gs : Generations D) (g : Generation D) → of_alias m gs ≡ Some g → of_alias m (written_in m ws gs) ≡ Some (with_table g.blocked g ws)
unfolding written_in of_alias
written_here m ws [] g e = absurd (cc)
written_here m ws (h ∷ gs) g e = elim (same_is m h.alias) [
  | inl p ↦ (let is : h ≡ g = some_same h g (of_alias m (h ∷ gs)) (of_first m h gs p.1) e in
      rw p.0 (of_first m (with_table h.blocked h ws) gs (p.1 ∙ sym (with_alias h.blocked h ws)) ∙ ap (λ (z : Generation _). Some (with_table z.blocked z ws)) is))
  | inr x ↦ rw x.0 (of_rest m h (written_in m ws gs) x.1 ∙ written_here m ws gs g (sym (of_rest m h gs x.1) ∙ e))
]

pub written_other : {D : Type 0} (m : Text) (ws : List (Write D)) (gs : Generations D) (n : Text) → n ≢ m → of_alias n (written_in m ws gs) ≡ of_alias n gs
unfolding written_in
written_other m ws [] n x = refl
written_other m ws (h ∷ gs) n x = elim (same_is m h.alias) [
  | inl p ↦ rw p.0 (let y : n ≢ h.alias = λ e. x (e ∙ sym p.1) in
      of_rest n (with_table h.blocked h ws) gs (subst (λ z. n ≢ z) (sym (with_alias h.blocked h ws)) y) ∙ sym (of_rest n h gs y))
  | inr q ↦ rw q.0 (elim (same_is n h.alias) [
    | inl p ↦ of_first n h (written_in m ws gs) p.1 ∙ sym (of_first n h gs p.1)
    | inr y ↦ of_rest n h (written_in m ws gs) y.1 ∙ written_other m ws gs n x ∙ sym (of_rest n h gs y.1)
  ])
]

pub written_none : {D : Type 0} (m : Text) (ws : List (Write D)) (gs : Generations D) → of_alias m gs ≡ None → written_in m ws gs ≡ gs
unfolding written_in
written_none m ws [] e = refl
written_none m ws (h ∷ gs) e = elim (same_is m h.alias) [
  | inl p ↦ none_some h (of_alias m (h ∷ gs)) e (of_first m h gs p.1)
  | inr x ↦ rw x.0 (ap (λ z. h ∷ z) (written_none m ws gs (sym (of_rest m h gs x.1) ∙ e)))
]

pub written_nones : {D : Type 0} (m : Text) (ws : List (Write D)) (gs : Generations D) (n : Text) → of_alias n gs ≡ None → of_alias n (written_in m ws gs) ≡ None
unfolding written_in
written_nones m ws [] n e = e
written_nones m ws (h ∷ gs) n e = elim (same_is n h.alias) [
  | inl p ↦ none_some h (of_alias n (h ∷ gs)) e (of_first n h gs p.1)
  | inr y ↦ elim (same_is m h.alias) [
    | inl p ↦ rw p.0 (of_rest n (with_table h.blocked h ws) gs (subst (λ z. n ≢ z) (sym (with_alias h.blocked h ws)) y.1) ∙ sym (of_rest n h gs y.1) ∙ e)
    | inr q ↦ rw q.0 (of_rest n h (written_in m ws gs) y.1 ∙ written_nones m ws gs n (sym (of_rest n h gs y.1) ∙ e))
  ]
]

pub written_once : {D : Type 0} (m : Text) (ws : List (Write D)) (gs : Generations D) → Once gs → Once (written_in m ws gs)
unfolding written_in Once
written_once m ws [] o = o
written_once m ws (h ∷ gs) o = elim (same_is m h.alias) [
  | inl p ↦ rw p.0 (subst (λ z. of_alias z gs ≡ None) (sym (with_alias h.blocked h ws)) o.0, o.1)
  | inr q ↦ rw q.0 (written_nones m ws gs h.alias o.0, written_once m ws gs o.1)
]

-- a last generation with this alias and index
pub record LastIs {D : Type 0} (gs : Generations D) (alias index : Text) : Type 0 where
  pub last : Generation D
  pub is_last : last_generation gs ≡ Some last
  pub under : last.alias ≡ alias
  pub of : last.index ≡ index

pub written_last : {D : Type 0} (m : Text) (ws : List (Write D)) (gs : Generations D) (a n : Text) → LastIs gs a n → LastIs (written_in m ws gs) a n
unfolding written_in last_generation
written_last m ws [] a n l = l
written_last m ws (h ∷ []) a n l =
    let is : h ≡ l.last = let z : Some h ≡ Some l.last = l.is_last in cc in
    let alias : h.alias ≡ a = ap (λ (z : Generation _). z.alias) is ∙ l.under in
    let index : h.index ≡ n = ap (λ (z : Generation _). z.index) is ∙ l.of in
    elim (same_is m h.alias) [
      | inl p ↦ rw p.0 (record { last = with_table h.blocked h ws; is_last = refl; under = with_alias h.blocked h ws ∙ alias; of = with_index_of h.blocked h ws ∙ index })
      | inr q ↦ rw q.0 (record { last = h; is_last = refl; under = alias; of = index })
    ]
written_last m ws (h ∷ k ∷ gs) a n l = elim (same_is m h.alias) [
  | inl p ↦ rw p.0 (record { last = l.last; is_last = l.is_last; under = l.under; of = l.of })
  | inr q ↦ rw q.0 (by (same m k.alias) (written_last m ws (k ∷ gs) a n (record { last = l.last; is_last = l.is_last; under = l.under; of = l.of })))
]
  where
    by : (t : Bool) → LastIs (if t then with_table k.blocked k ws ∷ gs else k ∷ written_in m ws gs) a n → LastIs (h ∷ (if t then with_table k.blocked k ws ∷ gs else k ∷ written_in m ws gs)) a n
    by true r = record { last = r.last; is_last = r.is_last; under = r.under; of = r.of }
    by false r = record { last = r.last; is_last = r.is_last; under = r.under; of = r.of }

-- it is found under its alias
pub last_of_alias : {D : Type 0} (gs : Generations D) (l : Generation D) → Once gs → last_generation gs ≡ Some l → of_alias l.alias gs ≡ Some l
unfolding last_generation Once
last_of_alias [] l o e = absurd (cc)
last_of_alias (g ∷ []) l o e = let is : g ≡ l = let z : Some g ≡ Some l = e in cc in of_first l.alias g [] (ap (λ (z : Generation _). z.alias) (sym is)) ∙ ap (λ z. Some z) is
last_of_alias (g ∷ h ∷ gs) l o e = elim (same_is l.alias g.alias) [
  | inl p ↦ absurd (last_found (h ∷ gs) l e (subst (λ z. of_alias z (h ∷ gs) ≡ None) (sym p.1) o.0))
  | inr x ↦ of_rest l.alias g (h ∷ gs) x.1 ∙ last_of_alias (h ∷ gs) l o.1 e
]
