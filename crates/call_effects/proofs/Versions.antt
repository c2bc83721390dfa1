-- Versions are in order.
use Rattle.std.proofs.Common.{◌≡◌, ◌<◌, ◌⊎◌, ℕ, Bool, true, false, refl, sym, ◌∙◌, ap, arith, nat_lt, if◌then◌else◌}
use Rattle.std.proofs.lemmas.Bool.Decides.{nat_tests}
use mathlib.Core.Logic.◌⊎◌.{inl, inr}
use Rattle.version_token.specs.declared.Ver.{Ver}
use Rattle.document_model.specs.Documents.{ver_lt}

-- two numbers, compared
data Compared (m n : ℕ) : Type 0 where
  Less : m < n → nat_lt m n ≡ true → Compared m n
  Level : m ≡ n → nat_lt m n ≡ false → nat_lt n m ≡ false → Compared m n
  More : n < m → nat_lt m n ≡ false → nat_lt n m ≡ true → Compared m n

compared : (m n : ℕ) → Compared m n
compared m n = by (nat_lt m n) (nat_lt n m) refl refl
  where
    by : (a b : Bool) → nat_lt m n ≡ a → nat_lt n m ≡ b → Compared m n
    by true b e f = Less (grind (arith, nat_tests)) e
    by false true e f = More (grind (arith, nat_tests)) e f
    by false false e f = Level (grind (arith, nat_tests)) e f

-- one version is below another
abbrev pub Below : Ver → Ver → Type 0
Below a b = (a.major < b.major) ⊎ ((a.major ≡ b.major) × ((a.minor < b.minor) ⊎ ((a.minor ≡ b.minor) × (a.patch < b.patch))))

pub below_of : (a b : Ver) → ver_lt a b ≡ true → Below a b
unfolding ver_lt
below_of a b e = by (compared a.major b.major) (compared a.minor b.minor) (compared a.patch b.patch) e
  where
    by : Compared a.major b.major → Compared a.minor b.minor → Compared a.patch b.patch
        → (if nat_lt a.major b.major then true else if nat_lt b.major a.major then false else if nat_lt a.minor b.minor then true else if nat_lt b.minor a.minor then false else nat_lt a.patch b.patch) ≡ true → Below a b
    by (Less l x) y z e = inl l
    by (More l x x2) y z e = absurd (let f : false ≡ true = sym (rw (x, x2) refl) ∙ e in cc)
    by (Level l x x2) (Less m y) z e = inr (l, inl m)
    by (Level l x x2) (More m y y2) z e = absurd (let f : false ≡ true = sym (rw (x, x2, y, y2) refl) ∙ e in cc)
    by (Level l x x2) (Level m y y2) (Less n z) e = inr (l, inr (m, n))
    by (Level l x x2) (Level m y y2) (Level n z z2) e = absurd (let f : false ≡ true = sym (rw (x, x2, y, y2, z) refl) ∙ e in cc)
    by (Level l x x2) (Level m y y2) (More n z z2) e = absurd (let f : false ≡ true = sym (rw (x, x2, y, y2, z) refl) ∙ e in cc)

pub below_is : (a b : Ver) → Below a b → ver_lt a b ≡ true
unfolding ver_lt
below_is a b k = elim k [
  | inl l ↦ (let x : nat_lt a.major b.major ≡ true = grind (arith, nat_tests) in rw x refl)
  | inr p ↦
      let x : nat_lt a.major b.major ≡ false = grind (arith, nat_tests) in
      let x2 : nat_lt b.major a.major ≡ false = grind (arith, nat_tests) in
      elim p.1 [
        | inl m ↦ (let y : nat_lt a.minor b.minor ≡ true = grind (arith, nat_tests) in rw (x, x2, y) refl)
        | inr q ↦
            let y : nat_lt a.minor b.minor ≡ false = grind (arith, nat_tests) in
            let y2 : nat_lt b.minor a.minor ≡ false = grind (arith, nat_tests) in
            let z : nat_lt a.patch b.patch ≡ true = grind (arith, nat_tests) in
            rw (x, x2, y, y2, z) refl
      ]
]

pub below_trans : (a b c : Ver) → Below a b → Below b c → Below a c
below_trans a b c k l = elim k [
  | inl x ↦ elim l [ inl y ↦ inl (omega arith) | inr q ↦ inl (omega arith) ]
  | inr p ↦ elim l [
    | inl y ↦ inl (omega arith)
    | inr q ↦ inr (
      omega arith,
      elim p.1 [
        | inl m ↦ elim q.1 [ inl n ↦ inl (omega arith) | inr s ↦ inl (omega arith) ]
        | inr r ↦ elim q.1 [ inl n ↦ inl (omega arith) | inr s ↦ inr (omega arith, omega arith) ]
      ],
    )
  ]
]

pub lt_trans : (a b c : Ver) → ver_lt a b ≡ true → ver_lt b c ≡ true → ver_lt a c ≡ true
lt_trans a b c e f = below_is a c (below_trans a b c (below_of a b e) (below_of b c f))

same_parts : (a b : Ver) → a.major ≡ b.major → a.minor ≡ b.minor → a.patch ≡ b.patch → a ≡ b
same_parts a b l m n =
    ap (λ (x : ℕ). record { major = x; minor = a.minor; patch = a.patch }) l ∙ (ap (λ (x : ℕ). record { major = b.major; minor = x; patch = a.patch }) m ∙ ap (λ (x : ℕ). record { major = b.major; minor = b.minor; patch = x }) n)

-- the version that is level is the same
pub lt_level : (a b : Ver) → ver_lt a b ≡ false → ver_lt b a ≡ false → a ≡ b
lt_level a b e f = by (compared a.major b.major) (compared a.minor b.minor) (compared a.patch b.patch)
  where
    no : (x y : Ver) → ver_lt x y ≡ false → Below x y → a ≡ b
    no x y g k = let h : true ≡ false = sym (below_is x y k) ∙ g in absurd (cc)

    by : Compared a.major b.major → Compared a.minor b.minor → Compared a.patch b.patch → a ≡ b
    by (Less l x) y z = no a b e (inl l)
    by (More l x x2) y z = no b a f (inl l)
    by (Level l x x2) (Less m y) z = no a b e (inr (l, inl m))
    by (Level l x x2) (More m y y2) z = no b a f (inr (sym l, inl m))
    by (Level l x x2) (Level m y y2) (Less n z) = no a b e (inr (l, inr (m, n)))
    by (Level l x x2) (Level m y y2) (More n z z2) = no b a f (inr (sym l, inr (sym m, n)))
    by (Level l x x2) (Level m y y2) (Level n z z2) = same_parts a b l m n
