-- Two objects have two raw ids, where no space is the other's type.
use Rattle.std.proofs.Common.{◌≡◌, ◌≢◌, Bool, true, false, [], ◌∷◌, ◌++◌, refl, sym, ◌∙◌, subst}
use Rattle.base_model.specs.Keyed.{Text, same}
use Rattle.race_tables.proofs.Keys.{same_true}
use Rattle.document_model.specs.Documents.{Plain, raw_over, raw_id, default_space}
use Rattle.space_scope.specs.declared.kind.Kind.{Kind}
use Rattle.space_scope.specs.declared.kind.Kind.TheVariants.{Single, Multiple, MultipleIsolated, Agnostic}

one_split : (a b x y : Text) → Plain a → Plain b → a ++ (58 ∷ x) ≡ b ++ (58 ∷ y) → (a ≡ b) × (x ≡ y)
unfolding Plain
one_split [] [] x y p q e = let f : x ≡ y = cc in (refl, f)
one_split [] (b ∷ bs) x y p q e = let f : 58 ≡ b = cc in absurd (q.0 (sym f))
one_split (a ∷ as2) [] x y p q e = let f : a ≡ 58 = cc in absurd (p.0 f)
one_split (a ∷ as2) (b ∷ bs) x y p q e =
    let f : a ≡ b = cc in
    let g : as2 ++ (58 ∷ x) ≡ bs ++ (58 ∷ y) = cc in
    let h = one_split as2 bs x y p.1 q.1 g in
    let i : as2 ≡ bs = h.0 in
    let k : (a ∷ as2) ≡ (b ∷ bs) = cc in
    (k, h.1)

-- a raw id is that of the type, or of the space and the type
data Form (space name id raw : Text) : Type 0 where
  ByType : raw ≡ name ++ (58 ∷ id) → Form space name id raw
  BySpace : raw ≡ space ++ (58 ∷ (name ++ (58 ∷ id))) → Form space name id raw

form_over : (b : Bool) (space name id : Text) → Form space name id (raw_over b space name id)
form_over true space name id = ByType refl
form_over false space name id = BySpace refl

form_of : (kind : Kind) (space name id : Text) → Form space name id (raw_id kind space name id)
form_of Single space name id = form_over (same space default_space) space name id
form_of Multiple space name id = ByType refl
form_of MultipleIsolated space name id = ByType refl
form_of Agnostic space name id = ByType refl

-- one raw id, where no space is the other's type: one type and one id
pub one_object : (kind kind2 : Kind) (space space2 name name2 id id2 : Text) → Plain space → Plain space2 → Plain name → Plain name2 → space ≢ name2 → space2 ≢ name → raw_id kind space name id ≡ raw_id kind2 space2 name2 id2 → (name ≡ name2) × (id ≡ id2)
one_object kind kind2 space space2 name name2 id id2 p p2 q q2 a a2 e = by (form_of kind space name id) (form_of kind2 space2 name2 id2)
  where
    by : Form space name id (raw_id kind space name id) → Form space2 name2 id2 (raw_id kind2 space2 name2 id2) → (name ≡ name2) × (id ≡ id2)
    by (ByType f) (ByType g) = one_split name name2 id id2 q q2 (sym f ∙ e ∙ g)
    by (ByType f) (BySpace g) = absurd (a2 (sym (one_split name space2 id (name2 ++ (58 ∷ id2)) q p2 (sym f ∙ e ∙ g)).0))
    by (BySpace f) (ByType g) = absurd (a (one_split space name2 (name ++ (58 ∷ id)) id2 p q2 (sym f ∙ e ∙ g)).0)
    by (BySpace f) (BySpace g) = one_split name name2 id id2 q q2 (one_split space space2 (name ++ (58 ∷ id)) (name2 ++ (58 ∷ id2)) p p2 (sym f ∙ e ∙ g)).1

single_spaces : (b b2 : Bool) (space space2 name id id2 : Text) → same space default_space ≡ b → same space2 default_space ≡ b2 → Plain space → Plain space2 → Plain name → space ≢ name → space2 ≢ name → raw_over b space name id ≡ raw_over b2 space2 name id2 → space ≡ space2
single_spaces true true space space2 name id id2 f g p p2 q a a2 e = same_true space default_space f ∙ sym (same_true space2 default_space g)
single_spaces true false space space2 name id id2 f g p p2 q a a2 e = absurd (a2 (sym (one_split name space2 id (name ++ (58 ∷ id2)) q p2 e).0))
single_spaces false true space space2 name id id2 f g p p2 q a a2 e = absurd (a (one_split space name (name ++ (58 ∷ id)) id2 p q e).0)
single_spaces false false space space2 name id id2 f g p p2 q a a2 e = (one_split space space2 (name ++ (58 ∷ id)) (name ++ (58 ∷ id2)) p p2 e).0

pub one_space : (kind kind2 : Kind) (space space2 name name2 id id2 : Text) → name ≡ name2 → Plain space → Plain space2 → Plain name → space ≢ name2 → space2 ≢ name → raw_id kind space name id ≡ raw_id kind2 space2 name2 id2 → kind ≡ Single → kind2 ≡ Single → space ≡ space2
one_space kind kind2 space space2 name name2 id id2 n p p2 q a a2 e k k2 =
    single_spaces (same space default_space) (same space2 default_space) space space2 name id id2 refl refl p p2 q (subst (λ x. space ≢ x) (sym n) a) a2
    (subst (λ x. raw_id Single space name id ≡ raw_id Single space2 x id2) (sym n) (subst (λ x. raw_id x space name id ≡ raw_id Single space2 name2 id2) k (subst (λ x. raw_id kind space name id ≡ raw_id x space2 name2 id2) k2 e)))
