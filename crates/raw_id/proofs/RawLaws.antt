-- One raw id is of one object.
use Rattle.std.proofs.Common.{◌≡◌, ◌≢◌, ℕ, length, Bool, true, false, not, ◌&&◌, nat_le, [], ◌∷◌, ◌++◌, refl, sym, ap, ◌∙◌, subst, true≢false}
use Rattle.std.proofs.lemmas.Bool.{and_parts}
use Rattle.std.specs.List.{list_all}
use Rattle.std.specs.Cmp.Lexicographic.{bytes_decides}
use Rattle.base_model.specs.Keyed.{Text, same}
use Rattle.document_model.specs.Documents.{Plain, colon, raw_over, raw_id, default_space}
use Rattle.document_model.specs.Names.{is_name_byte, is_document_member, is_type_name}
use Rattle.space_scope.specs.Spaces.{is_space_byte, is_space_text}
use Rattle.space_scope.specs.declared.kind.Kind.{Kind}
use Rattle.space_scope.specs.declared.kind.Kind.TheVariants.{Single, Multiple, MultipleIsolated, Agnostic}
use Rattle.raw_id.proofs.Splits.{Lacks, one_split}

lacks_plain : (a : Text) → Plain a → Lacks colon a
unfolding Plain
lacks_plain [] p = tt
lacks_plain (b ∷ a) p = (p.0, lacks_plain a p.1)

parted : (a b x y : Text) → Plain a → Plain b → a ++ colon ∷ x ≡ b ++ colon ∷ y → (a ≡ b) × (x ≡ y)
parted a b x y p q e = one_split colon a b x y (lacks_plain a p) (lacks_plain b q) e

same_is : (a b : Text) → same a b ≡ true → a ≡ b
unfolding same
same_is a b e = (bytes_decides a b).0 e

-- a raw id is that of the type, or of the space and the type
data Form (space name id raw : Text) : Type 0 where
  ByType : raw ≡ name ++ colon ∷ id → Form space name id raw
  BySpace : raw ≡ space ++ colon ∷ (name ++ colon ∷ id) → Form space name id raw

form_over : (b : Bool) (space name id : Text) → Form space name id (raw_over b space name id)
form_over true space name id = ByType refl
form_over false space name id = BySpace refl

form_of : (kind : Kind) (space name id : Text) → Form space name id (raw_id kind space name id)
form_of Single space name id = form_over (same space default_space) space name id
form_of Multiple space name id = ByType refl
form_of MultipleIsolated space name id = ByType refl
form_of Agnostic space name id = ByType refl

-- where no space is the other's type: one type and one id
pub one_object : (kind kind2 : Kind) (space space2 name name2 id id2 : Text) → Plain space → Plain space2 → Plain name → Plain name2 → space ≢ name2 → space2 ≢ name → raw_id kind space name id ≡ raw_id kind2 space2 name2 id2 → (name ≡ name2) × (id ≡ id2)
one_object kind kind2 space space2 name name2 id id2 p p2 q q2 a a2 e = by (form_of kind space name id) (form_of kind2 space2 name2 id2)
  where
    by : Form space name id (raw_id kind space name id) → Form space2 name2 id2 (raw_id kind2 space2 name2 id2) → (name ≡ name2) × (id ≡ id2)
    by (ByType f) (ByType g) = parted name name2 id id2 q q2 (sym f ∙ e ∙ g)
    by (ByType f) (BySpace g) = absurd (a2 (sym (parted name space2 id (name2 ++ colon ∷ id2) q p2 (sym f ∙ e ∙ g)).0))
    by (BySpace f) (ByType g) = absurd (a (parted space name2 (name ++ colon ∷ id) id2 p q2 (sym f ∙ e ∙ g)).0)
    by (BySpace f) (BySpace g) = parted name name2 id id2 q q2 (parted space space2 (name ++ colon ∷ id) (name2 ++ colon ∷ id2) p p2 (sym f ∙ e ∙ g)).1

single_spaces : (b b2 : Bool) (space space2 name id id2 : Text) → same space default_space ≡ b → same space2 default_space ≡ b2 → Plain space → Plain space2 → Plain name → space ≢ name → space2 ≢ name → raw_over b space name id ≡ raw_over b2 space2 name id2 → space ≡ space2
single_spaces true true space space2 name id id2 f g p p2 q a a2 e = same_is space default_space f ∙ sym (same_is space2 default_space g)
single_spaces true false space space2 name id id2 f g p p2 q a a2 e = absurd (a2 (sym (parted name space2 id (name ++ colon ∷ id2) q p2 e).0))
single_spaces false true space space2 name id id2 f g p p2 q a a2 e = absurd (a (parted space name (name ++ colon ∷ id) id2 p q e).0)
single_spaces false false space space2 name id id2 f g p p2 q a a2 e = (parted space space2 (name ++ colon ∷ id) (name ++ colon ∷ id2) p p2 e).0

-- and for single types one space
pub one_space : (kind kind2 : Kind) (space space2 name name2 id id2 : Text) → name ≡ name2 → Plain space → Plain space2 → Plain name → space ≢ name2 → space2 ≢ name → raw_id kind space name id ≡ raw_id kind2 space2 name2 id2 → kind ≡ Single → kind2 ≡ Single → space ≡ space2
one_space kind kind2 space space2 name name2 id id2 n p p2 q a a2 e k k2 =
    single_spaces (same space default_space) (same space2 default_space) space space2 name id id2 refl refl p p2 q (subst (λ x. space ≢ x) (sym n) a) a2
    (subst (λ x. raw_id Single space name id ≡ raw_id Single space2 x id2) (sym n) (subst (λ x. raw_id x space name id ≡ raw_id Single space2 name2 id2) k (subst (λ x. raw_id kind space name id ≡ raw_id x space2 name2 id2) k2 e)))

-- ---- names without a colon

plain_from : (test : ℕ → Bool) (text : Text) → test colon ≡ false → list_all test text ≡ true → Plain text
unfolding Plain
plain_from test [] fails all = tt
plain_from test (b ∷ text) fails all =
    let parts = and_parts (test b) (list_all test text) all in
    (λ e. true≢false (sym parts.0 ∙ ap test e ∙ fails), plain_from test text fails parts.1)

pub plain_type : (name : Text) → is_type_name name ≡ true → Plain name
unfolding is_type_name
plain_type name h =
    let parts = and_parts (nat_le 1 (length name) && nat_le (length name) 128 && list_all is_name_byte name) (not (is_document_member name)) h in
    plain_from is_name_byte name refl (and_parts (nat_le 1 (length name) && nat_le (length name) 128) (list_all is_name_byte name) parts.0).1

pub plain_space : (space : Text) → is_space_text space ≡ true → Plain space
plain_space space h = plain_from is_space_byte space refl (and_parts (nat_le 1 (length space) && nat_le (length space) 64) (list_all is_space_byte space) h).1
