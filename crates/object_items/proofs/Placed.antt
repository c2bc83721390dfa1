-- Items of a call that writes, one after another.
use Rattle.std.proofs.Common.{◌≡◌, ◌||◌, not, List, [], ◌∷◌, ◌++◌, Bool, true, false, Option, Some, None, Ordering, Less, Equal, Greater, map, refl, sym, ap, subst, ◌∙◌, if◌then◌else◌}
use Rattle.std.specs.List.{list_any}
use Rattle.std.specs.Str.{bytes_eq}
use Rattle.std.specs.Ordering.{nat_cmp, is_eq, match_ordering}
use Rattle.std.specs.BTreeMap.{is_at}
use Rattle.std.specs.BTreeSet.{insert_key}
use Rattle.std.specs.Cmp.Lexicographic.{slice_cmp}
use Rattle.std.proofs.lemmas.Map.Text.{is_eq-slice_cmp}
use Rattle.std.proofs.lemmas.Slice.Eq.{bytes_eq-Decides}
use Rattle.base_model.specs.Keyed.{Text, same}
use Rattle.document_model.specs.Documents.{lists}
use Rattle.document_model.specs.Registries.{Registry}
use Rattle.so_js.specs.declared.js.Js.{Js}
use Rattle.transform_ops.specs.declared.op.Op.{Op}
use Rattle.call_model.specs.Calls as calls
use Rattle.call_model.specs.declared.refuse.Refuse.{Refuse}
use Rattle.call_model.specs.Acts.{own_words, raw_of, target_of}
use Rattle.call_model.specs.Steps as steps
use Rattle.call_model.specs.Steps.{turn_over, taken_after}
use Rattle.call_words.specs.Product.{product_words}
use Rattle.object_acts.specs.declared.acts.Act.{Act}
use Rattle.object_acts.specs.Mapped.{act_of}
use Rattle.object_items.specs.declared.placing.Turn.{Turn}
use Rattle.object_items.specs.Mapped.{turn_of}
use Rattle.object_items.specs.Turning.{turn_after, taken_by, AreSame}
use Rattle.object_items.proofs.Lists.{map_pushed}

-- ---- raw ids that are taken

same_after : (raw : Text) (a b : List Text) → AreSame a b → AreSame (raw ∷ a) (raw ∷ b)
unfolding lists
same_after raw a b h = record { same = λ text. ap (λ (found : Bool). if same text raw then true else found) (h.same text) }

same_taken : (own : Option Refuse) (raw : Text) (a b : List Text) → AreSame a b → AreSame (taken_after own raw a) (taken_after own raw b)
same_taken (Some refusal) raw a b h = h
same_taken None raw a b h = same_after raw a b h

turns_same : (reg : Registry Op) (space : Text) (a b : List Text) (acts : List (calls.Act Js)) → AreSame a b → steps.turns product_words reg space a acts ≡ steps.turns product_words reg space b acts
unfolding steps.turns
turns_same reg space a b [] h = refl
turns_same reg space a b (act ∷ acts) h =
    let own = own_words product_words reg act in
    let raw = raw_of reg space (target_of act) in
    ap (λ (found : Bool). turn_over own found raw act ∷ steps.turns product_words reg space (taken_after own raw a) acts) (h.same raw)
    ∙ ap (λ (turns : List (steps.Turn Js)). turn_over own (lists raw b) raw act ∷ turns) (turns_same reg space (taken_after own raw a) (taken_after own raw b) acts (same_taken own raw a b h))

-- one item further
pub turns_on : (reg : Registry Op) (space : Text) (turns next : List Turn) (turn : Turn) (taken new : List Text) (act : Act) (acts : List Act) (whole : List (steps.Turn Js))
    → map turn_of turns ++ steps.turns product_words reg space taken (map act_of (act ∷ acts)) ≡ whole
    → turn_of turn ≡ turn_after reg space taken (act_of act) → AreSame new (taken_by reg space taken (act_of act)) → next ≡ turns ++ turn ∷ []
    → map turn_of next ++ steps.turns product_words reg space new (map act_of acts) ≡ whole
unfolding steps.turns
turns_on reg space turns next turn taken new act acts whole before is same pushed =
    let later = steps.turns product_words reg space (taken_by reg space taken (act_of act)) (map act_of acts) in
    ap (λ (all : List Turn). map turn_of all ++ steps.turns product_words reg space new (map act_of acts)) pushed
    ∙ ap (λ (rest : List (steps.Turn Js)). map turn_of (turns ++ turn ∷ []) ++ rest) (turns_same reg space new (taken_by reg space taken (act_of act)) (map act_of acts) same)
    ∙ map_pushed turn_of turns turn later
    ∙ ap (λ (one : steps.Turn Js). map turn_of turns ++ one ∷ later) is
    ∙ before

-- ---- a set of raw ids as a list

same_order : (a b : Text) → is_eq (slice_cmp nat_cmp a b) ≡ same a b
unfolding same
same_order a b = is_eq-slice_cmp a b

or_if : (a b : Bool) → a || b ≡ (if a then true else b)
or_if true b = refl
or_if false b = refl

any_lists : (raw : Text) (raws : List Text) → list_any (is_at (slice_cmp nat_cmp raw)) raws ≡ lists raw raws
unfolding lists
any_lists raw [] = refl
any_lists raw (r ∷ raws) =
    ap (λ (here : Bool). here || list_any (is_at (slice_cmp nat_cmp raw)) raws) (same_order raw r)
    ∙ ap (λ (there : Bool). same raw r || there) (any_lists raw raws)
    ∙ or_if (same raw r) (lists raw raws)

-- a raw id is free where the set lacks it
pub is_free : (raw key : Text) (raws keys : List Text) (free : Bool) → key ≡ raw → keys ≡ raws → free ≡ not (list_any (is_at (slice_cmp nat_cmp key)) keys) → free ≡ not (lists raw raws)
is_free raw key raws keys free own all h =
    h
    ∙ ap not (any_lists key keys)
    ∙ ap (λ (k : Text). not (lists k keys)) own
    ∙ ap (λ (ks : List Text). not (lists raw ks)) all

twice : (a b : Bool) → (if a then true else b) ≡ (if a then true else if a then true else b)
twice true b = refl
twice false b = refl

turned : (a b c : Bool) → (if a then true else if b then true else c) ≡ (if b then true else if a then true else c)
turned true true c = refl
turned true false c = refl
turned false true c = refl
turned false false c = refl

lists_inserted : (text raw : Text) (raws : List Text) → lists text (insert_key (slice_cmp nat_cmp) raws raw) ≡ lists text (raw ∷ raws)
unfolding lists
lists_inserted text raw [] = refl
lists_inserted text raw (r ∷ raws) = by (lists_inserted text raw raws) (slice_cmp nat_cmp raw r) refl
  where
    by : lists text (insert_key (slice_cmp nat_cmp) raws raw) ≡ lists text (raw ∷ raws) → (order : Ordering) → slice_cmp nat_cmp raw r ≡ order
        → lists text (match_ordering order (raw ∷ r ∷ raws) (r ∷ raws) (r ∷ insert_key (slice_cmp nat_cmp) raws raw)) ≡ lists text (raw ∷ r ∷ raws)
    by later Less is = refl
    by later Equal is =
        let equal : bytes_eq raw r ≡ true = sym (is_eq-slice_cmp raw r) ∙ ap is_eq is in
        let own : raw ≡ r = (bytes_eq-Decides raw r).0 equal in
        subst (λ (first : Text). lists text (r ∷ raws) ≡ lists text (first ∷ r ∷ raws)) (sym own) (twice (same text r) (lists text raws))
    by later Greater is =
        ap (λ (found : Bool). if same text r then true else found) later
        ∙ turned (same text r) (same text raw) (lists text raws)

-- the set with one more raw id
pub are_same : (raw key : Text) (raws keys new : List Text) → key ≡ raw → keys ≡ raws → new ≡ insert_key (slice_cmp nat_cmp) keys key → AreSame new (raw ∷ raws)
are_same raw key raws keys new own all is = record {
  same = λ text.
      ap (lists text) is
      ∙ lists_inserted text key keys
      ∙ ap (λ (k : Text). lists text (k ∷ keys)) own
      ∙ ap (λ (ks : List Text). lists text (raw ∷ ks)) all;
}
