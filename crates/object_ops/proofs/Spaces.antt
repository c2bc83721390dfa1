-- The space that a call names, and calls that are refused for it.
use Rattle.std.proofs.Common.{◌≡◌, Bool, true, false, Option, Some, None, Result, List, [], ◌∷◌, refl, sym, ◌∙◌, ap, subst, if◌then◌else◌, option_map}
use Rattle.std.specs.Prelude.{not, ◌&&◌, IfOk}
use Rattle.std.proofs.lemmas.Result.{IfOk-weaker}
use Rattle.base_model.specs.Keyed.{Text}
use Rattle.document_model.specs.Registries.{Registry}
use Rattle.query_model.specs.declared.parts.Target.{Target}
use Rattle.so_js.specs.declared.js.Js.{Js}
use Rattle.space_scope.specs.Spaces.{space_text}
use Rattle.space_scope.specs.declared.space.Space.{Space}
use Rattle.transform_ops.specs.declared.op.Op.{Op}
use Rattle.call_model.specs.Calls.{Act}
use Rattle.call_model.specs.Calls.Act.{Share}
use Rattle.call_model.specs.Calls.Call.{Changing, Resolving}
use Rattle.call_model.specs.declared.refuse.Refuse.{Refuse}
use Rattle.call_model.specs.declared.refuse.Refuse.TheVariants.{BadSpace, UnsupportedType, BadId}
use Rattle.call_model.specs.Acts.{is_space, all_spaces_or_all, bad_space, first_of, is_unknown, bad_id}
use Rattle.call_model.specs.Steps.{Work, look_words, turns, unless, unless_words, work_of}
use Rattle.call_model.specs.Steps.Work.{Refusing, Writing, Following}
use Rattle.call_words.specs.Product.{product_words}
use Rattle.object_ops.specs.Stages.{Progress, begun, begun_work}
use Rattle.object_ops.specs.Mapped.{progress_of}
use Rattle.object_ops.specs.declared.plan.Plan.{Plan}

none_if : (b : Bool) (text : Text) → (if b then Some text else None) ≡ None → b ≡ false
none_if true text e = absurd (cc)
none_if false text e = refl

some_if : (b : Bool) (text own : Text) → Some own ≡ (if b then Some text else None) → (b ≡ true) × (own ≡ text)
some_if true text own e = (refl, cc)
some_if false text own e = absurd (cc)

-- the text that was read is no space
pub no_space : (read : Option Space) (text space : Text) → option_map space_text read ≡ (if is_space text then Some text else None) → read ≡ None → text ≡ space → is_space space ≡ false
no_space read text space e none same = subst (λ t. is_space t ≡ false) same (none_if (is_space text) text (sym e ∙ ap (λ r. option_map space_text r) none))

-- the space that was read has the text
pub space_read : (read : Option Space) (own : Space) (text space : Text) → option_map space_text read ≡ (if is_space text then Some text else None) → read ≡ Some own → text ≡ space → (is_space space ≡ true) × (space_text own ≡ space)
space_read read own text space e some same = subst (λ t. (is_space t ≡ true) × (space_text own ≡ t)) same (some_if (is_space text) text (space_text own) (ap (λ r. option_map space_text r) (sym some) ∙ e))

module _ (reg : Registry Op) where
  pub refused_for_space : (space : Text) (work : Work Js) (progress : Progress) → is_space space ≡ false → progress ≡ begun_work reg (Refusing BadSpace) → progress ≡ begun_work reg (unless (not (is_space space)) BadSpace work)
  refused_for_space space work progress e p = subst (λ b. progress ≡ begun_work reg (unless (not b) BadSpace work)) (sym e) p

  -- a call that its words refuse
  pub refused_by : (words : Option Refuse) (r : Refuse) (work : Work Js) (progress : Progress) → Some r ≡ words → progress ≡ begun_work reg (Refusing r) → progress ≡ begun_work reg (unless_words words work)
  refused_by words r work progress e p = subst (λ o. progress ≡ begun_work reg (unless_words o work)) e p

  -- a share that is refused for one of its spaces
  pub change_refused : (text space : Text) (act : Act Js) (progress : Progress) (bad : Bool) → bad ≡ bad_space text act → bad ≡ true → text ≡ space → progress ≡ begun_work reg (Refusing BadSpace) → progress ≡ begun reg (Changing space act)
  unfolding begun work_of
  change_refused text space act progress bad e is same p =
      let b : bad_space space act ≡ true = subst (λ t. bad_space t act ≡ true) same (sym e ∙ is) in
      subst (λ x. progress ≡ begun_work reg (unless x BadSpace (Writing true space (turns product_words reg space [] (act ∷ []))))) (sym b) p

  good_space : (a b c : Bool) → not (a && b && c) ≡ false → a ≡ true
  good_space true b c e = refl
  good_space false true true e = absurd (cc)
  good_space false true false e = absurd (cc)
  good_space false false true e = absurd (cc)
  good_space false false false e = absurd (cc)

  -- a share whose spaces are good
  pub share_begun : {E : Type 0} (r : Result Plan E) (text space : Text) (t : Target) (add remove : List Text) (time : Option Text) (acts : List (Act Js)) (bad : Bool)
      → bad ≡ bad_space {A = Js} text (Share t add remove time) → bad ≡ false → text ≡ space → acts ≡ Share t add remove time ∷ []
      → IfOk r (λ plan. progress_of plan ≡ begun_work reg (unless (not (is_space space)) BadSpace (Writing true space (turns product_words reg space [] acts))))
      → IfOk r (λ plan. progress_of plan ≡ begun reg (Changing space (Share t add remove time)))
  unfolding begun work_of
  share_begun r text space t add remove time acts bad e is same made h =
      let b : bad_space {A = Js} space (Share t add remove time) ≡ false = subst (λ x. bad_space {A = Js} x (Share t add remove time) ≡ false) same (sym e ∙ is) in
      let s : is_space space ≡ true = good_space (is_space space) (all_spaces_or_all add) (all_spaces_or_all remove) b in
      let work : List (Act Js) → Work Js = λ all. Writing true space (turns product_words reg space [] all) in
      let good : begun_work reg (unless (not (is_space space)) BadSpace (work acts)) ≡ begun_work reg (work acts) = ap (λ x. begun_work reg (unless (not x) BadSpace (work acts))) s in
      let one : begun_work reg (work acts) ≡ begun_work reg (work (Share t add remove time ∷ [])) = ap (λ all. begun_work reg (work all)) made in
      let whole : begun_work reg (unless (bad_space {A = Js} space (Share t add remove time)) BadSpace (work (Share t add remove time ∷ []))) ≡ begun_work reg (work (Share t add remove time ∷ [])) = ap (λ x. begun_work reg (unless x BadSpace (work (Share t add remove time ∷ [])))) b in
      IfOk-weaker r (λ plan. progress_of plan ≡ begun_work reg (unless (not (is_space space)) BadSpace (work acts)))
      (λ plan. progress_of plan ≡ begun_work reg (unless (bad_space {A = Js} space (Share t add remove time)) BadSpace (work (Share t add remove time ∷ []))))
      (λ plan p. p ∙ (good ∙ (one ∙ sym whole))) h

  abbrev words_of : Bool → Target → Option Refuse
  words_of is t = first_of ((not is, BadSpace) ∷ (is_unknown reg t.type_name, UnsupportedType) ∷ (bad_id t.id, BadId) ∷ [])

  -- a resolve that is refused for its space
  pub resolve_refused : (space : Text) (t : Target) (progress : Progress) → is_space space ≡ false → progress ≡ begun_work reg (Refusing BadSpace) → progress ≡ begun reg (Resolving space t)
  unfolding begun work_of
  resolve_refused space t progress e p = subst (λ b. progress ≡ begun_work reg (unless_words (words_of b t) (Following space t))) (sym e) p

  -- a resolve in a space
  pub resolve_begun : {E : Type 0} (r : Result Plan E) (own space : Text) (t : Target) → is_space space ≡ true → own ≡ space
      → IfOk r (λ plan. progress_of plan ≡ begun_work reg (unless_words (look_words reg t) (Following own t)))
      → IfOk r (λ plan. progress_of plan ≡ begun reg (Resolving space t))
  unfolding begun work_of
  resolve_begun r own space t e same h =
      let there : begun_work reg (unless_words (look_words reg t) (Following own t)) ≡ begun_work reg (unless_words (look_words reg t) (Following space t)) = ap (λ s. begun_work reg (unless_words (look_words reg t) (Following s t))) same in
      let words : begun_work reg (unless_words (words_of (is_space space) t) (Following space t)) ≡ begun_work reg (unless_words (look_words reg t) (Following space t)) = ap (λ b. begun_work reg (unless_words (words_of b t) (Following space t))) e in
      IfOk-weaker r (λ plan. progress_of plan ≡ begun_work reg (unless_words (look_words reg t) (Following own t)))
      (λ plan. progress_of plan ≡ begun_work reg (unless_words (words_of (is_space space) t) (Following space t)))
      (λ plan p. p ∙ (there ∙ sym words)) h
