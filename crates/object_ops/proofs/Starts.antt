-- How calls begin, by what is left to ask.
use Rattle.std.proofs.Common.{◌≡◌, Bool, true, false, Option, Some, None, Result, Ok, Err, List, [], ◌∷◌, length, refl, sym, ◌∙◌, ap, subst, arith, ◌==◌}
use Rattle.std.specs.Prelude.{IfOk}
use Rattle.std.proofs.lemmas.Bool.{eqb-true}
use Rattle.base_model.specs.Keyed.{Text}
use Rattle.race_model.specs.Stores.{Request}
use Rattle.race_model.specs.Stores.Request.{Get, Search}
use Rattle.document_model.specs.Documents.{Doc}
use Rattle.document_model.specs.Registries.{Registry}
use Rattle.query_model.specs.Queries.{Query}
use Rattle.so_js.specs.declared.js.Js.{Js}
use Rattle.transform_ops.specs.declared.op.Op.{Op}
use Rattle.raw_id.specs.IndexNames.{version_alias}
use Rattle.store_words.specs.Words.{TextQuery}
use Rattle.call_model.specs.Calls.{Find}
use Rattle.call_model.specs.Calls.Call.{Finding}
use Rattle.call_model.specs.declared.refuse.Refuse.{Refuse}
use Rattle.call_model.specs.Steps.{Turn, Look, find_words, query_of, unless_words, work_of}
use Rattle.call_model.specs.Steps.Work.{Refusing, Writing, Searching}
use Rattle.call_model.specs.Plans.{raws_of, all_blind, looked_raws}
use Rattle.call_words.specs.Asking.{asked_over, search_in}
use Rattle.call_words.specs.Product.{product_words}
use Rattle.call_words.specs.declared.finding.Asked.{Asked}
use Rattle.object_ops.specs.Stages.{Progress, asking, begun_writing, begun_looking, begun_work, begun}
use Rattle.object_ops.specs.Stages.Stage.{Looks, Searches}
use Rattle.object_ops.specs.Mapped.{progress_of}
use Rattle.object_ops.specs.declared.plan.Plan.{Plan}

none_left : (raws : List Text) → (length raws == 0) ≡ true → raws ≡ []
none_left [] e = refl
none_left (raw ∷ raws) e = let n : length (raw ∷ raws) ≡ 0 = eqb-true (length (raw ∷ raws)) 0 e in absurd (omega arith)

module _ (reg : Registry Op) (alone : Bool) (space : Text) where
  -- no item is left to judge
  pub settled_begun : {E : Type 0} (r : Result Plan E) (ts : List (Turn Js)) (raws : List Text) (is_empty : Bool) → is_empty ≡ (length raws == 0) → is_empty ≡ true → raws ≡ raws_of ts
      → ((blind : Bool) → IfOk r (λ plan. progress_of plan ≡ begun_writing reg alone space blind [] ts)) → IfOk r (λ plan. progress_of plan ≡ begun_work reg (Writing alone space ts))
  settled_begun r ts raws is_empty e is same h =
      subst (λ x. IfOk r (λ plan. progress_of plan ≡ begun_writing reg alone space (all_blind ts) x ts)) (sym (none_left raws (sym e ∙ is)) ∙ same) (h (all_blind ts))

  -- no item that is left to judge reads
  pub blind_begun : {E : Type 0} (r : Result Plan E) (ts : List (Turn Js)) (raws : List Text) (is_empty blind : Bool) → is_empty ≡ (length raws == 0) → is_empty ≡ false → raws ≡ raws_of ts → blind ≡ all_blind ts → blind ≡ true
      → ((raw : Text) (rest : List Text) → IfOk r (λ plan. progress_of plan ≡ begun_writing reg alone space true (raw ∷ rest) ts)) → IfOk r (λ plan. progress_of plan ≡ begun_work reg (Writing alone space ts))
  blind_begun r ts [] is_empty blind e is same b t h = absurd (cc)
  blind_begun r ts (raw ∷ rest) is_empty blind e is same b t h =
      subst (λ x. IfOk r (λ plan. progress_of plan ≡ begun_writing reg alone space x (raws_of ts) ts)) (sym t ∙ b)
      (subst (λ x. IfOk r (λ plan. progress_of plan ≡ begun_writing reg alone space true x ts)) same (h raw rest))

  -- a target is left to look up
  pub look_begun : (ls : List Look) (raws : List Text) (is_empty : Bool) (ask : Request (Doc Js) TextQuery) (progress : Progress) → is_empty ≡ (length raws == 0) → is_empty ≡ false → raws ≡ looked_raws reg space ls
      → ask ≡ Get (version_alias reg.version) raws → progress ≡ asking ask (Looks alone space ls) → progress ≡ begun_looking reg alone space (looked_raws reg space ls) ls
  look_begun ls [] is_empty ask progress e is same a p = absurd (cc)
  look_begun ls (raw ∷ raws) is_empty ask progress e is same a p =
      subst (λ x. progress ≡ begun_looking reg alone space x ls) same (p ∙ ap (λ x. asking x (Looks alone space ls)) a)

query_found : (o : Option Refuse) (query asked : Query Text) → Ok asked ≡ asked_over o query → (o ≡ None) × (asked ≡ query)
query_found None query asked e = (refl, cc)
query_found (Some refusal) query asked e = absurd (cc)

refusal_found : (o : Option Refuse) (query : Query Text) (refusal : Refuse) → Err refusal ≡ asked_over o query → o ≡ Some refusal
refusal_found None query refusal e = absurd (cc)
refusal_found (Some other) query refusal e = cc

module _ (reg : Registry Op) (text space : Text) (f : Find) (asked : Asked) (e : search_in asked ≡ asked_over (find_words product_words reg text f) (query_of product_words reg text f)) (same : text ≡ space) where
  in_space : search_in asked ≡ asked_over (find_words product_words reg space f) (query_of product_words reg space f)
  in_space = subst (λ s. search_in asked ≡ asked_over (find_words product_words reg s f) (query_of product_words reg s f)) same e

  -- a find that its words don't refuse
  pub search_begun : (query : Query Text) → search_in asked ≡ Ok query → asking (Search (version_alias reg.version) query) (Searches f.page f.per_page) ≡ begun reg (Finding space f)
  unfolding begun work_of
  search_begun query is =
      let found = query_found (find_words product_words reg space f) (query_of product_words reg space f) query (sym is ∙ in_space) in
      ap (λ q. asking (Search (version_alias reg.version) q) (Searches f.page f.per_page)) found.1
      ∙ sym (ap (λ o. begun_work reg (unless_words o (Searching space f))) found.0)

  -- a find that its words refuse
  pub find_refused : (refusal : Refuse) → search_in asked ≡ Err refusal → begun_work reg (Refusing refusal) ≡ begun reg (Finding space f)
  unfolding begun work_of
  find_refused refusal is =
      sym (ap (λ o. begun_work reg (unless_words o (Searching space f))) (refusal_found (find_words product_words reg space f) (query_of product_words reg space f) refusal (sym is ∙ in_space)))
