-- What it takes to go on holds at each stage of a plan.
use Rattle.std.proofs.Common.{◌≡◌, Bool, true, false, Option, Some, None, List, [], ◌∷◌, refl}
use Rattle.base_model.specs.Keyed.{Text}
use Rattle.race_model.specs.Stores.{Write, Reply}
use Rattle.race_model.specs.Stores.Reply.{Done, Seen, Pit, Selected, Found, Items}
use Rattle.document_model.specs.Documents.{Doc, lists}
use Rattle.document_model.specs.Registries.{Registry}
use Rattle.query_model.specs.declared.parts.Target.{Target}
use Rattle.so_js.specs.declared.js.Js.{Js}
use Rattle.transform_ops.specs.declared.op.Op.{Op}
use Rattle.call_model.specs.Calls.{Act, Call}
use Rattle.call_model.specs.Calls.Call.{Changing, BulkCreating, Getting, BulkGetting, Resolving, Finding}
use Rattle.call_model.specs.declared.refuse.Refuse.{Refuse}
use Rattle.call_model.specs.declared.refuse.Refuse.TheVariants.{BadSpace}
use Rattle.call_model.specs.Acts.{own_words, raw_of, target_of, is_space, bad_space}
use Rattle.call_model.specs.Steps.{Turn, Look, Work, turn_over, taken_after, turns, looks, creates, unless, unless_words, resolve_words, find_words, work_of}
use Rattle.call_model.specs.Steps.Work.{Writing, Looking, Searching, Following}
use Rattle.call_model.specs.Plans.{Ready, readied, raws_of, writes_of, all_blind, looked_raws}
use Rattle.call_words.specs.Product.{product_words}
use Rattle.object_answers.specs.Following.{followed}
use Rattle.object_answers.specs.declared.resolving.Followed.{Followed}
use Rattle.object_answers.specs.declared.resolving.Followed.TheVariants.{Answered, Leads}
use Rattle.object_items.specs.Judging.{AreJudgeable}
use Rattle.object_ops.specs.Stages.{Stage, sending, begun_writing, begun_looking, begun_work, begun, after_reading, after_following, went_on, CanGoOn}
use Rattle.object_ops.specs.Stages.Stage.{Known, Reads, Writes, Looks, Searches, Follows, Meets, Ended}
use Rattle.std.specs.Prelude.{not}

module _ (reg : Registry Op) where
  judgeable_over : (o : Option Refuse) (repeated : Bool) (raw : Text) (act : Act Js) (ts : List (Turn Js)) → own_words product_words reg act ≡ o → AreJudgeable reg ts → AreJudgeable reg (turn_over o repeated raw act ∷ ts)
  judgeable_over (Some r) repeated raw act ts is rest = rest
  judgeable_over None true raw act ts is rest = rest
  judgeable_over None false raw act ts is rest = (is, rest)

  -- the turns of acts can be judged
  pub judgeable : (space : Text) (taken : List Text) (acts : List (Act Js)) → AreJudgeable reg (turns product_words reg space taken acts)
  unfolding turns
  judgeable space taken [] = tt
  judgeable space taken (act ∷ acts) =
      judgeable_over (own_words product_words reg act) (lists (raw_of reg space (target_of act)) taken) (raw_of reg space (target_of act)) act
      (turns product_words reg space (taken_after (own_words product_words reg act) (raw_of reg space (target_of act)) taken) acts)
      refl (judgeable space (taken_after (own_words product_words reg act) (raw_of reg space (target_of act)) taken) acts)

  can_write : (alone : Bool) (space : Text) (blind : Bool) (raws : List Text) (ts : List (Turn Js)) → AreJudgeable reg ts → CanGoOn reg (begun_writing reg alone space blind raws ts).stage
  can_write alone space true [] ts can = tt
  can_write alone space false [] ts can = tt
  can_write alone space true (raw ∷ raws) ts can = tt
  can_write alone space false (raw ∷ raws) ts can = can

  can_look : (alone : Bool) (space : Text) (raws : List Text) (ls : List Look) → CanGoOn reg (begun_looking reg alone space raws ls).stage
  can_look alone space [] ls = tt
  can_look alone space (raw ∷ raws) ls = tt

  abbrev pub CanBegin : Work Js → Type 0
  CanBegin work = CanGoOn reg (begun_work reg work).stage

  can_unless : (bad : Bool) (r : Refuse) (work : Work Js) → CanBegin work → CanBegin (unless bad r work)
  can_unless true r work can = tt
  can_unless false r work can = can

  can_unless_words : (o : Option Refuse) (work : Work Js) → CanBegin work → CanBegin (unless_words o work)
  can_unless_words (Some r) work can = tt
  can_unless_words None work can = can

  can_write_acts : (alone : Bool) (space : Text) (acts : List (Act Js)) → CanBegin (Writing alone space (turns product_words reg space [] acts))
  can_write_acts alone space acts =
      let ts : List (Turn Js) = turns product_words reg space [] acts in can_write alone space (all_blind ts) (raws_of ts) ts (judgeable space [] acts)

  can_look_up : (alone : Bool) (space : Text) (ls : List Look) → CanBegin (Looking alone space ls)
  can_look_up alone space ls = can_look alone space (looked_raws reg space ls) ls

  pub can_begin : (call : Call Js) → CanGoOn reg (begun reg call).stage
  unfolding begun work_of
  can_begin (Changing space act) = can_unless (bad_space space act) BadSpace (Writing true space (turns product_words reg space [] (act ∷ []))) (can_write_acts true space (act ∷ []))
  can_begin (BulkCreating space objects overwrite time) =
      can_unless (not (is_space space)) BadSpace (Writing false space (turns product_words reg space [] (creates overwrite time objects))) (can_write_acts false space (creates overwrite time objects))
  can_begin (Getting space t) = can_unless (not (is_space space)) BadSpace (Looking true space (looks reg (t ∷ []))) (can_look_up true space (looks reg (t ∷ [])))
  can_begin (BulkGetting space ts) = can_unless (not (is_space space)) BadSpace (Looking false space (looks reg ts)) (can_look_up false space (looks reg ts))
  can_begin (Resolving space t) = can_unless_words (resolve_words reg space t) (Following space t) tt
  can_begin (Finding space f) = can_unless_words (find_words product_words reg space f) (Searching space f) tt

  can_send : (alone : Bool) (writes : List (Write (Doc Js))) (rs : List (Ready Js)) → CanGoOn reg (sending reg alone writes rs).stage
  can_send alone [] rs = tt
  can_send alone (x ∷ writes) rs = tt

  can_after : (alone : Bool) (space : Text) (ts : List (Turn Js)) (reply : Reply (Doc Js)) → CanGoOn reg (after_reading reg alone space ts reply).stage
  can_after alone space ts (Found rows) = can_send alone (writes_of (readied product_words reg space ts rows)) (readied product_words reg space ts rows)
  can_after alone space ts Done = tt
  can_after alone space ts (Seen indices aliases) = tt
  can_after alone space ts (Pit p) = tt
  can_after alone space ts (Selected total rows) = tt
  can_after alone space ts (Items items) = tt
  can_after alone space ts (Reply.Refused why) = tt

  can_meet : (space : Text) (q : Target) (told : Followed) → CanGoOn reg (after_following reg space q told).stage
  can_meet space q (Answered answer) = tt
  can_meet space q (Leads seen goal) = tt

  pub can_go_on : (stage : Stage) (reply : Reply (Doc Js)) → CanGoOn reg (went_on reg stage reply).stage
  unfolding went_on
  can_go_on (Known answer) reply = tt
  can_go_on (Reads alone space ts) reply = can_after alone space ts reply
  can_go_on (Writes alone rs) reply = tt
  can_go_on (Looks alone space ls) reply = tt
  can_go_on (Searches page per_page) reply = tt
  can_go_on (Follows space q) reply = can_meet space q (followed reg space q reply)
  can_go_on (Meets space q seen) reply = tt
  can_go_on (Ended answer) reply = tt
