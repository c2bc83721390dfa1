-- The plans of calls that read, on generations.
use Rattle.std.proofs.Common.{◌≡◌, Bool, true, false, Option, Some, None, List, [], ◌∷◌, refl, sym, ◌∙◌, ap, subst, if◌then◌else◌}
use Rattle.base_model.specs.Keyed.{Text, at}
use Rattle.race_model.specs.Stores.{Cell, Rows, Request, Reply, found, found_one}
use Rattle.race_model.specs.Stores.Request.{Ping, Get, Search}
use Rattle.race_model.specs.Generations.{Generation, Generations, get_in, search_in, told_by, left_by}
use Rattle.document_model.specs.Documents.{Doc}
use Rattle.document_model.specs.Registries.{Registry}
use Rattle.call_model.specs.Words.{Words}
use Rattle.query_model.specs.declared.parts.Target.{Target}
use Rattle.call_model.specs.Calls.{Find}
use Rattle.call_model.specs.declared.refuse.Refuse.{Refuse}
use Rattle.call_model.specs.declared.refuse.Refuse.TheVariants.{Busy}
use Rattle.call_model.specs.Calls.Answer.{Refused}
use Rattle.query_model.specs.Queries.{Query, select}
use Rattle.call_model.specs.Acts.{raw_of}
use Rattle.call_model.specs.Steps.{number_of, same_number, Look, all_refused, all_got, query_of, alias_of, alias_target, target_raw, resolved_by, resolve, refused, form, resolve_between}
use Rattle.call_model.specs.Steps.Look.{Refuses, At}
use Rattle.call_model.specs.Steps.Work.{Refusing, Looking, Searching, Following}
use Rattle.call_model.specs.Plans.{cell_of, looked_raws, looked, look_first, look_answer, page_answer, follow_target, follow_then, follow_between, follow_last, first_of_work, then_of_work, last_of_work}
use Rattle.call_model.specs.Plans.Next.{Answers}
use Rattle.call_model.specs.Scripts.{own}
use Rattle.call_laws.proofs.Items.{SameRow, same_self}
use Rattle.call_laws.proofs.Writing.{name, Done, Grown, Fate}

module _ {A O F : Type 0} (w : Words A O F) (reg : Registry O) where
  found_cell : (o : Option (Cell (Doc A))) (raw : Text) → cell_of (found_one o raw) ≡ o
  found_cell None raw = refl
  found_cell (Some c) raw = refl

  looked_found : (space : Text) (rows : Rows (Doc A)) (ls : List Look) → looked reg space ls (found rows (looked_raws reg space ls)) ≡ all_got reg space ls rows
  unfolding looked all_got
  looked_found space rows [] = refl
  looked_found space rows (Refuses r ∷ ls) = ap (λ x. Refused r ∷ x) (looked_found space rows ls)
  looked_found space rows (At t ∷ ls) = rw (found_cell (at (raw_of reg space t) rows) (raw_of reg space t), looked_found space rows ls) refl

  looked_none : (space : Text) (rows : Rows (Doc A)) (ls : List Look) → looked_raws reg space ls ≡ [] → looked reg space ls [] ≡ all_got reg space ls rows
  unfolding looked all_got
  looked_none space rows [] e = refl
  looked_none space rows (Refuses r ∷ ls) e = ap (λ x. Refused r ∷ x) (looked_none space rows ls e)
  looked_none space rows (At t ∷ ls) e = absurd (cc)

  refused_is : (space : Text) (ls : List Look) → looked_raws reg space ls ≡ [] → all_refused ls ≡ true
  refused_is space [] e = refl
  refused_is space (Refuses r ∷ ls) e = refused_is space ls e
  refused_is space (At t ∷ ls) e = absurd (cc)

  some_at_is : (space : Text) (ls : List Look) (raw : Text) (raws : List Text) → looked_raws reg space ls ≡ raw ∷ raws → all_refused ls ≡ false
  some_at_is space [] raw raws e = absurd (cc)
  some_at_is space (Refuses r ∷ ls) raw raws e = some_at_is space ls raw raws e
  some_at_is space (At t ∷ ls) raw raws e = refl

  pub fate_refusing : (r : Refuse) (gs : Generations (Doc A)) → Fate w reg (Refusing r) gs Ping (Answers (refused r))
  unfolding left_by
  fate_refusing r gs = record { answer = refl; effect = refl; keeps = tt }

  module _ (alone : Bool) (space : Text) (ls : List Look) (gs : Generations (Doc A)) where
    abbrev Claim : List Text → Type 0
    Claim raws = Done w reg (Looking alone space ls) gs gs (look_first w reg raws) (look_answer reg alone space raws ls (told_by (select w.holds) gs (look_first w reg raws)))

    fate_nothing : looked_raws reg space ls ≡ [] → Claim []
    unfolding left_by
    fate_nothing e = record {
      answer = rw (refused_is space ls e) (ap (form alone) (looked_none space [] ls e));
      effect = rw (refused_is space ls e) refl;
      keeps = tt;
    }

    fate_something : (raw : Text) (raws : List Text) → looked_raws reg space ls ≡ raw ∷ raws → Claim (raw ∷ raws)
    unfolding left_by told_by
    fate_something raw raws e = by (own w reg gs) refl
      where
        by : (o : Option (Generation (Doc A))) → own w reg gs ≡ o → Claim (raw ∷ raws)
        by None is = record { answer = rw (some_at_is space ls raw raws e, is) refl; effect = rw (some_at_is space ls raw raws e, is) refl; keeps = tt }
        by (Some g) is = record {
          answer = rw (some_at_is space ls raw raws e, is) (ap (form alone) (subst (λ x. looked reg space ls (found g.table.rows x) ≡ all_got reg space ls g.table.rows) e (looked_found space g.table.rows ls)));
          effect = rw (some_at_is space ls raw raws e, is) refl;
          keeps = tt;
        }

    pub fate_looking : Fate w reg (Looking alone space ls) gs (first_of_work w reg (Looking alone space ls)) (then_of_work w reg (Looking alone space ls) (told_by (select w.holds) gs (first_of_work w reg (Looking alone space ls))))
    fate_looking = by (looked_raws reg space ls) refl
      where
        by : (raws : List Text) → looked_raws reg space ls ≡ raws → Claim (looked_raws reg space ls)
        by [] e = subst Claim (sym e) (fate_nothing e)
        by (raw ∷ raws) e = subst Claim (sym e) (fate_something raw raws e)

  pub fate_searching : (space : Text) (f : Find) (gs : Generations (Doc A))
      → Fate w reg (Searching space f) gs (first_of_work w reg (Searching space f)) (then_of_work w reg (Searching space f) (told_by (select w.holds) gs (first_of_work w reg (Searching space f))))
  unfolding left_by told_by
  fate_searching space f gs = by (own w reg gs) refl
    where
      by : (o : Option (Generation (Doc A))) → own w reg gs ≡ o → Done w reg (Searching space f) gs gs (Search (name w reg) (query_of w reg space f)) (page_answer w reg space f (search_in (select w.holds) (own w reg gs) (name w reg) (query_of w reg space f)))
      by None is = record { answer = rw is refl; effect = rw is refl; keeps = tt }
      by (Some g) is = record { answer = rw is refl; effect = rw is refl; keeps = tt }

  module _ (space : Text) (q : Target) where
    abbrev exact : Rows (Doc A) → Option (Cell (Doc A))
    exact rows = at (raw_of reg space q) rows

    abbrev link : Rows (Doc A) → Option (Cell (Doc A))
    link rows = at (alias_of space q) rows

    abbrev ask : Request (Doc A) (Query F)
    ask = Get (name w reg) (raw_of reg space q ∷ alias_of space q ∷ [])

    -- both rows of a reply
    shown_rows : (rows : Rows (Doc A)) → follow_then w reg space q (Reply.Found (found rows (raw_of reg space q ∷ alias_of space q ∷ []))) ≡ follow_target w reg space q (alias_target w (link rows)) (exact rows)
    shown_rows rows = rw (found_cell (exact rows) (raw_of reg space q), found_cell (link rows) (alias_of space q)) refl

    decided_now : (rows : Rows (Doc A)) → alias_target w (link rows) ≡ None → resolved_by reg space q None (exact rows) (λ a. None) ≡ resolve_between w reg space q (number_of (link rows)) (number_of (link rows)) rows
    unfolding resolve
    decided_now rows e = rw (same_self (link rows), e) refl

    decided_later : (one two : Rows (Doc A)) (a : Target) → alias_target w (link one) ≡ Some a → SameRow (link one) (link two)
        → follow_between w reg space q (link one) (exact two) (link two) (at (target_raw a) two) ≡ resolve_between w reg space q (number_of (link one)) (number_of (link two)) two
    unfolding resolve
    decided_later one two a e s = by (same_number (number_of (link one)) (number_of (link two))) s
      where
        by : (b : Bool) → (b ≡ true → link one ≡ link two)
            → (if b then resolved_by reg space q (alias_target w (link two)) (exact two) (λ t. at (target_raw a) two) else refused (Busy (number_of (link one)) (number_of (link two)))) ≡ (if b then resolve w reg space q two else refused (Busy (number_of (link one)) (number_of (link two))))
        by true k = let t : alias_target w (link two) ≡ Some a = subst (λ x. alias_target w x ≡ Some a) (k refl) e in rw t refl
        by false k = refl

    last_rows : (one two : Rows (Doc A)) (a : Target)
        → follow_last w reg space q (Reply.Found (found one (raw_of reg space q ∷ alias_of space q ∷ []))) (Reply.Found (found two (raw_of reg space q ∷ alias_of space q ∷ target_raw a ∷ []))) ≡ follow_between w reg space q (link one) (exact two) (link two) (at (target_raw a) two)
    last_rows one two a =
        rw (found_cell (link one) (alias_of space q), found_cell (exact two) (raw_of reg space q), found_cell (link two) (alias_of space q), found_cell (at (target_raw a) two) (target_raw a)) refl

    fate_followed : (gs : Generations (Doc A)) (g : Generation (Doc A)) → own w reg gs ≡ Some g → (o : Option Target) → alias_target w (link g.table.rows) ≡ o → Fate w reg (Following space q) gs ask (follow_target w reg space q o (exact g.table.rows))
    unfolding left_by told_by
    fate_followed gs g is None e = record { answer = rw is (decided_now g.table.rows e); effect = rw is refl; keeps = tt }
    fate_followed gs g is (Some a) e = (refl, tt, later_done)
      where
        second : Request (Doc A) (Query F)
        second = Get (name w reg) (raw_of reg space q ∷ alias_of space q ∷ target_raw a ∷ [])

        later_done : (later : Generations (Doc A)) → Grown w reg gs later → Done w reg (Following space q) gs later second (last_of_work w reg (Following space q) (told_by (select w.holds) gs ask) (told_by (select w.holds) later second))
        later_done later grown =
            let more = grown.grown g is in
            record {
              answer = rw (is, more.1) (last_rows g.table.rows more.0.table.rows a ∙ decided_later g.table.rows more.0.table.rows a e (more.2 (alias_of space q)));
              effect = rw (is, more.1) refl;
              keeps = tt;
            }

    pub fate_following : (gs : Generations (Doc A)) → Fate w reg (Following space q) gs ask (follow_then w reg space q (told_by (select w.holds) gs ask))
    unfolding left_by told_by
    fate_following gs = by (own w reg gs) refl
      where
        Claim : Option (Generation (Doc A)) → Type 0
        Claim o = Fate w reg (Following space q) gs ask (follow_then w reg space q (get_in o (name w reg) (raw_of reg space q ∷ alias_of space q ∷ [])))

        by : (o : Option (Generation (Doc A))) → own w reg gs ≡ o → Claim (own w reg gs)
        by None is = subst Claim (sym is) (record { answer = rw is refl; effect = rw is refl; keeps = tt })
        by (Some g) is = subst Claim (sym is) (subst (Fate w reg (Following space q) gs ask) (sym (shown_rows g.table.rows)) (fate_followed gs g is (alias_target w (link g.table.rows)) refl))
