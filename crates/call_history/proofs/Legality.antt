-- Every journal that conforms is legal.
use Rattle.std.proofs.Common.{◌≡◌, ◌≢◌, ℕ, zero, suc, ◌+◌, Bool, true, false, Option, Some, None, List, [], ◌∷◌, ◌++◌, length, map, refl, sym, ◌∙◌, ap, subst, arith, ◌==◌}
use Rattle.std.proofs.lemmas.Bool.Decides.{nat_tests}
use Rattle.std.proofs.lemmas.List.{length-append}
use mathlib.Core.Logic.◌⊎◌.{inl, inr}
use Rattle.base_model.specs.Keyed.{Text}
use Rattle.race_model.specs.Stores.{Request, Store, serve}
use Rattle.race_model.specs.Machines.{Settings}
use Rattle.race_model.specs.Generations.{Generations, Move, told_by, left_by, move}
use Rattle.race_model.specs.Generations.Move.{Stay, Migrate, Install}
use Rattle.race_model.specs.Worlds.{Race, Actor, How, Entry, Caller, nth, with_nth, callers_of}
use Rattle.race_model.specs.Worlds.Actor.{Instance, Client}
use Rattle.race_model.specs.Worlds.How.{Heard, Unheard, Late}
use Rattle.race_model.specs.Journals.{Has, Trace, MayClient, MayMake, MayCome, Conforms, caller_after, callers_after, follow_over, followed}
use Rattle.race_model.specs.History.{Fact, FoundSoFar, migrated_fact, installed_fact, facts_of, found_after}
use Rattle.race_model.specs.Runs.{MayMove, CanMigrate, EntryIs, fact_of, IsRun}
use Rattle.race_follow.proofs.Following.{nth_here, nth_other}
use Rattle.document_model.specs.Documents.{Doc}
use Rattle.query_model.specs.Queries.{Query, select}
use Rattle.call_model.specs.Words.{Words}
use Rattle.call_model.specs.Scripts.{Script, clients}
use Rattle.call_model.specs.History.{HistoryFact, entries_of, Fits, EntryHas, HistoryIs, Past, RunIs, EntryConforms, callers_past, ClientsConform}
use Rattle.call_model.specs.History.HistoryFact.{Changed}
use Rattle.call_laws.specs.Meanings.{AsksOnly}
use Rattle.call_laws.proofs.Keeping.{script_asks_only}
use Rattle.call_effects.proofs.Replying.{IsClients, told_fits, query_limits}
use Rattle.call_history.specs.Plans.{MayBeMade, Reaches, Plans}
use Rattle.call_history.proofs.Entries.{no_client, other_client, found_place}
use Rattle.call_history.proofs.Standing.{may_of, one_more, Stand, AllStand, Onward, stand_other}
use Rattle.call_history.proofs.Deciding.{Step, Level, step_stood, step_level, Left, client_left}

-- what clients send
is_clients : {A F : Type 0} (alias : Text) (ask : Request (Doc A) (Query F)) → AsksOnly alias ask → IsClients ask
is_clients alias Request.Ping o = tt
is_clients alias (Request.Get n raws) o = tt
is_clients alias (Request.Search n q) o = tt
is_clients alias (Request.Bulk n writes) o = tt
is_clients alias Request.State o = absurd o
is_clients alias (Request.Create n from) o = absurd o
is_clients alias (Request.Block n) o = absurd o
is_clients alias (Request.Clone n m) o = absurd o
is_clients alias (Request.OpenPit n) o = absurd o
is_clients alias (Request.ReadPit p q) o = absurd o
is_clients alias (Request.ClosePit p) o = absurd o
is_clients alias (Request.Aliases actions) o = absurd o

-- one call or several steps and the rest of a run
run_with : {A O F : Type 0} (w : Words A O F) (sets : List (Settings (Doc A) (Query F))) (scripts : List (Script A O)) (opening : Generations (Doc A)) (place : ℕ) (here rest : List (HistoryFact A)) (past past2 : Past (Doc A)) (gs gs2 : Generations (Doc A))
    → Step w sets scripts opening place here past gs past2 gs2 → RunIs w sets scripts opening past2 gs2 rest → RunIs w sets scripts opening past gs (here ++ rest)
unfolding RunIs
run_with w sets scripts opening place here rest past past2 gs gs2 (inl n) r =
    subst (λ x. RunIs w sets scripts opening past gs (x ++ rest)) (sym n.0) (subst (λ x. RunIs w sets scripts opening x gs rest) n.1 (subst (λ x. RunIs w sets scripts opening past2 x rest) n.2 r))
run_with w sets scripts opening place here rest past past2 gs gs2 (inr s) r =
    subst (λ x. RunIs w sets scripts opening past gs (x ++ rest)) (sym s.1)
    (gs2, s.3, subst (λ x. RunIs w sets scripts opening ((x, gs2) ∷ past) gs2 rest) (sym s.2) (subst (λ x. RunIs w sets scripts opening x gs2 rest) s.4 r))

module _ {A O F : Type 0} (w : Words A O F) (settings : ℕ → Settings (Doc A) (Query F)) (sets : List (Settings (Doc A) (Query F))) (scripts : List (Script A O)) (opening : Generations (Doc A)) (version_in : Text → Option Text) (current : Text)
    (in_sets : (i : ℕ) → Has (settings i) sets) (versions : (i : ℕ) → (text : Text) × (version_in (settings i).target ≡ Some text)) (plans : Plans {O = O} w settings opening) where
  abbrev pub race : Race (Doc A) (Query F) (Script A O)
  race = record { select = select w.holds; settings = settings; clients = clients w }

  -- what one entry leaves
  record Turned (callers : List (Caller (Script A O))) (before : List (Entry (Doc A) (Query F))) (f : FoundSoFar) (past : Past (Doc A)) (gs gs2 : Generations (Doc A)) (e : Entry (Doc A) (Query F)) (actor : Actor) (m : Move (Doc A) (Query F)) : Type 0 where
    facts : List (HistoryFact A)
    has : EntryHas w version_in current scripts before f e actor facts
    past2 : Past (Doc A)
    step : Step w sets scripts opening f.place facts past gs past2 gs2
    conforms : EntryConforms w callers e actor
    stands : AllStand w settings opening scripts (before ++ e ∷ []) past2 gs2 (f.place + 1) (callers_past w callers e actor)
    may : MayBeMade settings gs m

  -- the step of an instance's move
  record Stepped (f : FoundSoFar) (past : Past (Doc A)) (gs gs2 : Generations (Doc A)) (facts : List Fact) : Type 0 where
    past2 : Past (Doc A)
    step : Step w sets scripts opening f.place (map Changed facts) past gs past2 gs2

  move_step : (i : ℕ) (f : FoundSoFar) (past : Past (Doc A)) (gs : Generations (Doc A)) (m : Move (Doc A) (Query F)) → MayMove (settings i) gs m → Stepped f past gs (move gs m) (fact_of version_in f.place m)
  move_step i f past gs Stay may = record { past2 = past; step = inl (refl, refl, refl) }
  move_step i f past gs Move.Block may = record {
    past2 = (f.place, move {Q = Query F} gs Move.Block) ∷ past;
    step = inr (Changed (Fact.Block f.place), refl, refl, (may.0, may.1, may.2, refl), refl);
  }
  move_step i f past gs (Migrate v) may =
      let is : v ≡ settings i = may.0 in
      let text = versions i in
      let known : version_in v.target ≡ Some text.0 = ap (λ (x : Settings (Doc A) (Query F)). version_in x.target) is ∙ text.1 in
      subst (λ x. Stepped f past gs (move gs (Migrate v)) (migrated_fact x f.place v.target)) (sym known) (record {
        past2 = (f.place, move gs (Migrate v)) ∷ past;
        step = inr (Changed (Fact.Migrate f.place v.target text.0), refl, refl, (v, subst (λ x. Has x sets) (sym is) (in_sets i), refl, subst (λ x. CanMigrate x gs) (sym is) may.1, refl), refl);
      })
  move_step i f past gs (Install v) may =
      let is : v ≡ settings i = may.0 in
      let text = versions i in
      let known : version_in v.target ≡ Some text.0 = ap (λ (x : Settings (Doc A) (Query F)). version_in x.target) is ∙ text.1 in
      subst (λ x. Stepped f past gs (move gs (Install v)) (installed_fact x f.place v.target)) (sym known) (record {
        past2 = (f.place, move gs (Install v)) ∷ past;
        step = inr (Changed (Fact.Install f.place v.target text.0), refl, refl, (v, subst (λ x. Has x sets) (sym is) (in_sets i), refl, may.1, refl), refl);
      })
  move_step i f past gs (Move.Ask ask) may = absurd may

  onward : (f : FoundSoFar) (past past2 : Past (Doc A)) (gs : Generations (Doc A)) (m : Move (Doc A) (Query F)) (facts : List (HistoryFact A)) → MayBeMade settings gs m → Step w sets scripts opening f.place facts past gs past2 (move gs m) → Onward w settings opening past past2 gs (move gs m) f.place
  onward f past past2 gs m facts may step = record {
    reach = λ seen r. one_more settings seen gs m r may;
    stood = λ p l. step_stood w sets scripts opening f.place facts past past2 gs (move gs m) step p l;
  }

  instance_turned : (callers : List (Caller (Script A O))) (before : List (Entry (Doc A) (Query F))) (f : FoundSoFar) (past : Past (Doc A)) (gs : Generations (Doc A)) (e : Entry (Doc A) (Query F)) (i : ℕ) (m : Move (Doc A) (Query F)) → e.actor ≡ Instance i
      → MayMove (settings i) gs m → facts_of current version_in f e.request e.reply ≡ fact_of version_in f.place m → AllStand w settings opening scripts before past gs f.place callers → Turned callers before f past gs (move gs m) e (Instance i) m
  instance_turned callers before f past gs e i m actor may fact stands =
      let s : Stepped f past gs (move gs m) (fact_of version_in f.place m) = move_step i f past gs m may in
      let on : Onward w settings opening past s.past2 gs (move gs m) f.place = onward f past s.past2 gs m (map Changed (fact_of version_in f.place m)) (may_of settings i gs m may) s.step in
      record {
        facts = map Changed (fact_of version_in f.place m);
        has = ap (map Changed) (sym fact);
        past2 = s.past2;
        step = s.step;
        conforms = tt;
        stands = λ k caller found.
            let x = stands k caller found in
            (x.0, x.1, stand_other w settings opening before past s.past2 gs (move gs m) f.place k x.0 caller e (λ tag. no_client k i tag e actor) on x.2);
        may = may_of settings i gs m may;
      }

  module _ (before : List (Entry (Doc A) (Query F))) (f : FoundSoFar) (past : Past (Doc A)) (gs : Generations (Doc A)) (e : Entry (Doc A) (Query F)) (k : ℕ) (actor : e.actor ≡ Client k) (level : Level opening f.place past gs) (reached : Reaches settings opening gs)
      (counted : f.place ≡ suc (length before)) (silent : facts_of current version_in f e.request e.reply ≡ []) (reply : e.reply ≡ told_by (select w.holds) gs e.request) where
    asked_fits : (how : How) (cut : Bool) (script : Script A O) → MayClient (clients w) how (Some (record { script = script; cut = cut })) e.tag e.request → Fits e
    asked_fits how cut script may =
        let asks : (clients w).asks script ≡ Some e.request = asks_of how cut may in
        subst (λ x. Rattle.race_model.specs.Replies.fits_reply (λ (q : Query F). q.limit) e.request x ≡ true) (sym reply)
        (told_fits (λ (q : Query F). q.limit) (select w.holds) (query_limits w.holds) gs e.request (is_clients (w.version_alias script.registry.version) e.request (script_asks_only w script e.request asks)))
      where
        asks_of : (h : How) (b : Bool) → MayClient (clients w) h (Some (record { script = script; cut = b })) e.tag e.request → (clients w).asks script ≡ Some e.request
        asks_of Heard false m = m.0
        asks_of Unheard false m = m.0
        asks_of Late b m = absurd m
        asks_of Heard true m = let q : ◌≡◌ {A = Option (Request (Doc A) (Query F))} None (Some e.request) = m.0 in absurd (cc)
        asks_of Unheard true m = let q : ◌≡◌ {A = Option (Request (Doc A) (Query F))} None (Some e.request) = m.0 in absurd (cc)

    no_caller : (h : How) → MayClient (clients w) h None e.tag e.request → ⊥
    no_caller Heard m = m
    no_caller Unheard m = m
    no_caller Late m = m

    client_turned : (callers : List (Caller (Script A O))) → AllStand w settings opening scripts before past gs f.place callers → MayClient (clients w) e.how (nth callers k) e.tag e.request → Turned callers before f past gs (move gs (Move.Ask e.request)) e (Client k) (Move.Ask e.request)
    client_turned callers stands may = by (nth callers k) refl may
      where
        by : (o : Option (Caller (Script A O))) → nth callers k ≡ o → MayClient (clients w) e.how o e.tag e.request → Turned callers before f past gs (left_by gs e.request) e (Client k) (Move.Ask e.request)
        by None found m = absurd (no_caller e.how m)
        by (Some caller) found m =
            let x = stands k caller found in
            let fits : Fits e = asked_fits e.how caller.cut caller.script m in
            let l : Left w settings sets scripts opening plans version_in current before f e k actor past gs level reached counted silent reply fits x.0 x.1 e.how caller =
            client_left w settings sets scripts opening plans version_in current before f e k actor past gs level reached counted silent reply fits x.0 x.1 e.how caller x.2 m in
            let on : Onward w settings opening past l.past2 gs (left_by gs e.request) f.place = onward f past l.past2 gs (Move.Ask e.request) l.facts l.keeps l.step in
            let new : Caller (Script A O) = caller_after (clients w) e.how caller e.reply in
            record {
              facts = l.facts;
              has = l.has;
              past2 = l.past2;
              step = l.step;
              conforms = (subst (λ o. MayClient (clients w) e.how o e.tag e.request) (sym found) m, fits);
              stands = subst (λ o. AllStand w settings opening scripts (before ++ e ∷ []) l.past2 (left_by gs e.request) (f.place + 1) (callers_after (clients w) callers k o e.how e.reply)) (sym found)
                  (λ j other there. at_place j other (j == k) refl new there x.0 x.1 l.past2 l.stand on (nth_here callers k caller new found));
              may = l.keeps;
            }
          where
            at_place : (j : ℕ) (other : Caller (Script A O)) (b : Bool) → (j == k) ≡ b → (new : Caller (Script A O)) → nth (with_nth callers k new) j ≡ Some other → (whole : Script A O) → nth scripts k ≡ Some whole → (past2 : Past (Doc A))
                → Stand w settings opening (before ++ e ∷ []) past2 (left_by gs e.request) (f.place + 1) k whole new → Onward w settings opening past past2 gs (left_by gs e.request) f.place → nth (with_nth callers k new) k ≡ Some new
                → (own : Script A O) × (nth scripts j ≡ Some own) × Stand w settings opening (before ++ e ∷ []) past2 (left_by gs e.request) (f.place + 1) j own other
            at_place j other true q new there whole is past2 stand on here =
                let same : j ≡ k = grind (arith, nat_tests) in
                let both : Some new ≡ Some other = sym here ∙ subst (λ z. nth (with_nth callers k new) z ≡ Some other) same there in
                let one : new ≡ other = cc in
                (whole, subst (λ z. nth scripts z ≡ Some whole) (sym same) is, subst (λ z. Stand w settings opening (before ++ e ∷ []) past2 (left_by gs e.request) (f.place + 1) z whole other) (sym same) (subst (λ z. Stand w settings opening (before ++ e ∷ []) past2 (left_by gs e.request) (f.place + 1) k whole z) one stand))
            at_place j other false q new there whole is past2 stand on here =
                let apart : k ≢ j = λ z. (let y : (j == k) ≡ true = grind (arith, nat_tests) in let n : true ≡ false = sym y ∙ q in cc) in
                let y = stands j other (sym (nth_other callers k j new apart) ∙ there) in
                (y.0, y.1, stand_other w settings opening before past past2 gs (left_by gs e.request) f.place j y.0 other e (λ tag. other_client j k tag e actor (λ z. apart (sym z))) on y.2)

  entry_turned : (t : Trace (Doc A) (Query F) (Script A O)) (before : List (Entry (Doc A) (Query F))) (f : FoundSoFar) (past : Past (Doc A)) (gs : Generations (Doc A)) (e : Entry (Doc A) (Query F)) (actor : Actor) (m : Move (Doc A) (Query F)) → e.actor ≡ actor
      → Level opening f.place past gs → Reaches settings opening gs → f.place ≡ suc (length before) → MayMake race t actor e.how e.tag e.request → EntryIs race gs actor e m → facts_of current version_in f e.request e.reply ≡ fact_of version_in f.place m
      → AllStand w settings opening scripts before past gs f.place t.callers → Turned t.callers before f past gs (move gs m) e actor m
  entry_turned t before f past gs e (Instance i) m actor level reached counted make is fact stands = instance_turned t.callers before f past gs e i m actor is fact stands
  entry_turned t before f past gs e (Client k) m actor level reached counted make is fact stands =
      let silent : facts_of current version_in f e.request e.reply ≡ [] = fact ∙ ap (fact_of version_in f.place) is.0 in
      subst (λ x. Turned t.callers before f past gs (move gs x) e (Client k) x) (sym is.0) (client_turned before f past gs e k actor level reached counted silent is.1 t.callers stands make)

  callers_follow : (t : Trace (Doc A) (Query F) (Script A O)) (e : Entry (Doc A) (Query F)) (actor : Actor) (st : Store (Doc A)) → (follow_over race t actor e.how e.tag e.request e.reply st).callers ≡ callers_past w t.callers e actor
  callers_follow t e (Instance i) st = refl
  callers_follow t e (Client k) st = refl

  -- what is left of a journal is legal
  abbrev pub LegalFrom : List (Caller (Script A O)) → List (Entry (Doc A) (Query F)) → FoundSoFar → Past (Doc A) → Generations (Doc A) → List (Entry (Doc A) (Query F)) → Type 0
  LegalFrom callers before f past gs journal =
      ClientsConform w callers journal × (facts : List (HistoryFact A)) × HistoryIs w version_in current scripts before f journal facts × RunIs w sets scripts opening past gs facts

  pub legal_run : (journal before : List (Entry (Doc A) (Query F))) (f : FoundSoFar) (past : Past (Doc A)) (gs last : Generations (Doc A)) (t : Trace (Doc A) (Query F) (Script A O)) → IsRun race current version_in f gs journal last → Conforms race t journal
      → Level opening f.place past gs → Reaches settings opening gs → f.place ≡ suc (length before) → AllStand w settings opening scripts before past gs f.place t.callers → LegalFrom t.callers before f past gs journal
  unfolding IsRun Conforms MayCome followed HistoryIs RunIs ClientsConform
  legal_run [] before f past gs last t run c level reached counted stands = (tt, [], refl, tt)
  legal_run (e ∷ journal) before f past gs last t run c level reached counted stands =
      let turned : Turned t.callers before f past gs (move gs run.0) e e.actor run.0 = entry_turned t before f past gs e e.actor run.0 refl level reached counted c.0.0 run.1 run.2 stands in
      let next_f : FoundSoFar = found_after current f e.request e.reply in
      let place : next_f.place ≡ f.place + 1 = found_place current f e.request e.reply in
      let callers : (followed race t e).callers ≡ callers_past w t.callers e e.actor = callers_follow t e e.actor (serve race.select t.store e.request).0 in
      let counts : length (before ++ e ∷ []) ≡ length before + 1 = length-append before (e ∷ []) in
      let rest : LegalFrom (followed race t e).callers (before ++ e ∷ []) next_f turned.past2 (move gs run.0) journal =
      legal_run journal (before ++ e ∷ []) next_f turned.past2 (move gs run.0) last (followed race t e) run.3 c.1
      (subst (λ x. Level opening x turned.past2 (move gs run.0)) (sym place) (step_level w sets scripts opening f.place turned.facts past turned.past2 gs (move gs run.0) turned.step level))
      (one_more settings opening gs run.0 reached turned.may)
      (let q : f.place ≡ suc (length before) = counted in omega arith)
      (subst (λ x. AllStand w settings opening scripts (before ++ e ∷ []) turned.past2 (move gs run.0) next_f.place x) (sym callers)
      (subst (λ x. AllStand w settings opening scripts (before ++ e ∷ []) turned.past2 (move gs run.0) x (callers_past w t.callers e e.actor)) (sym place) turned.stands)) in (
        (turned.conforms, subst (λ x. ClientsConform w x journal) callers rest.0),
        turned.facts ++ rest.1,
        (turned.facts, rest.1, refl, turned.has, rest.2),
        run_with w sets scripts opening f.place turned.facts rest.1 past turned.past2 gs (move gs run.0) turned.step rest.3,
      )

  -- nobody made an entry yet
  begins : (scripts2 : List (Script A O)) (j : ℕ) (caller : Caller (Script A O)) → nth (callers_of scripts2) j ≡ Some caller → (whole : Script A O) × (nth scripts2 j ≡ Some whole) × (caller ≡ record { script = whole; cut = false })
  unfolding nth
  begins [] j caller e = absurd (cc)
  begins (c ∷ cs) zero caller e = absurd (cc)
  begins (c ∷ cs) (suc zero) caller e = let is : record { script = c; cut = false } ≡ caller = cc in (c, refl, sym is)
  begins (c ∷ cs) (suc (suc j)) caller e = begins cs (suc j) caller e

  pub all_begin : ((j : ℕ) (script : Script A O) → nth scripts j ≡ Some script → (script.heard ≡ None) × (script.number ≡ 1)) → AllStand w settings opening scripts [] [] opening 1 (callers_of scripts)
  unfolding entries_of
  all_begin fresh k caller e =
      let b = begins scripts k caller e in (
        b.0,
        b.1,
        subst (λ x. Stand w settings opening [] [] opening 1 k b.0 x) (sym b.2) (inr (
          refl,
          inl (record {
            m = 0;
            after = record { registry = refl; number = (fresh k b.0 b.1).1; rest = refl };
            heard = (fresh k b.0 b.1).0;
            unmade = λ tag l. refl;
          }),
        )),
      )
