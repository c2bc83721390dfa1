-- What an entry of a client is: its call's deciding entry, or a read.
use Rattle.std.proofs.Common.{◌≡◌, ◌<◌, ◌≤◌, ◌⊎◌, ℕ, suc, ◌+◌, Bool, true, false, Option, Some, None, List, [], ◌∷◌, ◌++◌, length, map, refl, sym, ◌∙◌, ap, subst, arith}
use mathlib.Core.Logic.◌⊎◌.{inl, inr}
use Rattle.base_model.specs.Keyed.{Text}
use Rattle.race_model.specs.Stores.{Request, Reply}
use Rattle.race_model.specs.Machines.{Settings}
use Rattle.race_model.specs.Generations.{Generations, told_by, left_by}
use Rattle.race_model.specs.Worlds.{How, Entry, Caller, nth}
use Rattle.race_model.specs.Worlds.Actor.{Client}
use Rattle.race_model.specs.Worlds.How.{Heard, Unheard, Late}
use Rattle.race_model.specs.Journals.{MayClient, caller_after}
use Rattle.race_model.specs.History.{FoundSoFar, facts_of}
use Rattle.document_model.specs.Documents.{Doc}
use Rattle.document_model.specs.Registries.{Registry}
use Rattle.query_model.specs.Queries.{Query, select}
use Rattle.call_model.specs.Words.{Words}
use Rattle.call_model.specs.Calls.{Call, Answer}
use Rattle.call_model.specs.Plans.{Next}
use Rattle.call_model.specs.Plans.Next.{Answers, Asks}
use Rattle.call_model.specs.Steps.{called}
use Rattle.call_model.specs.Scripts.{Script, clients, first, next, last, asked, answer_of, asks_over, moved_on, with_next, own, replaced_where}
use Rattle.call_model.specs.History.{HistoryFact, is_entry, entries_of, first_place, Fits, DecidedBy, IsCall, Decides, EntryHas, Past, stood_before, StepIs, place_of}
use Rattle.call_model.specs.History.HistoryFact.{Changed, Called}
use Rattle.call_laws.specs.Meanings.{Keeps}
use Rattle.call_history.specs.Plans.{MayBeMade, Path, Reaches, GoesOn, Plans}
use Rattle.call_history.specs.Plans as plans_of
use Rattle.call_history.proofs.Entries.{entries_own, entries_other, first_at_end, first_stays, own_entry, other_tag, drop_next, drop_nth, stood_new, stood_old}
use Rattle.call_history.proofs.Standing.{none_yet, After, Idle, Busy, Stand}

-- one step of the generations, or none
abbrev pub Step : {A O F : Type 0} → Words A O F → List (Settings (Doc A) (Query F)) → List (Script A O) → (opening : Generations (Doc A)) → (place : ℕ) → List (HistoryFact A) → Past (Doc A) → Generations (Doc A) → Past (Doc A) → Generations (Doc A) → Type 0
Step w sets scripts opening place facts past gs past2 gs2 =
    ((facts ≡ []) × (past2 ≡ past) × (gs2 ≡ gs))
    ⊎ ((x : HistoryFact _) × (facts ≡ x ∷ []) × (place_of x ≡ place) × StepIs w sets scripts opening past gs x gs2 × (past2 ≡ (place, gs2) ∷ past))

-- the generations stand from a place on
abbrev pub Level : {D : Type 0} → (opening : Generations D) → (place : ℕ) → Past D → Generations D → Type 0
Level opening place past gs = (q : ℕ) → place ≤ q → stood_before q opening past ≡ gs

module _ {A O F : Type 0} (w : Words A O F) (sets : List (Settings (Doc A) (Query F))) (scripts : List (Script A O)) (opening : Generations (Doc A)) (place : ℕ) where
  pub step_stood : (facts : List (HistoryFact A)) (past past2 : Past (Doc A)) (gs gs2 : Generations (Doc A)) → Step w sets scripts opening place facts past gs past2 gs2 → (p : ℕ) → p ≤ place → stood_before p opening past2 ≡ stood_before p opening past
  step_stood facts past past2 gs gs2 (inl n) p l = ap (λ x. stood_before p opening x) n.1
  step_stood facts past past2 gs gs2 (inr s) p l = ap (λ x. stood_before p opening x) s.4 ∙ stood_old opening place p gs2 past l

  pub step_level : (facts : List (HistoryFact A)) (past past2 : Past (Doc A)) (gs gs2 : Generations (Doc A)) → Step w sets scripts opening place facts past gs past2 gs2 → Level opening place past gs → Level opening (place + 1) past2 gs2
  step_level facts past past2 gs gs2 (inl n) k q l = ap (λ x. stood_before q opening x) n.1 ∙ (k q (omega arith) ∙ sym n.2)
  step_level facts past past2 gs gs2 (inr s) k q l = ap (λ x. stood_before q opening x) s.4 ∙ stood_new opening place q gs2 past (omega arith)

some_is : {T : Type 0} (x y : T) → Some x ≡ Some y → x ≡ y
some_is x y e = cc

answers_is : {A F : Type 0} (n : Next A F) (a : Answer A) → answer_of n ≡ Some a → n ≡ Answers a
answers_is (Answers b) a e = ap (λ x. Answers x) (some_is b a e)
answers_is (Asks ask) a e = absurd (cc)

asks_is : {A F : Type 0} (n : Next A F) → answer_of n ≡ None → (ask : Request (Doc A) (Query F)) × (n ≡ Asks ask)
asks_is (Answers b) e = absurd (cc)
asks_is (Asks ask) e = (ask, refl)

module _ {A O F : Type 0} (w : Words A O F) (settings : ℕ → Settings (Doc A) (Query F)) (sets : List (Settings (Doc A) (Query F))) (scripts : List (Script A O)) (opening : Generations (Doc A)) (plans : Plans {O = O} w settings opening) where
  -- a call has one registry and one place in its script
  same_call : (k tag : ℕ) (reg reg2 : Registry O) (call call2 : Call A) → IsCall scripts k tag reg call → IsCall scripts k tag reg2 call2 → (reg2 ≡ reg) × (call2 ≡ call)
  same_call k tag reg reg2 call call2 a b =
      let s : b.script ≡ a.script = some_is b.script a.script (sym b.is_script ∙ a.is_script) in (
        sym b.is_registry ∙ (ap (λ (x : Script A O). x.registry) s ∙ a.is_registry),
        some_is call2 call (sym b.is_call ∙ (ap (λ (x : Script A O). nth x.calls tag) s ∙ a.is_call)),
      )

  -- what decides a call is said of its entries
  decided_of : (k tag : ℕ) (entries own_entries : List (Entry (Doc A) (Query F))) (reg : Registry O) (call : Call A) (a : Answer A) → IsCall scripts k tag reg call → entries_of k tag entries ≡ own_entries → Decides w scripts k tag entries a → DecidedBy w reg call own_entries a
  decided_of k tag entries own_entries reg call a is e d =
      let one = same_call k tag reg d.registry call d.call is d.is_call in
      subst (λ x. DecidedBy w x call own_entries a) one.0 (subst (λ x. DecidedBy w d.registry x own_entries a) one.1 (subst (λ x. DecidedBy w d.registry d.call x a) e d.decided))

  module _ (version_in : Text → Option Text) (current : Text) (before : List (Entry (Doc A) (Query F))) (f : FoundSoFar) (e : Entry (Doc A) (Query F)) (k : ℕ) (actor : e.actor ≡ Client k)
      (past : Past (Doc A)) (gs : Generations (Doc A)) (level : Level opening f.place past gs) (reached : Reaches settings opening gs) (counted : f.place ≡ suc (length before)) (silent : facts_of current version_in f e.request e.reply ≡ [])
      (reply : e.reply ≡ told_by (select w.holds) gs e.request) (fits : Fits e) (whole : Script A O) (is_whole : nth scripts k ≡ Some whole) where
    abbrev entries : List (Entry (Doc A) (Query F))
    entries = before ++ e ∷ []

    -- what an entry leaves
    pub record Left (how : How) (caller : Caller (Script A O)) : Type 0 where
      pub facts : List (HistoryFact A)
      pub has : EntryHas w version_in current scripts before f e (Client k) facts
      pub past2 : Past (Doc A)
      pub step : Step w sets scripts opening f.place facts past gs past2 (left_by gs e.request)
      pub stand : Stand w settings opening entries past2 (left_by gs e.request) (f.place + 1) k whole (caller_after (clients w) how caller e.reply)
      pub keeps : Keeps gs e.request

    abbrev tag : ℕ
    tag = e.tag

    own_is : is_entry k tag e ≡ true
    own_is = own_entry k tag e actor refl

    -- the deciding entry of a call
    module _ (reg : Registry O) (call : Call A) (a : Answer A) (is : IsCall scripts k tag reg call) (own_entries : List (Entry (Doc A) (Query F))) (own_are : entries_of k tag entries ≡ own_entries) (decided : DecidedBy w reg call own_entries a)
        (one : (b : Answer A) → DecidedBy w reg call own_entries b → b ≡ a) where
      abbrev fact : HistoryFact A
      fact = Called f.place (first_place k tag 1 entries) k tag a

      decided_has : EntryHas w version_in current scripts before f e (Client k) (fact ∷ [])
      decided_has = (
        λ b d. ap (λ x. Called f.place (first_place k tag 1 entries) k tag x ∷ []) (sym (one b (decided_of k tag entries own_entries reg call b is own_are d))),
        λ none. absurd (none a (record { registry = reg; call = call; is_call = is; decided = subst (λ x. DecidedBy w reg call x a) (sym own_are) decided })),
      )

      decided_step : (seen : Generations (Doc A)) → stood_before (first_place k tag 1 entries) opening past ≡ seen → a ≡ (called w reg call (own w reg seen) (own w reg gs)).1
          → left_by gs e.request ≡ replaced_where (w.version_alias reg.version) (called w reg call (own w reg seen) (own w reg gs)).0 gs
          → Step w sets scripts opening f.place (fact ∷ []) past gs ((f.place, left_by gs e.request) ∷ past) (left_by gs e.request)
      decided_step seen stood answer effect = inr (
        fact,
        refl,
        refl,
        (
          reg,
          call,
          is,
          subst (λ x. a ≡ (called w reg call (own w reg x) (own w reg gs)).1) (sym stood) answer,
          subst (λ x. left_by gs e.request ≡ replaced_where (w.version_alias reg.version) (called w reg call (own w reg x) (own w reg gs)).0 gs) (sym stood) effect,
        ),
        refl,
      )

    -- an entry that decides nothing
    undecided_has : ((b : Answer A) → Decides w scripts k tag entries b → ⊥) → EntryHas w version_in current scripts before f e (Client k) []
    undecided_has none = (λ b d. absurd (none b d), λ x. ap (map Changed) (sym silent))

    -- the script after a call that has its answer
    next_idle : (script : Script A O) (m : ℕ) (call : Call A) (rest : List (Call A)) (new : Script A O) → After w settings opening whole script m → script.calls ≡ call ∷ rest → new ≡ with_next script rest → tag ≡ suc m → ((t : ℕ) → suc m < t → entries_of k t before ≡ []) → Idle w settings opening entries k whole new
    next_idle script m call rest new after calls is t unmade = record {
      m = suc m;
      after = record {
        registry = after.registry ∙ ap (λ (x : Script A O). x.registry) (sym is);
        number = ap (λ (x : Script A O). x.number) is ∙ (let n : script.number ≡ suc m = after.number in omega arith);
        rest = drop_next m whole.calls rest call (after.rest ∙ calls) ∙ ap (λ (x : Script A O). x.calls) (sym is);
      };
      heard = ap (λ (x : Script A O). x.heard) is;
      unmade = λ t2 l. entries_other k t2 before e (other_tag k t2 e (λ same. let x : t2 ≡ suc m = sym same ∙ t in omega arith)) ∙ unmade t2 l;
    }

    call_is : (script : Script A O) (m : ℕ) (call : Call A) (rest : List (Call A)) → After w settings opening whole script m → script.calls ≡ call ∷ rest → tag ≡ suc m → IsCall scripts k tag script.registry call
    call_is script m call rest after calls t = record {
      script = whole;
      is_script = is_whole;
      is_registry = after.registry;
      is_call = subst (λ x. nth whole.calls x ≡ Some call) (sym t) (drop_nth m whole.calls rest call (after.rest ∙ calls));
    }

    abbrev script_of : Registry O → List (Call A) → Option (Reply (Doc A)) → ℕ → Script A O
    script_of reg calls heard number = record { registry = reg; calls = calls; heard = heard; number = number }

    -- the first request of a call
    first_left : (how : How) (reg : Registry O) (call : Call A) (rest : List (Call A)) (number m : ℕ) → After w settings opening whole (script_of reg (call ∷ rest) None number) m → ((t : ℕ) → m < t → entries_of k t before ≡ []) → e.request ≡ first w reg call → tag ≡ number
        → MayClient (clients w) how (Some (record { script = script_of reg (call ∷ rest) None number; cut = false })) tag e.request → Left how (record { script = script_of reg (call ∷ rest) None number; cut = false })
    first_left how reg call rest number m after unmade ask t may = elim (plans script e.request gs reached refl (ap (λ x. Some x) (sym ask))) [ inl d ↦ decides d | inr g ↦ goes g ]
      where
        script : Script A O
        script = script_of reg (call ∷ rest) None number

        t_is : tag ≡ suc m
        t_is = t ∙ after.number

        is : IsCall scripts k tag reg call
        is = call_is script m call rest after refl t_is

        own_are : entries_of k tag entries ≡ e ∷ []
        own_are = entries_own k tag before e own_is ∙ ap (λ x. x ++ e ∷ []) (unmade tag (let x : tag ≡ suc m = t_is in omega arith))

        place_is : first_place k tag 1 entries ≡ f.place
        place_is = first_at_end k tag 1 before e own_is (unmade tag (let x : tag ≡ suc m = t_is in omega arith)) ∙ (let x : f.place ≡ suc (length before) = counted in omega arith)

        reply_is : told_by (select w.holds) gs e.request ≡ e.reply
        reply_is = sym reply

        decides : plans_of.Decides w script script gs gs e.request → Left how (record { script = script; cut = false })
        decides d =
            let a : Answer A = (called w reg call (own w reg gs) (own w reg gs)).1 in
            let n : next w reg call e.reply ≡ Answers a = answers_is (next w reg call e.reply) a (subst (λ x. answer_of (next w reg call x) ≡ Some a) reply_is d.answer) in
            let now : (clients w).told script e.reply ≡ with_next script rest = ap (moved_on script rest e.reply) n in
            record {
              facts = Called f.place (first_place k tag 1 entries) k tag a ∷ [];
              has = decided_has reg call a is (e ∷ []) own_are (ask, fits, n) (λ b x. answers_same b a (sym x.2 ∙ n));
              past2 = (f.place, left_by gs e.request) ∷ past;
              step = decided_step reg call a is (e ∷ []) own_are (ask, fits, n) (λ b x. answers_same b a (sym x.2 ∙ n)) gs (ap (λ x. stood_before x opening past) place_is ∙ level f.place (omega arith)) refl d.effect;
              stand = by how may now;
              keeps = d.keeps;
            }
          where
            answers_same : (x y : Answer A) → ◌≡◌ {A = Next A F} (Answers x) (Answers y) → x ≡ y
            answers_same x y q = cc

            by : (h : How) → MayClient (clients w) h (Some (record { script = script; cut = false })) tag e.request → (clients w).told script e.reply ≡ with_next script rest
                → Stand w settings opening entries ((f.place, left_by gs e.request) ∷ past) (left_by gs e.request) (f.place + 1) k whole (caller_after (clients w) h (record { script = script; cut = false }) e.reply)
            by Heard q now = inr (refl, inl (next_idle script m call rest ((clients w).told script e.reply) after refl now t_is (λ t2 l. unmade t2 (omega arith))))
            by Unheard q now = inl refl
            by Late q now = absurd q

        goes : GoesOn w settings script gs e.request → Left how (record { script = script; cut = false })
        goes g =
            let n = asks_is (next w reg call e.reply) (subst (λ x. answer_of (next w reg call x) ≡ None) reply_is g.undecided) in
            record {
              facts = [];
              has = undecided_has (λ b d. not_both b n.0 (sym (decided_of k tag entries (e ∷ []) reg call b is own_are d).2 ∙ n.1));
              past2 = past;
              step = inl (refl, refl, g.reads);
              stand = by how may n.0 n.1;
              keeps = g.keeps;
            }
          where
            not_both : (x : Answer A) (y : Request (Doc A) (Query F)) → ◌≡◌ {A = Next A F} (Answers x) (Asks y) → ⊥
            not_both x y q = cc

            by : (h : How) → MayClient (clients w) h (Some (record { script = script; cut = false })) tag e.request → (second : Request (Doc A) (Query F)) → next w reg call e.reply ≡ Asks second
                → Stand w settings opening entries past (left_by gs e.request) (f.place + 1) k whole (caller_after (clients w) h (record { script = script; cut = false }) e.reply)
            by Heard q second n =
                let now : (clients w).told script e.reply ≡ script_of reg (call ∷ rest) (Some e.reply) number = ap (moved_on script rest e.reply) n in
                inr (
                  refl,
                  inr (subst (λ x. Busy w settings opening entries past (left_by gs e.request) (f.place + 1) k whole x) (sym now) (record {
                    m = m;
                    after = record { registry = after.registry; number = after.number; rest = after.rest };
                    call = call;
                    rest = rest;
                    calls = refl;
                    entry = e;
                    made = subst (λ x. entries_of k x entries ≡ e ∷ []) t_is own_are;
                    ask = ask;
                    fits = fits;
                    heard = refl;
                    second = second;
                    asks = n;
                    unmade = λ t2 l. entries_other k t2 before e (other_tag k t2 e (λ same. let x : t2 ≡ suc m = sym same ∙ t_is in omega arith)) ∙ unmade t2 (omega arith);
                    seen = gs;
                    goes = g;
                    told = sym now ∙ ap (λ x. (clients w).told script x) reply;
                    since = subst (Reaches settings gs) (sym g.reads) (none_yet settings gs);
                    earlier = subst (λ x. first_place k x 1 entries < f.place + 1) t_is (subst (λ x. x < f.place + 1) (sym place_is) (omega arith));
                    stood = subst (λ x. stood_before (first_place k x 1 entries) opening past ≡ gs) t_is (ap (λ x. stood_before x opening past) place_is ∙ level f.place (omega arith));
                  })),
                )
            by Unheard q second n = inl refl
            by Late q second n = absurd q

    -- the second request of a call
    second_left : (how : How) (reg : Registry O) (call : Call A) (rest : List (Call A)) (number : ℕ) (one : Entry (Doc A) (Query F)) (m : ℕ)
        → After w settings opening whole (script_of reg (call ∷ rest) (Some one.reply) number) m → entries_of k (suc m) before ≡ one ∷ [] → one.request ≡ first w reg call → Fits one → ((t : ℕ) → suc m < t → entries_of k t before ≡ [])
        → (seen : Generations (Doc A)) → GoesOn w settings (script_of reg (call ∷ rest) None number) seen one.request → script_of reg (call ∷ rest) (Some one.reply) number ≡ (clients w).told (script_of reg (call ∷ rest) None number) (told_by (select w.holds) seen one.request)
        → Reaches settings seen gs → first_place k (suc m) 1 before < f.place → stood_before (first_place k (suc m) 1 before) opening past ≡ seen → next w reg call one.reply ≡ Asks e.request → tag ≡ number
        → MayClient (clients w) how (Some (record { script = script_of reg (call ∷ rest) (Some one.reply) number; cut = false })) tag e.request → Left how (record { script = script_of reg (call ∷ rest) (Some one.reply) number; cut = false })
    second_left how reg call rest number one m after made ask fits_one unmade seen goes told since earlier stood asks t may =
        record {
          facts = Called f.place (first_place k tag 1 entries) k tag a ∷ [];
          has = decided_has reg call a is (one ∷ e ∷ []) own_are decided (λ b x. x.4 ∙ sym decided.4);
          past2 = (f.place, left_by gs e.request) ∷ past;
          step = decided_step reg call a is (one ∷ e ∷ []) own_are decided (λ b x. x.4 ∙ sym decided.4) seen place_stood refl d.effect;
          stand = by how may;
          keeps = d.keeps;
        }
      where
        script : Script A O
        script = script_of reg (call ∷ rest) (Some one.reply) number

        before_it : Script A O
        before_it = script_of reg (call ∷ rest) None number

        t_is : tag ≡ suc m
        t_is = t ∙ after.number

        a : Answer A
        a = (called w reg call (own w reg seen) (own w reg gs)).1

        d : plans_of.Decides w before_it script seen gs e.request
        d =
            subst (λ x. plans_of.Decides w before_it x seen gs e.request) (sym told)
            (goes.then gs e.request since (subst (λ x. (clients w).asks x ≡ Some e.request) told (ap asked asks)))

        is : IsCall scripts k tag reg call
        is = call_is script m call rest after refl t_is

        own_are : entries_of k tag entries ≡ one ∷ e ∷ []
        own_are = entries_own k tag before e own_is ∙ ap (λ x. x ++ e ∷ []) (subst (λ x. entries_of k x before ≡ one ∷ []) (sym t_is) made)

        decided : DecidedBy w reg call (one ∷ e ∷ []) a
        decided = (
          ask,
          fits_one,
          asks,
          fits,
          sym (some_is (last w reg call one.reply e.reply) a (subst (λ x. Some (last w reg call one.reply x) ≡ Some a) (sym reply) d.answer)),
        )

        place_stood : stood_before (first_place k tag 1 entries) opening past ≡ seen
        place_stood =
            ap (λ x. stood_before x opening past) (first_stays k tag 1 before (e ∷ []) one [] (subst (λ x. entries_of k x before ≡ one ∷ []) (sym t_is) made))
            ∙ subst (λ x. stood_before (first_place k x 1 before) opening past ≡ seen) (sym t_is) stood

        by : (h : How) → MayClient (clients w) h (Some (record { script = script; cut = false })) tag e.request
            → Stand w settings opening entries ((f.place, left_by gs e.request) ∷ past) (left_by gs e.request) (f.place + 1) k whole (caller_after (clients w) h (record { script = script; cut = false }) e.reply)
        by Heard q = inr (refl, inl (next_idle script m call rest ((clients w).told script e.reply) after refl refl t_is unmade))
        by Unheard q = inl refl
        by Late q = absurd q

    -- any entry of a client that isn't cut
    asks_first : (reg : Registry O) (calls : List (Call A)) (number m : ℕ) → After w settings opening whole (script_of reg calls None number) m → ((t : ℕ) → m < t → entries_of k t before ≡ []) → asks_over w reg calls None ≡ Some e.request → tag ≡ number → (how : How)
        → MayClient (clients w) how (Some (record { script = script_of reg calls None number; cut = false })) tag e.request → Left how (record { script = script_of reg calls None number; cut = false })
    asks_first reg [] number m after unmade asks t how may = absurd (cc)
    asks_first reg (call ∷ rest) number m after unmade asks t how may = first_left how reg call rest number m after unmade (sym (some_is (first w reg call) e.request asks)) t may

    idle_left : (how : How) (script : Script A O) → Idle w settings opening before k whole script → (clients w).asks script ≡ Some e.request → tag ≡ script.number
        → MayClient (clients w) how (Some (record { script = script; cut = false })) tag e.request → Left how (record { script = script; cut = false })
    idle_left how script i asks t may = by script.heard i.heard i.after asks may
      where
        by : (h : Option (Reply (Doc A))) → h ≡ None → After w settings opening whole (script_of script.registry script.calls h script.number) i.m → asks_over w script.registry script.calls h ≡ Some e.request
            → MayClient (clients w) how (Some (record { script = script_of script.registry script.calls h script.number; cut = false })) tag e.request → Left how (record { script = script_of script.registry script.calls h script.number; cut = false })
        by None x after asks may = asks_first script.registry script.calls script.number i.m after i.unmade asks t how may
        by (Some r) x after asks may = absurd (cc)

    busy_left : (how : How) (script : Script A O) → Busy w settings opening before past gs f.place k whole script → (clients w).asks script ≡ Some e.request → tag ≡ script.number
        → MayClient (clients w) how (Some (record { script = script; cut = false })) tag e.request → Left how (record { script = script; cut = false })
    busy_left how script b asks t may =
        let is : script ≡ script_of script.registry (b.call ∷ b.rest) (Some b.entry.reply) script.number = ap (λ x. script_of script.registry x script.heard script.number) b.calls ∙ ap (λ x. script_of script.registry (b.call ∷ b.rest) x script.number) b.heard in
        let now : (clients w).asks (script_of script.registry (b.call ∷ b.rest) (Some b.entry.reply) script.number) ≡ Some e.request = subst (λ x. (clients w).asks x ≡ Some e.request) is asks in
        let one : b.second ≡ e.request = some_is b.second e.request (ap asked (sym b.asks) ∙ now) in
        subst (λ x. Left how (record { script = x; cut = false })) (sym is)
        (second_left how script.registry b.call b.rest script.number b.entry b.m
        (subst (λ x. After w settings opening whole x b.m) is b.after) b.made b.ask b.fits b.unmade b.seen
        (subst (λ x. GoesOn w settings (script_of script.registry x None script.number) b.seen b.entry.request) b.calls b.goes)
        (sym is ∙ (b.told ∙ ap (λ x. (clients w).told (script_of script.registry x None script.number) (told_by (select w.holds) b.seen b.entry.request)) b.calls))
        b.since b.earlier b.stood (b.asks ∙ ap (λ x. Asks x) one) t (subst (λ x. MayClient (clients w) how (Some (record { script = x; cut = false })) tag e.request) is may))

    -- any entry of a client
    pub client_left : (how : How) (caller : Caller (Script A O)) → Stand w settings opening before past gs f.place k whole caller → MayClient (clients w) how (Some caller) tag e.request → Left how caller
    client_left how caller (inl cut) may = absurd (not_cut how caller.cut cut caller.script may)
      where
        not_cut : (h : How) (b : Bool) → b ≡ true → (c : Script A O) → MayClient (clients w) h (Some (record { script = c; cut = b })) tag e.request → ⊥
        not_cut Heard true x c m = let q : ◌≡◌ {A = Option (Request (Doc A) (Query F))} None (Some e.request) = m.0 in cc
        not_cut Unheard true x c m = let q : ◌≡◌ {A = Option (Request (Doc A) (Query F))} None (Some e.request) = m.0 in cc
        not_cut Late true x c m = m
        not_cut h false x c m = cc
    client_left how caller (inr (uncut, stand)) may = by caller.cut uncut may stand
      where
        asked_of_it : (h : How) → MayClient (clients w) h (Some (record { script = caller.script; cut = false })) tag e.request → ((clients w).asks caller.script ≡ Some e.request) × (tag ≡ caller.script.number)
        asked_of_it Heard m = (m.0, m.1)
        asked_of_it Unheard m = (m.0, m.1)
        asked_of_it Late m = absurd m

        by : (b : Bool) → b ≡ false → MayClient (clients w) how (Some (record { script = caller.script; cut = b })) tag e.request → (Idle w settings opening before k whole caller.script ⊎ Busy w settings opening before past gs f.place k whole caller.script) → Left how (record { script = caller.script; cut = b })
        by true x m st = absurd (cc)
        by false x m (inl i) = idle_left how caller.script i (asked_of_it how m).0 (asked_of_it how m).1 m
        by false x m (inr b) = busy_left how caller.script b (asked_of_it how m).0 (asked_of_it how m).1 m
