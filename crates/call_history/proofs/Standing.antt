-- How a client stands between two entries of a journal, and what an entry of another does to that.
use Rattle.std.proofs.Common.{◌≡◌, ◌<◌, ◌≤◌, ◌⊎◌, ℕ, suc, ◌+◌, true, false, Some, None, List, [], ◌∷◌, ◌++◌, drop, refl, sym, ◌∙◌, ap, subst, arith}
use mathlib.Core.Logic.◌⊎◌.{inl, inr}
use Rattle.race_model.specs.Stores.{Request}
use Rattle.race_model.specs.Machines.{Settings}
use Rattle.race_model.specs.Generations.{Generations, Move, told_by, move}
use Rattle.race_model.specs.Generations.Move.{Stay, Migrate, Install}
use Rattle.race_model.specs.Worlds.{Entry, Caller, nth}
use Rattle.race_model.specs.Runs.{MayMove}
use Rattle.document_model.specs.Documents.{Doc}
use Rattle.query_model.specs.Queries.{Query, select}
use Rattle.call_model.specs.Words.{Words}
use Rattle.call_model.specs.Calls.{Call}
use Rattle.call_model.specs.Plans.Next.{Asks}
use Rattle.call_model.specs.Scripts.{Script, clients, first, next}
use Rattle.call_model.specs.History.{is_entry, entries_of, first_place, Fits, Past, stood_before}
use Rattle.call_history.specs.Plans.{MayBeMade, Path, Reaches, GoesOn}
use Rattle.call_history.proofs.Entries.{entries_other, first_stays}

module _ {A F : Type 0} (settings : ℕ → Settings (Doc A) (Query F)) where
  pub may_of : (i : ℕ) (gs : Generations (Doc A)) (m : Move (Doc A) (Query F)) → MayMove (settings i) gs m → MayBeMade settings gs m
  may_of i gs Stay may = (i, may)
  may_of i gs Move.Block may = (i, may)
  may_of i gs (Migrate v) may = (i, may)
  may_of i gs (Install v) may = (i, may)
  may_of i gs (Move.Ask ask) may = absurd may

  path_end : (ms : List (Move (Doc A) (Query F))) (gs later : Generations (Doc A)) (m : Move (Doc A) (Query F)) → Path settings gs ms later → MayBeMade settings later m → Path settings gs (ms ++ m ∷ []) (move later m)
  unfolding Path
  path_end [] gs later m p may = (subst (λ x. MayBeMade settings x m) (sym p) may, ap (λ x. move x m) p)
  path_end (n ∷ ms) gs later m p may = (p.0, path_end ms (move gs n) later m p.1 may)

  pub one_more : (gs later : Generations (Doc A)) (m : Move (Doc A) (Query F)) → Reaches settings gs later → MayBeMade settings later m → Reaches settings gs (move later m)
  one_more gs later m r may = (r.0 ++ m ∷ [], path_end r.0 gs later m r.1 may)

  pub none_yet : (gs : Generations (Doc A)) → Reaches settings gs gs
  unfolding Path
  none_yet gs = ([], refl)

module _ {A O F : Type 0} (w : Words A O F) (settings : ℕ → Settings (Doc A) (Query F)) (opening : Generations (Doc A)) where
  -- a script after m of its calls
  pub record After (whole script : Script A O) (m : ℕ) : Type 0 where
    pub registry : whole.registry ≡ script.registry
    pub number : script.number ≡ suc m
    pub rest : drop m whole.calls ≡ script.calls

  -- the call in hand made no request yet, nor did the later ones
  pub record Idle (before : List (Entry (Doc A) (Query F))) (k : ℕ) (whole script : Script A O) : Type 0 where
    pub m : ℕ
    pub after : After whole script m
    pub heard : script.heard ≡ None
    pub unmade : (tag : ℕ) → m < tag → entries_of k tag before ≡ []

  -- the call in hand made its first request, which didn't decide it
  pub record Busy (before : List (Entry (Doc A) (Query F))) (past : Past (Doc A)) (gs : Generations (Doc A)) (place k : ℕ) (whole script : Script A O) : Type 0 where
    pub m : ℕ
    pub after : After whole script m
    pub call : Call A
    pub rest : List (Call A)
    pub calls : script.calls ≡ call ∷ rest
    pub entry : Entry (Doc A) (Query F)
    pub made : entries_of k (suc m) before ≡ entry ∷ []
    pub ask : entry.request ≡ first w script.registry call
    pub fits : Fits entry
    pub heard : script.heard ≡ Some entry.reply
    pub second : Request (Doc A) (Query F)
    pub asks : next w script.registry call entry.reply ≡ Asks second
    pub unmade : (tag : ℕ) → suc m < tag → entries_of k tag before ≡ []
    pub seen : Generations (Doc A)
    pub goes : GoesOn w settings (record { registry = script.registry; calls = script.calls; heard = None; number = script.number }) seen entry.request
    pub told : script ≡ (clients w).told (record { registry = script.registry; calls = script.calls; heard = None; number = script.number }) (told_by (select w.holds) seen entry.request)
    pub since : Reaches settings seen gs
    pub earlier : first_place k (suc m) 1 before < place
    pub stood : stood_before (first_place k (suc m) 1 before) opening past ≡ seen

  -- a client that was cut makes no entry any more
  abbrev pub Stand : List (Entry (Doc A) (Query F)) → Past (Doc A) → Generations (Doc A) → (place k : ℕ) → (whole : Script A O) → Caller (Script A O) → Type 0
  Stand before past gs place k whole caller = (caller.cut ≡ true) ⊎ ((caller.cut ≡ false) × (Idle before k whole caller.script ⊎ Busy before past gs place k whole caller.script))

  abbrev pub AllStand : List (Script A O) → List (Entry (Doc A) (Query F)) → Past (Doc A) → Generations (Doc A) → (place : ℕ) → List (Caller (Script A O)) → Type 0
  AllStand scripts before past gs place callers = (k : ℕ) (caller : Caller (Script A O)) → nth callers k ≡ Some caller → (whole : Script A O) × (nth scripts k ≡ Some whole) × Stand before past gs place k whole caller

  -- what stands after one more entry, of somebody else
  pub record Onward (past past2 : Past (Doc A)) (gs gs2 : Generations (Doc A)) (place : ℕ) : Type 0 where
    pub reach : (seen : Generations (Doc A)) → Reaches settings seen gs → Reaches settings seen gs2
    pub stood : (p : ℕ) → p ≤ place → stood_before p opening past2 ≡ stood_before p opening past

  pub stand_other : (before : List (Entry (Doc A) (Query F))) (past past2 : Past (Doc A)) (gs gs2 : Generations (Doc A)) (place k : ℕ) (whole : Script A O) (caller : Caller (Script A O)) (e : Entry (Doc A) (Query F))
      → ((tag : ℕ) → is_entry k tag e ≡ false) → Onward past past2 gs gs2 place → Stand before past gs place k whole caller → Stand (before ++ e ∷ []) past2 gs2 (place + 1) k whole caller
  stand_other before past past2 gs gs2 place k whole caller e n o (inl cut) = inl cut
  stand_other before past past2 gs gs2 place k whole caller e n o (inr (uncut, inl i)) = inr (
    uncut,
    inl (record {
      m = i.m;
      after = i.after;
      heard = i.heard;
      unmade = λ tag l. entries_other k tag before e (n tag) ∙ i.unmade tag l;
    }),
  )
  stand_other before past past2 gs gs2 place k whole caller e n o (inr (uncut, inr b)) =
      let same : first_place k (suc b.m) 1 (before ++ e ∷ []) ≡ first_place k (suc b.m) 1 before = first_stays k (suc b.m) 1 before (e ∷ []) b.entry [] b.made in
      let early : first_place k (suc b.m) 1 before < place = b.earlier in
      inr (
        uncut,
        inr (record {
          m = b.m;
          after = b.after;
          call = b.call;
          rest = b.rest;
          calls = b.calls;
          entry = b.entry;
          made = entries_other k (suc b.m) before e (n (suc b.m)) ∙ b.made;
          ask = b.ask;
          fits = b.fits;
          heard = b.heard;
          second = b.second;
          asks = b.asks;
          unmade = λ tag l. entries_other k tag before e (n tag) ∙ b.unmade tag l;
          seen = b.seen;
          goes = b.goes;
          told = b.told;
          since = o.reach b.seen b.since;
          earlier = subst (λ x. x < place + 1) (sym same) (omega arith);
          stood = subst (λ x. stood_before x opening past2 ≡ b.seen) (sym same) (o.stood (first_place k (suc b.m) 1 before) (omega arith) ∙ b.stood);
        }),
      )
