-- The plans of calls are what the race theorem asks of them.
use Rattle.std.proofs.Common.{◌≡◌, ◌⊎◌, ℕ, Option, Some, None, List, [], ◌∷◌, refl, sym, ap, subst}
use mathlib.Core.Logic.◌⊎◌.{inl, inr}
use Rattle.race_model.specs.Stores.{Request, Reply}
use Rattle.race_model.specs.Machines.{Settings}
use Rattle.race_model.specs.Generations.{Generations, told_by}
use Rattle.document_model.specs.Documents.{Doc}
use Rattle.document_model.specs.Registries.{Registry}
use Rattle.call_model.specs.Words.{Words}
use Rattle.call_model.specs.Calls.{Call}
use Rattle.query_model.specs.Queries.{Query, select}
use Rattle.call_model.specs.Steps.{work_of, called}
use Rattle.call_model.specs.Plans.{Next}
use Rattle.call_model.specs.Plans.Next.{Answers, Asks}
use Rattle.call_model.specs.Scripts.{Script, first, next, last, asked, asks_over, moved_on}
use Rattle.call_history.specs.Plans.{Reaches, Decides, GoesOn, Plans}
use Rattle.call_laws.proofs.Writing.{Done, Grown, Fate}
use Rattle.call_laws.proofs.Fates.{right_call}
use Rattle.call_history.proofs.Growing.{since_same, AllNumbered, Grows, grows_reached}

module _ {A O F : Type 0} (w : Words A O F) (settings : ℕ → Settings (Doc A) (Query F)) where
  grown : (reg : Registry O) (gs later : Generations (Doc A)) → AllNumbered gs → Reaches settings gs later → Grown w reg gs later
  grown reg gs later n r =
      let g : Grows gs later = grows_reached settings gs later r in
      record {
        grown = λ x e. let h = g.stays (w.version_alias reg.version) x e in (h.0, h.1, since_same x.table h.0.table (n.each (w.version_alias reg.version) x e) h.2);
      }

  abbrev script : Registry O → List (Call A) → Option (Reply (Doc A)) → ℕ → Script A O
  script reg calls heard number = record { registry = reg; calls = calls; heard = heard; number = number }

  -- a call at its second request
  decides_second : (reg : Registry O) (call : Call A) (calls : List (Call A)) (number : ℕ) (gs later : Generations (Doc A)) (second ask : Request (Doc A) (Query F)) → next w reg call (told_by (select w.holds) gs (first w reg call)) ≡ Asks second
      → Done w reg (work_of w reg call) gs later second (last w reg call (told_by (select w.holds) gs (first w reg call)) (told_by (select w.holds) later second))
      → asked (next w reg call (told_by (select w.holds) gs (first w reg call))) ≡ Some ask
      → Decides w (script reg (call ∷ calls) None number) (script reg (call ∷ calls) (Some (told_by (select w.holds) gs (first w reg call))) number) gs later ask
  unfolding called
  decides_second reg call calls number gs later second ask e d asks =
      let a : asked (Asks second) ≡ Some ask = subst (λ (n : Next A F). asked n ≡ Some ask) e asks in
      let is : second ≡ ask = cc in
      subst (λ x. Decides w (script reg (call ∷ calls) None number) (script reg (call ∷ calls) (Some (told_by (select w.holds) gs (first w reg call))) number) gs later x) is
      (record { keeps = d.keeps; answer = ap (λ x. Some x) d.answer; effect = d.effect; next = refl })

  -- a call at its first request, by what its reply leads to
  planned : (reg : Registry O) (call : Call A) (calls : List (Call A)) (number : ℕ) (gs : Generations (Doc A)) → AllNumbered gs → (n : Next A F) → next w reg call (told_by (select w.holds) gs (first w reg call)) ≡ n → Fate w reg (work_of w reg call) gs (first w reg call) n
      → Decides w (script reg (call ∷ calls) None number) (script reg (call ∷ calls) None number) gs gs (first w reg call) ⊎ GoesOn w settings (script reg (call ∷ calls) None number) gs (first w reg call)
  unfolding called
  planned reg call calls number gs num (Answers a) e f = inl (record {
    keeps = f.keeps;
    answer = rw e (ap (λ x. Some x) f.answer);
    effect = f.effect;
    next = rw e refl;
  })
  planned reg call calls number gs num (Asks second) e f = inr (record {
    keeps = f.1;
    undecided = rw e refl;
    reads = f.0;
    then = λ later ask reach asks.
        subst (λ (n : Next A F). asks_over w (moved n).registry (moved n).calls (moved n).heard ≡ Some ask → Decides w (script reg (call ∷ calls) None number) (moved n) gs later ask) (sym e)
        (λ k. decides_second reg call calls number gs later second ask e (f.2 later (grown reg gs later num reach)) k) asks;
  })
    where
      moved : Next A F → Script A O
      moved n = moved_on (script reg (call ∷ calls) None number) calls (told_by (select w.holds) gs (first w reg call)) n

  planned_first : (reg : Registry O) (calls : List (Call A)) (heard : Option (Reply (Doc A))) (number : ℕ) (gs : Generations (Doc A)) (ask : Request (Doc A) (Query F)) → AllNumbered gs → heard ≡ None → asks_over w reg calls heard ≡ Some ask
      → Decides w (script reg calls heard number) (script reg calls heard number) gs gs ask ⊎ GoesOn w settings (script reg calls heard number) gs ask
  planned_first reg [] heard number gs ask n begins asks = absurd (cc)
  planned_first reg (call ∷ calls) (Some r) number gs ask n begins asks = absurd (cc)
  planned_first reg (call ∷ calls) None number gs ask n begins asks =
      let is : first w reg call ≡ ask = cc in
      subst (λ x. Decides w (script reg (call ∷ calls) None number) (script reg (call ∷ calls) None number) gs gs x ⊎ GoesOn w settings (script reg (call ∷ calls) None number) gs x) is
      (planned reg call calls number gs n (next w reg call (told_by (select w.holds) gs (first w reg call))) refl (right_call w reg call gs))

  -- all that plans owe, from an opening whose tables are numbered
  pub plans : (opening : Generations (Doc A)) → AllNumbered opening → Plans {O = O} w settings opening
  plans opening n c ask gs reach begins asks =
      planned_first c.registry c.calls c.heard c.number gs ask ((grows_reached settings opening gs reach).numbered n) begins asks
