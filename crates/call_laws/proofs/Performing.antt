-- Calls of one thread on a store.
use Rattle.std.proofs.Common.{◌≡◌, ◌≢◌, Bool, true, false, Option, Some, None, List, [], ◌∷◌, refl, sym, ◌∙◌, subst}
use Rattle.base_model.specs.Keyed.{Text, at}
use Rattle.race_model.specs.Stores.{Index, Store, with_index, Select, Table, Write, Request, Reply, write_all, meant, serve}
use Rattle.race_model.specs.Stores.Request.{Ping, Get, Search, Bulk}
use Rattle.race_model.specs.Generations.{Generation, Generations, of_alias, told_by, left_by, written_in}
use Rattle.race_tables.proofs.Keys.{same_refl, at_put_same, at_put_other}
use Rattle.document_model.specs.Documents.{Doc}
use Rattle.document_model.specs.Registries.{Registry}
use Rattle.call_model.specs.Words.{Words}
use Rattle.call_model.specs.Calls.{Call, Answer}
use Rattle.query_model.specs.Queries.{Query, select}
use Rattle.call_model.specs.Steps.{work_of, called, call_step}
use Rattle.call_model.specs.Plans.{Next}
use Rattle.call_model.specs.Plans.Next.{Answers, Asks}
use Rattle.call_model.specs.Scripts.{first, next, last, own, replaced, replaced_where, perform_next, performed}
use Rattle.call_laws.specs.Meanings.{then_on, Shows}
use Rattle.call_laws.proofs.Keeping.{OnAlias, NextMine, first_mine, second_mine}
use Rattle.call_laws.proofs.Writing.{Done, Grown, Fate}
use Rattle.call_laws.proofs.Fates.{right_call}
use Rattle.call_laws.proofs.Moments.{one_moment}

module _ {D Q : Type 0} (sel : Select D Q) where
  own_one : (g : Generation D) → of_alias g.alias (g ∷ []) ≡ Some g
  unfolding of_alias
  own_one g = rw (same_refl g.alias) refl

  meant_is : (st : Store D) (g : Generation D) → Shows st g → meant st g.alias ≡ g.index
  unfolding meant
  meant_is st g s = rw (s.no_index, s.alias) refl

  alias_apart : (st : Store D) (g : Generation D) → Shows st g → g.alias ≢ g.index
  alias_apart st g s e = let a : at g.index st.indices ≡ None = subst (λ x. at x st.indices ≡ None) e s.no_index in let b : ◌≡◌ {A = Option (Index D)} None (Some (record { blocked = g.blocked; source = s.source; table = g.table })) = sym a ∙ s.index in cc

  -- a store that serves a request as its one generation does
  record Served (st : Store D) (g : Generation D) (ask : Request D Q) : Type 0 where
    told : (serve sel st ask).1 ≡ told_by sel (g ∷ []) ask
    after : Generation D
    left : left_by (g ∷ []) ask ≡ after ∷ []
    shows : Shows (serve sel st ask).0 after

  served_get : (st : Store D) (g : Generation D) (raws : List Text) → Shows st g → Served st g (Get g.alias raws)
  unfolding serve told_by left_by
  served_get st g raws s = record { told = rw (meant_is st g s, s.index, own_one g) refl; after = g; left = refl; shows = s }

  served_search : (st : Store D) (g : Generation D) (query : Q) → Shows st g → Served st g (Search g.alias query)
  unfolding serve told_by left_by
  served_search st g query s = record { told = rw (meant_is st g s, s.index, own_one g) refl; after = g; left = refl; shows = s }

  served_bulk : (st : Store D) (g : Generation D) (writes : List (Write D)) → Shows st g → Served st g (Bulk g.alias writes)
  unfolding serve told_by left_by written_in
  served_bulk st g writes s = by g.blocked refl
    where
      by : (b : Bool) → g.blocked ≡ b → Served st g (Bulk g.alias writes)
      by true e = record {
        told = rw (meant_is st g s, s.index, own_one g, e) refl;
        after = g;
        left = rw (same_refl g.alias, e) refl;
        shows = let same_store : (serve sel st (Bulk g.alias writes)).0 ≡ st = rw (meant_is st g s, s.index, e) refl in subst (λ x. Shows x g) (sym same_store) s;
      }
      by false e =
          let ix : Index D = record { blocked = false; source = s.source; table = write_all g.table writes } in
          let new : Generation D = record { alias = g.alias; index = g.index; blocked = false; table = write_all g.table writes } in
          let put_store : (serve sel st (Bulk g.alias writes)).0 ≡ with_index st g.index ix = rw (meant_is st g s, s.index, e) refl in
          record {
            told = rw (meant_is st g s, s.index, own_one g, e) refl;
            after = new;
            left = rw (same_refl g.alias, e) refl;
            shows = subst (λ x. Shows x new) (sym put_store) (record {
              source = s.source;
              no_index = at_put_other g.alias g.index ix st.indices (alias_apart st g s) ∙ s.no_index;
              alias = s.alias;
              index = at_put_same g.index ix st.indices;
            });
          }

  served_ping : (st : Store D) (g : Generation D) → Shows st g → Served st g Ping
  unfolding serve told_by left_by
  served_ping st g s = record { told = refl; after = g; left = refl; shows = s }

module _ {A O F : Type 0} (w : Words A O F) (reg : Registry O) where
  served : (st : Store (Doc A)) (g : Generation (Doc A)) (ask : Request (Doc A) (Query F)) → Shows st g → g.alias ≡ w.version_alias reg.version → OnAlias w reg ask → Served (select w.holds) st g ask
  served st g Ping s e o = served_ping (select w.holds) st g s
  served st g (Get n raws) s e o = subst (λ x. Served (select w.holds) st g (Get x raws)) (e ∙ sym o) (served_get (select w.holds) st g raws s)
  served st g (Search n query) s e o = subst (λ x. Served (select w.holds) st g (Search x query)) (e ∙ sym o) (served_search (select w.holds) st g query s)
  served st g (Bulk n writes) s e o = subst (λ x. Served (select w.holds) st g (Bulk x writes)) (e ∙ sym o) (served_bulk (select w.holds) st g writes s)
  served st g Request.State s e o = absurd o
  served st g (Request.Create n from) s e o = absurd o
  served st g (Request.Block n) s e o = absurd o
  served st g (Request.Clone n m) s e o = absurd o
  served st g (Request.OpenPit n) s e o = absurd o
  served st g (Request.ReadPit p q) s e o = absurd o
  served st g (Request.ClosePit p) s e o = absurd o
  served st g (Request.Aliases actions) s e o = absurd o

  own_is : (g : Generation (Doc A)) → g.alias ≡ w.version_alias reg.version → own w reg (g ∷ []) ≡ Some g
  own_is g e = subst (λ x. of_alias x (g ∷ []) ≡ Some g) e (own_one (select w.holds) g)

  grown_self : (gs : Generations (Doc A)) → Grown w reg gs gs
  grown_self gs = record { grown = λ g e. (g, e, λ raw k. refl) }

  -- what a store shows after a call that is done
  record After (g : Generation (Doc A)) (call : Call A) (st : Store (Doc A)) (a : Answer A) : Type 0 where
    answer : a ≡ (called w reg call (Some g) (Some g)).1
    after : Generation (Doc A)
    shows : Shows st after
    left : after ∷ [] ≡ replaced_where (w.version_alias reg.version) (called w reg call (Some g) (Some g)).0 (g ∷ [])

  done_after : (g : Generation (Doc A)) (call : Call A) (ask : Request (Doc A) (Query F)) (st new : Store (Doc A)) (a : Answer A) (h : Generation (Doc A)) → g.alias ≡ w.version_alias reg.version → Done w reg (work_of w reg call) (g ∷ []) (g ∷ []) ask a → left_by (g ∷ []) ask ≡ h ∷ [] → Shows new h → After g call new a
  unfolding called
  done_after g call ask st new a h e d l s = record {
    answer = subst (λ o. a ≡ (called w reg call o o).1) (own_is g e) d.answer;
    after = h;
    shows = s;
    left = sym l ∙ subst (λ o. left_by (g ∷ []) ask ≡ replaced_where (w.version_alias reg.version) (called w reg call o o).0 (g ∷ [])) (own_is g e) d.effect;
  }

  performed_by : (g : Generation (Doc A)) (call : Call A) (st new : Store (Doc A)) (one : Reply (Doc A)) (h : Generation (Doc A)) → g.alias ≡ w.version_alias reg.version → one ≡ told_by (select w.holds) (g ∷ []) (first w reg call) → left_by (g ∷ []) (first w reg call) ≡ h ∷ [] → Shows new h
      → (n : Next A F) → Fate w reg (work_of w reg call) (g ∷ []) (first w reg call) n → NextMine w reg (first w reg call) one n → After g call (perform_next w reg call one new n).0 (perform_next w reg call one new n).1
  performed_by g call st new one h e told l s (Answers a) fate mine = done_after g call (first w reg call) st new a h e fate l s
  performed_by g call st new one h e told l s (Asks second) fate mine =
      let both : h ∷ [] ≡ g ∷ [] = sym l ∙ fate.0 in
      let is : h ≡ g = cc in
      let s2 : Served (select w.holds) new g second = served new g second (subst (Shows new) is s) e mine.1 in
      let d : Done w reg (work_of w reg call) (g ∷ []) (g ∷ []) second (last w reg call (told_by (select w.holds) (g ∷ []) (first w reg call)) (told_by (select w.holds) (g ∷ []) second)) = fate.2 (g ∷ []) (grown_self (g ∷ [])) in
      done_after g call second new (serve (select w.holds) new second).0 (last w reg call one (serve (select w.holds) new second).1) s2.after e
      (subst (λ x. Done w reg (work_of w reg call) (g ∷ []) (g ∷ []) second (last w reg call one x)) (sym s2.told)
      (subst (λ x. Done w reg (work_of w reg call) (g ∷ []) (g ∷ []) second (last w reg call x (told_by (select w.holds) (g ∷ []) second))) (sym told) d)) s2.left s2.shows

  performed_after : (g : Generation (Doc A)) (call : Call A) (st : Store (Doc A)) → Shows st g → g.alias ≡ w.version_alias reg.version → After g call (performed w reg st call).0 (performed w reg st call).1
  unfolding performed
  performed_after g call st s e =
      let ask : Request (Doc A) (Query F) = first w reg call in
      let s1 : Served (select w.holds) st g ask = served st g ask s e (first_mine w reg (work_of w reg call)).on_alias in
      performed_by g call st (serve (select w.holds) st ask).0 (serve (select w.holds) st ask).1 s1.after e s1.told s1.left s1.shows (next w reg call (serve (select w.holds) st ask).1)
      (subst (λ x. Fate w reg (work_of w reg call) (g ∷ []) ask (next w reg call x)) (sym s1.told) (right_call w reg call (g ∷ [])))
      (second_mine w reg (work_of w reg call) (serve (select w.holds) st ask).1)

  replaced_one : (g : Generation (Doc A)) (o : Option (Table (Doc A))) → replaced_where g.alias o (g ∷ []) ≡ record { alias = g.alias; index = g.index; blocked = g.blocked; table = then_on o g.table } ∷ []
  unfolding replaced
  replaced_one g None = refl
  replaced_one g (Some t) = rw (same_refl g.alias) refl

  -- the store then has the table of the one-thread step, and the answer is that step's
  pub record OneThread (g : Generation (Doc A)) (call : Call A) (st : Store (Doc A)) (a : Answer A) : Type 0 where
    pub answer : a ≡ (call_step w reg g.blocked g.table call).1
    pub shows : Shows st (record { alias = g.alias; index = g.index; blocked = g.blocked; table = then_on (call_step w reg g.blocked g.table call).0 g.table })

  pub one_thread : (g : Generation (Doc A)) (call : Call A) (st : Store (Doc A)) → Shows st g → g.alias ≡ w.version_alias reg.version → OneThread g call (performed w reg st call).0 (performed w reg st call).1
  one_thread g call st s e =
      let p : After g call (performed w reg st call).0 (performed w reg st call).1 = performed_after g call st s e in
      let m = one_moment w reg g call in
      let o : Option (Table (Doc A)) = (called w reg call (Some g) (Some g)).0 in
      let left : p.after ∷ [] ≡ record { alias = g.alias; index = g.index; blocked = g.blocked; table = then_on o g.table } ∷ [] =
      p.left ∙ subst (λ x. replaced_where x o (g ∷ []) ≡ record { alias = g.alias; index = g.index; blocked = g.blocked; table = then_on o g.table } ∷ []) e (replaced_one g o) in
      let is : p.after ≡ record { alias = g.alias; index = g.index; blocked = g.blocked; table = then_on o g.table } = cc in
      record {
        answer = p.answer ∙ m.answer;
        shows = subst (λ x. Shows (performed w reg st call).0 (record { alias = g.alias; index = g.index; blocked = g.blocked; table = x })) m.table (subst (Shows (performed w reg st call).0) is p.shows);
      }
