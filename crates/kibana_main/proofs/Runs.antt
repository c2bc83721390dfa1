-- A run between two calls.
use Rattle.std.proofs.Common.{◌≡◌, ◌<◌, ◌+◌, ◌-◌, ◌==◌, ℕ, nat_le, true, false, List, [], ◌∷◌, ◌++◌, length, drop, refl, sym, ap, subst, ◌∙◌, append_assoc, append-nil, arith}
use Rattle.std.proofs.lemmas.Bool.Decides.{nat_tests}
use Rattle.std.proofs.lemmas.List.{drop_all}
use Rattle.race_model.specs.Stores.{Table, renumbered}
use Rattle.document_model.specs.Documents.{Doc}
use Rattle.document_model.specs.Registries.{Registry}
use Rattle.so_js.specs.declared.js.Js.{Js}
use Rattle.transform_ops.specs.declared.op.Op.{Op}
use Rattle.doc_table.specs.RowLists.{Each}
use Rattle.store_core.specs.Journals.{Journaled, begun}
use Rattle.call_model.specs.Scripts.{performed}
use Rattle.call_words.specs.Mapped.{call_of}
use Rattle.call_words.specs.Product.{product_words}
use Rattle.scenario.specs.declared.scenario.ApplyAsk.{ApplyAsk}
use Rattle.own_link.specs.Calling.{Holds, requests_on, room}
use Rattle.kibana_main.specs.declared.status.Status.TheVariants as status
use Rattle.kibana_main.specs.Output.{outcome_on}
use Rattle.kibana_main.specs.Running.{answers_from, answers_text, opening_store, journal_limit, within, generation_of, line_on, table_after}

-- the calls that a run makes
abbrev pub made_of : Registry Op → Table (Doc Js) → List ApplyAsk → List ApplyAsk
made_of reg t asks = within journal_limit reg (opening_store reg t) asks

-- the calls that it has left to make
abbrev pub made_from : Registry Op → Journaled → List ApplyAsk → List ApplyAsk
made_from reg core asks = within (room core) reg core.store asks

-- after so many calls the store has this table, and the lines so far and those of the calls that are left to make are those of the whole run
pub record GoesOn (reg : Registry Op) (opening : Table (Doc Js)) (asks : List ApplyAsk) (n : ℕ) (core : Journaled) (lines : List ℕ) (now : Table (Doc Js)) : Type 0 where
  pub holds : Holds reg core.store (generation_of reg now)
  pub text : lines ++ answers_text (answers_from reg now (made_from reg core (drop n asks))) ≡ answers_text (answers_from reg (renumbered opening) (made_of reg opening asks))
  pub count : n + length (made_from reg core (drop n asks)) ≡ length (made_of reg opening asks)

pub goes_on_first : (reg : Registry Op) (t : Table (Doc Js)) (asks : List ApplyAsk) (core : Journaled) → core ≡ begun (opening_store reg t) journal_limit → Holds reg core.store (generation_of reg (renumbered t)) → GoesOn reg t asks 0 core [] (renumbered t)
goes_on_first reg t asks core is holds = record {
  holds = holds;
  text = ap (λ (j : Journaled). answers_text (answers_from reg (renumbered t) (made_from reg j asks))) is;
  count = let counted : length (made_from reg core asks) ≡ length (made_of reg t asks) = ap (λ (j : Journaled). length (made_from reg j asks)) is in omega (arith, counted);
}

-- a call that the journal has room for
within_more : (reg : Registry Op) (core new : Journaled) (a : ApplyAsk) (rest : List ApplyAsk) → nat_le (requests_on reg core.store (call_of a.call)) (room core) ≡ true
    → new.store ≡ (performed product_words reg core.store (call_of a.call)).0 → room new ≡ room core - requests_on reg core.store (call_of a.call)
    → made_from reg core (a ∷ rest) ≡ a ∷ made_from reg new rest
within_more reg core new a rest fits store left = rw (fits, store, left) refl

-- one call more
pub goes_on : (reg : Registry Op) (opening : Table (Doc Js)) (asks : List ApplyAsk) (n : ℕ) (core new : Journaled) (lines more : List ℕ) (now : Table (Doc Js)) (a : ApplyAsk)
    → drop n asks ≡ a ∷ drop (n + 1) asks
    → nat_le (requests_on reg core.store (call_of a.call)) (room core) ≡ true
    → new.store ≡ (performed product_words reg core.store (call_of a.call)).0
    → room new ≡ room core - requests_on reg core.store (call_of a.call)
    → Holds reg new.store (generation_of reg (table_after reg now a))
    → more ≡ lines ++ line_on reg now a
    → GoesOn reg opening asks n core lines now → GoesOn reg opening asks (n + 1) new more (table_after reg now a)
goes_on reg opening asks n core new lines more now a next fits store left holds line g =
    let rest : List ApplyAsk = made_from reg new (drop (n + 1) asks) in
    let made : made_from reg core (drop n asks) ≡ a ∷ rest = ap (made_from reg core) next ∙ within_more reg core new a (drop (n + 1) asks) fits store left in
    let later : List ℕ = answers_text (answers_from reg (table_after reg now a) rest) in
    record {
      holds = holds;
      text = ap (λ (l : List ℕ). l ++ later) line ∙ append_assoc lines (line_on reg now a) later ∙ sym (ap (λ (m : List ApplyAsk). lines ++ answers_text (answers_from reg now m)) made) ∙ g.text;
      count = omega (arith, g.count, ap length made);
    }

-- all calls were made
pub ends : (reg : Registry Op) (opening : Table (Doc Js)) (asks : List ApplyAsk) (n : ℕ) (core : Journaled) (lines : List ℕ) (now : Table (Doc Js)) → n ≡ length asks → GoesOn reg opening asks n core lines now
    → record { status = status.Ok; text = lines } ≡ outcome_on reg opening (made_of reg opening asks) asks
ends reg opening asks n core lines now end g =
    let made : made_from reg core (drop n asks) ≡ [] = ap (made_from reg core) (drop_all n asks (omega arith)) in
    let counted = g.count in
    let none = ap length made in
    let all : (length (made_of reg opening asks) == length asks) ≡ true = grind (arith, nat_tests) in
    let text : lines ≡ answers_text (answers_from reg (renumbered opening) (made_of reg opening asks)) = sym (append-nil lines) ∙ sym (ap (λ (m : List ApplyAsk). lines ++ answers_text (answers_from reg now m)) made) ∙ g.text in
    rw (all, text) refl

-- the journal has no room for a call
pub ends_full : (reg : Registry Op) (opening : Table (Doc Js)) (asks : List ApplyAsk) (n : ℕ) (core : Journaled) (lines : List ℕ) (now : Table (Doc Js)) (a : ApplyAsk) → n < length asks → drop n asks ≡ a ∷ drop (n + 1) asks
    → nat_le (requests_on reg core.store (call_of a.call)) (room core) ≡ false → GoesOn reg opening asks n core lines now
    → record { status = status.JournalFull; text = lines } ≡ outcome_on reg opening (made_of reg opening asks) asks
ends_full reg opening asks n core lines now a more next full g =
    let none : made_from reg core (a ∷ drop (n + 1) asks) ≡ [] = rw full refl in
    let made : made_from reg core (drop n asks) ≡ [] = ap (made_from reg core) next ∙ none in
    let counted = g.count in
    let nothing = ap length made in
    let fewer : (length (made_of reg opening asks) == length asks) ≡ false = grind (arith, nat_tests) in
    let text : lines ≡ answers_text (answers_from reg (renumbered opening) (made_of reg opening asks)) = sym (append-nil lines) ∙ sym (ap (λ (m : List ApplyAsk). lines ++ answers_text (answers_from reg now m)) made) ∙ g.text in
    rw (fewer, text) refl

-- the calls that are left, where one is made
pub each_rest : (P : ApplyAsk → Type 0) (asks rest : List ApplyAsk) (a : ApplyAsk) → asks ≡ a ∷ rest → Each P asks → P a × Each P rest
each_rest P asks rest a is all = subst (Each P) is all
