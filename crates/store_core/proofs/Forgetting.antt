-- Actions on aliases look at the names of indices alone.
use Rattle.std.proofs.Common.{◌≡◌, ℕ, Bool, true, false, List, [], ◌∷◌, ◌++◌, map, Option, Some, None, refl, sym, ◌∙◌, ap, subst, if◌then◌else◌, append_assoc}
use Rattle.document_model.specs.Documents.{Doc}
use Rattle.so_js.specs.declared.js.Js.{Js}
use Rattle.base_model.specs.Keyed.{Text, Keyed, same, at, put, without}
use Rattle.race_model.specs.Stores.{Index, Store, Acted, Refusal, act, act_all, with_aliases, remove_over, add_over, drop_over, aliases_without}
use Rattle.race_model.specs.Stores as stores
use Rattle.race_model.specs.Stores.Acted.{Now, Stuck}
use Rattle.race_model.specs.Stores.Refusal.{AliasMissing, AliasTaken}
use Rattle.alias_table.specs.Plans.{bare_index, bare_entry, bare_indices, action_of, removed_one, removed_by, acted_on, bare_store, keyed_of, names_after}
use Rattle.alias_table.specs.declared.action.Action.{Action}
use Rattle.alias_table.specs.declared.action.Action.TheVariants.{RemoveMustExist, Add, RemoveIndex}
use Rattle.alias_table.specs.declared.pair.Pair.{Pair}
use Rattle.index_store.specs.Indices.{names_of, without_index}
use Rattle.store_core.specs.Engines.{without_all, AreThere, store_of}
use Rattle.store_core.proofs.Names.{some_of}

abbrev Real : Type 0
Real = Store (Doc Js)

-- the store with nothing but the names of its indices and its aliases
abbrev forgot : Real → Store ℕ
forgot st = record { indices = bare_indices (names_of st.indices); aliases = st.aliases; opened = 0; pits = [] }

abbrev forgot_acted : Acted (Doc Js) → Acted ℕ
forgot_acted (Now st) = Now (forgot st)
forgot_acted (Stuck why) = Stuck why

abbrev forgot_index : Option (Index (Doc Js)) → Option (Index ℕ)
forgot_index None = None
forgot_index (Some ix) = Some bare_index

at_forgot : (name : Text) (ixs : Keyed (Index (Doc Js))) → at name (bare_indices (names_of ixs)) ≡ forgot_index (at name ixs)
unfolding at
at_forgot name [] = refl
at_forgot name (e ∷ ixs) = by (same name e.0) (at_forgot name ixs)
  where
    by : (s : Bool) → at name (bare_indices (names_of ixs)) ≡ forgot_index (at name ixs) → (if s then Some bare_index else at name (bare_indices (names_of ixs))) ≡ forgot_index (if s then Some e.1 else at name ixs)
    by true h = refl
    by false h = h

without_forgot : (name : Text) (ixs : Keyed (Index (Doc Js))) → bare_indices (names_of (without name ixs)) ≡ without name (bare_indices (names_of ixs))
unfolding without
without_forgot name [] = refl
without_forgot name (e ∷ ixs) = by (same name e.0) (without_forgot name ixs)
  where
    by : (s : Bool) → bare_indices (names_of (without name ixs)) ≡ without name (bare_indices (names_of ixs)) →
        bare_indices (names_of (if s then without name ixs else e ∷ without name ixs)) ≡ (if s then without name (bare_indices (names_of ixs)) else bare_entry e.0 ∷ without name (bare_indices (names_of ixs)))
    by true h = h
    by false h = ap (λ es. bare_entry e.0 ∷ es) h

remove_forgot : (st : Real) (alias index : Text) (o : Option Text) → forgot_acted (remove_over o st alias index) ≡ remove_over o (forgot st) alias index
remove_forgot st alias index None = refl
remove_forgot st alias index (Some i) = by (same i index)
  where
    by : (s : Bool) → forgot_acted (if s then Now (with_aliases st (without alias st.aliases)) else Stuck (AliasMissing alias index)) ≡ (if s then Now (with_aliases (forgot st) (without alias st.aliases)) else Stuck (AliasMissing alias index))
    by true = refl
    by false = refl

add_forgot : (st : Real) (alias index : Text) (o p : Option (Index (Doc Js))) (a : Option Text) → forgot_acted (add_over o p a st alias index) ≡ add_over (forgot_index o) (forgot_index p) a (forgot st) alias index
add_forgot st alias index None p a = refl
add_forgot st alias index (Some ix) (Some iy) a = refl
add_forgot st alias index (Some ix) None None = refl
add_forgot st alias index (Some ix) None (Some i) = by (same i index)
  where
    by : (s : Bool) → forgot_acted (if s then Now st else Stuck (AliasTaken alias i)) ≡ (if s then Now (forgot st) else Stuck (AliasTaken alias i))
    by true = refl
    by false = refl

drop_forgot : (st : Real) (index : Text) (o : Option (Index (Doc Js))) → forgot_acted (drop_over o st index) ≡ drop_over (forgot_index o) (forgot st) index
drop_forgot st index None = refl
drop_forgot st index (Some ix) = ap (λ (ixs : Keyed (Index ℕ)). Now (record { indices = ixs; aliases = aliases_without index st.aliases; opened = 0; pits = [] })) (without_forgot index st.indices)

act_forgot : (st : Real) (a : stores.Action) → forgot_acted (act st a) ≡ act (forgot st) a
unfolding act
act_forgot st (stores.Action.RemoveMustExist alias index) = remove_forgot st alias index (at alias st.aliases)
act_forgot st (stores.Action.Add alias index) =
    add_forgot st alias index (at index st.indices) (at alias st.indices) (at alias st.aliases)
    ∙ ap (λ (o : Option (Index ℕ)). add_over o (forgot_index (at alias st.indices)) (at alias st.aliases) (forgot st) alias index) (sym (at_forgot index st.indices))
    ∙ ap (λ (o : Option (Index ℕ)). add_over (at index (bare_indices (names_of st.indices))) o (at alias st.aliases) (forgot st) alias index) (sym (at_forgot alias st.indices))
act_forgot st (stores.Action.RemoveIndex index) =
    drop_forgot st index (at index st.indices)
    ∙ ap (λ (o : Option (Index ℕ)). drop_over o (forgot st) index) (sym (at_forgot index st.indices))

all_forgot : (acted : Acted (Doc Js)) (actions : List stores.Action) → forgot_acted (act_all acted actions) ≡ act_all (forgot_acted acted) actions
unfolding act_all
all_forgot acted [] = refl
all_forgot (Stuck why) (a ∷ actions) = refl
all_forgot (Now st) (a ∷ actions) = all_forgot (act st a) actions ∙ ap (λ (x : Acted ℕ). act_all x actions) (act_forgot st a)

-- ---- what the actions leave of the indices

-- the indices that went were there, and nothing else of the store but its aliases changed
record Left (st : Real) (removed : List Text) (now : Real) : Type 0 where
  there : AreThere st.indices removed
  store : with_aliases (without_all st removed) now.aliases ≡ now

abbrev LeftActed : Real → List Text → Acted (Doc Js) → Type 0
LeftActed st removed (Now now) = Left st removed now
LeftActed st removed (Stuck why) = Unit {0}

same_left : (st : Real) (aliases : Keyed Text) → Left st [] (with_aliases st aliases)
unfolding without_all AreThere
same_left st aliases = record { there = tt; store = refl }

one_left : (st : Real) (a : Action) → LeftActed st (removed_one a) (act st (action_of a))
unfolding act without_all AreThere
one_left st (RemoveMustExist alias index) = by (at alias st.aliases)
  where
    by : (o : Option Text) → LeftActed st [] (remove_over o st alias index)
    by None = tt
    by (Some i) = if_so (same i index)
      where
        if_so : (s : Bool) → LeftActed st [] (if s then Now (with_aliases st (without alias st.aliases)) else Stuck (AliasMissing alias index))
        if_so true = same_left st (without alias st.aliases)
        if_so false = tt
one_left st (Add alias index) = by (at index st.indices) (at alias st.indices) (at alias st.aliases)
  where
    by : (o p : Option (Index (Doc Js))) (a : Option Text) → LeftActed st [] (add_over o p a st alias index)
    by None p a = tt
    by (Some ix) (Some iy) a = tt
    by (Some ix) None None = same_left st (put alias index st.aliases)
    by (Some ix) None (Some i) = if_so (same i index)
      where
        if_so : (s : Bool) → LeftActed st [] (if s then Now st else Stuck (AliasTaken alias i))
        if_so true = same_left st st.aliases
        if_so false = tt
one_left st (RemoveIndex index) = by (at index st.indices) refl
  where
    by : (o : Option (Index (Doc Js))) → at index st.indices ≡ o → LeftActed st (index ∷ []) (drop_over o st index)
    by None e = tt
    by (Some ix) e = record { there = (some_of _ ix e, tt); store = refl }

there_join : (ixs : Keyed (Index (Doc Js))) (st : Real) (first more : List Text) → st.indices ≡ ixs → AreThere ixs first → AreThere (without_all st first).indices more → AreThere ixs (first ++ more)
unfolding AreThere without_all
there_join ixs st [] more e a b = subst (λ (x : Keyed (Index (Doc Js))). AreThere x more) e b
there_join ixs st (r ∷ first) more e a b = (a.0, there_join (without r ixs) (without_index st r) first more (ap (λ (x : Keyed (Index (Doc Js))). without r x) e) a.1 b)

all_join : (st : Real) (first more : List Text) → without_all st (first ++ more) ≡ without_all (without_all st first) more
unfolding without_all
all_join st [] more = refl
all_join st (r ∷ first) more = all_join (without_index st r) first more

-- the aliases stay out of what is removed
all_aside : (st : Real) (aliases other : Keyed Text) (removed : List Text) → with_aliases (without_all (with_aliases st aliases) removed) other ≡ with_aliases (without_all st removed) other
unfolding without_all
all_aside st aliases other [] = refl
all_aside st aliases other (r ∷ removed) = all_aside (without_index st r) aliases other removed

left_join : (st mid now : Real) (first more : List Text) → Left st first mid → Left mid more now → Left st (first ++ more) now
left_join st mid now first more h k = record {
  there = there_join st.indices st first more refl h.there (subst (λ (x : Keyed (Index (Doc Js))). AreThere x more) (sym (ap (λ (x : Real). x.indices) h.store)) k.there);
  store =
      ap (λ (x : Real). with_aliases x now.aliases) (all_join st first more)
      ∙ sym (all_aside (without_all st first) mid.aliases now.aliases more)
      ∙ ap (λ (x : Real). with_aliases (without_all x more) now.aliases) h.store
      ∙ k.store;
}

all_left : (st : Real) (acted : Acted (Doc Js)) (removed : List Text) (actions : List Action) → LeftActed st removed acted → LeftActed st (removed ++ removed_by actions) (act_all acted (map action_of actions))
unfolding act_all removed_by
all_left st acted removed [] h = subst (λ (r : List Text). LeftActed st r acted) (sym (append_nil removed)) h
  where
    append_nil : (xs : List Text) → xs ++ [] ≡ xs
    append_nil [] = refl
    append_nil (x ∷ xs) = ap (λ ys. x ∷ ys) (append_nil xs)
all_left st (Stuck why) removed (a ∷ actions) h = stuck (map action_of actions)
  where
    stuck : (l : List stores.Action) → LeftActed st (removed ++ (removed_one a ++ removed_by actions)) (act_all (Stuck why) (action_of a ∷ l))
    stuck l = tt
all_left st (Now mid) removed (a ∷ actions) h =
    subst (λ (r : List Text). LeftActed st r (act_all (act mid (action_of a)) (map action_of actions))) (append_assoc removed (removed_one a) (removed_by actions))
    (all_left st (act mid (action_of a)) (removed ++ removed_one a) actions (step (act mid (action_of a)) (one_left mid a)))
  where
    step : (acted : Acted (Doc Js)) → LeftActed mid (removed_one a) acted → LeftActed st (removed ++ removed_one a) acted
    step (Now now) k = left_join st mid now removed (removed_one a) h k
    step (Stuck why) k = tt

-- ---- what a plan says of the store

-- where a plan is done, the store is left without the indices that it removes and with its aliases
pub planned_done : (indices : Real) (pairs left : List Pair) (actions : List Action) (removed : List Text) →
    acted_on (names_of indices.indices) pairs actions ≡ Now (bare_store (names_after (names_of indices.indices) removed) left) → removed ≡ removed_by actions →
    AreThere indices.indices removed × (act_all (Now (store_of indices pairs)) (map action_of actions) ≡ Now (store_of (without_all indices removed) left))
planned_done indices pairs left actions removed e r =
    by (act_all (Now st) (map action_of actions)) refl (all_forgot (Now st) (map action_of actions) ∙ e)
    (subst (λ (l : List Text). LeftActed st l (act_all (Now st) (map action_of actions))) (sym r) (all_left st (Now st) [] actions (same_left st st.aliases)))
  where
    st : Real
    st = store_of indices pairs

    by : (acted : Acted (Doc Js)) → act_all (Now (store_of indices pairs)) (map action_of actions) ≡ acted → forgot_acted acted ≡ Now (bare_store (names_after (names_of indices.indices) removed) left) → LeftActed (store_of indices pairs) removed acted →
        AreThere indices.indices removed × (act_all (Now (store_of indices pairs)) (map action_of actions) ≡ Now (store_of (without_all indices removed) left))
    by (Stuck why) a f k = absurd (cc)
    by (Now now) a f k =
        let g : forgot now ≡ bare_store (names_after (names_of indices.indices) removed) left = cc in
        let n : now.aliases ≡ keyed_of left = ap (λ (x : Store ℕ). x.aliases) g in
        let s : store_of (without_all indices removed) left ≡ now =
        ap (λ (x : Keyed Text). with_aliases (without_all indices removed) x) (sym n)
        ∙ sym (all_aside indices (keyed_of pairs) now.aliases removed)
        ∙ k.store in
        (k.there, a ∙ ap Now (sym s))

-- where a plan is refused, so is the request
pub planned_stuck : (indices : Real) (pairs : List Pair) (actions : List Action) (why : Refusal) →
    acted_on (names_of indices.indices) pairs actions ≡ Stuck why → act_all (Now (store_of indices pairs)) (map action_of actions) ≡ Stuck why
planned_stuck indices pairs actions why e = by (act_all (Now (store_of indices pairs)) (map action_of actions)) (all_forgot (Now (store_of indices pairs)) (map action_of actions) ∙ e)
  where
    by : (acted : Acted (Doc Js)) → forgot_acted acted ≡ Stuck why → acted ≡ Stuck why
    by (Stuck w) f = let q : w ≡ why = cc in ap Stuck q
    by (Now now) f = absurd (cc)
