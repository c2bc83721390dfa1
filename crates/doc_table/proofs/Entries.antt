-- The table that rows stand for: what the changes of rows are in it.
use Rattle.std.proofs.Common.{◌≡◌, ◌≢◌, ℕ, ◌+◌, ◌<◌, Bool, true, false, cond, if◌then◌else◌, List, [], ◌∷◌, ◌++◌, length, take, Option, Some, None, refl, sym, ◌∙◌, ap}
use Rattle.std.specs.List.{filter}
use Rattle.std.specs.Prelude.{IfSome}
use Rattle.std.specs.Option.{option_map}
use Rattle.std.specs.Ordering.{is_lt, is_eq, is_gt, ordering_reverse}
use Rattle.std.specs.Cmp.Lexicographic.{nat_list_cmp_total, texts_ties}
use Rattle.std.specs.declared.cmp.Ordering.{Ordering}
use Rattle.std.specs.declared.cmp.Ordering.TheVariants.{Less, Equal, Greater}
use Rattle.std.proofs.lemmas.List.{take-map, length-map}
use Rattle.text_order.proofs.Order.{below_by_cmp}
use Rattle.base_model.specs.Keyed.{Text, same, text_lt, at, put, without}
use Rattle.document_model.specs.Documents.{Doc}
use Rattle.race_model.specs.Sorted.{IsSorted, AllAbove}
use Rattle.race_model.specs.Stores.{Cell, Rows, Table, found_one, written, dropped, numbered, renumbered}
use Rattle.race_tables.proofs.Keys.{same_true}
use Rattle.saved_doc.specs.declared.doc.Row.{Row}
use Rattle.so_js.specs.declared.js.Js.{Js}
use Rattle.doc_table.specs.RowLists.{Each, Pairwise, IsRising, IsNumbered, order, below, above, found, with_row, rows_after, is_after, counted_from}
use Rattle.doc_table.specs.Place.{IsAbove}
use Rattle.doc_table.specs.Tables.{cell_of, entry_of, entries, table_of, number, number_in, IsTable, is_above, rows_above}
use Rattle.doc_table.proofs.Order.{each_weaker, filter_all, filter_none}
use Rattle.doc_table.proofs.Places.{later_than_at, later_than_above}

-- ---- one order in two forms

eq_reversed : (o : Ordering) → is_eq (ordering_reverse o) ≡ is_eq o
eq_reversed Less = refl
eq_reversed Equal = refl
eq_reversed Greater = refl

gt_reversed : (o : Ordering) → is_gt (ordering_reverse o) ≡ is_lt o
gt_reversed Less = refl
gt_reversed Equal = refl
gt_reversed Greater = refl

pub same_by_order : (r a : List ℕ) → is_eq (order a r) ≡ same r a
unfolding same
same_by_order r a = ap is_eq (nat_list_cmp_total.antisymm a r) ∙ eq_reversed (order r a) ∙ sym (texts_ties r a)

pub above_by_order : (r a : List ℕ) → is_gt (order a r) ≡ text_lt r a
above_by_order r a = ap is_gt (nat_list_cmp_total.antisymm a r) ∙ gt_reversed (order r a) ∙ below_by_cmp r a

-- ---- the rows behind one that is not below a raw id

tail_above : (r : List ℕ) (y : Row) (ys : List Row) (o : Ordering) → order y.raw r ≡ o → (o ≡ Less → ⊥) → Each (λ z. order y.raw z.raw ≡ Less) ys → Each (IsAbove r) ys
tail_above r y ys Less e n l = absurd (n refl)
tail_above r y ys Equal e n l = each_weaker (λ z. order y.raw z.raw ≡ Less) (IsAbove r) (λ z q. later_than_at y.raw r z.raw e q) ys l
tail_above r y ys Greater e n l = each_weaker (λ z. order y.raw z.raw ≡ Less) (IsAbove r) (λ z q. later_than_above y.raw r z.raw e q) ys l

none_below : (r : List ℕ) (ys : List Row) → Each (IsAbove r) ys → below r ys ≡ []
none_below r ys h = filter_none (λ x. is_lt (order x.raw r)) ys (each_weaker (IsAbove r) (λ x. is_lt (order x.raw r) ≡ false) (λ x e. ap is_lt e) ys h)

all_above : (r : List ℕ) (ys : List Row) → Each (IsAbove r) ys → above r ys ≡ ys
all_above r ys h = filter_all (λ x. is_gt (order x.raw r)) ys (each_weaker (IsAbove r) (λ x. is_gt (order x.raw r) ≡ true) (λ x e. ap is_gt e) ys h)

-- ---- look-up, and the two changes

chosen : (b : Bool) (x : Row) (cell : Option (Cell (Doc Js))) (row : Option Row) → cell ≡ option_map cell_of row → (if b then Some (cell_of x) else cell) ≡ option_map cell_of (cond b (Some x) row)
chosen true x cell row e = refl
chosen false x cell row e = e

pub at_entries : (r : List ℕ) (rows : List Row) → at r (entries rows) ≡ option_map cell_of (found r rows)
unfolding at
at_entries r [] = refl
at_entries r (x ∷ xs) =
    ap (λ (b : Bool). if b then Some (cell_of x) else at r (entries xs)) (sym (same_by_order r x.raw))
    ∙ chosen (is_eq (order x.raw r)) x (at r (entries xs)) (found r xs) (at_entries r xs)

row_number : (o : Option Row) → option_map (λ x. x.seq) o ≡ number_in (option_map cell_of o)
row_number None = refl
row_number (Some x) = refl

pub number_entries : (r : List ℕ) (rows : List Row) (o : Option Row) → o ≡ found r rows → option_map (λ x. x.seq) o ≡ number_in (at r (entries rows))
number_entries r rows o e = row_number o ∙ ap number_in (ap (option_map cell_of) e ∙ sym (at_entries r rows))

-- the number in a table, by the rows that were looked through
pub number_by : (t : Table (Doc Js)) (raw r : List ℕ) (rows seen : List Row) (next : ℕ) → seen ≡ rows → r ≡ raw → table_of rows next ≡ t → number_in (at r (entries seen)) ≡ number t raw
number_by t raw r rows seen next e q v = (λ j. number_in (at (q j) (entries (e j)))) ∙ ap (λ (u : Table (Doc Js)). number u raw) v

put_step : (x y : Row) (ys : List Row) (o : Ordering) → order y.raw x.raw ≡ o → Each (λ z. order y.raw z.raw ≡ Less) ys → put x.raw (cell_of x) (entries ys) ≡ entries (with_row x ys)
    → (if is_eq o then entry_of x ∷ entries ys else if is_gt o then entry_of x ∷ entry_of y ∷ entries ys else entry_of y ∷ put x.raw (cell_of x) (entries ys))
    ≡ entries (cond (is_lt o) (y ∷ below x.raw ys) (below x.raw ys) ++ x ∷ cond (is_gt o) (y ∷ above x.raw ys) (above x.raw ys))
put_step x y ys Less e l h = ap (λ (t : Rows (Doc Js)). entry_of y ∷ t) h
put_step x y ys Equal e l h =
    let a = tail_above x.raw y ys Equal e (λ q. cc) l in
    sym (ap (λ (t : List Row). entries (t ++ x ∷ above x.raw ys)) (none_below x.raw ys a) ∙ ap (λ (t : List Row). entry_of x ∷ entries t) (all_above x.raw ys a))
put_step x y ys Greater e l h =
    let a = tail_above x.raw y ys Greater e (λ q. cc) l in
    sym (ap (λ (t : List Row). entries (t ++ x ∷ y ∷ above x.raw ys)) (none_below x.raw ys a) ∙ ap (λ (t : List Row). entry_of x ∷ entry_of y ∷ entries t) (all_above x.raw ys a))

pub put_entries : (x : Row) (rows : List Row) → IsRising rows → put x.raw (cell_of x) (entries rows) ≡ entries (with_row x rows)
unfolding put
put_entries x [] s = refl
put_entries x (y ∷ ys) s =
    ap (λ (b : Bool). if b then entry_of x ∷ entries ys else if text_lt x.raw y.raw then entry_of x ∷ entry_of y ∷ entries ys else entry_of y ∷ put x.raw (cell_of x) (entries ys)) (sym (same_by_order x.raw y.raw))
    ∙ ap (λ (b : Bool). if is_eq (order y.raw x.raw) then entry_of x ∷ entries ys else if b then entry_of x ∷ entry_of y ∷ entries ys else entry_of y ∷ put x.raw (cell_of x) (entries ys)) (sym (above_by_order x.raw y.raw))
    ∙ put_step x y ys (order y.raw x.raw) refl s.0 (put_entries x ys s.1)

without_step : (r : List ℕ) (y : Row) (ys : List Row) (o : Ordering) → order y.raw r ≡ o → Each (λ z. order y.raw z.raw ≡ Less) ys → without r (entries ys) ≡ entries (below r ys ++ above r ys)
    → (if is_eq o then without r (entries ys) else entry_of y ∷ without r (entries ys)) ≡ entries (cond (is_lt o) (y ∷ below r ys) (below r ys) ++ cond (is_gt o) (y ∷ above r ys) (above r ys))
without_step r y ys Less e l h = ap (λ (t : Rows (Doc Js)). entry_of y ∷ t) h
without_step r y ys Equal e l h = h
without_step r y ys Greater e l h =
    let b = none_below r ys (tail_above r y ys Greater e (λ q. cc) l) in
    ap (λ (t : Rows (Doc Js)). entry_of y ∷ t) (h ∙ ap (λ (t : List Row). entries (t ++ above r ys)) b) ∙ sym (ap (λ (t : List Row). entries (t ++ y ∷ above r ys)) b)

pub without_entries : (r : List ℕ) (rows : List Row) → IsRising rows → without r (entries rows) ≡ entries (below r rows ++ above r rows)
unfolding without
without_entries r [] s = refl
without_entries r (y ∷ ys) s =
    ap (λ (b : Bool). if b then without r (entries ys) else entry_of y ∷ without r (entries ys)) (sym (same_by_order r y.raw))
    ∙ without_step r y ys (order y.raw r) refl s.0 (without_entries r ys s.1)

pub table_with : (x : Row) (rows : List Row) → IsRising rows → table_of (with_row x rows) (x.seq + 1) ≡ written (table_of rows x.seq) x.raw x.doc
table_with x rows s = ap (λ (t : Rows (Doc Js)). record { rows = t; next = x.seq + 1 }) (sym (put_entries x rows s))

pub table_without : (r : List ℕ) (rows : List Row) (next : ℕ) → IsRising rows → table_of (below r rows ++ above r rows) (next + 1) ≡ dropped (table_of rows next) r
table_without r rows next s = ap (λ (t : Rows (Doc Js)). record { rows = t; next = next + 1 }) (sym (without_entries r rows s))

-- ---- the readers

found_named : (r : List ℕ) (rows : List Row) → IfSome (found r rows) (λ x. x.raw ≡ r)
found_named r [] = tt
found_named r (x ∷ xs) = by (is_eq (order x.raw r)) refl (found_named r xs)
  where
    by : (b : Bool) → is_eq (order x.raw r) ≡ b → IfSome (found r xs) (λ y. y.raw ≡ r) → IfSome (cond b (Some x) (found r xs)) (λ y. y.raw ≡ r)
    by true e h = sym (same_true r x.raw (sym (same_by_order r x.raw) ∙ e))
    by false e h = h

named : (r : List ℕ) (o : Option Row) → IfSome o (λ x. x.raw ≡ r) → option_map entry_of o ≡ found_one (option_map cell_of o) r
named r None e = refl
named r (Some x) e = ap (λ (t : List ℕ). Some (t, cell_of x)) e

pub one_entries : (r : List ℕ) (rows : List Row) → option_map entry_of (found r rows) ≡ found_one (at r (entries rows)) r
one_entries r rows = named r (found r rows) (found_named r rows) ∙ ap (λ (c : Option (Cell (Doc Js))). found_one c r) (sym (at_entries r rows))

entries_filter : (p : Row → Bool) (q : Text × Cell (Doc Js) → Bool) → ((x : Row) → p x ≡ q (entry_of x)) → (rows : List Row) → entries (filter p rows) ≡ filter q (entries rows)
entries_filter p q f [] = refl
entries_filter p q f (x ∷ xs) = kept (p x) (f x) (entries_filter p q f xs)
  where
    kept : (b : Bool) → b ≡ q (entry_of x) → entries (filter p xs) ≡ filter q (entries xs) → entries (cond b (x ∷ filter p xs) (filter p xs)) ≡ cond (q (entry_of x)) (entry_of x ∷ filter q (entries xs)) (filter q (entries xs))
    kept true e h = ap (λ (t : Rows (Doc Js)). entry_of x ∷ t) h ∙ ap (λ (b : Bool). cond b (entry_of x ∷ filter q (entries xs)) (filter q (entries xs))) e
    kept false e h = h ∙ ap (λ (b : Bool). cond b (entry_of x ∷ filter q (entries xs)) (filter q (entries xs))) e

after_above : (a : Option (List ℕ)) (x : Row) → is_after a x ≡ is_above a (entry_of x)
after_above None x = refl
after_above (Some r) x = above_by_order r x.raw

pub entries_after : (n : ℕ) (a : Option (List ℕ)) (rows : List Row) → entries (take n (rows_after a rows)) ≡ take n (rows_above a (entries rows))
entries_after n a rows = sym (take-map entry_of n (rows_after a rows)) ∙ ap (take n) (entries_filter (is_after a) (is_above a) (after_above a) rows)

pub count_entries : (a : Option (List ℕ)) (rows : List Row) → length (rows_after a rows) ≡ length (rows_above a (entries rows))
count_entries a rows = sym (length-map (rows_after a rows) entry_of) ∙ ap length (entries_filter (is_after a) (is_above a) (after_above a) rows)

pub entries_counted : (n : ℕ) (rows : List Row) → entries (counted_from n rows) ≡ numbered n (entries rows)
unfolding numbered
entries_counted n [] = refl
entries_counted n (x ∷ xs) = ap (λ (t : Rows (Doc Js)). (x.raw, record { seq = n; doc = x.doc }) ∷ t) (entries_counted (n + 1) xs)

pub table_counted : (rows : List Row) (next : ℕ) → table_of (counted_from 0 rows) (length rows) ≡ renumbered (table_of rows next)
table_counted rows next = λ j. record { rows = entries_counted 0 rows j; next = sym (length-map rows entry_of) j }

-- ---- a table

above_entries : (x : Row) (ys : List Row) → Each (λ y. order x.raw y.raw ≡ Less) ys → AllAbove x.raw (entries ys)
unfolding AllAbove
above_entries x [] e = tt
above_entries x (y ∷ ys) e = (sym (below_by_cmp x.raw y.raw) ∙ ap is_lt e.0, above_entries x ys e.1)

sorted_entries : (rows : List Row) → IsRising rows → IsSorted (entries rows)
unfolding IsSorted
sorted_entries [] s = tt
sorted_entries (x ∷ xs) s = (above_entries x xs s.0, sorted_entries xs s.1)

each_entries : (P : Text × Cell (Doc Js) → Type 0) (rows : List Row) → Each (λ x. P (entry_of x)) rows → Each P (entries rows)
each_entries P [] e = tt
each_entries P (x ∷ xs) e = (e.0, each_entries P xs e.1)

apart_entries : (rows : List Row) → Pairwise (λ x y. x.seq ≢ y.seq) rows → Pairwise (λ a b. a.1.seq ≢ b.1.seq) (entries rows)
apart_entries [] s = tt
apart_entries (x ∷ xs) s = (each_entries (λ b. x.seq ≢ b.1.seq) xs s.0, apart_entries xs s.1)

pub is_table : (rows : List Row) (next : ℕ) → IsNumbered rows next → IsTable (table_of rows next)
is_table rows next s = record {
  sorted = sorted_entries rows s.rising;
  apart = apart_entries rows s.apart;
  fresh = each_entries (λ a. a.1.seq < next) rows s.fresh;
}
