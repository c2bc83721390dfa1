-- A write by its cases.
use Rattle.std.proofs.Common.{◌≡◌, ℕ, Bool, true, false, Option, Some, None, Result, Ok, Err, refl, sym, ◌∙◌, ap, subst, if◌then◌else◌}
use Rattle.std.specs.Prelude.{IfOk}
use Rattle.base_model.specs.Keyed.{Text, at}
use Rattle.document_model.specs.Documents.{Doc}
use Rattle.race_model.specs.Stores.{Cell, Table, Item, write, written, dropped, new_over, put_over, delete_over, expected}
use Rattle.race_model.specs.Stores.Item.{Written, Exists, Conflict, NotFound}
use Rattle.race_model.specs.Stores as stores
use Rattle.so_js.specs.declared.js.Js.{Js}
use Rattle.doc_table.specs.RowLists.{meets}
use Rattle.doc_table.specs.Tables.{number_in, number, item_of}
use Rattle.doc_table.specs.declared.writes.Item.{Item as CodeItem}
use Rattle.doc_table.specs.declared.writes.Item.TheVariants as coded

new_free : (o : Option (Cell (Doc Js))) (t : Table (Doc Js)) (raw : Text) (doc : Doc Js) → number_in o ≡ None → (written t raw doc, Written t.next) ≡ new_over o t raw doc
new_free None t raw doc e = refl
new_free (Some c) t raw doc e = cc

new_taken : (o : Option (Cell (Doc Js))) (t : Table (Doc Js)) (raw : Text) (doc : Doc Js) (n : ℕ) → number_in o ≡ Some n → (t, Exists n) ≡ new_over o t raw doc
new_taken None t raw doc n e = cc
new_taken (Some c) t raw doc n e = let q : n ≡ c.seq = cc in ap (λ (m : ℕ). (t, Exists m)) q

pub create_free : (t : Table (Doc Js)) (raw : Text) (doc : Doc Js) → number t raw ≡ None → (written t raw doc, Written t.next) ≡ write t (stores.Write.Create raw doc)
unfolding write
create_free t raw doc e = new_free (at raw t.rows) t raw doc e

pub create_taken : (t : Table (Doc Js)) (raw : Text) (doc : Doc Js) (n : ℕ) → number t raw ≡ Some n → (t, Exists n) ≡ write t (stores.Write.Create raw doc)
unfolding write
create_taken t raw doc n e = new_taken (at raw t.rows) t raw doc n e

put_meets : (o : Option (Cell (Doc Js))) (t : Table (Doc Js)) (raw : Text) (doc : Doc Js) (expect : Option ℕ) → meets expect (number_in o) ≡ true → (written t raw doc, Written t.next) ≡ put_over o t raw doc expect
put_meets None t raw doc None e = refl
put_meets None t raw doc (Some n) e = cc
put_meets (Some c) t raw doc None e = refl
put_meets (Some c) t raw doc (Some n) e = ap (λ (b : Bool). if b then (written t raw doc, Written t.next) else (t, Conflict (Some c.seq))) (sym e)

put_differs : (o : Option (Cell (Doc Js))) (t : Table (Doc Js)) (raw : Text) (doc : Doc Js) (expect : Option ℕ) → meets expect (number_in o) ≡ false → (t, Conflict (number_in o)) ≡ put_over o t raw doc expect
put_differs None t raw doc None e = cc
put_differs None t raw doc (Some n) e = refl
put_differs (Some c) t raw doc None e = cc
put_differs (Some c) t raw doc (Some n) e = ap (λ (b : Bool). if b then (written t raw doc, Written t.next) else (t, Conflict (Some c.seq))) (sym e)

pub put_done : (t : Table (Doc Js)) (raw : Text) (doc : Doc Js) (expect : Option ℕ) → meets expect (number t raw) ≡ true → (written t raw doc, Written t.next) ≡ write t (stores.Write.Put raw doc expect)
unfolding write
put_done t raw doc expect e = put_meets (at raw t.rows) t raw doc expect e

pub put_refused : (t : Table (Doc Js)) (raw : Text) (doc : Doc Js) (expect : Option ℕ) → meets expect (number t raw) ≡ false → (t, Conflict (number t raw)) ≡ write t (stores.Write.Put raw doc expect)
unfolding write
put_refused t raw doc expect e = put_differs (at raw t.rows) t raw doc expect e

delete_nothing : (o : Option (Cell (Doc Js))) (t : Table (Doc Js)) (raw : Text) (expect : Option ℕ) → number_in o ≡ None → (t, NotFound) ≡ delete_over o t raw expect
delete_nothing None t raw expect e = refl
delete_nothing (Some c) t raw expect e = cc

delete_meets : (o : Option (Cell (Doc Js))) (t : Table (Doc Js)) (raw : Text) (expect : Option ℕ) (n : ℕ) → number_in o ≡ Some n → meets expect (Some n) ≡ true → (dropped t raw, Written t.next) ≡ delete_over o t raw expect
delete_meets None t raw expect n e m = cc
delete_meets (Some c) t raw None n e m = refl
delete_meets (Some c) t raw (Some k) n e m = ap (λ (b : Bool). if b then (dropped t raw, Written t.next) else (t, Conflict (Some c.seq))) (sym (ap (meets (Some k)) e ∙ m))

delete_differs : (o : Option (Cell (Doc Js))) (t : Table (Doc Js)) (raw : Text) (expect : Option ℕ) (n : ℕ) → number_in o ≡ Some n → meets expect (Some n) ≡ false → (t, Conflict (Some n)) ≡ delete_over o t raw expect
delete_differs None t raw expect n e m = cc
delete_differs (Some c) t raw None n e m = cc
delete_differs (Some c) t raw (Some k) n e m =
    ap (λ (o : Option ℕ). (t, Conflict o)) (sym e) ∙ ap (λ (b : Bool). if b then (dropped t raw, Written t.next) else (t, Conflict (Some c.seq))) (sym (ap (meets (Some k)) e ∙ m))

pub delete_missing : (t : Table (Doc Js)) (raw : Text) (expect : Option ℕ) → number t raw ≡ None → (t, NotFound) ≡ write t (stores.Write.Delete raw expect)
unfolding write
delete_missing t raw expect e = delete_nothing (at raw t.rows) t raw expect e

pub delete_done : (t : Table (Doc Js)) (raw : Text) (expect : Option ℕ) (n : ℕ) → number t raw ≡ Some n → meets expect (Some n) ≡ true → (dropped t raw, Written t.next) ≡ write t (stores.Write.Delete raw expect)
unfolding write
delete_done t raw expect n e m = delete_meets (at raw t.rows) t raw expect n e m

pub delete_refused : (t : Table (Doc Js)) (raw : Text) (expect : Option ℕ) (n : ℕ) → number t raw ≡ Some n → meets expect (Some n) ≡ false → (t, Conflict (Some n)) ≡ write t (stores.Write.Delete raw expect)
unfolding write
delete_refused t raw expect n e m = delete_differs (at raw t.rows) t raw expect n e m

-- ---- a write that ends in one that may fail

pub created : {E : Type 0} (old new : Table (Doc Js)) (raw : Text) (doc : Doc Js) (r : Result CodeItem E) → number old raw ≡ None → IfOk r (λ item. (item ≡ coded.Written old.next) × (new ≡ written old raw doc)) → IfOk r (λ item. (new, item_of item) ≡ write old (stores.Write.Create raw doc))
created old new raw doc (Ok item) e w = (λ j. (w.1 j, item_of (w.0 j))) ∙ create_free old raw doc e
created old new raw doc (Err x) e w = w

pub placed : {E : Type 0} (old new : Table (Doc Js)) (raw : Text) (doc : Doc Js) (expect : Option ℕ) (r : Result CodeItem E) → meets expect (number old raw) ≡ true → IfOk r (λ item. (item ≡ coded.Written old.next) × (new ≡ written old raw doc)) → IfOk r (λ item. (new, item_of item) ≡ write old (stores.Write.Put raw doc expect))
placed old new raw doc expect (Ok item) e w = (λ j. (w.1 j, item_of (w.0 j))) ∙ put_done old raw doc expect e
placed old new raw doc expect (Err x) e w = w

-- a write of a table under another name

pub written_there : {E : Type 0} (s t new : Table (Doc Js)) (raw : Text) (doc : Doc Js) (r : Result CodeItem E) → s ≡ t → IfOk r (λ item. (item ≡ coded.Written s.next) × (new ≡ written s raw doc)) → IfOk r (λ item. (item ≡ coded.Written t.next) × (new ≡ written t raw doc))
written_there s t new raw doc r e w = subst (λ (u : Table (Doc Js)). IfOk r (λ item. (item ≡ coded.Written u.next) × (new ≡ written u raw doc))) e w
