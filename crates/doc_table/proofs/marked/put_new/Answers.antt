use Rattle.std.proofs.Common.{ℕ, List, ◌∙◌, ap, subst, arith}
use Rattle.std.specs.List.{insert}
use Rattle.saved_doc.specs.declared.doc.Row.{Row}
use Rattle.doc_table.specs.Marks.{IsWordOf}
use Rattle.doc_table.proofs.MarkLists.{marks_length, marks_by, marks_insert}
use Rattle.doc_table.proofs.marked.put_new.Goals as goal

pub insert-requires-in-Some : goal.insert-requires-in-Some
insert-requires-in-Some c =
    let e = marks_length c.args.prefix.now.items c.args.marks.now.items c.args.rows.now.items c.requires.marks in
    let h = c.requires.within in
    let k = c.requires.room in
    (omega arith, (omega arith, omega arith))

pub returns-in-Some-clause-marks : goal.returns-in-Some-clause-marks
returns-in-Some-clause-marks c =
    let p = c.args.prefix.now.items in
    let ms = c.args.marks.now.items in
    let xs = c.args.rows.now.items in
    let i = c.args.at in
    let m = c.in-Some.key in
    let x : Row = c.args.row in
    let h : IsWordOf c.as_slice.result.now m c.as_str.result.now = c.in-Some.ensures in
    let k : IsWordOf p m x.raw = subst (λ (t : List ℕ). IsWordOf t m x.raw) c.as_slice.ensures.value (subst (IsWordOf c.as_slice.result.now m) (c.as_str.ensures ∙ ap (λ (y : Row). y.raw) c.row.ensures) h) in
    marks_by p (insert ms i m) c.insert-in-Some.new.self.items (insert xs i x) c.insert.new.self.items c.insert-in-Some.ensures.items c.in_ok-insert.ensures.items (marks_insert p ms xs i m x c.requires.marks k)
