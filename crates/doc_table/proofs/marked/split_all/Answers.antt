use Rattle.std.proofs.Common.{ℕ, List, length, take, drop, sym, ◌∙◌, ap, subst, arith}
use Rattle.doc_table.specs.Marks.{AreMarks}
use Rattle.doc_table.proofs.MarkLists.{marks_length, marks_by, marks_take, marks_drop}
use Rattle.doc_table.proofs.marked.split_all.Goals as goal

pub marks_from-upper_marks-requires-clause-within : goal.marks_from-upper_marks-requires-clause-within
marks_from-upper_marks-requires-clause-within c =
    let e = marks_length c.args.prefix.now.items c.args.marks.now.items c.args.rows.now.items c.requires.marks in
    let l = ap length c.as_slice-2.ensures.value in
    omega arith

pub sharpen-requires-clause-marks : goal.sharpen-requires-clause-marks
sharpen-requires-clause-marks c =
    let p = c.args.prefix.now.items in
    let ms = c.args.marks.now.items in
    let xs = c.args.rows.now.items in
    let i = c.args.at in
    marks_by p (take i ms) c.truncate.new.self.items (take i xs) c.as_slice-3.result.now c.truncate.ensures.items (c.as_slice-3.ensures.value ∙ c.in_ok-split_off.ensures.items) (marks_take p ms xs i c.requires.marks)

pub sharpen-requires-2-clause-marks : goal.sharpen-requires-2-clause-marks
sharpen-requires-2-clause-marks c =
    let p = c.args.prefix.now.items in
    let ms = c.args.marks.now.items in
    let xs = c.args.rows.now.items in
    let i = c.args.at in
    let e = c.marks_from-upper_marks.ensures ∙ ap (λ (t : List ℕ). drop i t) c.as_slice-2.ensures.value in
    let h = marks_by p (drop i ms) c.marks_from-upper_marks.result.items (drop i xs) c.as_slice-4.result.now e (c.as_slice-4.ensures.value ∙ (c.moved_into-upper_rows.ensures ∙ c.in_ok-split_off.ensures.tail)) (marks_drop p ms xs i c.requires.marks) in
    subst (λ (t : List ℕ). AreMarks t c.marks_from-upper_marks.result.items c.as_slice-4.result.now) (sym (c.bytes_of-upper_prefix.ensures ∙ c.as_slice.ensures.value)) h
