use Rattle.std.proofs.Common.{◌≡◌, ◌<◌, ℕ, length, sym, ◌∙◌, arith, rules, true}
use Rattle.std.specs.declared.cmp.Ordering.TheVariants.{Equal, Greater}
use Rattle.saved_doc.specs.declared.doc.Row.{Row}
use Rattle.doc_table.specs.RowLists.{order}
use Rattle.doc_table.proofs.Places.{place_here, place_gap, place_end}
use Rattle.doc_table.proofs.MarkLists.{marks_length, lower_ends, gap_by_mark}
use Rattle.doc_table.proofs.marked.place_by_marks.Goals as goal

pub returns-then-at-marks : goal.returns-then-at-marks
returns-then-at-marks c =
    let e = marks_length c.args.prefix.now c.args.marks.now c.args.rows.now c.requires.marks in
    let a : ℕ = c.count_below-at.result in
    let t : c.ends_below.result ≡ true = search rules in
    let l = lower_ends c.args.prefix.now c.args.marks.now c.args.rows.now a c.args.key c.args.raw.now c.requires.rising c.requires.marks c.requires.key (omega arith) (sym c.ends_below.ensures ∙ t) in
    place_end c.args.raw.now c.args.rows.now a (omega arith) (omega arith) l

pub returns-then-marks-at : goal.returns-then-marks-at
returns-then-marks-at c =
    let e = marks_length c.args.prefix.now c.args.marks.now c.args.rows.now c.requires.marks in
    let a : ℕ = c.count_below-at.result in
    let b = c.count_below-at.ensures in
    let t : c.ends_below.result ≡ true = search rules in
    let h : a < length c.args.rows.now = omega arith in
    let l = lower_ends c.args.prefix.now c.args.marks.now c.args.rows.now a c.args.key c.args.raw.now c.requires.rising c.requires.marks c.requires.key (omega arith) (sym c.ends_below.ensures ∙ t) in
    gap_by_mark c.args.prefix.now c.args.marks.now c.args.rows.now a 0 c.args.key c.args.raw.now c.requires.rising c.requires.marks c.requires.key h l c.if-marks-at.true

pub bounds-rows-at : goal.bounds-rows-at
bounds-rows-at c =
    let e = marks_length c.args.prefix.now c.args.marks.now c.args.rows.now c.requires.marks in
    let b = c.count_below-at.ensures in
    omega arith

pub returns-in-Equal : goal.returns-in-Equal
returns-in-Equal c =
    let e = marks_length c.args.prefix.now c.args.marks.now c.args.rows.now c.requires.marks in
    let a : ℕ = c.count_below-at.result in
    let b = c.count_below-at.ensures in
    let t : c.ends_below.result ≡ true = search rules in
    let h : a < length c.args.rows.now = omega arith in
    let l = lower_ends c.args.prefix.now c.args.marks.now c.args.rows.now a c.args.key c.args.raw.now c.requires.rising c.requires.marks c.requires.key (omega arith) (sym c.ends_below.ensures ∙ t) in
    let x : Row = c.index-rows-at.result in
    let o : order x.raw c.args.raw.now ≡ Equal = sym c.compare_shared.ensures ∙ c.in-Equal.is in
    place_here c.args.raw.now c.args.rows.now a x c.requires.rising h c.index-rows-at.is l o

pub returns-in-Greater : goal.returns-in-Greater
returns-in-Greater c =
    let e = marks_length c.args.prefix.now c.args.marks.now c.args.rows.now c.requires.marks in
    let a : ℕ = c.count_below-at.result in
    let b = c.count_below-at.ensures in
    let t : c.ends_below.result ≡ true = search rules in
    let h : a < length c.args.rows.now = omega arith in
    let l = lower_ends c.args.prefix.now c.args.marks.now c.args.rows.now a c.args.key c.args.raw.now c.requires.rising c.requires.marks c.requires.key (omega arith) (sym c.ends_below.ensures ∙ t) in
    let x : Row = c.index-rows-at.result in
    let o : order x.raw c.args.raw.now ≡ Greater = sym c.compare_shared.ensures ∙ c.in-Greater.is in
    place_gap c.args.raw.now c.args.rows.now a x c.requires.rising h c.index-rows-at.is l o
