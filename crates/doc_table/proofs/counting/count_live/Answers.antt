use Rattle.std.proofs.Common.{ℕ, ◌≤◌, List, length, sym, ◌∙◌, ap, arith}
use Rattle.saved_doc.specs.declared.doc.Row.{Row}
use Rattle.doc_table.specs.Pages.{live_from, live_rows, page_rows}
use Rattle.doc_table.proofs.Live.{live_full}
use Rattle.doc_table.proofs.Later.{none_after}
use Rattle.doc_table.proofs.counting.count_live.Goals as goal

pub returns-then-held : goal.returns-then-held
returns-then-held c =
    let rows : List Row = page_rows c.args.held.now in
    let few : length rows ≤ 64 = c.requires.1 in
    ap length c.rows.ensures ∙ sym (ap (λ (n : ℕ). length (live_from n 0 rows)) c.if-held.true ∙ ap length (live_full 0 rows (omega arith)))

pub returns : goal.returns
returns c = c.count_each.ensures ∙ ap length (none_after (live_rows c.args.held.now))
