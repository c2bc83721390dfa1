use Rattle.std.proofs.Common.{◌≡◌, ℕ, List, true, length, sym, ◌∙◌, ap, arith}
use Rattle.std.specs.Option.{is_some}
use Rattle.saved_doc.specs.declared.doc.Row.{Row}
use Rattle.doc_table.specs.RowLists.{found}
use Rattle.doc_table.specs.Pages.{live_rows}
use Rattle.doc_table.proofs.PageChanges.{room_to_replace, room_to_add}
use Rattle.doc_table.proofs.page.has_room.Goals as goal

pub returns-then-rows-lt64-clause-room : goal.returns-then-rows-lt64-clause-room
returns-then-rows-lt64-clause-room c = let l = ap length c.rows.ensures in λ _. room_to_add c.args.row.now c.args.held.now (omega arith)

pub returns-in-Some-clause-room : goal.returns-in-Some-clause-room
returns-in-Some-clause-room c =
    let e : is_some (found c.args.row.now.raw (live_rows c.args.held.now)) ≡ true = ap (λ (r : List ℕ). is_some (found r (live_rows c.args.held.now))) (sym (c.as_str-raw.ensures ∙ ap (λ (y : Row). y.raw) c.row.ensures)) ∙ ap is_some (sym c.in-Some.ensures) in
    λ _. room_to_replace c.args.row.now c.args.held.now c.requires.sound.1 e
