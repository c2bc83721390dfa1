use Rattle.std.proofs.Common.{◌≡◌, true, ◌∙◌, take, drop, sym, ap, arith}
use Rattle.std.proofs.lemmas.Bool.{eqb-false}
use Rattle.std.specs.Option.{option_copied}
use Rattle.doc_table.specs.RowLists.{rows_after, is_after}
use Rattle.doc_table.specs.Pages.{rows_of}
use Rattle.doc_table.proofs.Readers.{enough, rows_rest}
use Rattle.doc_table.proofs.Later.{page_later}
use Rattle.doc_table.proofs.copies.take_pages.Goals as goal

pub returns-then-len-n : goal.returns-then-len-n
returns-then-len-n c =
    let a = option_copied c.args.after in
    enough c.args.n (rows_after a (rows_of (take c.loop-i.i c.args.pages.now))) (rows_after a (rows_of (drop c.loop-i.i c.args.pages.now))) c.loop-i.out.items c.loop-i.invariant (omega arith)
    ∙ ap (take c.args.n) (sym (rows_rest a c.args.pages.now c.loop-i.i))

pub push_page-requires-clause-later : goal.push_page-requires-clause-later
push_page-requires-clause-later c e =
    let d = eqb-false c.loop-i.i 0 e in
    page_later (λ x. is_after (option_copied c.args.after) x ≡ true) 1 c.args.pages.now c.loop-i.i c.index-pages-i.result (omega arith) c.loop-i-test.true c.index-pages-i.is c.requires.later
