use Rattle.std.proofs.Common.{◌≡◌, ℕ, ◌+◌, ◌-◌, ◌/◌, false, take, sym, ◌∙◌, ap, subst, arith}
use Rattle.std.specs.Ordering.{is_gt}
use Rattle.doc_table.specs.RowLists.{order, Each}
use Rattle.doc_table.specs.Place.{IsBelow}
use Rattle.doc_table.specs.Pages.{all_rows, page_rows, IsSound}
use Rattle.doc_table.proofs.Marks.{first_known}
use Rattle.doc_table.proofs.Numbered.{greater-is_gt}
use Rattle.doc_table.proofs.PageLists.{each_at, pages_lower, pages_higher, page_of_end}
use Rattle.doc_table.proofs.pages.page_of.Goals as goal

pub loop-low-preserved-then-starts_above : goal.loop-low-preserved-then-starts_above
loop-low-preserved-then-starts_above c =
    let s = each_at IsSound c.args.pages.now _ c.index-pages-mid.result (omega arith) c.index-pages-mid.is c.requires.pages.sound in
    let w = first_known (λ x. c.starts_above.result ≡ is_gt (order x.raw c.args.raw.now)) (page_rows c.index-pages-mid.result) s.0 c.starts_above.ensures in
    (omega arith, omega arith, c.loop-low.invariant.2, pages_higher c.args.raw.now c.args.pages.now _ c.index-pages-mid.result w.0 c.requires.pages (omega arith) c.index-pages-mid.is w.1 (greater-is_gt _ (sym w.2 ∙ c.if-starts_above.true)))

pub loop-low-preserved : goal.loop-low-preserved
loop-low-preserved c =
    let mid : ℕ = c.loop-low.low + (c.loop-low.high - c.loop-low.low) / 2 in
    let e : mid ≡ mid + 1 - 1 = omega arith in
    let s = each_at IsSound c.args.pages.now mid c.index-pages-mid.result (omega arith) c.index-pages-mid.is c.requires.pages.sound in
    let w = first_known (λ x. c.starts_above.result ≡ is_gt (order x.raw c.args.raw.now)) (page_rows c.index-pages-mid.result) s.0 c.starts_above.ensures in
    let g : is_gt (order w.0.raw c.args.raw.now) ≡ false = sym w.2 ∙ c.if-starts_above.false in
    (omega arith, omega arith, subst (λ (n : ℕ). Each (IsBelow c.args.raw.now) (all_rows (take n c.args.pages.now))) e (pages_lower c.args.raw.now c.args.pages.now mid c.index-pages-mid.result w.0 c.requires.pages (omega arith) c.index-pages-mid.is w.1 (λ q. cc (ap is_gt q))), c.loop-low.invariant.3)

pub returns : goal.returns
returns c = page_of_end c.args.raw.now c.args.pages.now c.loop-low.low c.loop-low.high _ c.saturating_sub.ensures (omega arith) (omega arith) (omega arith) (omega arith) c.loop-low.invariant.2 c.loop-low.invariant.3
