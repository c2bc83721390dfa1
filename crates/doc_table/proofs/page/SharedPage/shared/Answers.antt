use Rattle.std.proofs.Common.{[], ◌∷◌, ◌++◌, cond, sym, ◌∙◌}
use Rattle.doc_table.proofs.Live.{live_more}
use Rattle.doc_table.proofs.page.SharedPage.shared.Goals as goal

pub loop-i-preserved : goal.loop-i-preserved
loop-i-preserved c = (
  c.rows-rows.ensures,
  c.in_ok-push_live.ensures ∙ (λ j. c.loop-i.invariant.1 j ++ cond (c.is_live.ensures j) (c.index-rows-i.result ∷ []) [])
      ∙ sym (live_more c.args.self.now.live c.loop-i.i c.rows-rows.result.now c.index-rows-i.result c.loop-i-test.true c.index-rows-i.is),
)
