use Rattle.std.proofs.Common.{◌≡◌, ap, ◌∙◌}
use Rattle.std.proofs.lemmas.Result.{IfOk-weaker}
use Rattle.race_model.specs.Stores.Request.{Search}
use Rattle.raw_id.specs.IndexNames.{version_alias}
use Rattle.doc_query.specs.Mapped.{query_of}
use Rattle.call_model.specs.Calls.Call.{Finding}
use Rattle.call_words.specs.Asking.{search_in}
use Rattle.call_words.specs.Mapped.{find_of}
use Rattle.object_ops.specs.Stages.{asking, begun}
use Rattle.object_ops.specs.Stages.Stage.{Searches}
use Rattle.object_ops.specs.Mapped.{progress_of}
use Rattle.object_ops.proofs.Starts.{search_begun, find_refused}
use Rattle.object_ops.proofs.searching.find.Goals as goal

pub returns-in-Query : goal.returns-in-Query
returns-in-Query c =
    let same = search_begun c.args.reg.now c.as_str.result.now c.args.space.now (find_of c.args.find.now) c.in_ok-query.field-0 c.in_ok-query.ensures c.as_str.ensures (query_of c.in-Query.query) (ap search_in c.in-Query.is) in
    IfOk-weaker c.search.result
    (λ plan. progress_of plan ≡ asking (Search (version_alias c.args.reg.now.version) (query_of c.in-Query.query)) (Searches c.args.find.now.page c.args.find.now.per_page))
    (λ plan. progress_of plan ≡ begun c.args.reg.now (Finding c.args.space.now (find_of c.args.find.now)))
    (λ plan p. p ∙ same) c.search.ensures

pub returns-in-Refused : goal.returns-in-Refused
returns-in-Refused c =
    c.refused.ensures c.args.reg.now
    ∙ find_refused c.args.reg.now c.as_str.result.now c.args.space.now (find_of c.args.find.now) c.in_ok-query.field-0 c.in_ok-query.ensures c.as_str.ensures c.in-Refused.refuse (ap search_in c.in-Refused.is)
