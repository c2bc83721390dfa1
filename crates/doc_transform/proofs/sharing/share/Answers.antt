use Rattle.std.proofs.Common.{sym, ◌∙◌}
use Rattle.doc_transform.proofs.ShareLaws.{share-none}
use Rattle.doc_transform.proofs.sharing.share.Goals as goal

pub returns-in_ok-all-in-None : goal.returns-in_ok-all-in-None
returns-in_ok-all-in-None c =
    share-none c.args.version c.args.raw.now c.args.doc _ (sym c.in_ok-space.ensures ∙ c.in-None.is) c.in_ok-all-in-None.ensures
