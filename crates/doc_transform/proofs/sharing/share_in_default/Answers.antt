use Rattle.doc_transform.proofs.ShareLaws.{share-default}
use Rattle.doc_transform.proofs.sharing.share_in_default.Goals as goal

pub returns : goal.returns
returns c =
    share-default c.args.raw.now _ c.args.doc _ _ _ _ _
    c.in_ok-all.ensures c.in_ok-first.ensures c.in_ok-raw.ensures c.in_ok-shared.ensures c.in_ok-space.ensures c.in_ok-origin.ensures
