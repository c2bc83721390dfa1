use Rattle.doc_transform.proofs.ShareLaws.{share-in}
use Rattle.doc_transform.proofs.sharing.share_in.Goals as goal

pub returns : goal.returns
returns c =
    share-in c.args.version c.args.space c.args.raw.now c.args.doc _ _ _ _ _ _ _
    c.in_ok-all.ensures c.in_ok-first.ensures c.in_ok-alias.ensures c.in_ok-raw.ensures c.in_ok-shared.ensures c.in_ok-new.ensures c.in_ok-old.ensures
