use Rattle.std.proofs.Common.{refl}
use Rattle.share_ids.proofs.alias.attributes.Goals as goal

pub returns : goal.returns
returns c =
    rw (
      c.in_ok-push-4.ensures.ok,
      c.in_ok-push-3.ensures.ok,
      c.in_ok-push-2.ensures.ok,
      c.in_ok-push.ensures.ok,
      c.new-members.ensures,
      c.in_ok-text_member-4.ensures,
      c.in_ok-text_member-3.ensures,
      c.in_ok-text_member-2.ensures,
      c.in_ok-text_member.ensures,
    ) refl
