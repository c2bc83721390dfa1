use Rattle.std.proofs.Common.{ap, ◌∙◌}
use Rattle.report.specs.Members.{members_there}
use Rattle.report.proofs.Sound.{is_sound-members}
use Rattle.report.proofs.fields.object.Goals as goal

pub new-requires : goal.new-requires
new-requires g c =
    is_sound-members c.args.fields c.in_ok-members.members (c.in_ok-members.ensures.value ∙ ap members_there (c.from_vec.ensures ∙ c.in_ok-fields.ensures.items)) c.requires c.in_ok-members.ensures.sound
