use Rattle.std.proofs.Common.{◌∙◌}
use Rattle.so_js.proofs.TreeLaws.{is_sound-Object}
use Rattle.object_acts.proofs.merging.merged.Goals as goal

pub returns-clause-sound : goal.returns-clause-sound
returns-clause-sound c = is_sound-Object _ ∙ c.in_ok-all.ensures.sound
