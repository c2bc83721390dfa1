use Rattle.std.proofs.Common.{sym, ap, ◌∙◌}
use Rattle.so_js.specs.Tree.{is_sound}
use Rattle.so_js.specs.Printing.{members_are_sound}
use Rattle.so_js.proofs.TreeLaws.{is_sound-Object}
use Rattle.transform_ops.proofs.EffectLaws.{changed-sound}
use Rattle.transform_ops.proofs.effects.apply.Goals as goal

pub returns-in_ok-members-in-Object-clause-sound : goal.returns-in_ok-members-in-Object-clause-sound
returns-in_ok-members-in-Object-clause-sound c =
    let old = sym (is_sound-Object c.in-Object.members) ∙ ap is_sound (sym c.in-Object.is) ∙ c.requires.attributes in
    is_sound-Object c.in_ok-members-in-Object.members
    ∙ ap members_are_sound c.in_ok-members-in-Object.ensures
    ∙ changed-sound c.args.op.now c.in-Object.members c.requires.op old
