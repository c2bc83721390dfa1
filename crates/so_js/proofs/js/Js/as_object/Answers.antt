use Rattle.std.proofs.Common.{sym, ap, ◌∙◌}
use Rattle.so_js.specs.Tree.{is_sound}
use Rattle.so_js.proofs.TreeLaws.{is_sound-Object}
use Rattle.so_js.proofs.js.Js.as_object.Goals as goal

pub returns-in-Object-clause-sound : goal.returns-in-Object-clause-sound
returns-in-Object-clause-sound c = λ sound. sym (is_sound-Object c.in-Object.members) ∙ ap is_sound (sym c.in-Object.is) ∙ sound
