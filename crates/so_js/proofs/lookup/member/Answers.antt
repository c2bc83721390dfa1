use Rattle.std.proofs.Common.{sym, ap, ◌∙◌}
use Rattle.std.proofs.lemmas.Bool.{and_parts}
use Rattle.so_js.specs.Tree.{is_sound}
use Rattle.so_js.proofs.TreeLaws.{is_sound-Object, found_is_sound}
use Rattle.so_js.proofs.lookup.member.Goals as goal

pub returns-in_ok-found-in-Object-clause-sound : goal.returns-in_ok-found-in-Object-clause-sound
returns-in_ok-found-in-Object-clause-sound c = λ sound.
    let ms = c.in-Object.members in
    let parts = and_parts _ _ (sym (is_sound-Object ms) ∙ ap is_sound (sym c.in-Object.is) ∙ sound) in
    found_is_sound _ ms c.in_ok-found-in-Object.found.now (sym c.in_ok-found-in-Object.ensures) parts.0
