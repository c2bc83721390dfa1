use Rattle.std.proofs.Common.{sym, ap, ◌∙◌}
use Rattle.so_js.specs.Tree.{is_sound}
use Rattle.so_js.proofs.TreeLaws.{is_sound-Items}
use Rattle.so_js.proofs.js.Js.as_items.Goals as goal

pub returns-in-Items-clause-sound : goal.returns-in-Items-clause-sound
returns-in-Items-clause-sound c = λ sound. sym (is_sound-Items c.in-Items.items) ∙ ap is_sound (sym c.in-Items.is) ∙ sound
