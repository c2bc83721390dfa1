use Rattle.call_effects.proofs.Showing.{find_shows, get_shows}
use Rattle.call_effects.proofs.what_is_shown_is_visible.Goals as goal

pub returns-clause-find : goal.returns-clause-find
returns-clause-find g c = find_shows

pub returns-clause-get : goal.returns-clause-get
returns-clause-get g c = get_shows
