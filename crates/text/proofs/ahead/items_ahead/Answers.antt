-- Nothing is read ahead where classes were seen.
use Rattle.text.proofs.Onward.{stays}
use Rattle.text.proofs.ahead.items_ahead.Goals as goal

pub returns-then-not-none_seen : goal.returns-then-not-none_seen
returns-then-not-none_seen c = stays _ c.requires.0 _ _ _ _ _ _ c.requires.1 c.stay.ensures.0 c.stay.ensures.1 c.stay.ensures.2
