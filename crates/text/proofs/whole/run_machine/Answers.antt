-- From the first control, all bytes, then the end.
use Rattle.std.proofs.Common.{◌∙◌, ap, replicate}
use Rattle.text.specs.declared.Ctrl.{Ctrl}
use Rattle.text.specs.Inside.Area.{area_room}
use Rattle.text.specs.Inside.Control.{St, mk}
use Rattle.text.specs.Inside.Steps.{feed}
use Rattle.text.specs.Inside.End.{machine_end, machine_read}
use Rattle.text.proofs.whole.run_machine.Goals as goal

pub returns : goal.returns
unfolding machine_read
returns c =
    let a = c.args in
    c.finish.ensures
    ∙ ap (λ (s : St). machine_end s a.facts.now a.costs.now a.shares.now)
    (c.feed_piece-c.ensures ∙ ap (λ (k : Ctrl). feed (mk k (replicate area_room 0)) a.text.now) c.start_of_text.ensures)
