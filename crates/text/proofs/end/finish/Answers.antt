-- The end is read in a copy of the area.
use Rattle.std.proofs.Common.{ℕ, List, ◌∙◌, refl, ap}
use Rattle.text.specs.Inside.Control.{St, mk}
use Rattle.text.specs.Inside.Steps.{ended}
use Rattle.text.specs.Inside.End.{machine_end, settled_as}
use Rattle.text.proofs.Laws.{filled_whole}
use Rattle.text.proofs.end.finish.Goals as goal

pub returns : goal.returns
unfolding machine_end
returns c =
    let a = c.args in
    c.settle.ensures
    ∙ ap (λ (s : St). settled_as s a.facts.now a.costs.now a.shares.now)
    (c.end_text-e.ensures ∙ ap (λ (w : List ℕ). ended (mk a.c w)) (c.fill_bytes.ensures ∙ filled_whole _ _ _ c.requires.0 refl))
