-- `all_zero` meets its contract: what was seen so far and what is left decide together. Assumes nothing.
use Rattle.std.proofs.Common.{Bool, ◌&&◌, eqb, get_or, drop, ◌+◌, sym, ap, ◌∙◌}
use Rattle.std.proofs.Math.Bool.{and-true, and_assoc}
use Rattle.ledger.specs.Ledger.{zeros}
use Rattle.ledger.proofs.Runs.{zeros_next, zeros_end}
use Rattle.ledger.proofs.all_zero.Goals as goal

pub loop-x-preserved : goal.loop-x-preserved
loop-x-preserved c =
    let words = c.args.words.now in
    let i = c.loop-x.x-index in
    c.loop-x.invariant
    ∙ ap (λ (b : Bool). c.loop-x.zero && b) (zeros_next words i c.loop-x-test.true)
    ∙ sym (and_assoc c.loop-x.zero (eqb (get_or words i 0) 0) (zeros (drop (i + 1) words)))

pub returns : goal.returns
returns c =
    sym (c.loop-x.invariant ∙ ap (λ (b : Bool). c.loop-x.zero && b) (zeros_end _ _ c.loop-x-test.false) ∙ and-true c.loop-x.zero)
