-- `bound` meets its contract: the first fault is answered, and where there is none, the sum over all maps. Assumes nothing.
use Rattle.std.proofs.Common.{sym, ◌∙◌}
use Rattle.tables.specs.Layout.{Tables}
use Rattle.tables.specs.Task.{held}
use Rattle.sweep.proofs.Viewing.{valid_unpriced}
use Rattle.views.proofs.Judging.{bound_clean, given_bound}
use Rattle.views.proofs.Summing.{distance_answer}
use Rattle.views.proofs.bound.Goals as goal

pub sum_of-requires : goal.sum_of-requires
sum_of-requires c =
    let t : Tables = held c.args.t in
    let q = bound_clean t c.args.s.now (sym c.input_fault.ensures ∙ c.in_ok-input_fault.was) in
    (valid_unpriced t q.0, (λ m lm o l. q.0.shares m o lm l), q.1)

pub returns : goal.returns
returns c =
    let t : Tables = held c.args.t in
    given_bound t c.args.s.now (sym c.input_fault.ensures ∙ c.in_ok-input_fault.was) c.sum_of.ensures (distance_answer c.sum_of.result)
