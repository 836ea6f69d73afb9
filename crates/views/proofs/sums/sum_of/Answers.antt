-- `sums::sum_of` meets its contract: a map that says none settles the sum, and each number is added to it. Assumes nothing.
use Rattle.std.proofs.Common.{◌≡◌, ℕ, ◌+◌, [], ap, ◌∙◌, arith, rules}
use Rattle.std.specs.Prelude.{None}
use Rattle.graph.specs.Cost.{Cost, none, fin}
use Rattle.meaning.specs.Bound.{away, summed}
use Rattle.tables.specs.Task.{task_of, tables, state_of}
use Rattle.views.specs.Inside.Sums.{sum_said}
use Rattle.views.proofs.Summing.{told_said, sum_more, sum_settled}
use Rattle.views.proofs.sums.sum_of.Goals as goal

pub returns-in_err-total : goal.returns-in_err-total
returns-in_err-total c =
    let x = c.args in
    let f : ℕ → Cost = away (task_of (tables x.c x.facts.now [] x.shares.now)) (state_of x.s.now) in
    let l = c.loop-m in
    let heard : sum_said c.told.result ≡ f l.m = told_said c.at_image-p.result.cost c.told.ensures ∙ c.at_image-p.ensures.cost in
    let settled : none ≡ summed f (l.m + 1) = sum_more f l.m (fin l.total) none (sum_said c.told.result) l.invariant.summed_so_far heard c.in_err-total.ensures.sum in
    let is : c.from_residual.result ≡ None = search rules in
    ap sum_said is ∙ sum_settled f (l.m + 1) x.c.maps (omega (arith, c.loop-m-test.true)) settled

pub loop-m-preserved : goal.loop-m-preserved
loop-m-preserved c =
    let x = c.args in
    let f : ℕ → Cost = away (task_of (tables x.c x.facts.now [] x.shares.now)) (state_of x.s.now) in
    let l = c.loop-m in
    let heard : sum_said c.told.result ≡ f l.m = told_said c.at_image-p.result.cost c.told.ensures ∙ c.at_image-p.ensures.cost in
    record {
      small = omega (arith, l.invariant.small, c.in_ok-total.ensures.grows);
      summed_so_far = sum_more f l.m (fin l.total) (fin c.in_ok-total.total) (sum_said c.told.result) l.invariant.summed_so_far heard c.in_ok-total.ensures.sum;
    }
