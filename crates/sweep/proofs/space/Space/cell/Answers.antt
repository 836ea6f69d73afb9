-- `Space::cell` meets its contract: one operator more undercuts the cost so far, or doesn't. Assumes nothing.
use Rattle.std.proofs.Common.{◌<◌, refl, ap, subst, ◌∙◌, ◌≤◌, ℕ, arith}
use Rattle.graph.specs.Least.{at_goal}
use Rattle.sweep.specs.Said.{NONE, HALT, said_at}
use Rattle.sweep.specs.Inside.Walks.{space_of}
use Rattle.sweep.specs.Inside.Sweeps.{Addable}
use Rattle.sweep.proofs.Picking.{advised_none, via_said, pick_taken, pick_kept}
use Rattle.sweep.proofs.Walking.{step_is, goal_is, price_fits}
use Rattle.sweep.proofs.space.Space.cell.Goals as goal
use Rattle.sweep.proofs.space.Space.cell.Goals.{then-cost-least, else-cost-least}

pub loop-o-init : goal.loop-o-init
loop-o-init c =
    let x = c.args.self.now in
    record {
      most = omega (arith, c.start.type_inv);
      least = c.start.ensures ∙ ap at_goal (c.meets_goal.ensures ∙ goal_is x.c x.facts.now x.prices.now c.args.a.0 c.digits-s.result c.digits-s.ensures);
      lowest = advised_none 255 refl;
    }

pub with_price-cost-requires : goal.with_price-cost-requires
with_price-cost-requires c =
    let x = c.args.self.now in
    let within : c.args.a.0 < _ = omega (arith, c.requires.0, x.counted) in
    price_fits x.c x.facts.now x.prices.now x.walkable c.args.old.now c.digits-s.result x.small within c.loop-o-test.true
    (subst (λ (n : ℕ). Addable n c.args.old.now) x.counted c.requires.1) c.digits-s.ensures c.step_from-next.ensures c.cost_at.ensures c.beyond.ensures

pub loop-o-preserved : goal.loop-o-preserved
loop-o-preserved c =
    let x = c.args.self.now in
    let a = c.args.a.0 in
    let l = c.loop-o in
    let way = c.with_price-cost in
    let G = space_of x.c x.facts.now x.prices.now in
    let T = said_at c.args.old.now in
    -- an operator's number fits in a byte, and isn't what stands for none
    let small : l.o < HALT = omega (arith, c.loop-o-test.true, x.walkable.ops) in
    let most : way.result ≤ NONE = omega (arith, way.type_inv) in
    -- the operator's way, and whether it undercuts the cost so far
    let via =
    via_said G c.args.old.now c.beyond.result way.result (c.step_from-next.ensures ∙ step_is x.c x.facts.now x.prices.now a l.o c.digits-s.result c.digits-s.ensures)
    c.cost_at.ensures c.beyond.ensures way.ensures in
    elim c.if-cost-least.branch [
      | then-cost-least w ↦
          let p = pick_taken G T a l.o l.least.cost l.least.op way.result (l.invariant.least, l.invariant.lowest) l.invariant.most via small w.if-cost-least.true in
          rw w.least-is (record { most = most; least = p.0; lowest = p.1 })
      | else-cost-least w ↦
          let p = pick_kept G T a l.o l.least.cost l.least.op way.result (l.invariant.least, l.invariant.lowest) l.invariant.most via most w.if-cost-least.false in
          rw w.least-is (record { most = l.invariant.most; least = p.0; lowest = p.1 })
    ]
