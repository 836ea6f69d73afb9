-- `classes::states_of` meets its contract: the product stays below that over all variables. Assumes nothing.
use Rattle.std.proofs.Common.{◌≡◌, ◌+◌, ◌*◌, ◌∙◌, ap₂, add-one, arith}
use Rattle.meaning.specs.Numbering.{size}
use Rattle.tables.specs.Layout.{dom_at}
use Rattle.sweep.proofs.Walking.{size_le}
use Rattle.sweep.proofs.classes.states_of.Goals as goal

pub overflow_mul-n : goal.overflow_mul-n
overflow_mul-n c =
    let K = dom_at c.args.facts.now in
    let l = c.loop-v in
    let next : l.n * c.from-n.result ≡ size K (l.v + 1) = rw add-one (ap₂ ◌*◌ l.invariant (c.from-n.ensures ∙ c.row_at.ensures)) in
    omega (arith, next, size_le K (l.v + 1) c.args.c.vars (omega (arith, c.loop-v-test.true)) c.requires.values, c.requires.few)
