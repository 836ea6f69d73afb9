-- `classes::states_of` meets its contract: the number so far is the product over the variables passed so far. Assumes nothing.
use Rattle.std.proofs.Common.{◌+◌, ◌≡◌, refl, ap, ◌∙◌, arith}
use Rattle.meaning.specs.Numbering.{size}
use Rattle.tables.specs.Layout.{dom_at}
use Rattle.maps.proofs.Walking.{size_le, size_more}
use Rattle.maps.proofs.classes.states_of.Goals as goal

-- the product of the next turn stays small
pub overflow_mul-n : goal.overflow_mul-n
overflow_mul-n c =
    let K = dom_at c.args.facts.now in
    let l = c.loop-v in
    omega (
      arith,
      size_more K l.v l.n _ l.invariant (c.from-n.ensures ∙ c.row_at.ensures),
      size_le K (l.v + 1) c.args.c.vars (omega (arith, c.loop-v-test.true)) c.requires.values,
      c.requires.few,
    )

pub loop-v-init : goal.loop-v-init
loop-v-init c = refl

pub loop-v-preserved : goal.loop-v-preserved
loop-v-preserved c = let l = c.loop-v in size_more (dom_at c.args.facts.now) l.v l.n _ l.invariant (c.from-n.ensures ∙ c.row_at.ensures)

pub returns : goal.returns
returns c =
    let l = c.loop-v in
    let e : l.v ≡ c.args.c.vars = omega (arith, l.auto.v-end, c.loop-v-test.false) in
    l.invariant ∙ ap (size (dom_at c.args.facts.now)) e
