-- `writer::pen::Pen::put_facts` meets its contract: what is said of a variable a turn, and a dash if that was nothing. Assumes nothing.
use Rattle.std.proofs.Common.{ℕ, refl, ap, not, ◌||◌, eqb}
use Rattle.writer.specs.Inside.Pen.{said_of}
use Rattle.writer.proofs.Pens.{begins, so, goes_on, ends}
use Rattle.writer.proofs.Parts.{facts_whole, facts_turn, facts_over, facts_none}
use Rattle.writer.proofs.pen.Pen.put_facts.Goals as goal

pub loop-v-init : goal.loop-v-init
loop-v-init c = begins _ (facts_whole _ _)

pub loop-v-preserved : goal.loop-v-preserved
loop-v-preserved c =
    let run = c.loop-v in
    let x = c.row_at-said.ensures in
    rw (ap (λ (k : ℕ). run.some || not (eqb k 0)) x)
    (goes_on run.invariant (facts_turn _ _ _ run.some c.loop-v-test.true) (so c.put_said.ensures (ap (λ (k : ℕ). said_of run.some k run.v) x)))

pub returns-then-not-some : goal.returns-then-not-some
returns-then-not-some c = ends (goes_on (rw c.if-not-some.true at c.loop-v.invariant) (facts_none _ _ _ c.loop-v-test.false) c.put.ensures) refl

pub returns-else-not-some : goal.returns-else-not-some
returns-else-not-some c = ends (rw c.if-not-some.false at c.loop-v.invariant) (facts_over _ _ _ c.loop-v-test.false)
