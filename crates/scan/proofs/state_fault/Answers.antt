-- The state is long enough, and then the walk over its values: one more inside, the first outside, and the end.
use Rattle.std.proofs.Common.{ℕ, ◌∙◌, sym, length, ltb, arith}
use borrow.Author.Tests.{lt-leb, le-leb}
use Rattle.refusals.specs.declared.Refusal.TheVariants.{ValueOutside}
use Rattle.tables.specs.Layout.{dom_at}
use Rattle.tables.specs.Task.{state_of}
use Rattle.scan.specs.Scan.{state_fault}
use Rattle.scan.proofs.Walks.{tests, tests_more, tests_here, walk_none, walk_end}
use Rattle.scan.proofs.state_fault.Goals as goal

pub returns-then-s-t : goal.returns-then-s-t
unfolding state_fault
returns-then-s-t c = sym (rw (lt-leb c.args.t.counts.vars (length c.args.s.now) c.if-s-t.true))

pub loop-v-init : goal.loop-v-init
loop-v-init c = walk_none _

pub returns-then-not-value_fits : goal.returns-then-not-value_fits
unfolding state_fault
returns-then-not-value_fits c =
    let inside = λ (v : ℕ). ltb (state_of c.args.s.now v) (dom_at c.args.t.facts.now v) in
    let out = sym c.value_fits.ensures ∙ c.if-not-value_fits.true in
    sym (rw (le-leb c.args.t.counts.vars (length c.args.s.now) c.if-s-t.false, tests_here inside ValueOutside c.args.t.counts.vars c.loop-v.v c.loop-v.invariant c.loop-v-test.true (cc)))

pub loop-v-preserved : goal.loop-v-preserved
loop-v-preserved c =
    let inside = λ (v : ℕ). ltb (state_of c.args.s.now v) (dom_at c.args.t.facts.now v) in
    tests_more inside ValueOutside c.loop-v.v c.loop-v.invariant (cc)

pub returns : goal.returns
unfolding state_fault
returns c =
    let inside = λ (v : ℕ). ltb (state_of c.args.s.now v) (dom_at c.args.t.facts.now v) in
    sym (rw (le-leb c.args.t.counts.vars (length c.args.s.now) c.if-s-t.false, walk_end (tests inside ValueOutside) c.args.t.counts.vars c.loop-v.v c.loop-v.invariant (omega arith) (omega arith)))
