-- The walk over a map's variables: what is found in a variable's row, that a fault of it is the map's, and at the end how many states there are.
use Rattle.std.proofs.Common.{Err, Result, ℕ, ◌≡◌, ◌≤◌, ◌*◌, ◌∙◌, refl, ap, ap₂, arith}
use native.Mathlib.Numerals.{add-one}
use borrow.Author.Tests.{lt-leb, le-leb}
use Rattle.tables.specs.declared.classes.ClassFault.{ClassFault}
use Rattle.tables.specs.declared.classes.ClassFault.TheVariants.{Missing, Outside}
use Rattle.refusals.specs.declared.Refusal.TheVariants.{OutOfRange, ClassMissing}
use Rattle.meaning.specs.Limits.{most_values, most_states}
use Rattle.meaning.specs.Numbering.{size}
use Rattle.meaning.specs.Split.{count_of}
use Rattle.tables.specs.Layout.{dom_at, class_at}
use Rattle.tables.specs.Task.{held, task_of}
use Rattle.scan.specs.Scan.{classes_fault}
use Rattle.scan.proofs.Walks.{walk_none, walk_more, walk_here, walk_end}
use Rattle.scan.proofs.Rules.{few_vars, few_values, few_ops}
use Rattle.scan.proofs.Decides.{classes_decide, states_decide}
use Rattle.scan.proofs.RowFaults.{row_fault, found_fault, found_count, product_more, product_fits}
use Rattle.scan.proofs.map_fault.Goals as goal

pub map_line-line-requires : goal.map_line-line-requires
map_line-line-requires c = (few_ops (task_of (held c.args.t)) c.requires.0, omega arith)

pub loop-v-init : goal.loop-v-init
loop-v-init c = (walk_none _, refl, omega arith)

pub class_row-requires : goal.class_row-requires
class_row-requires c = (omega arith, omega (arith, few_vars (task_of (held c.args.t)) c.requires.0))

pub classes_of-requires : goal.classes_of-requires
classes_of-requires c =
    omega (arith, c.word_of.ensures, few_values (task_of (held c.args.t)) c.requires.0 c.loop-v.v c.loop-v-test.true)

pub overflow_mul-states : goal.overflow_mul-states
overflow_mul-states c =
    let T = task_of (held c.args.t) in
    let k = found_count c.args.t.facts.now c.classes_of.ensures c.class_row.ensures c.word_of.ensures c.in-Ok.k c.in-Ok.is in
    let few : c.in-Ok.k ≤ most_values = omega (arith, k.1, few_values T c.requires.0 c.loop-v.v c.loop-v-test.true) in
    omega (arith, product_fits c.loop-v.states c.in-Ok.k c.loop-v.v c.loop-v.invariant.2 few (omega (arith, few_vars T c.requires.0)))

pub returns-in-Err-Missing : goal.returns-in-Err-Missing
unfolding classes_fault
returns-in-Err-Missing c =
    let T = task_of (held c.args.t) in
    let line = c.map_line-line.result in
    let rule = λ (v : ℕ). row_fault (class_at c.args.t.facts.now c.args.m v) (dom_at c.args.t.facts.now v) line in
    let is : ◌≡◌ {A = Result ℕ ClassFault} c.classes_of.result (Err Missing) = cc in
    let here = found_fault c.args.t.facts.now c.classes_of.ensures c.class_row.ensures c.word_of.ensures line is in
    classes_decide T c.args.m c.map_line-line.ensures (ClassMissing line)
    (walk_here rule T.sas.vars c.loop-v.v (ClassMissing line) c.loop-v.invariant.0 c.loop-v-test.true here)

pub returns-in-Err-Outside : goal.returns-in-Err-Outside
unfolding classes_fault
returns-in-Err-Outside c =
    let T = task_of (held c.args.t) in
    let line = c.map_line-line.result in
    let rule = λ (v : ℕ). row_fault (class_at c.args.t.facts.now c.args.m v) (dom_at c.args.t.facts.now v) line in
    let is : ◌≡◌ {A = Result ℕ ClassFault} c.classes_of.result (Err Outside) = cc in
    let here = found_fault c.args.t.facts.now c.classes_of.ensures c.class_row.ensures c.word_of.ensures line is in
    classes_decide T c.args.m c.map_line-line.ensures (OutOfRange line)
    (walk_here rule T.sas.vars c.loop-v.v (OutOfRange line) c.loop-v.invariant.0 c.loop-v-test.true here)

pub loop-v-preserved : goal.loop-v-preserved
loop-v-preserved c =
    let T = task_of (held c.args.t) in
    let line = c.map_line-line.result in
    let here = found_fault c.args.t.facts.now c.classes_of.ensures c.class_row.ensures c.word_of.ensures line c.in-Ok.is in
    let k = found_count c.args.t.facts.now c.classes_of.ensures c.class_row.ensures c.word_of.ensures c.in-Ok.k c.in-Ok.is in
    let few : c.in-Ok.k ≤ most_values = omega (arith, k.1, few_values T c.requires.0 c.loop-v.v c.loop-v-test.true) in (
      walk_more (λ v. row_fault (class_at c.args.t.facts.now c.args.m v) (dom_at c.args.t.facts.now v) line) c.loop-v.v c.loop-v.invariant.0 here,
      rw add-one (ap₂ ◌*◌ c.loop-v.invariant.1 k.0),
      product_more c.loop-v.states c.in-Ok.k c.loop-v.v c.loop-v.invariant.2 few,
    )

pub returns-then-states-gt-STATES_MOST : goal.returns-then-states-gt-STATES_MOST
unfolding classes_fault
returns-then-states-gt-STATES_MOST c =
    let T = task_of (held c.args.t) in
    let all : c.loop-v.v ≡ T.sas.vars = omega arith in
    let size_is = c.loop-v.invariant.1 ∙ ap (size (λ v. count_of (class_at c.args.t.facts.now c.args.m v) (dom_at c.args.t.facts.now v))) all in
    rw (lt-leb c.loop-v.states most_states c.if-states-gt-STATES_MOST.true) at
    (states_decide T c.args.m c.map_line-line.ensures (walk_end _ T.sas.vars c.loop-v.v c.loop-v.invariant.0 (omega arith) (omega arith)) size_is)

pub returns : goal.returns
unfolding classes_fault
returns c =
    let T = task_of (held c.args.t) in
    let all : c.loop-v.v ≡ T.sas.vars = omega arith in
    let size_is = c.loop-v.invariant.1 ∙ ap (size (λ v. count_of (class_at c.args.t.facts.now c.args.m v) (dom_at c.args.t.facts.now v))) all in
    rw (le-leb c.loop-v.states most_states c.if-states-gt-STATES_MOST.false) at
    (states_decide T c.args.m c.map_line-line.ensures (walk_end _ T.sas.vars c.loop-v.v c.loop-v.invariant.0 (omega arith) (omega arith)) size_is)
