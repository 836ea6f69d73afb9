-- The walk over the operators, in each of them the walk over its facts, the number of maps, and the walk over the maps: the first fault of them all is handed on.
use Rattle.std.proofs.Common.{ℕ, ◌∙◌, refl, sym, ap, arith}
use Rattle.std.specs.Prelude.{Err}
use Rattle.refusals.specs.declared.Refusal.TheVariants.{OutOfRange, IdleOperator}
use Rattle.meaning.specs.Limits.{most_maps}
use Rattle.tables.specs.Lines.{line_of_op}
use Rattle.tables.specs.Task.{held, task_of}
use Rattle.tables.proofs.Meant.{is_idle_is}
use Rattle.scan.specs.Found.{clean}
use Rattle.scan.specs.Scan.{operator_fault, classes_fault, map_fault}
use Rattle.scan.specs.Inside.Parts.{facts_fit}
use Rattle.scan.proofs.Walks.{no_fault, tests_more, tests_here, walk_none, walk_more, walk_here, walk_end}
use Rattle.scan.proofs.Rules.{within_says, few_ops}
use Rattle.scan.proofs.Decides.{cost_decides, fact_decides, mark_decides, idle_decides, operator_decides, count_decides, maps_decide}
use Rattle.scan.proofs.lines_fault.Goals as goal

pub loop-o-init : goal.loop-o-init
loop-o-init c = walk_none _

pub op_line-line-requires : goal.op_line-line-requires
op_line-line-requires c = omega (arith, few_ops (task_of (held c.args.t)) c.requires)

pub loop-v-init : goal.loop-v-init
loop-v-init c = walk_none _

pub facts_fit-requires : goal.facts_fit-requires
facts_fit-requires c = omega (arith, few_ops (task_of (held c.args.t)) c.requires)

pub loop-v-preserved : goal.loop-v-preserved
loop-v-preserved c =
    tests_more (facts_fit c.args.t.facts.now c.loop-o.o) (λ v. OutOfRange (line_of_op c.args.t.counts.edition c.loop-o.o)) c.loop-v.v c.loop-v.invariant
    (sym c.facts_fit.ensures ∙ c.if-not-facts_fit.false)

pub returns-then-cost_at-gt-COST_MOST : goal.returns-then-cost_at-gt-COST_MOST
returns-then-cost_at-gt-COST_MOST c =
    let T = task_of (held c.args.t) in
    let here = cost_decides T c.loop-o.o (omega arith) in
    ap (λ (n : ℕ). Err (OutOfRange n)) c.op_line-line.ensures ∙ sym (operator_decides T c.loop-o.o _ c.loop-o.invariant c.loop-o-test.true here)

pub returns-then-not-facts_fit : goal.returns-then-not-facts_fit
returns-then-not-facts_fit c =
    let T = task_of (held c.args.t) in
    let says = λ (v : ℕ). OutOfRange (line_of_op c.args.t.counts.edition c.loop-o.o) in
    let out =
    tests_here (facts_fit c.args.t.facts.now c.loop-o.o) says c.args.t.counts.vars c.loop-v.v c.loop-v.invariant c.loop-v-test.true
    (sym c.facts_fit.ensures ∙ c.if-not-facts_fit.true) in
    let here = fact_decides T c.loop-o.o (omega arith) (says 0) out in
    ap (λ (n : ℕ). Err (OutOfRange n)) c.op_line-line.ensures ∙ sym (operator_decides T c.loop-o.o _ c.loop-o.invariant c.loop-o-test.true here)

pub returns-then-mark_of-gt-MARK_MOST : goal.returns-then-mark_of-gt-MARK_MOST
returns-then-mark_of-gt-MARK_MOST c =
    let T = task_of (held c.args.t) in
    let fit = walk_end _ c.args.t.counts.vars c.loop-v.v c.loop-v.invariant (omega arith) (omega arith) in
    let here = mark_decides T c.loop-o.o (omega arith) fit (omega arith) in
    ap (λ (n : ℕ). Err (OutOfRange n)) c.op_line-line.ensures ∙ sym (operator_decides T c.loop-o.o _ c.loop-o.invariant c.loop-o-test.true here)

pub returns-then-is_idle : goal.returns-then-is_idle
returns-then-is_idle c =
    let t = held c.args.t in
    let fit = walk_end _ c.args.t.counts.vars c.loop-v.v c.loop-v.invariant (omega arith) (omega arith) in
    let end = idle_decides (task_of t) c.loop-o.o (omega arith) fit (omega arith) (c.is_idle.ensures ∙ is_idle_is t c.loop-o.o) in
    let here = end ∙ rw c.if-is_idle.true refl in
    ap (λ (n : ℕ). Err (IdleOperator n)) c.op_line-line.ensures ∙ sym (operator_decides (task_of t) c.loop-o.o _ c.loop-o.invariant c.loop-o-test.true here)

pub loop-o-preserved : goal.loop-o-preserved
loop-o-preserved c =
    let t = held c.args.t in
    let fit = walk_end _ c.args.t.counts.vars c.loop-v.v c.loop-v.invariant (omega arith) (omega arith) in
    let end = idle_decides (task_of t) c.loop-o.o (omega arith) fit (omega arith) (c.is_idle.ensures ∙ is_idle_is t c.loop-o.o) in
    walk_more (operator_fault (task_of t)) c.loop-o.o c.loop-o.invariant (end ∙ rw c.if-is_idle.false refl)

pub maps_line-requires : goal.maps_line-requires
maps_line-requires c = few_ops (task_of (held c.args.t)) c.requires

pub returns-then-not-lies_within : goal.returns-then-not-lies_within
returns-then-not-lies_within c =
    let T = task_of (held c.args.t) in
    let operators = walk_end (operator_fault T) T.sas.ops c.loop-o.o c.loop-o.invariant (omega arith) (omega arith) in
    ap (λ (n : ℕ). Err (OutOfRange n)) c.maps_line.ensures ∙ sym (count_decides T operators (sym c.lies_within.ensures ∙ c.if-not-lies_within.true))

pub loop-m-init : goal.loop-m-init
loop-m-init c = walk_none _

pub map_fault-requires : goal.map_fault-requires
map_fault-requires c = (c.requires, omega (arith, within_says 1 most_maps c.args.t.counts.maps (sym c.lies_within.ensures ∙ c.if-not-lies_within.false)))

pub returns-in-Err : goal.returns-in-Err
unfolding map_fault classes_fault
returns-in-Err c =
    let T = task_of (held c.args.t) in
    let operators = walk_end (operator_fault T) T.sas.ops c.loop-o.o c.loop-o.invariant (omega arith) (omega arith) in
    let here = walk_here (map_fault T) T.maps c.loop-m.m c.in-Err.fault c.loop-m.invariant c.loop-m-test.true (sym c.map_fault.ensures ∙ c.in-Err.is) in
    sym (maps_decide T operators (Err c.in-Err.fault) (sym c.lies_within.ensures ∙ c.if-not-lies_within.false) here)

pub loop-m-preserved : goal.loop-m-preserved
unfolding map_fault classes_fault
loop-m-preserved c =
    walk_more (map_fault (task_of (held c.args.t))) c.loop-m.m c.loop-m.invariant
    (sym c.map_fault.ensures ∙ no_fault c.map_fault.result c.in_default.not-Err)

pub returns-after-loop-m : goal.returns-after-loop-m
returns-after-loop-m c =
    let T = task_of (held c.args.t) in
    let operators = walk_end (operator_fault T) T.sas.ops c.loop-o.o c.loop-o.invariant (omega arith) (omega arith) in
    let all = walk_end (map_fault T) T.maps c.loop-m.m c.loop-m.invariant (omega arith) (omega arith) in
    sym (maps_decide T operators clean (sym c.lies_within.ensures ∙ c.if-not-lies_within.false) all)
