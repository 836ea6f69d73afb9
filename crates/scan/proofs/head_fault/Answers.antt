-- The edition and the number of variables, the three walks over the variables, and the quota and the number of operators: the first that is out of range decides.
use Rattle.std.proofs.Common.{ℕ, sym, ap, ◌∙◌, ltb, leb, arith}
use Rattle.std.specs.Prelude.{Err}
use Rattle.refusals.specs.declared.Refusal.TheVariants.{OutOfRange}
use Rattle.meaning.specs.Limits.{most_values}
use Rattle.tables.specs.Task.{held, task_of}
use Rattle.tables.specs.Lines.{line_of_dom, line_of_init, line_of_goal}
use Rattle.scan.specs.Scan.{within}
use Rattle.scan.proofs.Walks.{tests_more, tests_here, walk_none, walk_end}
use Rattle.scan.proofs.Heads.{doms, inits, goals, edition_decides, vars_decide, dom_decides, init_decides, goal_decides, quota_decides, ops_decide, head_clean}
use Rattle.scan.proofs.head_fault.Goals as goal

pub returns-then-not-lies_within : goal.returns-then-not-lies_within
returns-then-not-lies_within c = sym (edition_decides (task_of (held c.args.t)) (cc))

pub returns-then-not-lies_within-2 : goal.returns-then-not-lies_within-2
returns-then-not-lies_within-2 c = sym (vars_decide (task_of (held c.args.t)) (cc) (cc))

pub loop-v-init : goal.loop-v-init
loop-v-init c = walk_none _

pub returns-then-not-lies_within-3 : goal.returns-then-not-lies_within-3
returns-then-not-lies_within-3 c =
    let T = task_of (held c.args.t) in
    let here = tests_here (λ v. within 1 most_values (T.sas.dom v)) (λ v. OutOfRange line_of_dom) T.sas.vars c.loop-v.v c.loop-v.invariant c.loop-v-test.true (cc) in
    sym (dom_decides T (cc) (cc) here)

pub loop-v-preserved : goal.loop-v-preserved
loop-v-preserved c =
    let T = task_of (held c.args.t) in
    tests_more (λ v. within 1 most_values (T.sas.dom v)) (λ v. OutOfRange line_of_dom) c.loop-v.v c.loop-v.invariant (cc)

pub loop-v-2-init : goal.loop-v-2-init
loop-v-2-init c = walk_none _

pub returns-then-not-value_fits : goal.returns-then-not-value_fits
returns-then-not-value_fits c =
    let T = task_of (held c.args.t) in
    let dom = walk_end (doms T) T.sas.vars c.loop-v.v c.loop-v.invariant (omega arith) (omega arith) in
    let here = tests_here (λ v. ltb (T.sas.init v) (T.sas.dom v)) (λ v. OutOfRange line_of_init) T.sas.vars c.loop-v-2.v c.loop-v-2.invariant c.loop-v-2-test.true (cc) in
    sym (init_decides T (cc) (cc) dom here)

pub loop-v-2-preserved : goal.loop-v-2-preserved
loop-v-2-preserved c =
    let T = task_of (held c.args.t) in
    tests_more (λ v. ltb (T.sas.init v) (T.sas.dom v)) (λ v. OutOfRange line_of_init) c.loop-v-2.v c.loop-v-2.invariant (cc)

pub loop-v-3-init : goal.loop-v-3-init
loop-v-3-init c = walk_none _

pub returns-then-not-fact_fits : goal.returns-then-not-fact_fits
returns-then-not-fact_fits c =
    let T = task_of (held c.args.t) in
    let dom = walk_end (doms T) T.sas.vars c.loop-v.v c.loop-v.invariant (omega arith) (omega arith) in
    let init = walk_end (inits T) T.sas.vars c.loop-v-2.v c.loop-v-2.invariant (omega arith) (omega arith) in
    let here = tests_here (λ v. leb (T.sas.goal v) (T.sas.dom v)) (λ v. OutOfRange line_of_goal) T.sas.vars c.loop-v-3.v c.loop-v-3.invariant c.loop-v-3-test.true (cc) in
    sym (goal_decides T (cc) (cc) dom init here)

pub loop-v-3-preserved : goal.loop-v-3-preserved
loop-v-3-preserved c =
    let T = task_of (held c.args.t) in
    tests_more (λ v. leb (T.sas.goal v) (T.sas.dom v)) (λ v. OutOfRange line_of_goal) c.loop-v-3.v c.loop-v-3.invariant (cc)

pub returns-then-quota_of-gt-QUOTA_MOST : goal.returns-then-quota_of-gt-QUOTA_MOST
returns-then-quota_of-gt-QUOTA_MOST c =
    let T = task_of (held c.args.t) in
    let dom = walk_end (doms T) T.sas.vars c.loop-v.v c.loop-v.invariant (omega arith) (omega arith) in
    let init = walk_end (inits T) T.sas.vars c.loop-v-2.v c.loop-v-2.invariant (omega arith) (omega arith) in
    let all = walk_end (goals T) T.sas.vars c.loop-v-3.v c.loop-v-3.invariant (omega arith) (omega arith) in
    sym (quota_decides T (cc) (cc) dom init all (omega arith))

pub returns-then-t-gt-OPS_MOST : goal.returns-then-t-gt-OPS_MOST
returns-then-t-gt-OPS_MOST c =
    let T = task_of (held c.args.t) in
    let dom = walk_end (doms T) T.sas.vars c.loop-v.v c.loop-v.invariant (omega arith) (omega arith) in
    let init = walk_end (inits T) T.sas.vars c.loop-v-2.v c.loop-v-2.invariant (omega arith) (omega arith) in
    let all = walk_end (goals T) T.sas.vars c.loop-v-3.v c.loop-v-3.invariant (omega arith) (omega arith) in
    ap (λ (n : ℕ). Err (OutOfRange n)) c.ops_line.ensures ∙ sym (ops_decide T (cc) (cc) dom init all (omega arith) (omega arith))

pub returns : goal.returns
returns c =
    let T = task_of (held c.args.t) in
    let dom = walk_end (doms T) T.sas.vars c.loop-v.v c.loop-v.invariant (omega arith) (omega arith) in
    let init = walk_end (inits T) T.sas.vars c.loop-v-2.v c.loop-v-2.invariant (omega arith) (omega arith) in
    let all = walk_end (goals T) T.sas.vars c.loop-v-3.v c.loop-v-3.invariant (omega arith) (omega arith) in
    sym (head_clean T (cc) (cc) dom init all (omega arith) (omega arith))
