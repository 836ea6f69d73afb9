-- `walk::digits` meets its contract: what is left of the number by a variable's number of values is its digit. Assumes nothing.
use Rattle.std.proofs.Common.{◌<◌, length, ◌∙◌, arith, rules}
use Rattle.tables.specs.Layout.{dom_at}
use Rattle.sweep.proofs.Makes.{made_more}
use Rattle.sweep.proofs.Walking.{rest_more, rest_digit}
use Rattle.sweep.proofs.walk.digits.Goals as goal

pub loop-v-preserved : goal.loop-v-preserved
loop-v-preserved c =
    let l = c.loop-v in
    let K = dom_at c.args.facts.now in
    let k = c.from-k.ensures ∙ c.row_at.ensures in
    let inside : l.v < length l.s = omega (arith, l.invariant.long, c.loop-v-test.true, c.requires.0) in
    record {
      long = search rules;
      left = rest_more K c.args.a.0 l.v l.rest c.from-k.result l.invariant.left k;
      made = made_more l.invariant.made inside (rest_digit K c.args.a.0 l.v l.rest c.from-k.result l.invariant.left k);
    }
