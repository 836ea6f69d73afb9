-- `classes::seen_facts` meets its contract: the places passed so far are seen by classes. Assumes nothing.
use Rattle.std.proofs.Common.{ℕ, ◌≡◌, ◌-◌, ◌<◌, ◌%◌, subst, arith, rules}
use Rattle.meaning.specs.Views.{seen}
use Rattle.tables.specs.Layout.{class_at}
use Rattle.sweep.proofs.Makes.{made_more}
use Rattle.sweep.proofs.classes.seen_facts.Goals as goal

pub loop-i-preserved : goal.loop-i-preserved
loop-i-preserved c =
    let x = c.args in
    let l = c.loop-i in
    let class = class_at x.facts.now x.m (l.i % 8) in
    record {
      long = search rules;
      made =
          made_more l.invariant.made (omega (arith, l.invariant.long, c.loop-i-test.true))
          (subst (λ (f : ℕ). class (f - 1) < 255 → c.seen_fact.result ≡ seen class f) c.get_or.ensures c.seen_fact.ensures);
    }
