-- `classes::seen_facts` meets its contract: the places passed so far are seen by classes. Assumes nothing.
use Rattle.std.proofs.Common.{ℕ, ◌-◌, ◌<◌, ◌%◌, ◌≡◌, subst, arith}
use Rattle.meaning.specs.Views.{seen}
use Rattle.tables.specs.Layout.{class_at}
use Rattle.maps.proofs.Makes.{made_none, made_more}
use Rattle.maps.proofs.classes.seen_facts.Goals as goal

pub loop-i-init : goal.loop-i-init
loop-i-init c = made_none

pub loop-i-preserved : goal.loop-i-preserved
loop-i-preserved c =
    let class = class_at c.args.facts.now c.args.m (c.loop-i.i % 8) in
    made_more c.loop-i.invariant (omega arith)
    (subst (λ (f : ℕ). class (f - 1) < 255 → c.seen_fact.result ≡ seen class f) c.get_or.ensures c.seen_fact.ensures)

pub returns : goal.returns
returns c = (c.loop-i-test.array_long, λ i h. c.loop-i.invariant.made i (omega (arith, c.loop-i-test.false)))
