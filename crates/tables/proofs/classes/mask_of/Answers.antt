-- A class beyond the values, and at the end the mask of them all.
use Rattle.std.proofs.Common.{ℕ, ◌≡◌, ◌∙◌, sym, ap, ltb, arith}
use borrow.Author.Tests.{le-ltb}
use Rattle.std.specs.Prelude.{Some}
use Rattle.tables.specs.Layout.{row_at}
use Rattle.tables.specs.Inside.Masks.{mask_of, mask_found}
use Rattle.tables.proofs.Laws.{every_end, every_false}
use Rattle.tables.proofs.classes.mask_of.Goals as goal

pub returns-then-dom-k : goal.returns-then-dom-k
unfolding mask_found
returns-then-dom-k c =
    let high = le-ltb (row_at c.args.facts.now c.args.row c.loop-x.x) c.args.dom (omega arith) in
    sym (rw (every_false (λ x. ltb (row_at c.args.facts.now c.args.row x) c.args.dom) c.args.dom c.loop-x.x c.loop-x-test.true high))

pub returns : goal.returns
unfolding mask_found
returns c =
    let class = row_at c.args.facts.now c.args.row in
    let e : c.loop-x.x ≡ c.args.dom = omega arith in
    rw (← every_end (λ x. ltb (class x) c.args.dom) c.args.dom c.loop-x.x c.loop-x.invariant.0 (omega arith) (omega arith))
    (ap (λ (m : ℕ). Some m) (c.loop-x.invariant.1 ∙ ap (mask_of class) e))
