-- `back::turn_all` meets its contract: the operators passed so far are turned round, and operators turned round lead backwards. Assumes nothing.
use Rattle.std.proofs.Common.{◌+◌, ◌*◌, ◌≤◌, ◌≡◌, length, ◌∙◌, length-set, arith}
use Rattle.std.proofs.Math.Nat.{not-suc-le-zero, mul-le-mul_right}
use Rattle.std.proofs.lemmas.List.{length-replicate}
use Rattle.std.proofs.lemmas.List.Edits.{length-between}
use Rattle.turned.specs.declared.back.Turned.{Turned}
use Rattle.turned.proofs.Turning.{turned_more}
use Rattle.turned.proofs.Backing.{turned_back}
use Rattle.turned.proofs.back.turn_all.Goals as goal

pub loop-o-init : goal.loop-o-init
loop-o-init c = record { room = length-replicate {A = Turned} 64 (record { drop = 0; lift = 0; count = 0 }); turned = λ p l. absurd (not-suc-le-zero l) }

pub loop-o-preserved : goal.loop-o-preserved
loop-o-preserved c =
    let pre = c.requires in
    let l = c.loop-o in
    let n = c.args.n in
    let few = c.loop-o-test.true in
    let room : l.o * n + n ≤ length l.back = omega (arith, pre.2, l.auto.back, mul-le-mul_right n few) in
    let long : length c.turn_lists.new.list ≡ n = c.turn_lists.auto.list ∙ length-between l.back (l.o * n) (l.o * n + n) room ∙ omega arith in
    record {
      room = length-set l.turns l.o c.turn_lists.result ∙ l.invariant.room;
      turned = turned_more pre.0 pre.1 (omega (arith, few, pre.0.ops, l.invariant.room)) room long c.turn_lists.ensures.turned_to c.turn_lists.ensures.listed l.invariant.turned;
    }

pub returns-clause-backs : goal.returns-clause-backs
returns-clause-backs c = λ o lo.
    let pre = c.requires in
    turned_back pre.0 pre.1 lo (c.loop-o.invariant.turned o (omega (arith, c.loop-o-test.false)))
