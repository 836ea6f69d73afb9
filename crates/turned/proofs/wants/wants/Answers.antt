-- `wants::wants` meets its contract: the places passed so far are made, and the others are still 0. Assumes nothing.
use Rattle.std.proofs.Common.{ℕ, ◌∙◌, arith}
use Rattle.std.proofs.lemmas.List.{length-replicate}
use Rattle.maps.proofs.Makes.{zeros_at, made_none, made_more, made_end}
use Rattle.turned.proofs.wants.wants.Goals as goal

pub loop-i-init : goal.loop-i-init
loop-i-init c = made_none

pub loop-i-preserved : goal.loop-i-preserved
loop-i-preserved c =
    let room = length-replicate {A = ℕ} 1048 0 in
    made_more c.loop-i.invariant (omega (arith, c.loop-i.invariant.size, room, c.loop-i-test.true, c.requires)) c.want_at.ensures

pub returns : goal.returns
returns c =
    let l = c.loop-i in
    let all = made_end l.invariant l.auto.i-end c.loop-i-test.false in
    record { places = all.made; rest = λ i h. all.kept i h ∙ zeros_at 1048 i }
