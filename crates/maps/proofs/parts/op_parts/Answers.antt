-- `parts::op_parts` meets its contract: the parts of the operators passed so far are set. Assumes nothing.
use Rattle.std.proofs.Common.{ℕ, ◌+◌, ◌*◌, ◌≤◌, ◌<◌, ◌≡◌, ap, ap₂, ◌∙◌, length, arith}
use Rattle.meaning.specs.Limits.{most_ops, most_states}
use Rattle.meaning.specs.Sas.{put}
use Rattle.tables.specs.Layout.{row_at, eff_at}
use Rattle.maps.specs.Inside.Rows.{lanes}
use Rattle.maps.specs.Inside.Parts.{part_of}
use Rattle.maps.proofs.Parting.{op_adds, op_more}
use Rattle.maps.proofs.parts.op_parts.Goals as goal

-- its effect, as it is read
eff : (c : goal.After-row_at-eff) → c.row_at-eff.result ≡ eff_at c.args.facts.now c.loop-o.o c.args.v
eff c = c.row_at-eff.ensures ∙ ap (λ (r : ℕ). row_at c.args.facts.now r c.args.v) c.eff_row.ensures

adds : (c : goal.After-row_at-eff) → put (eff_at c.args.facts.now c.loop-o.o c.args.v) c.args.x * c.args.stride < most_states
adds c =
    let pre = c.requires.walkable in
    op_adds c.args.stride pre.0 pre.1 pre.2 pre.3 c.loop-o.o c.loop-o-test.true

pub part_of-requires : goal.part_of-requires
part_of-requires c = rw (eff c) (adds c)

pub invariant_of-parts : goal.invariant_of-parts
invariant_of-parts c =
    let pre = c.requires in
    let few : c.loop-o.o < most_ops = omega (arith, c.loop-o-test.true, pre.walkable.0.ops) in
    let room : c.args.at + lanes ≤ length c.loop-o.parts.places = omega (arith, c.loop-o.invariant.all.room, c.args.parts.now.parts.room, pre.parts) in
    let before = c.row_at-pre.ensures ∙ ap (λ (r : ℕ). row_at c.args.facts.now r c.args.v) c.pre_row.ensures in
    let eff = c.row_at-eff.ensures ∙ ap (λ (r : ℕ). row_at c.args.facts.now r c.args.v) c.eff_row.ensures in
    let part = c.part_of.ensures ∙ ap₂ (λ (p e : ℕ). part_of p e c.args.x c.args.stride) before eff in
    let small = op_adds c.args.stride pre.walkable.0 pre.walkable.1 pre.walkable.2 pre.walkable.3 c.loop-o.o c.loop-o-test.true in
    record { parts = (op_more c.loop-o.invariant few room part small).all }
