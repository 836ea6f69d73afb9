-- `parts::parts_of` meets its contract: the parts of the variables passed so far are set, and the stride is that of the next one. Assumes nothing.
use Rattle.std.proofs.Common.{ℕ, ◌*◌, ap, ap₂, ◌∙◌, add-one, arith}
use Rattle.std.proofs.Math.Nat.{mul_assoc}
use Rattle.meaning.specs.Numbering.{size}
use Rattle.tables.specs.Layout.{dom_at}
use Rattle.maps.proofs.Parting.{strides_small, parted_more}
use Rattle.maps.proofs.parts.parts_of.Goals as goal

pub variable_parts-requires : goal.variable_parts-requires
variable_parts-requires c =
    let l = c.loop-v in
    let test = c.loop-v-test.true in
    (c.requires.0, test, c.row_at-k.ensures, strides_small c.requires.0 test c.requires.1 l.invariant.stride)

pub overflow_mul-stride : goal.overflow_mul-stride
overflow_mul-stride c =
    let l = c.loop-v in
    omega (
      arith,
      strides_small c.requires.0 c.loop-v-test.true c.requires.1 l.invariant.stride,
      ap (λ (y : ℕ). y * l.stride) (c.from-stride.ensures ∙ c.row_at-k.ensures),
    )

pub loop-v-preserved : goal.loop-v-preserved
loop-v-preserved c =
    let l = c.loop-v in
    let a = c.args in
    let dom = c.from-stride.ensures ∙ c.row_at-k.ensures in
    let stride = ap₂ ◌*◌ l.invariant.stride dom ∙ mul_assoc a.unit (size (dom_at a.facts.now) l.v) (dom_at a.facts.now l.v) in
    record {
      stride = rw add-one stride;
      parted = parted_more l.invariant.parted c.requires.0 c.loop-v-test.true l.invariant.stride c.row_at-k.ensures c.variable_parts.ensures;
    }
