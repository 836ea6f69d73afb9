-- `rows::lay` meets its contract: the rows of the states of the variables passed so far are laid, and a part more still fits. Assumes nothing.
use Rattle.std.proofs.Common.{List, ℕ, ◌+◌, ◌≤◌, ◌<◌, length, refl, sym, ◌∙◌, arith}
use Rattle.std.proofs.lemmas.List.{length-take-le}
use Rattle.meaning.specs.Limits.{most_vars}
use Rattle.meaning.specs.Numbering.{size, Positive}
use Rattle.meaning.proofs.Numbers.{size_pos}
use Rattle.tables.specs.Layout.{dom_at}
use Rattle.tables.specs.declared.Counts.{Counts}
use Rattle.maps.specs.Inside.Walks.{Walkable}
use Rattle.maps.proofs.Walking.{size_le, size_more}
use Rattle.maps.proofs.Laying.{row_cleared, laid_more, laid_fits}
use Rattle.maps.proofs.rows.lay.Goals as goal

module _ {c : Counts} {facts : List ℕ} (W : Walkable c facts) (v : ℕ) (h : v < c.vars) where
  -- there is room for them
  within : size (dom_at facts) (v + 1) ≤ size (dom_at facts) c.vars
  within = size_le (dom_at facts) (v + 1) c.vars (omega arith) W.values

  positive : Positive (dom_at facts) v
  positive u l = W.values u (omega arith)

pub slice_bounds-fill-end : goal.slice_bounds-fill-end
slice_bounds-fill-end c = omega (arith, c.requires.2, size_pos (dom_at c.args.facts.now) c.args.c.vars c.requires.0.values)

pub slice_bounds-fill-end-2 : goal.slice_bounds-fill-end-2
slice_bounds-fill-end-2 c =
    let room : 65 ≤ length c.args.t.now = omega (arith, c.requires.2, size_pos (dom_at c.args.facts.now) c.args.c.vars c.requires.0.values) in
    sym (length-take-le 65 c.args.t.now room)

pub loop-v-init : goal.loop-v-init
loop-v-init c =
    let room : 65 ≤ length c.args.t.now = omega (arith, c.requires.2, size_pos (dom_at c.args.facts.now) c.args.c.vars c.requires.0.values) in
    record { len = refl; laid = λ D d o l. row_cleared _ (length-take-le 65 c.args.t.now room) (c.fill.ensures.after (λ y e. e)) o l }

pub lay_variable-requires-clause-le_len : goal.lay_variable-requires-clause-le_len
lay_variable-requires-clause-le_len c =
    let l = c.loop-v in
    let a = c.args in
    let K = dom_at a.facts.now in
    let pre = c.requires in
    let test = c.loop-v-test.true in
    let dom = c.from-k.ensures ∙ c.row_at.ensures in
    let few : l.v < most_vars = omega (arith, pre.0.vars, test) in
    let all = size_more K l.v l.len _ l.invariant.len dom in (
      omega (arith, l.invariant.len, size_pos K l.v (positive pre.0 l.v test)),
      omega (arith, dom, pre.0.small l.v test),
      few,
      omega (arith, all, within pre.0 l.v test, pre.0.few),
      omega (arith, all, within pre.0 l.v test, pre.2, l.auto.t),
      pre.1,
    )

pub lay_variable-requires-clause-by_index : goal.lay_variable-requires-clause-by_index
lay_variable-requires-clause-by_index c = λ j o h g.
    let l = c.loop-v in
    let a = c.args in
    let test = c.loop-v-test.true in
    laid_fits (dom_at a.facts.now) a.parts.now l.v l.t l.invariant.laid c.requires.1 (omega (arith, c.requires.0.vars, test))
    (positive c.requires.0 l.v test) j o (omega (arith, l.invariant.len)) g

pub overflow_mul-len : goal.overflow_mul-len
overflow_mul-len c =
    let l = c.loop-v in
    let pre = c.requires in
    let test = c.loop-v-test.true in
    omega (
      arith,
      size_more (dom_at c.args.facts.now) l.v l.len _ l.invariant.len (c.from-k.ensures ∙ c.row_at.ensures),
      within pre.0 l.v test,
      pre.0.few,
    )

pub loop-v-preserved : goal.loop-v-preserved
loop-v-preserved c =
    let l = c.loop-v in
    let a = c.args in
    let K = dom_at a.facts.now in
    let dom = c.from-k.ensures ∙ c.row_at.ensures in
    record {
      len = size_more K l.v l.len _ l.invariant.len dom;
      laid = laid_more K a.parts.now l.v l.t l.invariant.laid l.invariant.len dom c.lay_variable.ensures;
    }
