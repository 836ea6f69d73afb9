-- `back::turn_lists` meets its contract: of the variables passed so far the numbers to take off and to put on are there, and the offsets are listed.
-- Assumes nothing.
use Rattle.std.proofs.Common.{ℕ, ◌≡◌, ◌≤◌, length, length-set, subst, ap, ap₂, ◌∙◌, arith}
use Rattle.meaning.specs.Sas.{put}
use Rattle.meaning.proofs.Numbers.{size_pos}
use Rattle.tables.specs.Layout.{row_at, dom_at}
use Rattle.maps.proofs.Walking.{numbered_none, numbered_more, numbered_small}
use Rattle.maps.specs.Inside.Walks.{states_of}
use Rattle.turned.specs.Inside.Turns.{lift_of, Listed}
use Rattle.turned.proofs.Turning.{listed_none, listed_since, listed_some, listed_more, drop_digital, lift_digital, ways_read, spread_ready}
use Rattle.turned.proofs.back.turn_lists.Goals as goal

-- the first place is there
pub bounds-list-0 : goal.bounds-list-0
bounds-list-0 c = omega (arith, c.requires.2, size_pos (dom_at c.args.facts.now) c.args.c.vars c.requires.0.values)

pub loop-v-init : goal.loop-v-init
loop-v-init c =
    let a = c.args in
    let room : 1 ≤ length a.list.now = omega (arith, c.requires.2, size_pos (dom_at a.facts.now) a.c.vars c.requires.0.values) in
    record { drop = numbered_none; lift = numbered_none; listed = listed_none a.facts.now a.o.0 a.list.now room }

-- ---- what is taken off and put on stays small

pub overflow_mul-drop : goal.overflow_mul-drop
overflow_mul-drop c =
    let a = c.args in
    let eff = c.row_at-eff.ensures ∙ ap (λ (r : ℕ). row_at a.facts.now r c.loop-v.v) c.eff_row.ensures in
    let digit = c.from.ensures ∙ c.value_after.ensures ∙ ap (λ (e : ℕ). put e 0) eff in
    let more = numbered_more c.loop-v.invariant.drop c.loop-v-test.true digit (c.from-k.ensures ∙ c.row_at.ensures) in
    omega (arith, (numbered_small more (drop_digital c.requires.0 c.requires.1)).1)

pub overflow_add-drop : goal.overflow_add-drop
overflow_add-drop c =
    let a = c.args in
    let eff = c.row_at-eff.ensures ∙ ap (λ (r : ℕ). row_at a.facts.now r c.loop-v.v) c.eff_row.ensures in
    let digit = c.from.ensures ∙ c.value_after.ensures ∙ ap (λ (e : ℕ). put e 0) eff in
    let more = numbered_more c.loop-v.invariant.drop c.loop-v-test.true digit (c.from-k.ensures ∙ c.row_at.ensures) in
    omega (arith, (numbered_small more (drop_digital c.requires.0 c.requires.1)).1)

pub overflow_mul-lift : goal.overflow_mul-lift
overflow_mul-lift c =
    let a = c.args in
    let pre = c.row_at-pre.ensures ∙ ap (λ (r : ℕ). row_at a.facts.now r c.loop-v.v) c.pre_row.ensures in
    let eff = c.row_at-eff.ensures ∙ ap (λ (r : ℕ). row_at a.facts.now r c.loop-v.v) c.eff_row.ensures in
    let digit = c.from-in-loop-v.ensures ∙ c.lift_of.ensures ∙ ap₂ lift_of pre eff in
    let more = numbered_more c.loop-v.invariant.lift c.loop-v-test.true digit (c.from-k.ensures ∙ c.row_at.ensures) in
    omega (arith, (numbered_small more (lift_digital c.requires.0 c.requires.1)).1)

pub overflow_add-lift : goal.overflow_add-lift
overflow_add-lift c =
    let a = c.args in
    let pre = c.row_at-pre.ensures ∙ ap (λ (r : ℕ). row_at a.facts.now r c.loop-v.v) c.pre_row.ensures in
    let eff = c.row_at-eff.ensures ∙ ap (λ (r : ℕ). row_at a.facts.now r c.loop-v.v) c.eff_row.ensures in
    let digit = c.from-in-loop-v.ensures ∙ c.lift_of.ensures ∙ ap₂ lift_of pre eff in
    let more = numbered_more c.loop-v.invariant.lift c.loop-v-test.true digit (c.from-k.ensures ∙ c.row_at.ensures) in
    omega (arith, (numbered_small more (lift_digital c.requires.0 c.requires.1)).1)

pub overflow_mul-stride : goal.overflow_mul-stride
overflow_mul-stride c =
    let a = c.args in
    let eff = c.row_at-eff.ensures ∙ ap (λ (r : ℕ). row_at a.facts.now r c.loop-v.v) c.eff_row.ensures in
    let digit = c.from.ensures ∙ c.value_after.ensures ∙ ap (λ (e : ℕ). put e 0) eff in
    let more = numbered_more c.loop-v.invariant.drop c.loop-v-test.true digit (c.from-k.ensures ∙ c.row_at.ensures) in
    omega (arith, (numbered_small more (drop_digital c.requires.0 c.requires.1)).0)

-- ---- the offsets

pub spread-requires-clause-le_len : goal.spread-requires-clause-le_len
spread-requires-clause-le_len c =
    let l = c.loop-v in
    let read = ways_read c.args.facts.now c.args.o.0 l.v c.row_at.ensures c.row_at-pre.ensures c.pre_row.ensures c.row_at-eff.ensures c.eff_row.ensures c.from-k.ensures c.ways_of-ways.ensures in
    let room : states_of c.args.c c.args.facts.now ≤ length l.list = omega (arith, c.requires.2, l.auto.list, length-set c.args.list.now 0 0) in
    (spread_ready c.requires.0 c.requires.1 c.loop-v-test.true room l.invariant.listed read l.invariant.drop.stride_is).places

pub spread-requires-clause-by_index : goal.spread-requires-clause-by_index
spread-requires-clause-by_index c =
    let l = c.loop-v in
    let read = ways_read c.args.facts.now c.args.o.0 l.v c.row_at.ensures c.row_at-pre.ensures c.pre_row.ensures c.row_at-eff.ensures c.eff_row.ensures c.from-k.ensures c.ways_of-ways.ensures in
    let room : states_of c.args.c c.args.facts.now ≤ length l.list = omega (arith, c.requires.2, l.auto.list, length-set c.args.list.now 0 0) in
    (spread_ready c.requires.0 c.requires.1 c.loop-v-test.true room l.invariant.listed read l.invariant.drop.stride_is).small

pub overflow_mul-count : goal.overflow_mul-count
overflow_mul-count c =
    let l = c.loop-v in
    let read = ways_read c.args.facts.now c.args.o.0 l.v c.row_at.ensures c.row_at-pre.ensures c.pre_row.ensures c.row_at-eff.ensures c.eff_row.ensures c.from-k.ensures c.ways_of-ways.ensures in
    let room : states_of c.args.c c.args.facts.now ≤ length l.list = omega (arith, c.requires.2, l.auto.list, length-set c.args.list.now 0 0) in
    omega (arith, (spread_ready c.requires.0 c.requires.1 c.loop-v-test.true room l.invariant.listed read l.invariant.drop.stride_is).places.3)

pub loop-v-preserved : goal.loop-v-preserved
loop-v-preserved c =
    let a = c.args in
    let l = c.loop-v in
    let test = c.loop-v-test.true in
    let dom = c.from-k.ensures ∙ c.row_at.ensures in
    let pre = c.row_at-pre.ensures ∙ ap (λ (r : ℕ). row_at a.facts.now r l.v) c.pre_row.ensures in
    let eff = c.row_at-eff.ensures ∙ ap (λ (r : ℕ). row_at a.facts.now r l.v) c.eff_row.ensures in
    let read = ways_read a.facts.now a.o.0 l.v c.row_at.ensures c.row_at-pre.ensures c.pre_row.ensures c.row_at-eff.ensures c.eff_row.ensures c.from-k.ensures c.ways_of-ways.ensures in
    record {
      drop = numbered_more l.invariant.drop test (c.from.ensures ∙ c.value_after.ensures ∙ ap (λ (e : ℕ). put e 0) eff) dom;
      lift = numbered_more l.invariant.lift test (c.from-in-loop-v.ensures ∙ c.lift_of.ensures ∙ ap₂ lift_of pre eff) dom;
      listed = listed_more a.facts.now a.o.0 l.invariant.listed (λ u h. c.requires.0.values u (omega (arith, test))) read l.invariant.drop.stride_is c.spread.ensures;
    }

pub returns-clause-listed : goal.returns-clause-listed
returns-clause-listed c =
    let l = c.loop-v in
    let listed = l.invariant.listed in
    let some = listed_some c.args.facts.now c.args.o.0 listed (λ u h. c.requires.0.values u (omega (arith, h, c.loop-v.auto.v-end))) in
    let all : l.v ≡ c.args.c.vars = omega (arith, c.loop-v-test.false, c.loop-v.auto.v-end) in
    subst (λ (n : ℕ). Listed c.args.facts.now c.args.o.0 n l.count c.args.list.now l.list) all (listed_since c.args.facts.now c.args.o.0 some listed)
