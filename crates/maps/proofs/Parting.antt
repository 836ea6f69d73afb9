-- Laws of the parts: the walks that set them, and what the rows say that are laid of them. What stands there for facts that fail is 0 exactly if none does, and
-- else more than any state's number. Assumes nothing.
use mathlib.Core.Path.{◌≡◌, refl, sym, ap, ap₂, ◌∙◌, subst}
use mathlib.Core.Bool.{Bool, true, false}
use mathlib.Core.List.{List}
use Prim.Native.Nat.{ℕ, zero, suc, ◌+◌, ◌*◌, ◌≤◌, ◌<◌}
use native.Mathlib.Nat.{le_refl, not-suc-le-zero, mul-le-mul_right}
use native.Mathlib.Decide.{ℕ_discrete}
use native.Mathlib.Omega.{arith}
use lib.Dec.{eqb}
use lib.ListN.{length, get_or, set, replicate, length-set, length-replicate}
use lib.Seq.{get_or-set_same, get_or-set_other}
use borrow.Author.Count.{below_more}
use borrow.Author.Tests.{eq-eqb, ne_eqb, lt-ltb, le-ltb}
use Rattle.meaning.specs.Limits.{most_ops, most_states}
use Rattle.meaning.specs.Numbering.{size, number, digit, Digits}
use Rattle.meaning.specs.Sas.{put}
use Rattle.meaning.specs.Views.{holds, every, to_if}
use Rattle.meaning.specs.Split.{sum}
use Rattle.meaning.proofs.Numbers.{number_below, number_digits, digit_below}
use Rattle.meaning.proofs.Facts.{by_cases, put_below, and_left, and_right, some_false}
use Rattle.meaning.proofs.Sums.{sum_above}
use Rattle.tables.specs.declared.Counts.{Counts}
use Rattle.tables.specs.Layout.{dom_at, goal_at, pre_at, eff_at}
use Rattle.maps.specs.Inside.Walks.{space_of, states_of, Walkable}
use Rattle.maps.specs.Inside.Rows.{lanes, goal_lane, lane_at, part_at, most_part, Parts, Laid}
use Rattle.maps.specs.Inside.Parts.{fails_if, part_of, OpParts, VariableParts, Parted, Stepped, next_at}
use Rattle.maps.proofs.Makes.{zeros_at}
use Rattle.maps.proofs.Walking.{size_le, after_digits}

-- ---- what stands for facts that fail

none_fails : (f : ℕ → Bool) (k : ℕ) → every f k ≡ true → sum (λ v. fails_if (f v)) k ≡ 0
none_fails f zero h = refl
none_fails f (suc k) h = ap₂ ◌+◌ (none_fails f k (and_left (every f k) (f k) h)) (ap fails_if (and_right (every f k) (f k) h))

some_fails : (f : ℕ → Bool) (k : ℕ) → every f k ≡ false → most_states ≤ sum (λ v. fails_if (f v)) k
some_fails f k h =
    let w = some_false f k h in
    omega (arith, sum_above (λ v. fails_if (f v)) k w.0 w.1, ap fails_if w.2)

-- a lane that holds nothing else is 0 exactly if all facts hold
all_hold : (f : ℕ → Bool) (k x : ℕ) → x ≡ sum (λ v. fails_if (f v)) k → eqb x 0 ≡ every f k
all_hold f k x e =
    by_cases (every f k) (λ h. eq-eqb x 0 (e ∙ none_fails f k h) ∙ sym h) (λ h. ne_eqb x 0 (λ z. omega (arith, some_fails f k h)) ∙ sym h)

-- ---- a part fits its place

fails_small : (b : Bool) → fails_if b ≤ most_states
fails_small true = omega arith
fails_small false = omega arith

-- the number that a value adds after an operator is a state's
put_adds : (eff x d stride : ℕ) → eff ≤ d → x < d → d * stride ≤ most_states → put eff x * stride < most_states
put_adds eff x d zero h l m = omega arith
put_adds eff x d (suc s) h l m = omega (arith, mul-le-mul_right (suc s) (put_below eff x d h l))

pub op_adds : {c : Counts} {facts : List ℕ} {v x : ℕ} (stride : ℕ) → Walkable c facts → v < c.vars → x < dom_at facts v
    → dom_at facts v * stride ≤ most_states → (o : ℕ) → o < c.ops → put (eff_at facts o v) x * stride < most_states
op_adds {facts = facts} {v = v} {x = x} stride W lv lx m o lo = put_adds (eff_at facts o v) x (dom_at facts v) stride (W.effects o v lo lv) lx m

-- the values of a variable, their stride apart, are states
pub strides_small : {c : Counts} {facts : List ℕ} {v unit stride : ℕ} → Walkable c facts → v < c.vars → unit ≤ 1 → stride ≡ unit * size (dom_at facts) v
    → dom_at facts v * stride ≤ most_states
strides_small {c = c} {facts = facts} {v = v} {stride = stride} W l h e =
    let K = dom_at facts in
    let m : stride ≤ size K v = omega (arith, mul-le-mul_right (size K v) h) in
    omega (arith, mul-le-mul_right (K v) m, size_le K (suc v) c.vars l W.values, W.few)

part_small : (pre eff x stride : ℕ) → put eff x * stride < most_states → part_of pre eff x stride ≤ most_part
part_small pre eff x stride l = omega (arith, fails_small (holds pre x))

parts_set : {p : List ℕ} {i y : ℕ} → Parts p → i < length p → y ≤ most_part → Parts (set p i y)
parts_set {p = p} {i = i} {y = y} P l m = record { room = length-set p i y ∙ P.room; small = λ j. go j (ℕ_discrete j i) }
  where
    go : (j : ℕ) → Dec (j ≡ i) → get_or (set p i y) j 0 ≤ most_part
    go j (yes e) = rw e (rw (get_or-set_same p i y 0 l) m)
    go j (no d) = rw (get_or-set_other p i j y 0 d) (P.small j)

-- ---- the walks that set the parts

module _ {facts p : List ℕ} {v x stride at : ℕ} where
  pub op_none : Parts p → OpParts 0 facts v x stride at p p
  op_none P = record { all = P; ops = λ o l. absurd (not-suc-le-zero l); below = λ i l. refl; beyond = λ i l. refl }

  pub op_more : {k : ℕ} {q : List ℕ} → OpParts k facts v x stride at p q → k < most_ops → at + lanes ≤ length q → {y : ℕ}
      → y ≡ part_of (pre_at facts k v) (eff_at facts k v) x stride → put (eff_at facts k v) x * stride < most_states
      → OpParts (k + 1) facts v x stride at p (set q (at + k) y)
  op_more {k = k} {q = q} s lk l {y = y} e m =
      record {
        all = parts_set s.all (omega arith) (rw e (part_small (pre_at facts k v) (eff_at facts k v) x stride m));
        ops =
            below_more (λ o. get_or (set q (at + k) y) (at + o) 0 ≡ part_of (pre_at facts o v) (eff_at facts o v) x stride) k
            (λ o h. get_or-set_other q (at + k) (at + o) y 0 (omega arith) ∙ s.ops o h)
            (get_or-set_same q (at + k) y 0 (omega arith) ∙ e);
        below = λ i h. get_or-set_other q (at + k) i y 0 (omega arith) ∙ s.below i h;
        beyond = λ i h. get_or-set_other q (at + k) i y 0 (omega arith) ∙ s.beyond i h;
      }

module _ {c : Counts} {facts : List ℕ} {unit : ℕ} where
  pub parted_none : {p : List ℕ} → Parts p → Parted c facts unit 0 p
  parted_none P = record { all = P; ops = λ v x o l. absurd (not-suc-le-zero l); goal = λ v x l. absurd (not-suc-le-zero l) }

  module _ {n : ℕ} {p : List ℕ} (s : Parted c facts unit n p) where
    pub parted_more : Walkable c facts → n < c.vars → {q : List ℕ} {stride k : ℕ} → stride ≡ unit * size (dom_at facts) n → k ≡ dom_at facts n
        → VariableParts c facts n k stride p q → Parted c facts unit (n + 1) q
    parted_more W l {q = q} e f t =
        record {
          all = t.all;
          ops = λ v x o lv lx lo.
              below_more
              (λ u. (y : ℕ) → y < dom_at facts u → part_at q u y o ≡ part_of (pre_at facts o u) (eff_at facts o u) y (unit * size (dom_at facts) u)) n
              (λ u h y ly. kept u h y ly o (omega (arith, W.ops)) ∙ s.ops u y o h ly lo)
              (λ y ly. t.ops y o (omega arith) lo ∙ ap (part_of (pre_at facts o n) (eff_at facts o n) y) e) v lv x lx;
          goal = λ v x lv lx.
              below_more (λ u. (y : ℕ) → y < dom_at facts u → part_at q u y goal_lane ≡ part_of (goal_at facts u) 0 y 0) n
              (λ u h y ly. kept u h y ly goal_lane (omega arith) ∙ s.goal u y h ly)
              (λ y ly. t.goal y (omega arith)) v lv x lx;
        }
      where
        kept : (u : ℕ) → u < n → (y : ℕ) → y < dom_at facts u → (o : ℕ) → o < lanes → part_at q u y o ≡ part_at p u y o
        kept u h y ly o lo = t.others u y o h (omega (arith, W.small u (omega arith))) lo

    pub parted_end : {m : ℕ} → n ≤ m → m ≤ n → Parted c facts unit m p
    parted_end {m = m} h g = let e : n ≡ m = omega arith in subst (λ (y : ℕ). Parted c facts unit y p) e s

-- ---- rows that are laid of the parts

-- nothing is set yet
pub parts_blank : Parts (replicate 4160 0)
parts_blank = record { room = length-replicate {A = ℕ} 4160 0; small = λ i. omega (arith, zeros_at 4160 i) }

-- a number's digits each add their part of it
sum_adds : (K D g : ℕ → ℕ) (f : ℕ → Bool) (unit k : ℕ) → ((v : ℕ) → v < k → g v ≡ D v * (unit * size K v) + fails_if (f v))
    → sum g k ≡ unit * number K D k + sum (λ v. fails_if (f v)) k
sum_adds K D g f unit zero h = omega arith
sum_adds K D g f unit (suc k) h = omega (arith, sum_adds K D g f unit k (λ v l. h v (omega arith)), h k (le_refl (suc k)))

pub parted_laid : {c : Counts} {facts : List ℕ} {unit : ℕ} {p t : List ℕ} → Walkable c facts → Parted c facts unit c.vars p
    → Laid (dom_at facts) p c.vars t → Stepped c facts unit t
parted_laid {c = c} {facts = facts} {unit = unit} {p = p} {t = t} W P L =
    record {
      ops = λ o a lo la.
          lane a la o (omega (arith, W.ops))
          ∙ sum_adds K (λ v. put (eff_at facts o v) (digit K a v)) (λ v. part_at p v (digit K a v) o) (λ v. holds (pre_at facts o v) (digit K a v)) unit c.vars
          (λ v l. P.ops v (digit K a v) o l (below a v l) lo);
      goal = λ a la.
          lane a la goal_lane (omega arith)
          ∙ sum_adds K (digit K a) (λ v. part_at p v (digit K a v) goal_lane) (λ v. holds (goal_at facts v) (digit K a v)) 0 c.vars
          (λ v l. omega (arith, P.goal v (digit K a v) l (below a v l)))
          ∙ omega arith;
    }
  where
    K : ℕ → ℕ
    K = dom_at facts

    below : (a : ℕ) → Digits K (digit K a) c.vars
    below a = digit_below K a c.vars W.values

    lane : (a : ℕ) → a < states_of c facts → (o : ℕ) → o < lanes → lane_at t a o ≡ sum (λ v. part_at p v (digit K a v) o) c.vars
    lane a la o lo =
        subst (λ (x : ℕ). lane_at t x o ≡ sum (λ v. part_at p v (digit K a v) o) c.vars) (number_digits K a c.vars W.values la)
        (L (digit K a) (below a) o lo)

-- ---- what the rows of all states say

module _ (c : Counts) (facts prices t : List ℕ) where
  -- an operator's lane says where it leads
  pub steps_lead : Walkable c facts → Stepped c facts 1 t → (o a : ℕ) → o < c.ops → a < states_of c facts
      → next_at (lane_at t a o) ≡ (space_of c facts prices).succ o a
  steps_lead W S o a lo la =
      let D : ℕ → ℕ = λ v. put (eff_at facts o v) (digit (dom_at facts) a v) in
      let f : ℕ → Bool = λ v. holds (pre_at facts o v) (digit (dom_at facts) a v) in
      let x : ℕ = lane_at t a o in
      let y : ℕ = number (dom_at facts) D c.vars in
      let low = number_below (dom_at facts) D c.vars (after_digits c facts prices W o (digit (dom_at facts) a) lo (digit_below (dom_at facts) a c.vars W.values)) in
      by_cases (every f c.vars)
      (λ h.
      let e : x ≡ y = omega (arith, S.ops o a lo la, none_fails f c.vars h) in
      ap₂ to_if (lt-ltb x most_states (omega (arith, low, W.few)) ∙ sym h) e)
      (λ h.
      ap (λ b. to_if b x) (le-ltb x most_states (omega (arith, S.ops o a lo la, some_fails f c.vars h)))
      ∙ ap (λ b. to_if b y) (sym h))

  -- the goal's lane is 0 exactly at goals
  pub steps_goal : {unit : ℕ} → Stepped c facts unit t → (a : ℕ) → a < states_of c facts → eqb (lane_at t a goal_lane) 0 ≡ (space_of c facts prices).goal a
  steps_goal S a la = all_hold (λ v. holds (goal_at facts v) (digit (dom_at facts) a v)) c.vars (lane_at t a goal_lane) (S.goal a la)

-- where the values are 0 apart, an operator's lane is 0 exactly if it may run
pub steps_fit : (c : Counts) (facts t : List ℕ) → Stepped c facts 0 t → (o a : ℕ) → o < c.ops → a < states_of c facts
    → eqb (lane_at t a o) 0 ≡ every (λ v. holds (pre_at facts o v) (digit (dom_at facts) a v)) c.vars
steps_fit c facts t S o a lo la =
    all_hold (λ v. holds (pre_at facts o v) (digit (dom_at facts) a v)) c.vars (lane_at t a o) (omega (arith, S.ops o a lo la))
