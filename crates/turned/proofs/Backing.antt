-- Operators turned round lead backwards: the listed states are exactly those from which a step leads to a state. The values before and after a step balance
-- variable by variable, and so do the numbers. Assumes nothing.
use mathlib.Core.Path.{◌≡◌, refl, sym, ap, ap₂, ◌∙◌, subst}
use mathlib.Core.Bool.{true}
use mathlib.Core.List.{List, []}
use Prim.Native.Nat.{ℕ, zero, suc, ◌+◌, ◌*◌, ◌≤◌, ◌<◌}
use native.Mathlib.Nat.{le_refl, add-mul, mul-le-mul_right}
use native.Mathlib.Omega.{arith}
use lib.ListN.{get_or}
use Rattle.graph.specs.Graph.{to}
use Rattle.meaning.specs.Numbering.{size, number, digit, Digits}
use Rattle.meaning.specs.Sas.{Sas, Holds, put, after}
use Rattle.meaning.specs.Views.{holds, complies, to_if}
use Rattle.meaning.proofs.Numbers.{number_below, number_same, number_digits, digit_number, digit_below, size_pos}
use Rattle.meaning.proofs.Facts.{holds_true, true_holds, every_true, true_every, complies_true, true_complies}
use Rattle.meaning.proofs.Space.{succ_number, to_if_to}
use Rattle.tables.specs.declared.Counts.{Counts}
use Rattle.tables.specs.Layout.{dom_at, pre_at, eff_at}
use Rattle.tables.specs.Task.{sas_of, tables}
use Rattle.maps.specs.Inside.Walks.{space_of, states_of, Walkable}
use Rattle.maps.proofs.Walking.{after_digits, walkable_closed}
use Rattle.turned.specs.declared.back.Turned.{Turned}
use Rattle.turned.specs.Inside.Wants.{want_of, wanted}
use Rattle.turned.specs.Inside.Backs.{drop_at, count_at, back_at, BackOf}
use Rattle.turned.specs.Inside.Turns.{lift_of, ways_of, ways_at, drop_digit, lift_digit, TurnedAt}
use Rattle.turned.proofs.Turning.{ways_positive, ways_fewer, offset_number, offset_at}

-- ---- sums of digits

number_add : (K X Y : ℕ → ℕ) (n : ℕ) → number K (λ v. X v + Y v) n ≡ number K X n + number K Y n
number_add K X Y zero = refl
number_add K X Y (suc n) = omega (arith, number_add K X Y n, add-mul (X n) (Y n) (size K n))

number_le : (K X Y : ℕ → ℕ) (n : ℕ) → ((v : ℕ) → v < n → X v ≤ Y v) → number K X n ≤ number K Y n
number_le K X Y zero h = le_refl 0
number_le K X Y (suc n) h = omega (arith, number_le K X Y n (λ v l. h v (omega arith)), mul-le-mul_right (size K n) (h n (le_refl (suc n))))

-- where the digits balance, the numbers do
balance : (K A E B F Y : ℕ → ℕ) (n : ℕ) → ((v : ℕ) → v < n → A v + E v ≡ B v + F v + Y v) → number K A n + number K E n ≡ number K B n + number K F n + number K Y n
balance K A E B F Y n h =
    omega (
      arith,
      number_add K A E n,
      number_add K (λ v. B v + F v) Y n,
      number_add K B F n,
      number_same K (λ v. A v + E v) (λ v. B v + F v + Y v) n h,
    )

-- ---- a variable: pre, eff and k values; b after the step, y which of the ways

-- the value before the step
abbrev before_of : ℕ → ℕ → ℕ → ℕ → ℕ
before_of pre zero b y = b
before_of pre (suc e) b y = lift_of pre (suc e) + y

module _ (k b y : ℕ) where
  before_balance : (pre eff : ℕ) → Holds (want_of pre eff) b → y < ways_of pre eff k → before_of pre eff b y + put eff 0 ≡ b + lift_of pre eff + y
  before_balance pre zero h l = omega arith
  before_balance zero (suc e) h l = omega arith
  before_balance (suc p) (suc e) h l = omega arith

  before_in : (pre eff : ℕ) → b < k → pre ≤ k → y < ways_of pre eff k → before_of pre eff b y < k
  before_in pre zero lb lp l = lb
  before_in zero (suc e) lb lp l = omega arith
  before_in (suc p) (suc e) lb lp l = omega arith

  before_runs : (pre eff : ℕ) → Holds (want_of pre eff) b → y < ways_of pre eff k → Holds pre (before_of pre eff b y)
  before_runs pre zero h l = h
  before_runs zero (suc e) h l = tt
  before_runs (suc p) (suc e) h l = omega arith

before_low : (b pre eff : ℕ) → Holds (want_of pre eff) b → put eff 0 ≤ b
before_low b pre zero h = omega arith
before_low b pre (suc e) h = omega arith

before_lands : (b y pre eff : ℕ) → Holds (want_of pre eff) b → put eff (before_of pre eff b y) ≡ b
before_lands b y pre zero h = refl
before_lands b y pre (suc e) h = sym h

-- which of the ways the value a is
abbrev way_of : ℕ → ℕ → ℕ → ℕ
way_of pre zero a = 0
way_of zero (suc e) a = a
way_of (suc p) (suc e) a = 0

way_in : (k a pre eff : ℕ) → a < k → way_of pre eff a < ways_of pre eff k
way_in k a pre zero l = le_refl 1
way_in k a zero (suc e) l = l
way_in k a (suc p) (suc e) l = le_refl 1

module _ (a : ℕ) where
  way_balance : (pre eff : ℕ) → Holds pre a → a + put eff 0 ≡ put eff a + lift_of pre eff + way_of pre eff a
  way_balance pre zero h = omega arith
  way_balance zero (suc e) h = omega arith
  way_balance (suc p) (suc e) h = omega arith

  way_wanted : (pre eff : ℕ) → Holds pre a → Holds (want_of pre eff) (put eff a)
  way_wanted pre zero h = h
  way_wanted pre (suc e) h = refl

-- ---- an operator

module _ {c : Counts} {facts back : List ℕ} {turns : List Turned} {n : ℕ} (W : Walkable c facts) (states : n ≡ states_of c facts) {o : ℕ} (lo : o < c.ops)
    (T : TurnedAt c facts n turns back o) where
  S : Sas
  S = sas_of (tables c facts [] [])

  K : ℕ → ℕ
  K = dom_at facts

  pre : ℕ → ℕ
  pre = pre_at facts o

  eff : ℕ → ℕ
  eff = eff_at facts o

  wanted_holds : (b v : ℕ) → wanted c facts o b ≡ true → v < c.vars → Holds (want_of (pre v) (eff v)) (digit K b v)
  unfolding wanted K pre eff
  wanted_holds b v h l =
      holds_true (want_of (pre v) (eff v)) (digit K b v) (every_true (λ v. holds (want_of (pre v) (eff v)) (digit K b v)) c.vars h v l)

  holds_wanted : (b : ℕ) → ((v : ℕ) → v < c.vars → Holds (want_of (pre v) (eff v)) (digit K b v)) → wanted c facts o b ≡ true
  unfolding wanted K pre eff
  holds_wanted b h =
      true_every (λ v. holds (want_of (pre v) (eff v)) (digit K b v)) c.vars (λ v l. true_holds (want_of (pre v) (eff v)) (digit K b v) (h v l))

  digits : (a : ℕ) → Digits K (digit K a) c.vars
  unfolding K
  digits a = digit_below K a c.vars W.values

  back_number : {a : ℕ} → a < states_of c facts → number K (digit K a) c.vars ≡ a
  unfolding K
  back_number {a} l = number_digits K a c.vars W.values l

  dropped : (b : ℕ) → b < states_of c facts → wanted c facts o b ≡ true → drop_at turns o ≤ b
  unfolding K pre eff
  dropped b l h =
      omega (
        arith,
        T.drop,
        back_number l,
        number_le K (drop_digit facts o) (digit K b) c.vars (λ v g. before_low (digit K b v) (pre v) (eff v) (wanted_holds b v h g)),
      )

  -- from a way to a state
  module _ (b i : ℕ) (lb : b < states_of c facts) (h : wanted c facts o b ≡ true) (li : i < count_at turns o) where
    Y : ℕ → ℕ
    Y v = digit (ways_at facts o) i v

    A : ℕ → ℕ
    A v = before_of (pre v) (eff v) (digit K b v) (Y v)

    count : i < size (ways_at facts o) c.vars
    count = omega (arith, T.count)

    way : (v : ℕ) → v < c.vars → Y v < ways_of (pre v) (eff v) (K v)
    unfolding Y K pre eff
    way v l = digit_below (ways_at facts o) i c.vars (ways_positive facts o c.vars W.values) v l

    from_is : back_at n turns back o b i ≡ number K A c.vars
    unfolding back_at Y A K pre eff
    from_is =
        let e =
        balance K A (drop_digit facts o) (digit K b) (lift_digit facts o) Y c.vars
        (λ v l. before_balance (K v) (digit K b v) (Y v) (pre v) (eff v) (wanted_holds b v h l) (way v l)) in
        let f : get_or back (o * n + i) 0 ≡ number K Y c.vars = T.list i count ∙ offset_at facts o c.vars i W.values count in
        omega (arith, e, back_number lb, T.drop, T.lift, dropped b lb h)

    A-digits : Digits K A c.vars
    unfolding A K pre eff
    A-digits v l = before_in (K v) (digit K b v) (Y v) (pre v) (eff v) (digits b v l) (W.pres o v lo l) (way v l)

    from_inside : back_at n turns back o b i < states_of c facts
    unfolding K
    from_inside = rw from_is (number_below K A c.vars A-digits)

    from_sound : (space_of c facts []).succ o (back_at n turns back o b i) ≡ to b
    unfolding S A K pre eff
    from_sound =
        let r : complies S pre A ≡ true =
        true_complies S pre A (λ v l. before_runs (K v) (digit K b v) (Y v) (pre v) (eff v) (wanted_holds b v h l) (way v l)) in
        let s : number K (after S o A) c.vars ≡ b =
        number_same K (after S o A) (digit K b) c.vars (λ v l. before_lands (digit K b v) (Y v) (pre v) (eff v) (wanted_holds b v h l)) ∙ back_number lb in
        ap (λ (x : ℕ). (space_of c facts []).succ o x) from_is ∙ succ_number S o A A-digits ∙ ap₂ to_if r s

  -- from a state to a way
  module _ (a b : ℕ) (la : a < states_of c facts) (e : (space_of c facts []).succ o a ≡ to b) where
    D : ℕ → ℕ
    D = digit (dom_at facts) a

    B : ℕ → ℕ
    B v = put (eff v) (D v)

    split : (complies S pre D ≡ true) × (number K B c.vars ≡ b)
    unfolding S K pre eff D B
    split = to_if_to (complies S pre D) (number K B c.vars) b e

    runs : (v : ℕ) → v < c.vars → Holds (pre v) (D v)
    unfolding S
    runs v l = complies_true S pre D split.0 v l

    lands : (v : ℕ) → v < c.vars → digit K b v ≡ put (eff v) (D v)
    unfolding K eff D B
    lands v l = ap (λ (x : ℕ). digit K x v) (sym split.1) ∙ digit_number K B c.vars (after_digits c facts [] W o D lo (digits a)) v l

    into_wanted : wanted c facts o b ≡ true
    into_wanted = holds_wanted b (λ v l. subst (λ (x : ℕ). Holds (want_of (pre v) (eff v)) x) (sym (lands v l)) (way_wanted (D v) (pre v) (eff v) (runs v l)))

    Z : ℕ → ℕ
    Z v = way_of (pre v) (eff v) (D v)

    Z-digits : Digits (ways_at facts o) Z c.vars
    unfolding Z K D pre eff
    Z-digits v l = way_in (K v) (D v) (pre v) (eff v) (digits a v l)

    into_way : (i : ℕ) × (i < count_at turns o) × (a ≡ back_at n turns back o b i)
    unfolding back_at Z K D pre eff
    into_way =
        let i = number (ways_at facts o) Z c.vars in
        let l : i < size (ways_at facts o) c.vars = number_below (ways_at facts o) Z c.vars Z-digits in
        let lb : b < states_of c facts = walkable_closed c facts [] W o a b lo la e in
        let f : get_or back (o * n + i) 0 ≡ number K Z c.vars = T.list i l ∙ offset_number facts o Z c.vars Z-digits in
        let q =
        balance K D (drop_digit facts o) (digit K b) (lift_digit facts o) Z c.vars
        (λ v g. subst (λ (x : ℕ). D v + drop_digit facts o v ≡ x + lift_digit facts o v + Z v) (sym (lands v g)) (way_balance (D v) (pre v) (eff v) (runs v g))) in
        (i, omega (arith, T.count), omega (arith, q, back_number la, back_number lb, T.drop, T.lift, dropped b lb into_wanted))

  pub turned_back : BackOf c facts n turns back o
  turned_back =
      record {
        some = omega (arith, T.count, size_pos (ways_at facts o) c.vars (ways_positive facts o c.vars W.values));
        few = omega (arith, T.count, ways_fewer facts o c.vars W.values);
        down = dropped;
        inside = from_inside;
        sound = from_sound;
        matches = into_wanted;
        complete = into_way;
      }
