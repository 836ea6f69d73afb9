-- Laws of turning operators round: a list repeated with strides holds an operator's offsets, and what is noted of one operator stays while others are turned.
-- Assumes nothing.
use mathlib.Core.Path.{◌≡◌, refl, sym, ap, ap₂, ◌∙◌}
use mathlib.Core.List.{List}
use Prim.Native.Nat.{ℕ, zero, suc, ◌+◌, ◌*◌, ◌-◌, ◌/◌, ◌%◌, ◌≤◌, ◌<◌}
use native.Mathlib.Nat.{le_refl, add-mul-div_right, add-mul, mod-eq_of_lt, div-eq_of_lt, add-mul-mod_self_right, mul-le-mul, mul-le-mul_right, mod-lt, div-lt_iff_lt-mul, zero-mul}
use native.Mathlib.Omega.{arith}
use native.Mathlib.Numerals.{add-one}
use borrow.Author.Count.{below_more}
use borrow.Rule.Slice.PartMut.{put_mid}
use lib.ListN.{length, get_or, set, length-set}
use lib.Seq.{get_or-set_same, get_or-set_other}
use Rattle.meaning.specs.Limits.{most_values, most_states}
use Rattle.meaning.specs.Numbering.{size, number, digit, Positive, Digits}
use Rattle.meaning.proofs.Facts.{put_below}
use Rattle.meaning.proofs.Numbers.{size_pos, number_below, number_digits, digit_below}
use Rattle.tables.specs.declared.Counts.{Counts}
use Rattle.tables.specs.Layout.{row_at, dom_at, pre_row, eff_row, pre_at, eff_at}
use Rattle.maps.specs.Inside.Walks.{Walkable, states_of}
use Rattle.maps.proofs.Walking.{size_le, size_more, Digital}
use Rattle.maps.proofs.Slices.{written_here, written_below}
use Rattle.turned.specs.Inside.Backs.{turned_at}
use Rattle.turned.specs.Inside.Turns.{lift_of, ways_of, ways_at, drop_digit, lift_digit, offset, Spread, Listed, TurnedAt, TurnedTo}
use Rattle.turned.specs.declared.back.Turned.{Turned}

-- ---- a variable

lift_below : (pre eff k : ℕ) → pre ≤ k → 1 ≤ k → lift_of pre eff < k
lift_below pre zero k h l = l
lift_below zero (suc e) k h l = l
lift_below (suc p) (suc e) k h l = h

ways_low : (pre eff k : ℕ) → 1 ≤ k → (1 ≤ ways_of pre eff k) × (ways_of pre eff k ≤ k)
ways_low pre zero k h = (le_refl 1, h)
ways_low zero (suc f) k h = (h, le_refl k)
ways_low (suc p) (suc f) k h = (le_refl 1, h)

-- ---- a list again and again

module _ {len stride : ℕ} {t₀ : List ℕ} where
  pub spread_none : Spread len len stride t₀ t₀
  spread_none =
      record {
        size = refl;
        rule = λ j l.
            let z : j / len * stride ≡ 0 = ap (λ (x : ℕ). x * stride) (div-eq_of_lt l) ∙ zero-mul stride in
            omega (arith, ap (λ (x : ℕ). get_or t₀ x 0) (mod-eq_of_lt l));
        beyond = λ x l. refl;
      }

  module _ {j : ℕ} {t : List ℕ} (S : Spread len j stride t₀ t) (some : 1 ≤ len) where
    -- the place len before j has the same remainder, and a quotient less by 1
    pub spread_more : {x : ℕ} → len ≤ j → j < length t → x ≡ get_or t (j - len) 0 + stride → Spread len (j + 1) stride t₀ (set t j x)
    spread_more {x} l h e =
        record {
          size = length-set t j x ∙ S.size;
          rule =
              below_more (λ i. get_or (set t j x) i 0 ≡ get_or t₀ (i % len) 0 + i / len * stride) j
              (λ i g. get_or-set_other t j i x 0 (omega arith) ∙ S.rule i g)
              new;
          beyond = λ y g. get_or-set_other t j y x 0 (omega arith) ∙ S.beyond y (omega arith);
        }
      where
        new : get_or (set t j x) j 0 ≡ get_or t₀ (j % len) 0 + j / len * stride
        new =
            let m : ℕ = j - len in
            let back : m + 1 * len ≡ j = omega arith in
            let r : j % len ≡ m % len = ap (λ (y : ℕ). y % len) (sym back) ∙ add-mul-mod_self_right m 1 len in
            let q : j / len ≡ m / len + 1 = ap (λ (y : ℕ). y / len) (sym back) ∙ add-mul-div_right m 1 some in
            let f : j / len * stride ≡ m / len * stride + 1 * stride = ap (λ (y : ℕ). y * stride) q ∙ add-mul (m / len) 1 stride in
            let g : get_or t₀ (j % len) 0 ≡ get_or t₀ (m % len) 0 = ap (λ (y : ℕ). get_or t₀ y 0) r in
            omega (arith, S.rule m (omega arith), get_or-set_same t j x 0 h)

    -- a place of the list and a stride more fit in 16 bits
    pub spread_small : {ways : ℕ} → ways ≤ most_values → stride ≤ most_states → ((i : ℕ) → i < len → get_or t₀ i 0 < most_states) → (m : ℕ) → m < j → m < len * ways
        → get_or t m 0 + stride < 65536
    spread_small {ways} few s h m l f =
        let q : m / len < ways = (div-lt_iff_lt-mul some).1 (omega arith) in
        let k : m / len * stride ≤ most_values * most_states = mul-le-mul (let z : m / len ≤ most_values = omega arith in z) s in
        omega (arith, S.rule m l, h (m % len) (mod-lt m some))

-- ---- the offsets of an operator

module _ (facts : List ℕ) (o : ℕ) where
  -- the numbers of ways are at most the numbers of values
  pub ways_positive : (n : ℕ) → Positive (dom_at facts) n → Positive (ways_at facts o) n
  ways_positive n p v l = (ways_low (pre_at facts o v) (eff_at facts o v) (dom_at facts v) (p v l)).0

  pub ways_fewer : (v : ℕ) → Positive (dom_at facts) v → size (ways_at facts o) v ≤ size (dom_at facts) v
  ways_fewer zero p = le_refl 1
  ways_fewer (suc v) p =
      mul-le-mul (ways_fewer v (λ u l. p u (omega arith))) (ways_low (pre_at facts o v) (eff_at facts o v) (dom_at facts v) (p v (le_refl (suc v)))).1

  -- the offset at the number of the digits X is their number
  pub offset_number : (X : ℕ → ℕ) (v : ℕ) → Digits (ways_at facts o) X v → offset facts o v (number (ways_at facts o) X v) ≡ number (dom_at facts) X v
  unfolding offset
  offset_number X zero h = refl
  offset_number X (suc v) h =
      let W = ways_at facts o in
      let q = number W X v in
      let below : Digits W X v = λ u l. h u (omega arith) in
      let l : q < size W v = number_below W X v below in
      let m : (q + X v * size W v) % size W v ≡ q = add-mul-mod_self_right q (X v) (size W v) ∙ mod-eq_of_lt l in
      let d : (q + X v * size W v) / size W v ≡ X v =
      add-mul-div_right q (X v) (let z : 0 < size W v = omega arith in z) ∙ (let z : q / size W v + X v ≡ X v = omega (arith, div-eq_of_lt l) in z) in
      ap₂ ◌+◌ (ap (offset facts o v) m ∙ offset_number X v below) (ap (λ (y : ℕ). y * size (dom_at facts) v) d)

  pub offset_at : (v i : ℕ) → Positive (dom_at facts) v → i < size (ways_at facts o) v → offset facts o v i ≡ number (dom_at facts) (digit (ways_at facts o) i) v
  offset_at v i p l =
      let P = ways_positive v p in
      ap (offset facts o v) (sym (number_digits (ways_at facts o) i v P l)) ∙ offset_number (digit (ways_at facts o) i) v (digit_below (ways_at facts o) i v P)

  offset_below : (v i : ℕ) → Positive (dom_at facts) v → i < size (ways_at facts o) v → offset facts o v i < size (dom_at facts) v
  offset_below v i p l =
      rw (offset_at v i p l)
      (number_below (dom_at facts) (digit (ways_at facts o) i) v
      (λ u h. omega (arith, digit_below (ways_at facts o) i v (ways_positive v p) u h, (ways_low (pre_at facts o u) (eff_at facts o u) (dom_at facts u) (p u h)).1)))

  -- of no variable there is one offset, 0
  pub listed_none : (t : List ℕ) → 1 ≤ length t → Listed facts o 0 1 (set t 0 0) (set t 0 0)
  unfolding offset
  listed_none t l =
      record {
        size = refl;
        count = refl;
        list = λ i h. let e : i ≡ 0 = omega arith in ap (λ (x : ℕ). get_or (set t 0 0) x 0) e ∙ get_or-set_same t 0 0 0 l;
        beyond = λ x h. refl;
      }

  -- the first place is among those of the list, so that it doesn't matter when it was set
  pub listed_since : {v len : ℕ} {t t' : List ℕ} → 1 ≤ len → Listed facts o v len (set t 0 0) t' → Listed facts o v len t t'
  listed_since {t = t} some S =
      record {
        size = S.size ∙ length-set t 0 0;
        count = S.count;
        list = S.list;
        beyond = λ x h. S.beyond x h ∙ get_or-set_other t 0 x 0 0 (omega arith);
      }

  module _ {v len : ℕ} {t₀ t : List ℕ} (S : Listed facts o v len t₀ t) where
    pub listed_some : Positive (dom_at facts) v → 1 ≤ len
    listed_some p = omega (arith, S.count, size_pos (ways_at facts o) v (ways_positive v p))

    -- one variable more: the list again for each of its ways
    pub listed_more : {ways stride : ℕ} {t' : List ℕ} → Positive (dom_at facts) (v + 1) → ways ≡ ways_at facts o v → stride ≡ size (dom_at facts) v
        → Spread len (len * ways) stride t t' → Listed facts o (v + 1) (len * ways) t₀ t'
    unfolding offset
    listed_more {ways} {stride} {t'} p hw hs P =
        let some : 1 ≤ len = listed_some (λ u l. p u (omega arith)) in
        let way : 1 ≤ ways = omega (arith, ways_positive (v + 1) p v (omega arith)) in
        record {
          size = P.size ∙ S.size;
          count = size_more (ways_at facts o) v len ways S.count hw;
          list =
              λ i h.
              rw add-one
              (P.rule i h
              ∙ ap₂ ◌+◌ (S.list (i % len) (mod-lt i some) ∙ ap (λ (y : ℕ). offset facts o v (i % y)) S.count)
              (ap₂ ◌*◌ (ap (λ (y : ℕ). i / y) S.count) hs));
          beyond = λ x h. P.beyond x h ∙ S.beyond x (omega (arith, mul-le-mul_right len way));
        }

-- how many ways are read of the tables
pub ways_read : (facts : List ℕ) (o v : ℕ) {dom k rp pre re eff ways : ℕ} → dom ≡ dom_at facts v → pre ≡ row_at facts rp v → rp ≡ pre_row o
    → eff ≡ row_at facts re v → re ≡ eff_row o → k ≡ dom → ways ≡ ways_of pre eff k → ways ≡ ways_at facts o v
ways_read facts o v {dom} {k} {rp} {pre} {re} {eff} d p rows e rowe n w =
    w
    ∙ ap₂ (λ (x y : ℕ). ways_of x y k) (p ∙ ap (λ (r : ℕ). row_at facts r v) rows) (e ∙ ap (λ (r : ℕ). row_at facts r v) rowe)
    ∙ ap (ways_of (pre_at facts o v) (eff_at facts o v)) (n ∙ d)

-- what `spread` asks
pub record Ready (len ways stride : ℕ) (t : List ℕ) : Type 0 where
  pub places : (1 ≤ len) × (1 ≤ ways) × (ways ≤ most_values) × (len * ways ≤ most_states) × (len * ways ≤ length t) × (stride ≤ most_states)
  pub small : (i : ℕ) → i < len → get_or t i 0 < most_states

module _ {c : Counts} {facts : List ℕ} (W : Walkable c facts) {o : ℕ} (lo : o < c.ops) where
  -- what is taken off and put on has digits of the states
  pub drop_digital : Digital (dom_at facts) (drop_digit facts o) c.vars
  drop_digital =
      record {
        positive = W.values;
        below = λ v l. put_below (eff_at facts o v) 0 (dom_at facts v) (W.effects o v lo l) (W.values v l);
        few = W.few;
      }

  pub lift_digital : Digital (dom_at facts) (lift_digit facts o) c.vars
  lift_digital =
      record {
        positive = W.values;
        below = λ v l. lift_below (pre_at facts o v) (eff_at facts o v) (dom_at facts v) (W.pres o v lo l) (W.values v l);
        few = W.few;
      }

  -- the list so far is ready to be spread over the ways of the next variable
  pub spread_ready : {v len ways stride : ℕ} {t₀ t : List ℕ} → v < c.vars → states_of c facts ≤ length t → Listed facts o v len t₀ t
      → ways ≡ ways_at facts o v → stride ≡ size (dom_at facts) v → Ready len ways stride t
  spread_ready {v} {len} {ways} {stride} {t} lv room S hw hs =
      let p : Positive (dom_at facts) v = λ u l. W.values u (omega arith) in
      let q : Positive (dom_at facts) (v + 1) = λ u l. W.values u (omega arith) in
      let s : size (dom_at facts) v ≤ most_states = omega (arith, W.few, size_le (dom_at facts) v c.vars (omega arith) W.values) in
      let low = ways_low (pre_at facts o v) (eff_at facts o v) (dom_at facts v) (W.values v lv) in
      let e : len * ways ≡ size (ways_at facts o) (v + 1) = size_more (ways_at facts o) v len ways S.count hw in
      let f : len * ways ≤ states_of c facts = omega (arith, ways_fewer facts o (v + 1) q, size_le (dom_at facts) (v + 1) c.vars (omega arith) W.values) in
      record {
        places = (
          listed_some facts o S p,
          omega (arith, low.0),
          omega (arith, low.1, W.small v lv),
          omega (arith, W.few),
          omega arith,
          omega arith,
        );
        small = λ i l. omega (arith, S.list i l, offset_below facts o v i p (omega (arith, S.count)));
      }

-- ---- one operator after the other

-- what is found of operator o is noted, and its offsets stand behind those of the operators before
pub turned_more : {c : Counts} {facts back list₀ list : List ℕ} {turns : List Turned} {n o : ℕ} {r : Turned} → Walkable c facts → n ≡ states_of c facts
    → o < length turns → o * n + n ≤ length back → length list ≡ n → TurnedTo c facts o r → Listed facts o c.vars r.count list₀ list
    → ((p : ℕ) → p < o → TurnedAt c facts n turns back p)
    → (p : ℕ) → p < o + 1 → TurnedAt c facts n (set turns o r) (put_mid (o * n) (o * n + n - o * n) back list) p
turned_more {c} {facts} {back} {list} {turns} {n} {o} {r} W e few room long X S h =
    below_more (λ p. TurnedAt c facts n (set turns o r) (put_mid (o * n) (o * n + n - o * n) back list) p) o
    (λ p l.
    let H = h p l in
    let other : turned_at (set turns o r) p ≡ turned_at turns p = get_or-set_other turns o p r none (omega arith) in
    record {
      drop = ap (λ (t : Turned). t.drop) other ∙ H.drop;
      lift = ap (λ (t : Turned). t.lift) other ∙ H.lift;
      count = ap (λ (t : Turned). t.count) other ∙ H.count;
      list =
          λ i g.
          written_below back list (o * n) n room long (p * n + i)
          (omega (arith, ways_fewer facts p c.vars W.values, mul-le-mul_right n (let z : p + 1 ≤ o = omega arith in z)))
          ∙ H.list i g;
    })
    (let here : turned_at (set turns o r) o ≡ r = get_or-set_same turns o r none few in
    record {
      drop = ap (λ (t : Turned). t.drop) here ∙ X.drop;
      lift = ap (λ (t : Turned). t.lift) here ∙ X.lift;
      count = ap (λ (t : Turned). t.count) here ∙ S.count;
      list = λ i g. written_here back list (o * n) n room long i (omega (arith, ways_fewer facts o c.vars W.values)) ∙ S.list i (omega (arith, S.count));
    })
  where
    none : Turned
    none = record { drop = 0; lift = 0; count = 0 }
