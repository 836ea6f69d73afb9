-- Lists of facts, and the dash that stands for an empty one, read as the grammar says. What a list's end does is its user's to say, once for a value and a dash:
-- `over` is the machine's control there, and `ends` what the grammar has follow. Assumes nothing.
use Prim.Native.Nat.{ℕ, zero, suc, ◌+◌, ◌≤◌, ◌<◌, zero-le}
use native.Mathlib.Omega.{arith}
use mathlib.Core.Path.{◌≡◌, refl, sym, ap, ◌∙◌}
use mathlib.Core.List.{List, [], ◌∷◌}
use mathlib.Core.Bool.{Bool, true, false, cond}
use lib.ListN.{get_or}
use lib.Dec.{leb, eqb}
use borrow.Author.Tests.{ne_eqb, eqb-true, leb-true, leb-false, lt-leb}
use Rattle.refusals.specs.declared.Refusal.TheVariants.{NotRising}
use Rattle.tables.specs.declared.Counts.{Counts}
use Rattle.tables.specs.Layout.{Tables, dom_at}
use Rattle.text.specs.declared.Halt.TheVariants.{Going, Order}
use Rattle.text.specs.declared.Ctrl.{Ctrl}
use Rattle.grammar.specs.Fields.{is_digit, comma, dash, colon}
use Rattle.grammar.specs.Grammar.{refused, Rest, Part, ◌▸◌, nothing, ask, keep, demand, lit, choice, fits, numeral, put_fact, facts_from, fact_list}
use Rattle.text.specs.Inside.Area.{put_byte, dom_in}
use Rattle.text.specs.Inside.Control.{mk, going, up, part_begun, with_digit, dashed, field_class, field_end}
use Rattle.text.specs.Inside.Fields.{leasts, limit, noted, fault, stored}
use Rattle.text.specs.Inside.Steps.{sign, list_end, after_number, dash_here, at_number, live, byte_read, no_byte, value_cap}
use Rattle.text.proofs.BridgeReading.{tables_of, reading, Bytes, bytes_drop, next, behind, pick_same, goes_on, by_sign}
use Rattle.grammar.proofs.Runs.{clash, within_both, Stop}
use Rattle.text.proofs.BridgeNumbers.{begins_dash, faulty, number_ok}
use Rattle.text.proofs.BridgeArea.{fact_kept, dom_of}
use Rattle.text.proofs.BridgeRows.{then_on, then_sign, fault_plain, no_fault, Fits, Known, known_put, of_var, from_var}

-- a number, with its range named
module _ (c : Ctrl) (w : List ℕ) (lo lim : ℕ) (e : get_or leasts c.spot.field 0 ≡ lo) (q : limit c w ≡ lim) (h : c.spot.field ≡ field_end → ⊥) (low : lo ≤ value_cap) (cap : lim ≤ value_cap)
    (p : ℕ → Part) (T : Tables) (k : Rest)
    (ok : (r v : ℕ) (t : List ℕ) → (r ≡ 0 → ⊥) → Stop t → Bytes t → fits v (get_or leasts c.spot.field 0) (limit c w) ≡ true → fits v lo lim ≡ true
    → reading (with_digit c r v) w t ≡ p v t c.line T k) where
  pub number_at : (t : List ℕ) → Bytes t → begins_dash c t ≡ false → reading (with_digit c 0 0) w t ≡ numeral lo lim p t c.line T k
  number_at t a d =
      number_ok c w h (rw e low) (rw q cap) p T k (λ r v u z o b s. ok r v u z o b s (rw (e, q) at s)) t a d
      ∙ ap (λ (x : ℕ). numeral x (limit c w) p t c.line T k) e
      ∙ ap (λ (x : ℕ). numeral lo x p t c.line T k) q

-- after a first fact no dash can stand
bare_least : (c : Ctrl) (t : List ℕ) → (c.turn.least ≡ 0 → ⊥) → begins_dash c t ≡ false
unfolding dash_here with_digit
bare_least c t h = simp (ne_eqb c.turn.least 0 h, pick_same)

-- what the machine does with the numbers of a list: variables in field f, values in field g, kept at their places; where it ends, the byte is judged by `over`
pub record FactList (l f g r : ℕ) (n : Counts) (place : ℕ → ℕ) (over : Ctrl → List ℕ → ℕ → Ctrl) : Type 0 where
  pub var_goes : f ≡ field_end → ⊥
  pub var_plain : f ≡ field_class → ⊥
  pub val_goes : g ≡ field_end → ⊥
  pub val_plain : g ≡ field_class → ⊥
  pub var_least : get_or leasts f 0 ≡ 0
  pub val_least : get_or leasts g 0 ≡ 0
  pub var_limit : (m : ℕ) (w : List ℕ) → limit (from_var l f m r n) w ≡ n.vars
  pub val_limit : (v : ℕ) (w : List ℕ) → limit (of_var l g v r n) w ≡ dom_in w v
  pub var_kept : (m z v : ℕ) (w : List ℕ) → stored (with_digit (from_var l f m r n) z v) w ≡ w
  pub val_kept : (v z y : ℕ) (w : List ℕ) → stored (with_digit (of_var l g v r n) z y) w ≡ put_byte w (place v) (up y)
  pub var_after : (m z v b : ℕ) (w : List ℕ)
      → after_number (noted (with_digit (from_var l f m r n) z v)) w b ≡ sign (noted (with_digit (from_var l f m r n) z v)) b colon (of_var l g v r n)
  pub val_after : (v z y b : ℕ) (w : List ℕ)
      → after_number (noted (with_digit (of_var l g v r n) z y)) w b
      ≡ cond (eqb b comma) (from_var l f (up v) r n) (over (noted (with_digit (of_var l g v r n) z y)) w b)
  pub val_bare : (v : ℕ) (t : List ℕ) → begins_dash (of_var l g v r n) t ≡ false
  pub var_dash : (b : ℕ) → dash_here (with_digit (from_var l f 0 r n) 0 0) b ≡ eqb b dash
  pub dash_after : (b : ℕ) (w : List ℕ) → list_end (dashed (from_var l f 0 r n)) w b ≡ over (dashed (from_var l f 0 r n)) w b
  pub over_stops : (c : Ctrl) (w : List ℕ) → going (over c w no_byte).halt ≡ false
  pub room : (v : ℕ) → v < 8 → (8 ≤ place v) × (place v < 1624)

module _ (l f g r : ℕ) (n : Counts) (place : ℕ → ℕ) (over : Ctrl → List ℕ → ℕ → Ctrl) (L : FactList l f g r n place over) (sized : Fits n) (ends : Rest)
    (ok : (c : Ctrl) → c.line ≡ l → (w : List ℕ) → Known n.vars w → (t : List ℕ) → Bytes t → reading (over c w (next t)) w (behind t) ≡ ends t l (tables_of n w)) where
  rising : (m z v : ℕ) (w t : List ℕ) → (z ≡ 0 → ⊥) → Stop t → fits v (get_or leasts f 0) (limit (from_var l f m r n) w) ≡ true → v < m
      → reading (with_digit (from_var l f m r n) z v) w t ≡ refused (NotRising l)
  rising m z v w t y o s h =
      faulty (from_var l f m r n) w z v Order (NotRising l) L.var_goes y o (fault_plain (from_var l f m r n) w z v y L.var_plain s ∙ rw (lt-leb m v h)) refl refl

  module _ (N v : ℕ) (hv : v < n.vars)
      (rest : (w : List ℕ) → Known n.vars w → (t : List ℕ) → Bytes t → reading (from_var l f (v + 1) r n) w t ≡ facts_from place N (v + 1) t l (tables_of n w) ends) where
    -- after a value: a comma means one more fact, anything else ends the list
    more_or_end : (z y : ℕ) (w u : List ℕ) → Known n.vars w → (z ≡ 0 → ⊥) → Stop u → Bytes u → y < 8 → fault (with_digit (of_var l g v r n) z y) w ≡ Going
        → reading (with_digit (of_var l g v r n) z y) w u ≡ choice comma (facts_from place N (v + 1)) nothing u l (tables_of n (put_byte w (place v) (up y))) ends
    unfolding nothing noted with_digit
    more_or_end z y w u p q o a h e = move ∙ split (eqb (next u) comma) refl ∙ sym (by_sign comma (facts_from place N (v + 1)) nothing u l (tables_of n w₁) ends refl)
      where
        c : Ctrl
        c = noted (with_digit (of_var l g v r n) z y)

        w₁ : List ℕ
        w₁ = put_byte w (place v) (up y)

        known : Known n.vars w₁
        known = let j = sized.high in let i = L.room v (omega arith) in known_put p (place v) (up y) (omega arith)

        move : reading (with_digit (of_var l g v r n) z y) w u ≡ reading (cond (eqb (next u) comma) (from_var l f (up v) r n) (over c w₁ (next u))) w₁ (behind u)
        move =
            then_on (of_var l g v r n) w w₁ z y (λ b. cond (eqb b comma) (from_var l f (up v) r n) (over c w₁ b)) L.val_goes q e (L.val_kept v z y w)
            (λ b. L.val_after v z y b w₁) (L.over_stops c w₁) o

        split : (s : Bool) → eqb (next u) comma ≡ s
            → reading (cond (eqb (next u) comma) (from_var l f (up v) r n) (over c w₁ (next u))) w₁ (behind u)
            ≡ cond (eqb (next u) comma) (facts_from place N (v + 1) (behind u) l (tables_of n w₁) ends) (ends u l (tables_of n w₁))
        split true j =
            rw j
            (ap (λ (m : ℕ). reading (from_var l f m r n) w₁ (behind u)) (let i = sized.high in let e₁ : up v ≡ v + 1 = omega arith in e₁)
            ∙ rest w₁ known (behind u) (bytes_drop 1 a))
        split false j = rw j (ok c refl w₁ known u a)

    value_ok : (w : List ℕ) → Known n.vars w → (t : List ℕ) → Bytes t
        → reading (of_var l g v r n) w t
        ≡ numeral 0 (dom_at (tables_of n w).facts v) (λ y. keep (put_fact (place v) (y + 1)) ▸ choice comma (facts_from place N (v + 1)) nothing) t l (tables_of n w) ends
    unfolding keep ◌▸◌ with_digit
    value_ok w p t a =
        let j = sized.high in
        let i = p.doms v hv in
        let e : dom_in w v ≡ dom_at (tables_of n w).facts v = sym (dom_of n w v (omega arith)) in
        number_at (of_var l g v r n) w 0 (dom_at (tables_of n w).facts v) L.val_least (L.val_limit v w ∙ e) L.val_goes (omega arith) (omega arith) _ (tables_of n w) ends
        (λ z y u q o b s s₁.
        let h : y < 8 = omega (arith, within_both y 0 (dom_at (tables_of n w).facts v) s₁) in
        let e₁ : up y ≡ y + 1 = omega arith in
        let m = L.room v (omega arith) in
        more_or_end z y w u p q o b h (no_fault (of_var l g v r n) w z y q L.val_plain s zero-le)
        ∙ ap (λ (T : Tables). choice comma (facts_from place N (v + 1)) nothing u l T ends)
        (ap (λ (i₁ : ℕ). tables_of n (put_byte w (place v) i₁)) e₁ ∙ fact_kept n w p.long (place v) (y + 1) m.1 (omega arith)))
        t a (L.val_bare v t)

  -- a variable: its order, its colon, its value
  variable_ok : (N m : ℕ) (w : List ℕ) → Known n.vars w
      → ((v : ℕ) → m ≤ v → (w₁ : List ℕ) → Known n.vars w₁ → (t : List ℕ) → Bytes t → reading (from_var l f (v + 1) r n) w₁ t ≡ facts_from place N (v + 1) t l (tables_of n w₁) ends)
      → (z v : ℕ) (u : List ℕ) → (z ≡ 0 → ⊥) → Stop u → Bytes u → fits v (get_or leasts f 0) (limit (from_var l f m r n) w) ≡ true → v < n.vars
      → (j : Bool) → leb m v ≡ j
      → reading (with_digit (from_var l f m r n) z v) w u
      ≡ demand (leb m v) NotRising u l (tables_of n w) (λ u₁ l₁ T. lit (colon ∷ []) u₁ l₁ T
      (λ u₂ l₂ T₂. numeral 0 (dom_at (tables_of n w).facts v) (λ y. keep (put_fact (place v) (y + 1)) ▸ choice comma (facts_from place N (v + 1)) nothing) u₂ l₂ T₂ ends))
  unfolding demand
  variable_ok N m w p again z v u y o b s i true j =
      rw j
      (then_sign (from_var l f m r n) w z v colon (of_var l g v r n) (tables_of n w) _ refl L.var_goes y (no_fault (from_var l f m r n) w z v y L.var_plain s (leb-true m v j))
      (λ x. L.var_after m z v x _)
      (λ u₁ b₁. rw (L.var_kept m z v w) (value_ok N v i (again v (leb-true m v j)) w p u₁ b₁)) o b)
  variable_ok N m w p again z v u y o b s i false j = rw j (rising m z v w u y o s (leb-false m v j))

  facts_ok : (N m : ℕ) → n.vars ≤ N + m → (w : List ℕ) → Known n.vars w → (t : List ℕ) → Bytes t → begins_dash (from_var l f m r n) t ≡ false
      → reading (from_var l f m r n) w t ≡ facts_from place N m t l (tables_of n w) ends
  unfolding facts_from demand tables_of with_digit ◌▸◌
  facts_ok zero m h w p t a e =
      number_at (from_var l f m r n) w 0 n.vars L.var_least (L.var_limit m w) L.var_goes (omega arith) (let y = sized.high in omega arith) _ (tables_of n w) ends
      (λ z v u y o b s q. let j = within_both v 0 n.vars q in rising m z v w u y o s (omega arith)) t a e
  facts_ok (suc N) m h w p t a e =
      number_at (from_var l f m r n) w 0 n.vars L.var_least (L.var_limit m w) L.var_goes (omega arith) (let y = sized.high in omega arith) _ (tables_of n w) ends
      (λ z v u y o b s q.
      variable_ok N m w p (λ v₁ i w₁ p₁ u₁ b₁. facts_ok N (v₁ + 1) (omega arith) w₁ p₁ u₁ b₁ (bare_least (from_var l f (v₁ + 1) r n) u₁ (λ q₁. omega arith)))
      z v u y o b s (within_both v 0 n.vars q).1 (leb m v) refl)
      t a e

  -- the dash of an empty list, and what ends it
  dash_step : (w : List ℕ) → byte_read (mk (from_var l f 0 r n) w) dash ≡ mk (dashed (from_var l f 0 r n)) w
  unfolding byte_read live at_number with_digit is_digit
  dash_step w = rw (L.var_dash dash)

  dash_ok : (w t : List ℕ) → Known n.vars w → Bytes t → reading (dashed (from_var l f 0 r n)) w t ≡ ends t l (tables_of n w)
  unfolding dashed part_begun byte_read live
  dash_ok w t p a =
      goes_on (dashed (from_var l f 0 r n)) _ w w t L.var_goes (ap (λ (c : Ctrl). mk c w) (L.dash_after (next t) w)) (λ i. rw i (L.over_stops (dashed (from_var l f 0 r n)) w))
      ∙ ok (dashed (from_var l f 0 r n)) refl w p t a

  pub list_ok : (w : List ℕ) → Known n.vars w → (t : List ℕ) → Bytes t → reading (from_var l f 0 r n) w t ≡ fact_list place t l (tables_of n w) ends
  unfolding fact_list ask nothing tables_of
  list_ok w p t a = split (eqb (next t) dash) refl ∙ sym (by_sign dash nothing (ask (λ T. facts_from place T.counts.vars 0)) t l (tables_of n w) ends refl)
    where
      split : (q : Bool) → eqb (next t) dash ≡ q
          → reading (from_var l f 0 r n) w t ≡ cond (eqb (next t) dash) (ends (behind t) l (tables_of n w)) (facts_from place n.vars 0 t l (tables_of n w) ends)
      split true q =
          rw q
          (goes_on (from_var l f 0 r n) (dashed (from_var l f 0 r n)) w w t L.var_goes (rw (eqb-true (next t) dash q) (dash_step w)) (λ i. clash q (rw i))
          ∙ dash_ok w (behind t) p (bytes_drop 1 a))
      split false q = rw q (facts_ok n.vars 0 (omega arith) w p t a (L.var_dash (next t) ∙ q))
