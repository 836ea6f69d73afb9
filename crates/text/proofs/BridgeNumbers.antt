-- Every number of the text, whatever its field: the machine reads it as the grammar's `number` does. The end of the text ends a run as a byte does. Assumes nothing.
use Prim.Native.Nat.{ℕ, suc, ◌+◌, ◌-◌, ◌*◌, ◌≤◌, ◌<◌, min}
use native.Mathlib.Omega.{arith}
use mathlib.Core.Path.{◌≡◌, refl, sym, ap, ◌∙◌}
use mathlib.Core.List.{List, [], ◌∷◌}
use mathlib.Core.Bool.{Bool, true, false}
use lib.ListN.{get_or, take, drop}
use lib.Dec.{ltb, leb, eqb}
use borrow.Author.Tests.{eq-eqb, ne_eqb, eqb-true, eqb-false, le-leb, lt-leb, lt-ltb, le-ltb, leb-true, leb-false, ltb-true, ltb-false}
use Rattle.std.specs.Prelude.{Err}
use Rattle.refusals.specs.declared.Refusal.{Refusal}
use Rattle.refusals.specs.declared.Refusal.TheVariants.{OffForm, OutOfRange}
use Rattle.tables.specs.Layout.{Tables}
use Rattle.text.specs.declared.Ctrl.{Ctrl}
use Rattle.text.specs.declared.Halt.{Halt}
use Rattle.text.specs.declared.Halt.TheVariants.{Going, Form, Range}
use Rattle.grammar.specs.Fields.{is_digit}
use Rattle.grammar.specs.Grammar.{Verdict, refused, Rest, Part, ◌▸◌, demand, run_len, decimal, formed, fits, numeral}
use Rattle.text.specs.Inside.Control.{mk, run_zero, run_on, going, stopped, with_digit, field_end}
use Rattle.text.specs.Inside.Fields.{leasts, limit, in_range, number_fault, noted, fault, stored}
use Rattle.text.specs.Inside.Steps.{more, run_with, digit_read, after_number, closed, dash_here, at_number, live, byte_read, value_cap}
use Rattle.text.specs.Inside.End.{refusal_of}
use Rattle.grammar.proofs.Runs.{
  within_both,
  digit_both,
  run_hit,
  run_miss,
  Stop,
  nil,
  other,
  stop_none,
  stop_run,
  formed_nil,
  formed_off,
  formed_zero,
  formed_lead,
  formed_other,
}
use Rattle.text.proofs.BridgeReading.{reading, Bytes, byte, bytes_drop, next, pick_same, off_form, moves, stops_at}

-- ---- a run's value, capped
value_min : (t : List ℕ) (v : ℕ) → min (decimal (min v value_cap) t) value_cap ≡ min (decimal v t) value_cap
unfolding decimal
value_min [] v = omega arith
value_min (b ∷ t) v =
    sym (value_min t (10 * min v value_cap + (b - 48)))
    ∙ ap (λ (x : ℕ). min (decimal x t) value_cap) (omega arith)
    ∙ value_min t (10 * v + (b - 48))

more_low : (v d : ℕ) → more v d ≤ value_cap
unfolding more
more_low v d = omega arith

more_value : (v d : ℕ) (t : List ℕ) → min (decimal (more v d) t) value_cap ≡ min (decimal (10 * v + d) t) value_cap
unfolding more
more_value v d t = value_min t (10 * v + d)

more_zero : (d : ℕ) → d ≡ 0 → more 0 d ≡ 0
unfolding more
more_zero d e = omega arith

pub run_two : (r d : ℕ) → (r + d ≡ 0 → ⊥) → run_with r d ≡ run_on
run_two r d h = simp (ne_eqb (r + d) 0 h)

run_one : (d : ℕ) → d ≡ 0 → run_with 0 d ≡ run_zero
run_one d h = simp (eq-eqb (0 + d) 0 (omega arith))

-- a capped value is in a range below the cap exactly if the value is
leb_cap : (v lo : ℕ) → lo ≤ value_cap → leb lo (min v value_cap) ≡ leb lo v
leb_cap v lo a = go (leb lo v) refl
  where
    go : (q : Bool) → leb lo v ≡ q → leb lo (min v value_cap) ≡ q
    go true e = le-leb lo (min v value_cap) (omega (arith, leb-true lo v e))
    go false e = lt-leb lo (min v value_cap) (omega (arith, leb-false lo v e))

ltb_cap : (v lim : ℕ) → lim ≤ value_cap → ltb (min v value_cap) lim ≡ ltb v lim
ltb_cap v lim a = go (ltb v lim) refl
  where
    go : (q : Bool) → ltb v lim ≡ q → ltb (min v value_cap) lim ≡ q
    go true e = lt-ltb (min v value_cap) lim (omega (arith, ltb-true v lim e))
    go false e = le-ltb (min v value_cap) lim (omega (arith, ltb-false v lim e))

within_cap : (v lo lim : ℕ) → lo ≤ value_cap → lim ≤ value_cap → fits (min v value_cap) lo lim ≡ fits v lo lim
unfolding fits
within_cap v lo lim a b = rw (leb_cap v lo a, ltb_cap v lim b)

within_low : (v lo lim : ℕ) → lim ≤ value_cap → v < lim → min v value_cap ≡ v
within_low v lo lim a h = omega arith

-- ---- the grammar's number, by the run's length
module _ (lo lim : ℕ) (p : ℕ → Part) (l : ℕ) (T : Tables) (k : Rest) where
  -- a value that was read, judged by its range
  unfoldable ranged : ℕ → List ℕ → Verdict
  ranged v u = demand (fits v lo lim) OutOfRange u l T (λ u₁ m U. p v u₁ m U k)

  number_off : (t : List ℕ) → formed t ≡ false → numeral lo lim p t l T k ≡ refused (OffForm l)
  unfolding numeral demand ◌▸◌
  number_off t e = simp e

  number_in : (t : List ℕ) → formed t ≡ true → numeral lo lim p t l T k ≡ ranged (decimal 0 (take (run_len t) t)) (drop (run_len t) t)
  unfolding numeral demand ◌▸◌ ranged
  number_in t e = simp e

  number_run : (n : ℕ) (t : List ℕ) → formed t ≡ true → run_len t ≡ n → numeral lo lim p t l T k ≡ ranged (decimal 0 (take n t)) (drop n t)
  number_run n t e r = number_in t e ∙ ap (λ (m : ℕ). ranged (decimal 0 (take m t)) (drop m t)) r

  -- a lone zero, and any other run
  number_zero : (b : ℕ) (t : List ℕ) → is_digit b ≡ true → b ≡ 48 → Stop t → numeral lo lim p (b ∷ t) l T k ≡ ranged 0 t
  unfolding decimal
  number_zero b t q z o =
      number_run 1 (b ∷ t) (formed_zero b t q z (stop_none o)) (run_hit b t q ∙ ap suc (stop_none o))
      ∙ ap (λ (v : ℕ). ranged v t) (let e : 10 * 0 + (b - 48) ≡ 0 = omega arith in e)

  number_other : (b : ℕ) (t : List ℕ) → is_digit b ≡ true → (b ≡ 48 → ⊥)
      → numeral lo lim p (b ∷ t) l T k ≡ ranged (decimal (10 * 0 + (b - 48)) (take (run_len t) t)) (drop (run_len t) t)
  unfolding decimal
  number_other b t q z = number_run (suc (run_len t)) (b ∷ t) (formed_other b t q z) (run_hit b t q)

-- ---- the machine at a number; c says which number it is
abbrev pub begins_dash : Ctrl → List ℕ → Bool
begins_dash c t = dash_here (with_digit c 0 0) (next t)

stop_next : {t : List ℕ} → Stop t → is_digit (next t) ≡ false
unfolding is_digit
stop_next nil = refl
stop_next (other e) = e

pub run_of_lem : (c : Ctrl) (r v : ℕ) → (with_digit c r v).digits.run ≡ r
unfolding with_digit
run_of_lem c r v = refl

module _ (c : Ctrl) (w : List ℕ) where
  pub digit_step : (r v b : ℕ) → is_digit b ≡ true → (r ≡ 1 → ⊥)
      → byte_read (mk (with_digit c r v) w) b ≡ mk (with_digit c (run_with r (b - 48)) (more v (b - 48))) w
  unfolding byte_read live at_number digit_read with_digit
  digit_step r v b e h = simp (e, ne_eqb r 1 h)

  digit_off : (v b : ℕ) → is_digit b ≡ true → byte_read (mk (with_digit c 1 v) w) b ≡ mk (stopped (with_digit c 1 v) Form) w
  unfolding byte_read live at_number digit_read with_digit
  digit_off v b e = simp e

  -- the digits of a run after one that is no leading zero
  run_on_lem : (t : List ℕ) (v : ℕ) → v ≤ value_cap
      → reading (with_digit c 2 v) w t ≡ reading (with_digit c 2 (min (decimal v (take (run_len t) t)) value_cap)) w (drop (run_len t) t)
  unfolding decimal run_len
  run_on_lem [] v h = ap (λ (x : ℕ). reading (with_digit c 2 x) w []) (omega arith)
  run_on_lem (b ∷ t) v h = split (is_digit b) refl (run_on_lem t (more v (b - 48)) (more_low v (b - 48)))
    where
      split : (q : Bool) → is_digit b ≡ q
          → reading (with_digit c 2 (more v (b - 48))) w t ≡ reading (with_digit c 2 (min (decimal (more v (b - 48)) (take (run_len t) t)) value_cap)) w (drop (run_len t) t)
          → reading (with_digit c 2 v) w (b ∷ t) ≡ reading (with_digit c 2 (min (decimal v (take (run_len (b ∷ t)) (b ∷ t))) value_cap)) w (drop (run_len (b ∷ t)) (b ∷ t))
      split true q r = rw (run_hit b t q) (moves _ _ w w b t (digit_step 2 v b q (λ z. omega arith))
          ∙ ap (λ (x : ℕ). reading (with_digit c x (more v (b - 48))) w t) (run_two 2 (b - 48) (λ z. omega arith))
          ∙ r
          ∙ ap (λ (x : ℕ). reading (with_digit c 2 x) w (drop (run_len t) t)) (more_value v (b - 48) (take (run_len t) t)))
      split false q r = rw (run_miss b t q) (ap (λ (x : ℕ). reading (with_digit c 2 x) w (b ∷ t)) (omega arith))

  -- a byte that is no digit ends a run
  no_dash : (r v b : ℕ) → (r ≡ 0 → ⊥) → dash_here (with_digit c r v) b ≡ false
  unfolding dash_here with_digit
  no_dash r v b z = simp (ne_eqb r 0 z, pick_same)

  closes : (r v b : ℕ) → (r ≡ 0 → ⊥) → is_digit b ≡ false → byte_read (mk (with_digit c r v) w) b ≡ closed (with_digit c r v) w b
  unfolding byte_read live at_number with_digit
  closes r v b z o = simp (o, no_dash r v b z)

  -- a run with a fault of its own
  pub faulty : (r v : ℕ) (k : Halt) (f : Refusal) {t : List ℕ} → (c.spot.field ≡ field_end → ⊥) → (r ≡ 0 → ⊥) → Stop t → fault (with_digit c r v) w ≡ k → going k ≡ false
      → refusal_of k c.line ≡ Err f → reading (with_digit c r v) w t ≡ refused f
  unfolding with_digit closed
  faulty r v k f {t} h z o e n q =
      stops_at (with_digit c r v) (with_digit c r v) w w t k f h (closes r v (next t) z (stop_next o) ∙ simp (e, n)) n q

  -- a run without a fault: the number is kept, and then the byte judged
  pub sound : (r v : ℕ) {t : List ℕ} → (r ≡ 0 → ⊥) → Stop t → fault (with_digit c r v) w ≡ Going
      → byte_read (mk (with_digit c r v) w) (next t) ≡ mk (after_number (noted (with_digit c r v)) (stored (with_digit c r v) w) (next t)) (stored (with_digit c r v) w)
  unfolding closed
  sound r v {t} z o e = closes r v (next t) z (stop_next o) ∙ simp e

  -- a run out of its range
  pub in_range_lem : (r v : ℕ) → in_range (with_digit c r v) w ≡ fits v (get_or leasts c.spot.field 0) (limit c w)
  unfolding in_range fits limit with_digit
  in_range_lem r v = refl

  fault_range : (r v : ℕ) → (r ≡ 0 → ⊥) → fits v (get_or leasts c.spot.field 0) (limit c w) ≡ false → fault (with_digit c r v) w ≡ Range
  unfolding fault number_fault
  fault_range r v z e = rw (in_range_lem r v ∙ e) (simp (run_of_lem c r v, ne_eqb r 0 z))

  -- no digit at all
  empty : (t : List ℕ) → (c.spot.field ≡ field_end → ⊥) → Stop t → begins_dash c t ≡ false → reading (with_digit c 0 0) w t ≡ refused (OffForm c.line)
  unfolding byte_read live at_number closed fault with_digit
  empty t h o d = stops_at (with_digit c 0 0) (with_digit c 0 0) w w t Form (OffForm c.line) h (simp (stop_next o, d)) refl refl

module _ (c : Ctrl) (w : List ℕ) (h : c.spot.field ≡ field_end → ⊥) (low : get_or leasts c.spot.field 0 ≤ value_cap) (cap : limit c w ≤ value_cap)
    (p : ℕ → Part) (T : Tables) (k : Rest)
    (ok : (r v : ℕ) (t : List ℕ) → (r ≡ 0 → ⊥) → Stop t → Bytes t → fits v (get_or leasts c.spot.field 0) (limit c w) ≡ true
    → reading (with_digit c r v) w t ≡ p v t c.line T k) where
  lo : ℕ
  lo = get_or leasts c.spot.field 0

  -- where a run has ended
  closing : (r v : ℕ) (t : List ℕ) → (r ≡ 0 → ⊥) → Stop t → Bytes t → reading (with_digit c r (min v value_cap)) w t ≡ ranged lo (limit c w) p c.line T k v t
  unfolding ranged demand lo
  closing r v t z o a = split (fits v lo (limit c w)) refl
    where
      same : fits (min v value_cap) lo (limit c w) ≡ fits v lo (limit c w)
      same = within_cap v lo (limit c w) low cap

      split : (q : Bool) → fits v lo (limit c w) ≡ q → reading (with_digit c r (min v value_cap)) w t ≡ demand (fits v lo (limit c w)) OutOfRange t c.line T (λ u₁ m U. p v u₁ m U k)
      split true q = rw q (ap (λ (x : ℕ). reading (with_digit c r x) w t) (within_low v lo (limit c w) cap (within_both v lo (limit c w) q).1) ∙ ok r v t z o a q)
      split false q = rw q (faulty c w r (min v value_cap) Range (OutOfRange c.line) h z o (fault_range c w r (min v value_cap) z (same ∙ q)) refl refl)

  -- after a leading zero
  zero_then : (b : ℕ) (t : List ℕ) → is_digit b ≡ true → b ≡ 48 → Bytes t → reading (with_digit c 1 0) w t ≡ numeral lo (limit c w) p (b ∷ t) c.line T k
  unfolding with_digit
  zero_then b [] q z a = closing 1 0 [] (λ o. omega arith) nil a ∙ sym (number_zero lo (limit c w) p c.line T k b [] q z nil)
  zero_then b (x ∷ t) q z a = split (is_digit x) refl
    where
      split : (y : Bool) → is_digit x ≡ y → reading (with_digit c 1 0) w (x ∷ t) ≡ numeral lo (limit c w) p (b ∷ x ∷ t) c.line T k
      split true y =
          moves _ (stopped (with_digit c 1 0) Form) w w x t (digit_off c w 0 x y) ∙ off_form (with_digit c 1 0) w t
          ∙ sym (number_off lo (limit c w) p c.line T k (b ∷ x ∷ t) (formed_lead b (x ∷ t) (run_len t) q z (run_hit x t y)))
      split false y = closing 1 0 (x ∷ t) (λ o. omega arith) (other y) a ∙ sym (number_zero lo (limit c w) p c.line T k b (x ∷ t) q z (other y))

  pub number_ok : (t : List ℕ) → Bytes t → begins_dash c t ≡ false → reading (with_digit c 0 0) w t ≡ numeral (get_or leasts c.spot.field 0) (limit c w) p t c.line T k
  unfolding lo with_digit
  number_ok [] a d = empty c w [] h nil d ∙ sym (number_off lo (limit c w) p c.line T k [] formed_nil)
  number_ok (b ∷ t) (byte y a) d = split (is_digit b) refl
    where
      state : (q : is_digit b ≡ true) → reading (with_digit c 0 0) w (b ∷ t) ≡ reading (with_digit c (run_with 0 (b - 48)) (more 0 (b - 48))) w t
      state q = moves _ _ w w b t (digit_step c w 0 0 b q (λ z. omega arith))

      lead : (e : Bool) → eqb b 48 ≡ e → is_digit b ≡ true → reading (with_digit c 0 0) w (b ∷ t) ≡ numeral lo (limit c w) p (b ∷ t) c.line T k
      lead true e q =
          let z : b ≡ 48 = eqb-true b 48 e in
          let y : b - 48 ≡ 0 = omega arith in
          state q
          ∙ ap (λ (x : ℕ). reading (with_digit c x (more 0 (b - 48))) w t) (run_one (b - 48) y)
          ∙ ap (λ (x : ℕ). reading (with_digit c 1 x) w t) (more_zero (b - 48) y)
          ∙ zero_then b t q z a
      lead false e q =
          let z : b ≡ 48 → ⊥ = eqb-false b 48 e in
          let g : 48 ≤ b = (digit_both b q).0 in
          state q
          ∙ ap (λ (x : ℕ). reading (with_digit c x (more 0 (b - 48))) w t) (run_two 0 (b - 48) (λ o. z (omega arith)))
          ∙ run_on_lem c w t (more 0 (b - 48)) (more_low 0 (b - 48))
          ∙ ap (λ (x : ℕ). reading (with_digit c 2 x) w (drop (run_len t) t)) (more_value 0 (b - 48) (take (run_len t) t))
          ∙ closing 2 (decimal (10 * 0 + (b - 48)) (take (run_len t) t)) (drop (run_len t) t) (λ o. omega arith) (stop_run t) (bytes_drop (run_len t) a)
          ∙ sym (number_other lo (limit c w) p c.line T k b t q z)

      split : (q : Bool) → is_digit b ≡ q → reading (with_digit c 0 0) w (b ∷ t) ≡ numeral lo (limit c w) p (b ∷ t) c.line T k
      split true q = lead (eqb b 48) refl q
      split false q = empty c w (b ∷ t) h (other q) d ∙ sym (number_off lo (limit c w) p c.line T k (b ∷ t) (formed_off b t q))
