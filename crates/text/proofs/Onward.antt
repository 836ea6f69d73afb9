-- Numbers read ahead: after each the machine goes on as before it. By its steps over the number's digits and over the sign after them, which are those of the
-- bridge to the grammar. Assumes nothing.
use Prim.Native.Nat.{ℕ, ◌+◌, ◌-◌, ◌*◌, ◌≤◌, ◌<◌, zero-le}
use native.Mathlib.Omega.{arith}
use mathlib.Core.Path.{◌≡◌, refl, sym, ap, ◌∙◌}
use mathlib.Core.List.{List, [], ◌∷◌}
use mathlib.Core.Bool.{Bool, true, false}
use lib.ListN.{length, get_or, drop}
use lib.Dec.{eqb}
use borrow.Author.Tests.{ne_eqb, eqb-true, le-leb, lt-ltb}
use Rattle.tables.specs.declared.Counts.{Counts}
use Rattle.meaning.specs.Limits.{most_cost}
use Rattle.tables.specs.Layout.{goal_place, pre_place, eff_place, class_place}
use Rattle.grammar.specs.Fields.{is_digit, comma, colon}
use Rattle.grammar.specs.Grammar.{fits}
use Rattle.text.specs.declared.Ctrl.{Ctrl}
use Rattle.text.specs.declared.Halt.{Halt}
use Rattle.text.specs.declared.Halt.TheVariants.{Going, Form, Range, Order, Missing, States, Idle}
use Rattle.text.specs.declared.Turn.{Turn}
use Rattle.text.specs.declared.Seen.{Seen}
use Rattle.text.specs.Inside.Ahead.{
  Onward,
  Due,
  NoneSeen,
  digit_at,
  due_var,
  facts_place,
  FactHere,
  due_class,
  ClassHere,
  due_share,
  DigitHere,
  Longer,
  run_of,
  Numbered,
  ShareHere,
}
use Rattle.text.specs.Inside.Area.{put_byte, put_word, share_byte, dom_in}
use Rattle.text.specs.Inside.Control.{
  St,
  mk,
  going,
  up,
  part_number,
  run_none,
  run_on,
  spot_at,
  digits_of,
  turn_of,
  seen_of,
  none_seen,
  due,
  with_digit,
  field_class,
  field_goal_var,
  field_goal_val,
  field_pre_var,
  field_pre_val,
  field_eff_var,
  field_eff_val,
  field_share,
}
use Rattle.text.specs.Inside.Fields.{leasts, limit, with_class, counts_with, seen_with, noted, last_class, before, fault, stored, kind}
use Rattle.text.specs.Inside.Steps.{more, run_with, sign, after_class, after_value, after_share, after_number, byte_read, feed}
use Rattle.grammar.proofs.Runs.{clash, other}
use Rattle.text.proofs.Laws.{feed_next}
use Rattle.text.proofs.BridgeNumbers.{run_of_lem, run_two, digit_step, sound}
use Rattle.text.proofs.BridgeArea.{put_get_or}
use Rattle.text.proofs.BridgeRows.{judged_in, no_fault, num, of_var, from_var, a_class, a_share}

-- ---- the reading goes on where it stands
pub going_on : (k : Halt) → going k ≡ true → k ≡ Going
going_on Going e = refl
going_on Form e = clash refl (sym e)
going_on Range e = clash refl (sym e)
going_on Order e = clash refl (sym e)
going_on Missing e = clash refl (sym e)
going_on States e = clash refl (sym e)
going_on Idle e = clash refl (sym e)

whole : (h : Halt) (l p f k r u v : ℕ) (t : Turn) (s : Seen) (n : Counts) → h ≡ Going → p ≡ part_number → k ≡ 0 → u ≡ run_none → v ≡ 0
    → num l f r t s n ≡ record { halt = h; line = l; spot = spot_at p f k r; digits = digits_of u v; turn = t; seen = s; counts = n }
whole h l p f k r u v t s n a b d e g = rw (a, b, d, e, g)

pub due_same : (c : Ctrl) → Due c → due c c.spot.field c.turn c.seen ≡ c
unfolding due
due_same c d =
    whole c.halt c.line c.spot.part c.spot.field c.spot.key c.spot.row c.digits.run c.digits.val c.turn c.seen c.counts d.halt d.part d.key
    d.run d.val

pub stays : (c : Ctrl) → Due c → (s w : List ℕ) (i j : ℕ) (t : Turn) (n : Seen) → i < length s → j ≡ i → t ≡ c.turn → n ≡ c.seen → Onward s (mk c w) i (mk (due c c.spot.field t n) w) j
stays c d s w i j t n h e a b = rw (e, a, b) (record { on = omega arith; within = h; same = ap (λ (k : Ctrl). feed (mk k w) (drop i s)) (due_same c d) })

-- the same controls, said otherwise
pub as_due : {s w u : List ℕ} {i j : ℕ} {k c m n : Ctrl} → k ≡ c → m ≡ n → Onward s (mk k w) i (mk m u) j → Onward s (mk c w) i (mk n u) j
as_due e f h = record { on = h.on; within = h.within; same = rw (← e, ← f) h.same }

pub in_field : (c : Ctrl) (f g : ℕ) (t : Turn) (n : Seen) → f ≡ g → due c f t n ≡ due c g t n
in_field c f g t n e = ap (λ (x : ℕ). due c x t n) e

-- that is where a list's variable is due
first_of : (v m i a p : ℕ) → v ≡ 0 → i ≡ 0 → a ≡ 0 → p ≡ 1 → (turn_of 0 m 0 ≡ turn_of v m i) × (none_seen ≡ seen_of a p)
first_of v m i a p e f g h = (rw (e, f), rw (g, h))

pub list_due : (c : Ctrl) → Due c → NoneSeen c → c.turn.item ≡ 0 → due_var c c.turn.least ≡ c
list_due c d n e =
    let q = first_of c.turn.var c.turn.least c.turn.item c.seen.mask c.seen.prod n.var e n.mask n.prod in
    ap (λ (t : Turn). due c c.spot.field t none_seen) q.0 ∙ ap (λ (x : Seen). due c c.spot.field c.turn x) q.1 ∙ due_same c d

-- and where a share is; where a class is
pub share_due : (c : Ctrl) → Due c → NoneSeen c → c.turn.least ≡ 0 → c.spot.field ≡ field_share → due_share c c.turn.item ≡ c
share_due c d n e f =
    let q = share_of c.turn.var c.turn.least c.turn.item c.seen.mask c.seen.prod n.var e n.mask n.prod in
    ap (λ (x : ℕ). due c x (turn_of 0 0 c.turn.item) none_seen) (sym f) ∙ ap (λ (t : Turn). due c c.spot.field t none_seen) q.0
    ∙ ap (λ (x : Seen). due c c.spot.field c.turn x) q.1 ∙ due_same c d
  where
    share_of : (v m i a p : ℕ) → v ≡ 0 → m ≡ 0 → a ≡ 0 → p ≡ 1 → (turn_of 0 0 i ≡ turn_of v m i) × (none_seen ≡ seen_of a p)
    share_of v m i a p e f g h = (rw (e, f), rw (g, h))

pub class_due : (c : Ctrl) → Due c → c.turn.least ≡ 0 → c.spot.field ≡ field_class → due_class c c.turn.item c.seen.mask ≡ c
class_due c d e f =
    ap (λ (x : ℕ). due c x (turn_of c.turn.var 0 c.turn.item) c.seen) (sym f)
    ∙ ap (λ (m : ℕ). due c c.spot.field (turn_of c.turn.var m c.turn.item) c.seen) (sym e) ∙ due_same c d

-- ---- bytes
module _ (s : List ℕ) where
  one_byte : (x y : St) (i j : ℕ) → i < length s → j ≡ i + 1 → byte_read x (get_or s i 0) ≡ y → feed y (drop j s) ≡ feed x (drop i s)
  one_byte x y i j h e q = rw (e, ← q) (feed_next x s i h)

  digit_there : (i : ℕ) → digit_at s i < 10 → (is_digit (get_or s i 0) ≡ true) × (get_or s i 0 - 48 ≡ digit_at s i)
  unfolding digit_at
  digit_there i h = split (is_digit (get_or s i 0)) refl
    where
      split : (q : Bool) → is_digit (get_or s i 0) ≡ q → (is_digit (get_or s i 0) ≡ true) × (get_or s i 0 - 48 ≡ digit_at s i)
      split true q = (q, rw q)
      split false q = let z : 10 < 10 = rw q at h in absurd (let n : ⊥ = omega arith in n)

more_one : (d : ℕ) → d < 10 → more 0 d ≡ d
unfolding more
more_one d h = omega arith

run_some : (d : ℕ) → run_with 0 d ≡ 0 → ⊥
run_some d e = split (eqb (0 + d) 0) refl
  where
    split : (q : Bool) → eqb (0 + d) 0 ≡ q → ⊥
    split true q = let z : ◌≡◌ {A = ℕ} 1 0 = rw q at e in omega arith
    split false q = let z : ◌≡◌ {A = ℕ} 2 0 = rw q at e in omega arith

-- a number's first digit, and the sign after a number without a fault
module _ (c : Ctrl) (w s : List ℕ) where
  pub first_digit : (i j : ℕ) → i < length s → j ≡ i + 1 → digit_at s i < 10
      → feed (mk (with_digit c (run_with 0 (digit_at s i)) (digit_at s i)) w) (drop j s) ≡ feed (mk (with_digit c 0 0) w) (drop i s)
  first_digit i j h e d =
      let q = digit_there s i d in
      one_byte s _ _ i j h e
      (digit_step c w 0 0 (get_or s i 0) q.0 (λ z. omega arith)
      ∙ ap (λ (x : ℕ). mk (with_digit c (run_with 0 x) (more 0 x)) w) q.1
      ∙ ap (λ (x : ℕ). mk (with_digit c (run_with 0 (digit_at s i)) x) w) (more_one (digit_at s i) d))

  pub then_byte : (r v b i j : ℕ) (y : St) → i < length s → j ≡ i + 1 → get_or s i 0 ≡ b → is_digit b ≡ false → (r ≡ 0 → ⊥) → fault (with_digit c r v) w ≡ Going
      → mk (after_number (noted (with_digit c r v)) (stored (with_digit c r v) w) b) (stored (with_digit c r v) w) ≡ y
      → feed y (drop j s) ≡ feed (mk (with_digit c r v) w) (drop i s)
  then_byte r v b i j y h k e n z f q = one_byte s _ _ i j h k (rw e (sound c w r v {t = b ∷ []} z (other n) f ∙ q))

-- ---- a fact
pub fits_below : (v lim : ℕ) → v < lim → fits v 0 lim ≡ true
unfolding fits
fits_below v lim h = rw (le-leb 0 v zero-le, lt-ltb v lim h)

module _ (l f g r place : ℕ) (n : Counts) (s w : List ℕ) (i m : ℕ) (h : FactHere s i w n.vars m)
    (plain : (f ≡ field_class → ⊥) × (g ≡ field_class → ⊥))
    (var-fits : (v : ℕ) → v < n.vars → fits v (get_or leasts f 0) (limit (from_var l f m r n) w) ≡ true)
    (val-fits : (v x : ℕ) → x < dom_in w v → fits x (get_or leasts g 0) (limit (of_var l g v r n) w) ≡ true)
    (var-next : (z v : ℕ) → mk (after_number (noted (with_digit (from_var l f m r n) z v)) (stored (with_digit (from_var l f m r n) z v) w) colon) (stored (with_digit (from_var l f m r n) z v) w)
    ≡ mk (of_var l g v r n) w)
    (val-next : (v z x : ℕ) → mk (after_number (noted (with_digit (of_var l g v r n) z x)) (stored (with_digit (of_var l g v r n) z x) w) comma) (stored (with_digit (of_var l g v r n) z x) w)
    ≡ mk (from_var l f (up v) r n) (put_byte w (place + v) (up x))) where
  fact_on : feed (mk (from_var l f (up (digit_at s i)) r n) (put_byte w (place + digit_at s i) (up (digit_at s (i + 2))))) (drop (i + 4) s) ≡ feed (mk (from_var l f m r n) w) (drop i s)
  unfolding with_digit is_digit
  fact_on =
      let room = h.room in
      let v = digit_at s i in
      let x = digit_at s (i + 2) in
      then_byte (of_var l g v r n) w s (run_with 0 x) x comma (i + 3) (i + 4) _ (omega arith) (omega arith) h.comma refl (run_some x)
      (no_fault (of_var l g v r n) w (run_with 0 x) x (run_some x) plain.1 (val-fits v x h.fits) zero-le) (val-next v (run_with 0 x) x)
      ∙ first_digit (of_var l g v r n) w s (i + 2) (i + 3) (omega arith) (omega arith) h.value
      ∙ then_byte (from_var l f m r n) w s (run_with 0 v) v colon (i + 1) (i + 2) _ (omega arith) (omega arith) h.colon refl (run_some v)
      (no_fault (from_var l f m r n) w (run_with 0 v) v (run_some v) plain.0 (var-fits v h.known) h.rising) (var-next (run_with 0 v) v)
      ∙ first_digit (from_var l f m r n) w s i (i + 1) (omega arith) (omega arith) h.var

-- of the three lists
module _ (l r : ℕ) (n : Counts) (s w : List ℕ) (i m : ℕ) (h : FactHere s i w n.vars m) where
  fact_of : (f : ℕ) → (facts_place f r ≡ 0 → ⊥)
      → feed (mk (from_var l f (up (digit_at s i)) r n) (put_byte w (facts_place f r + digit_at s i) (up (digit_at s (i + 2))))) (drop (i + 4) s) ≡ feed (mk (from_var l f m r n) w) (drop i s)
  unfolding facts_place limit stored with_digit noted after_number kind after_value sign due seen_with counts_with
  fact_of f z = goal (eqb f field_goal_var) refl
    where
      Goal : ℕ → Type 0
      Goal g = feed (mk (from_var l g (up (digit_at s i)) r n) (put_byte w (facts_place g r + digit_at s i) (up (digit_at s (i + 2))))) (drop (i + 4) s) ≡ feed (mk (from_var l g m r n) w) (drop i s)

      eff : (q : Bool) → eqb f field_eff_var ≡ q → eqb f field_goal_var ≡ false → eqb f field_pre_var ≡ false → Goal f
      eff true q a b =
          rw (eqb-true f field_eff_var q)
          (fact_on l field_eff_var field_eff_val r (eff_place r 0) n s w i m h (λ e. omega arith, λ e. omega arith) (λ v. fits_below v n.vars) (λ v x. fits_below x (dom_in w v)) (λ y v. refl)
          (λ v y x. ap (λ (p : ℕ). mk (from_var l field_eff_var (up v) r n) (put_byte w p (up x))) (omega arith)))
      eff false q a b = absurd (z (rw (a, b, q)))

      pre : (q : Bool) → eqb f field_pre_var ≡ q → eqb f field_goal_var ≡ false → Goal f
      pre true q a =
          rw (eqb-true f field_pre_var q)
          (fact_on l field_pre_var field_pre_val r (pre_place r 0) n s w i m h (λ e. omega arith, λ e. omega arith) (λ v. fits_below v n.vars) (λ v x. fits_below x (dom_in w v)) (λ y v. refl)
          (λ v y x. ap (λ (p : ℕ). mk (from_var l field_pre_var (up v) r n) (put_byte w p (up x))) (omega arith)))
      pre false q a = eff (eqb f field_eff_var) refl a q

      goal : (q : Bool) → eqb f field_goal_var ≡ q → Goal f
      goal true q =
          rw (eqb-true f field_goal_var q)
          (fact_on l field_goal_var field_goal_val r (goal_place 0) n s w i m h (λ e. omega arith, λ e. omega arith) (λ v. fits_below v n.vars) (λ v x. fits_below x (dom_in w v)) (λ y v. refl)
          (λ v y x. ap (λ (p : ℕ). mk (from_var l field_goal_var (up v) r n) (put_byte w p (up x))) (omega arith)))
      goal false q = pre (eqb f field_pre_var) refl q

pub fact_ahead : (c : Ctrl) (place m i : ℕ) (s w : List ℕ) → (facts_place c.spot.field c.spot.row ≡ 0 → ⊥) → place ≡ facts_place c.spot.field c.spot.row
    → FactHere s i w c.counts.vars m
    → feed (mk (due_var c (up (digit_at s i))) (put_byte w (place + digit_at s i) (up (digit_at s (i + 2))))) (drop (i + 4) s) ≡ feed (mk (due_var c m) w) (drop i s)
unfolding due
fact_ahead c place m i s w z e h = rw e (fact_of c.line c.spot.row c.counts s w i m h c.spot.field z)

-- ---- a class
class_sound : (l v i r m p : ℕ) (n : Counts) (z x : ℕ) (w : List ℕ) → (z ≡ 0 → ⊥) → x < dom_in w v → up i < dom_in w v → fault (with_digit (a_class l v i r m p n) z x) w ≡ Going
unfolding fault limit before last_class noted with_digit seen_with counts_with
class_sound l v i r m p n z x w y h g =
    rw
    (judged_in (a_class l v i r m p n) w z x (fits_below x (dom_in w v) h), run_of_lem (a_class l v i r m p n) z x, ne_eqb z 0 y, le-leb 0 x zero-le, ne_eqb (up i) (dom_in w v) (λ q. omega arith))

class_next : (l v i r m p : ℕ) (n : Counts) (z x : ℕ) (w : List ℕ) → up i < dom_in w v
    → mk (after_number (noted (with_digit (a_class l v i r m p n) z x)) (stored (with_digit (a_class l v i r m p n) z x) w) comma) (stored (with_digit (a_class l v i r m p n) z x) w)
    ≡ mk (a_class l v (up i) r (with_class m x) p n) (put_byte w (class_place r v i) x)
unfolding stored with_digit noted after_number kind after_class last_class sign due seen_with counts_with
class_next l v i r m p n z x w h =
    let e = put_get_or w (class_place r v i) x v (omega arith) in
    rw (e, ne_eqb (up i) (dom_in w v) (λ q. omega arith))

pub class_ahead : (c : Ctrl) (i item m : ℕ) (s w : List ℕ) → ClassHere s i (dom_in w c.turn.var) item
    → feed (mk (due_class c (up item) (with_class m (digit_at s i))) (put_byte w (class_place c.spot.row c.turn.var item) (digit_at s i))) (drop (i + 2) s)
    ≡ feed (mk (due_class c item m) w) (drop i s)
unfolding due with_digit is_digit
class_ahead c i item m s w h =
    let x = digit_at s i in
    let k = a_class c.line c.turn.var item c.spot.row m c.seen.prod c.counts in
    let room = h.room in
    then_byte k w s (run_with 0 x) x comma (i + 1) (i + 2) _ (omega arith) (omega arith) h.comma refl (run_some x)
    (class_sound c.line c.turn.var item c.spot.row m c.seen.prod c.counts (run_with 0 x) x w (run_some x) h.fits h.more)
    (class_next c.line c.turn.var item c.spot.row m c.seen.prod c.counts (run_with 0 x) x w h.more)
    ∙ first_digit k w s i (i + 1) (omega arith) (omega arith) h.class

-- ---- a share
more_plain : (u d : ℕ) → u ≤ most_cost → d < 10 → more u d ≡ 10 * u + d
unfolding more
more_plain u d h g = omega arith

pub digit_more : (s : List ℕ) (i u : ℕ) → DigitHere s i u → (c : Ctrl) (w : List ℕ)
    → feed (mk (with_digit c run_on (10 * u + digit_at s i)) w) (drop (i + 1) s) ≡ feed (mk (with_digit c run_on u) w) (drop i s)
digit_more s i u h c w =
    let q = digit_there s i h.digit in
    one_byte s _ _ i (i + 1) h.room refl
    (digit_step c w 2 u (get_or s i 0) q.0 (λ z. omega arith)
    ∙ ap (λ (x : ℕ). mk (with_digit c (run_with 2 x) (more u x)) w) q.1
    ∙ ap (λ (x : ℕ). mk (with_digit c x (more u (digit_at s i))) w) (run_two 2 (digit_at s i) (λ z. omega arith))
    ∙ ap (λ (x : ℕ). mk (with_digit c run_on x) w) (more_plain u (digit_at s i) h.low h.digit))

-- a number of one digit 0, and one that begins with another
pub zero_number : (s : List ℕ) (i : ℕ) → i < length s → digit_at s i ≡ 0 → Numbered s i (i + 1) 0
zero_number s i h e =
    record {
      on = omega arith;
      within = omega arith;
      same = λ l c w. ap (λ (x : ℕ). feed (mk (with_digit c (run_with 0 x) x) w) (drop (i + 1) s)) (sym e) ∙ first_digit c w s i (i + 1) h refl (omega arith);
    }

pub longer_number : (s : List ℕ) (i j v : ℕ) → i < length s → digit_at s i < 10 → (digit_at s i ≡ 0 → ⊥) → Longer s (i + 1) (digit_at s i) j v → Numbered s i j v
longer_number s i j v h d n g =
    let on = g.on in
    let grows = g.grows in
    record {
      on = omega arith;
      within = g.within;
      same =
          λ l c w.
          ap (λ (x : ℕ). feed (mk (with_digit c x v) w) (drop j s)) (run_high v (λ z. n (omega arith))) ∙ g.same c w
          ∙ ap (λ (x : ℕ). feed (mk (with_digit c x (digit_at s i)) w) (drop (i + 1) s)) (sym (run_two 0 (digit_at s i) (λ z. n (omega arith))))
          ∙ first_digit c w s i (i + 1) h refl d;
    }
  where
    run_high : (x : ℕ) → (x ≡ 0 → ⊥) → run_of x ≡ run_on
    run_high x z = rw (ne_eqb x 0 z)

run_known : (v : ℕ) → run_of v ≡ 0 → ⊥
run_known v e = split (eqb v 0) refl
  where
    split : (q : Bool) → eqb v 0 ≡ q → ⊥
    split true q = let z : ◌≡◌ {A = ℕ} 1 0 = rw q at e in omega arith
    split false q = let z : ◌≡◌ {A = ℕ} 2 0 = rw q at e in omega arith

share_next : (l i r : ℕ) (n : Counts) (z v : ℕ) (w : List ℕ) → up i < n.ops
    → mk (after_number (noted (with_digit (a_share l i r n) z v)) (stored (with_digit (a_share l i r n) z v) w) comma) (stored (with_digit (a_share l i r n) z v) w)
    ≡ mk (a_share l (up i) r n) (put_word w (share_byte r i) v)
unfolding stored with_digit noted after_number kind after_share sign due seen_with counts_with
share_next l i r n z v w h = rw (ne_eqb (up i) n.ops (λ q. omega arith))

pub share_ahead : (c : Ctrl) (i j v item : ℕ) (s w : List ℕ) → Numbered s i j v → ShareHere s i j v item c.counts.ops
    → feed (mk (due_share c (up item)) (put_word w (share_byte c.spot.row item) v)) (drop (j + 1) s) ≡ feed (mk (due_share c item) w) (drop i s)
unfolding due with_digit is_digit limit
share_ahead c i j v item s w g h =
    let k = a_share c.line item c.spot.row c.counts in
    let room = h.room in
    let low = h.fits in
    then_byte k w s (run_of v) v comma j (j + 1) _ (omega arith) refl h.comma refl (run_known v)
    (no_fault k w (run_of v) v (run_known v) (λ z. omega arith) (fits_below v (most_cost + 1) (omega arith)) zero-le)
    (share_next c.line item c.spot.row c.counts (run_of v) v w h.more)
    ∙ g.same h.some k w
