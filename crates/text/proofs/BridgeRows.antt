-- After a number: the sign that must follow it, and rows of numbers parted by commas, read as the grammar says. Assumes nothing.
use Prim.Native.Nat.{ℕ, zero, suc, ◌+◌, ◌≤◌, ◌<◌, zero-le}
use native.Mathlib.Omega.{arith}
use mathlib.Core.Path.{◌≡◌, refl, ap, ◌∙◌}
use mathlib.Core.List.{List, [], ◌∷◌}
use mathlib.Core.Bool.{Bool, true, false, cond}
use lib.ListN.{length, get_or}
use lib.Dec.{leb, eqb}
use borrow.Author.Tests.{ne_eqb, eqb-true, eqb-false, le-leb}
use Rattle.tables.specs.declared.Counts.{Counts}
use Rattle.tables.specs.Layout.{Tables}
use Rattle.text.specs.declared.Halt.TheVariants.{Going, Order}
use Rattle.text.specs.declared.Ctrl.{Ctrl}
use Rattle.grammar.specs.Fields.{comma}
use Rattle.grammar.specs.Grammar.{Rest, ◌▸◌, keep, lit, fits, numeral, parted, number_row}
use Rattle.text.specs.Inside.Area.{area_room, put_byte, put_word, dom_in}
use Rattle.text.specs.Inside.Control.{mk, part_number, going, spot_at, no_digits, turn_of, seen_of, with_digit, field_class, field_share, field_end, none_seen}
use Rattle.text.specs.Inside.Fields.{leasts, limit, number_fault, counts_with, seen_with, noted, last_class, before, fault, stored}
use Rattle.text.specs.Inside.Steps.{sign, after_number, no_byte, value_cap}
use Rattle.text.proofs.BridgeReading.{tables_of, reading, Bytes, bytes_drop, next, behind, goes_on, sign_read}
use Rattle.grammar.proofs.Runs.{Stop}
use Rattle.text.proofs.BridgeNumbers.{begins_dash, sound, in_range_lem, run_of_lem, number_ok}
use Rattle.text.proofs.BridgeArea.{put_get_or, put_same, put_length, put3_length, put3_get_or}
use Rattle.text.specs.declared.Turn.{Turn}
use Rattle.text.specs.declared.Seen.{Seen}

-- a number of field f is due in line l and row r: whose it is, and the classes and abstract states seen so far
abbrev pub num : ℕ → ℕ → ℕ → Turn → Seen → Counts → Ctrl
num l f r t s c =
    record { halt = Going; line = l; spot = spot_at part_number f 0 r; digits = no_digits; turn = t; seen = s; counts = c }

-- that of variable v and item i; of variable v alone; of the row; of the line
abbrev pub of_item : ℕ → ℕ → ℕ → ℕ → ℕ → Counts → Ctrl
of_item l f v i r n = num l f r (turn_of v 0 i) none_seen n

abbrev pub of_var : ℕ → ℕ → ℕ → ℕ → Counts → Ctrl
of_var l f v r n = of_item l f v 0 r n

abbrev pub of_row : ℕ → ℕ → ℕ → Counts → Ctrl
of_row l f r n = of_var l f 0 r n

abbrev pub lone : ℕ → ℕ → Counts → Ctrl
lone l f n = of_row l f 0 n

-- a fact's variable, m or a later one
abbrev pub from_var : ℕ → ℕ → ℕ → ℕ → Counts → Ctrl
from_var l f m r n = num l f r (turn_of 0 m 0) none_seen n

-- the class of variable v's value i in map r, where the mask is m and the abstract states so far are p; map r's share of operator i
abbrev pub a_class : ℕ → ℕ → ℕ → ℕ → ℕ → ℕ → Counts → Ctrl
a_class l v i r m p n = num l field_class r (turn_of v 0 i) (seen_of m p) n

abbrev pub a_share : ℕ → ℕ → ℕ → Counts → Ctrl
a_share l i r n = of_item l field_share 0 i r n

-- ---- a number without a fault: it is kept, and what the machine does with the next byte follows
pub then_on : (c : Ctrl) (w u : List ℕ) (r v : ℕ) (d : ℕ → Ctrl) → (c.spot.field ≡ field_end → ⊥) → (r ≡ 0 → ⊥) → fault (with_digit c r v) w ≡ Going → stored (with_digit c r v) w ≡ u
    → ((b : ℕ) → after_number (noted (with_digit c r v)) u b ≡ d b) → going (d no_byte).halt ≡ false
    → {t : List ℕ} → Stop t → reading (with_digit c r v) w t ≡ reading (d (next t)) u (behind t)
unfolding with_digit
then_on c w u r v d h z e s goes stop {t} o =
    goes_on (with_digit c r v) (d (next t)) w u t h
    (sound c w r v z o e ∙ ap (λ (x : List ℕ). mk (after_number (noted (with_digit c r v)) x (next t)) x) s ∙ ap (λ (x : Ctrl). mk x u) (goes (next t)))
    (λ i. rw i stop)

-- the sign after it
pub then_sign : (c : Ctrl) (w : List ℕ) (r v x : ℕ) (d : Ctrl) (T : Tables) (k : Rest) → eqb no_byte x ≡ false → (c.spot.field ≡ field_end → ⊥) → (r ≡ 0 → ⊥)
    → fault (with_digit c r v) w ≡ Going
    → ((b : ℕ) → after_number (noted (with_digit c r v)) (stored (with_digit c r v) w) b ≡ sign (noted (with_digit c r v)) b x d)
    → ((t : List ℕ) → Bytes t → reading d (stored (with_digit c r v) w) t ≡ k t c.line T)
    → {t : List ℕ} → Stop t → Bytes t → reading (with_digit c r v) w t ≡ lit (x ∷ []) t c.line T k
unfolding lit noted with_digit seen_with counts_with
then_sign c w r v x d T k n h z e goes ok {t} o a =
    sign_read (with_digit c r v) (noted (with_digit c r v)) d w (stored (with_digit c r v) w) x [] t T k h n
    (sound c w r v z o e ∙ ap (λ (y : Ctrl). mk y (stored (with_digit c r v) w)) (goes (next t)))
    (λ q. ok (behind t) (bytes_drop 1 a))

pub judged_in : (c : Ctrl) (w : List ℕ) (r v : ℕ) → fits v (get_or leasts c.spot.field 0) (limit c w) ≡ true → number_fault (with_digit c r v) w ≡ cond (leb c.turn.least v) Going Order
unfolding number_fault with_digit
judged_in c w r v q = rw (in_range_lem c w r v ∙ q)

order_only : (y : Bool) → cond (going (cond y Going Order)) Going (cond y Going Order) ≡ cond y Going Order
order_only true = refl
order_only false = refl

before_plain : (c : Ctrl) (w : List ℕ) (r v : ℕ) → (c.spot.field ≡ field_class → ⊥) → before (noted (with_digit c r v)) w ≡ Going
unfolding before last_class noted with_digit seen_with counts_with
before_plain c w r v f = simp (ne_eqb c.spot.field field_class f)

-- a number in its range, of no class: only its order can be a fault
pub fault_plain : (c : Ctrl) (w : List ℕ) (r v : ℕ) → (r ≡ 0 → ⊥) → (c.spot.field ≡ field_class → ⊥) → fits v (get_or leasts c.spot.field 0) (limit c w) ≡ true
    → fault (with_digit c r v) w ≡ cond (leb c.turn.least v) Going Order
unfolding fault
fault_plain c w r v z f q = rw (judged_in c w r v q, before_plain c w r v f, run_of_lem c r v, ne_eqb r 0 z) (order_only (leb c.turn.least v))

pub no_fault : (c : Ctrl) (w : List ℕ) (r v : ℕ) → (r ≡ 0 → ⊥) → (c.spot.field ≡ field_class → ⊥) → fits v (get_or leasts c.spot.field 0) (limit c w) ≡ true → c.turn.least ≤ v
    → fault (with_digit c r v) w ≡ Going
no_fault c w r v z f q h = fault_plain c w r v z f q ∙ rw (le-leb c.turn.least v h)

-- ---- what is known of the counts and of the area
pub record Fits (n : Counts) : Type 0 where
  pub low : 1 ≤ n.vars
  pub high : n.vars ≤ 8
  pub ops : n.ops ≤ 64
  pub maps : n.maps ≤ 8

-- its length, and how many values each variable below j has
pub record Known (j : ℕ) (w : List ℕ) : Type 0 where
  pub long : length w ≡ area_room
  pub doms : (v : ℕ) → v < j → (1 ≤ dom_in w v) × (dom_in w v ≤ 8)

pub known_put : {j : ℕ} {w : List ℕ} → Known j w → (p v : ℕ) → j ≤ p → Known j (put_byte w p v)
known_put {j} {w} g p v h =
    record {
      long = put_length w p v ∙ g.long;
      doms = λ i a. rw (put_get_or w p v i (omega arith)) (g.doms i a);
    }

pub known_put3 : {j : ℕ} {w : List ℕ} → Known j w → (p v : ℕ) → j ≤ p → Known j (put_word w p v)
known_put3 {j} {w} g p v h =
    record {
      long = put3_length w p v ∙ g.long;
      doms = λ i a. rw (put3_get_or w p v i (omega arith)) (g.doms i a);
    }

-- one variable's number of values more
pub known_dom : {j : ℕ} {w : List ℕ} → Known j w → (v : ℕ) → j < area_room → 1 ≤ v → v ≤ 8 → Known (j + 1) (put_byte w j v)
known_dom {j} {w} g v h a b =
    record { long = put_length w j v ∙ g.long; doms = λ i q. split i (eqb i j) refl q }
  where
    same : dom_in (put_byte w j v) j ≡ v
    same = put_same w j v (let l = g.long in omega arith) (omega arith)

    split : (i : ℕ) (q : Bool) → eqb i j ≡ q → i < j + 1 → (1 ≤ dom_in (put_byte w j v) i) × (dom_in (put_byte w j v) i ≤ 8)
    split i true e q = rw (eqb-true i j e, same) (a, b)
    split i false e q = let n : i ≡ j → ⊥ = eqb-false i j e in rw (put_get_or w j v i (omega arith)) (g.doms i (omega arith))

-- ---- a row of numbers of field f, the i-th of them for variable (vi i) and item (it i)
module _ (l f r : ℕ) (n : Counts) (vi it : ℕ → ℕ) (N : ℕ) (h : f ≡ field_end → ⊥) (c : f ≡ field_class → ⊥) (low : get_or leasts f 0 ≤ value_cap)
    (lim : ℕ → Tables → ℕ) (keeps : ℕ → ℕ → Tables → Tables) (P : ℕ → List ℕ → Type 0) (k : Rest)
    (bare : (i : ℕ) (t : List ℕ) → begins_dash (of_item l f (vi i) (it i) r n) t ≡ false)
    (limits : (i : ℕ) (w : List ℕ) → i < N → P i w → (limit (of_item l f (vi i) (it i) r n) w ≡ lim i (tables_of n w)) × (lim i (tables_of n w) ≤ value_cap))
    (kept : (i z v : ℕ) (w : List ℕ) → i < N → P i w → fits v (get_or leasts f 0) (lim i (tables_of n w)) ≡ true
    → (tables_of n (stored (with_digit (of_item l f (vi i) (it i) r n) z v) w) ≡ keeps i v (tables_of n w))
    × P (i + 1) (stored (with_digit (of_item l f (vi i) (it i) r n) z v) w))
    (more : (i z v b : ℕ) (w : List ℕ) → i + 1 < N
    → after_number (noted (with_digit (of_item l f (vi i) (it i) r n) z v)) w b
    ≡ sign (noted (with_digit (of_item l f (vi i) (it i) r n) z v)) b comma (of_item l f (vi (i + 1)) (it (i + 1)) r n))
    (last : (i z v : ℕ) (w u : List ℕ) → i + 1 ≡ N → (z ≡ 0 → ⊥) → Stop u → Bytes u → P (i + 1) (stored (with_digit (of_item l f (vi i) (it i) r n) z v) w)
    → fault (with_digit (of_item l f (vi i) (it i) r n) z v) w ≡ Going
    → reading (with_digit (of_item l f (vi i) (it i) r n) z v) w u ≡ k u l (tables_of n (stored (with_digit (of_item l f (vi i) (it i) r n) z v) w))) where
  pub row_ok : (m i : ℕ) → i + suc m ≡ N → (w : List ℕ) → P i w → (t : List ℕ) → Bytes t
      → reading (of_item l f (vi i) (it i) r n) w t ≡ number_row (get_or leasts f 0) lim keeps (suc m) i t l (tables_of n w) k
  unfolding number_row parted keep ◌▸◌ with_digit
  row_ok zero i e w p t a =
      let g : i < N = omega arith in
      let q = limits i w g p in
      number_ok (of_item l f (vi i) (it i) r n) w h low (rw q.0 q.1) _ (tables_of n w) k
      (λ z v u y o b s.
      let s₁ : fits v (get_or leasts f 0) (lim i (tables_of n w)) ≡ true = rw q.0 at s in
      let d = kept i z v w g p s₁ in
      last i z v w u (omega arith) y o b d.1 (no_fault (of_item l f (vi i) (it i) r n) w z v y c s zero-le) ∙ ap (λ (T : Tables). k u l T) d.0)
      t a (bare i t)
      ∙ ap (λ (x : ℕ). numeral (get_or leasts f 0) x (λ v. keep (keeps i v) ▸ parted zero comma ▸ number_row (get_or leasts f 0) lim keeps zero (i + 1)) t l (tables_of n w) k) q.0
  row_ok (suc m) i e w p t a =
      let g : i < N = omega arith in
      let q = limits i w g p in
      number_ok (of_item l f (vi i) (it i) r n) w h low (rw q.0 q.1) _ (tables_of n w) k
      (λ z v u y o b s.
      let s₁ : fits v (get_or leasts f 0) (lim i (tables_of n w)) ≡ true = rw q.0 at s in
      let d = kept i z v w g p s₁ in
      then_sign (of_item l f (vi i) (it i) r n) w z v comma _ _ (λ u₁ m₁ U. number_row (get_or leasts f 0) lim keeps (suc m) (i + 1) u₁ m₁ U k) refl h y
      (no_fault (of_item l f (vi i) (it i) r n) w z v y c s zero-le) (λ x. more i z v x _ (omega arith))
      (λ u₁ b₁. row_ok m (i + 1) (omega arith) _ d.1 u₁ b₁) o b
      ∙ ap (λ (T : Tables). lit (comma ∷ []) u l T (λ u₁ m₁ U. number_row (get_or leasts f 0) lim keeps (suc m) (i + 1) u₁ m₁ U k)) d.0)
      t a (bare i t)
      ∙ ap (λ (x : ℕ). numeral (get_or leasts f 0) x (λ v. keep (keeps i v) ▸ parted (suc m) comma ▸ number_row (get_or leasts f 0) lim keeps (suc m) (i + 1)) t l (tables_of n w) k) q.0
