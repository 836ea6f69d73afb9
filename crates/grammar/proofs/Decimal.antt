-- Decimal text: a number's digits are a well-formed run that reads back as the number, and a well-formed run is the digits of its value.
-- By induction on the digits, the last one first. Assumes nothing.
use Prim.Native.Nat.{ℕ, zero, suc, ◌+◌, ◌-◌, ◌*◌, ◌/◌, ◌%◌, ◌≤◌, ◌<◌}
use native.Mathlib.Omega.{arith}
use mathlib.Core.Path.{◌≡◌, refl, sym, ap, ◌∙◌}
use mathlib.Core.List.{List, [], ◌∷◌, ◌++◌, append_assoc, append-nil}
use mathlib.Core.Bool.{Bool, true, false, cond}
use lib.Dec.{ltb, eqb}
use lib.ListN.{take, drop, length, take-append-drop}
use lib.Seq.{take_at, drop_at}
use borrow.Author.Tests.{lt-ltb, le-ltb, ltb-true, ltb-false, ne_eqb, eqb-true, eqb-false}
use Rattle.grammar.specs.Fields.{is_digit}
use Rattle.grammar.specs.Grammar.{decimal, run_len, formed}
use Rattle.grammar.specs.Spelling.{last_digits, digits}
use Rattle.grammar.proofs.Runs.{clash, is_digit_lem, digit_both, run_hit, run_miss, Stop, nil, stop_none, formed_off, formed_zero, formed_lead}

-- ---- the digits of a number

pub few : (n v : ℕ) → v < 10 → last_digits (suc n) v ≡ (48 + v) ∷ []
unfolding last_digits
few n v h = simp (lt-ltb v 10 h)

pub many : (n v : ℕ) → 10 ≤ v → last_digits (suc n) v ≡ last_digits n (v / 10) ++ ((48 + v % 10) ∷ [])
unfolding last_digits
many n v h = simp (le-ltb v 10 h)

-- more room changes nothing
same_digits : (n m v : ℕ) → v < n → v < m → last_digits n v ≡ last_digits m v
same_digits zero m v h k = absurd (let z : ⊥ = omega arith in z)
same_digits (suc n) zero v h k = absurd (let z : ⊥ = omega arith in z)
same_digits (suc n) (suc m) v h k = split (ltb v 10) refl (same_digits n m (v / 10))
  where
    split : (q : Bool) → ltb v 10 ≡ q → (v / 10 < n → v / 10 < m → last_digits n (v / 10) ≡ last_digits m (v / 10)) → last_digits (suc n) v ≡ last_digits (suc m) v
    split true q i = few n v (ltb-true v 10 q) ∙ sym (few m v (ltb-true v 10 q))
    split false q i =
        let g = ltb-false v 10 q in
        many n v g ∙ ap (λ (x : List ℕ). x ++ ((48 + v % 10) ∷ [])) (i (omega arith) (omega arith)) ∙ sym (many m v g)

-- one digit more
pub digits_more : (v d : ℕ) → 1 ≤ v → d ≤ 9 → digits v ++ ((48 + d) ∷ []) ≡ digits (10 * v + d)
unfolding digits
digits_more v d a b =
    let q : (10 * v + d) / 10 ≡ v = omega arith in
    let r : (10 * v + d) % 10 ≡ d = omega arith in
    ap (λ (x : List ℕ). x ++ ((48 + d) ∷ [])) (same_digits (suc v) (10 * v + d) v (omega arith) (omega arith))
    ∙ sym (many (10 * v + d) (10 * v + d) (omega arith) ∙ rw (q, r))

-- bytes that are digits, every one
pub data Digits : List ℕ → Type 0 where
  none : Digits []
  more : {b : ℕ} {t : List ℕ} → 48 ≤ b → b ≤ 57 → Digits t → Digits (b ∷ t)

-- digits after the digits of a number above 0 are the digits of the value they give
digits_run : {t : List ℕ} → Digits t → (v : ℕ) → 1 ≤ v → digits v ++ t ≡ digits (decimal v t)
unfolding decimal
digits_run none v a = append-nil (digits v)
digits_run (more {b = b} {t = t} p q d) v a =
    let e : b ≡ 48 + (b - 48) = omega arith in
    sym (append_assoc (digits v) (b ∷ []) t)
    ∙ ap (λ (x : ℕ). (digits v ++ (x ∷ [])) ++ t) e
    ∙ ap (λ (x : List ℕ). x ++ t) (digits_more v (b - 48) a (omega arith))
    ∙ digits_run d (10 * v + (b - 48)) (omega arith)

-- the digits of a one_digit number
pub one_digit : (v : ℕ) → v < 10 → digits v ≡ (48 + v) ∷ []
unfolding digits
one_digit v h = few v v h

lead_above : (b : ℕ) → 48 ≤ b → (b ≡ 48 → ⊥) → 1 ≤ 10 * 0 + (b - 48)
lead_above b p z = omega arith

-- a run that does not start with 0 is the digits of its value
digits_of : {b : ℕ} {t : List ℕ} → Digits (b ∷ t) → (b ≡ 48 → ⊥) → b ∷ t ≡ digits (decimal 0 (b ∷ t))
unfolding decimal
digits_of (more {b = b} {t = t} p q d) z =
    let e : b ≡ 48 + (10 * 0 + (b - 48)) = omega arith in
    ap (λ (x : ℕ). x ∷ t) e
    ∙ ap (λ (x : List ℕ). x ++ t) (sym (one_digit (10 * 0 + (b - 48)) (omega arith)))
    ∙ digits_run d (10 * 0 + (b - 48)) (lead_above b p z)

value_snoc : (t : List ℕ) (v b : ℕ) → decimal v (t ++ (b ∷ [])) ≡ 10 * decimal v t + (b - 48)
unfolding decimal
value_snoc [] v b = refl
value_snoc (x ∷ t) v b = value_snoc t (10 * v + (x - 48)) b

-- the value of a number's digits is the number
value_last : (n v : ℕ) → v < n → decimal 0 (last_digits n v) ≡ v
unfolding decimal
value_last zero v h = absurd (let z : ⊥ = omega arith in z)
value_last (suc n) v h = split (ltb v 10) refl (value_last n (v / 10))
  where
    split : (q : Bool) → ltb v 10 ≡ q → (v / 10 < n → decimal 0 (last_digits n (v / 10)) ≡ v / 10) → decimal 0 (last_digits (suc n) v) ≡ v
    split true q i = rw (few n v (ltb-true v 10 q)) (omega arith)
    split false q i =
        let g = ltb-false v 10 q in
        let r = i (omega arith) in
        rw (many n v g) (value_snoc (last_digits n (v / 10)) 0 (48 + v % 10) ∙ omega arith)

pub value_digits : (v : ℕ) → decimal 0 (digits v) ≡ v
unfolding digits
value_digits v = value_last (suc v) v (omega arith)

digits_snoc : {t : List ℕ} {b : ℕ} → Digits t → 48 ≤ b → b ≤ 57 → Digits (t ++ (b ∷ []))
digits_snoc none p q = more p q none
digits_snoc (more x y d) p q = more x y (digits_snoc d p q)

last_are_digits : (n v : ℕ) → Digits (last_digits n v)
unfolding last_digits
last_are_digits zero v = none
last_are_digits (suc n) v = split (ltb v 10) refl (last_are_digits n (v / 10))
  where
    split : (q : Bool) → ltb v 10 ≡ q → Digits (last_digits n (v / 10)) → Digits (cond q ((48 + v) ∷ []) (last_digits n (v / 10) ++ ((48 + v % 10) ∷ [])))
    split true q d = let h = ltb-true v 10 q in more {b = 48 + v} (omega arith) (omega arith) none
    split false q d = digits_snoc d (omega arith) (omega arith)

pub are_digits : (v : ℕ) → Digits (digits v)
unfolding digits
are_digits v = last_are_digits (suc v) v

-- ---- the run that a text begins with

run_digits : {t u : List ℕ} → Digits t → Stop u → run_len (t ++ u) ≡ length t
unfolding run_len
run_digits none s = stop_none s
run_digits {u = u} (more {b = b} {t = t} p q d) s = run_hit b (t ++ u) (is_digit_lem b p q) ∙ ap suc (run_digits d s)

-- the first digit of a number above 0 is not 0
data Lead : List ℕ → Type 0 where
  lead : {b : ℕ} {t : List ℕ} → (b ≡ 48 → ⊥) → Lead (b ∷ t)

lead_append : {t : List ℕ} (u : List ℕ) → Lead t → Lead (t ++ u)
lead_append u (lead z) = lead z

lead_digits : (n v : ℕ) → 1 ≤ v → v < n → Lead (last_digits n v)
lead_digits zero v a h = absurd (let z : ⊥ = omega arith in z)
lead_digits (suc n) v a h = split (ltb v 10) refl (lead_digits n (v / 10))
  where
    split : (q : Bool) → ltb v 10 ≡ q → (1 ≤ v / 10 → v / 10 < n → Lead (last_digits n (v / 10))) → Lead (last_digits (suc n) v)
    split true q i = rw (few n v (ltb-true v 10 q)) (lead {b = 48 + v} (λ z. omega arith))
    split false q i =
        let g = ltb-false v 10 q in
        rw (many n v g) (lead_append ((48 + v % 10) ∷ []) (i (omega arith) (omega arith)))

formed_led : {t : List ℕ} → Lead t → (run_len t ≡ 0 → ⊥) → formed t ≡ true
unfolding formed
formed_led (lead {b = b} {t = t} z) h = simp (ne_eqb (run_len (b ∷ t)) 0 h, ne_eqb b 48 z)

lead_length : {t : List ℕ} → Lead t → length t ≡ 0 → ⊥
lead_length (lead z) e = omega arith

-- a number's digits are well formed
formed_digits : (v : ℕ) (u : List ℕ) → Stop u → formed (digits v ++ u) ≡ true
unfolding digits
formed_digits v u s = split (eqb v 0) refl
  where
    split : (q : Bool) → eqb v 0 ≡ q → formed (last_digits (suc v) v ++ u) ≡ true
    split true q =
        let e : v ≡ 0 = eqb-true v 0 q in
        rw (few v v (omega arith)) (formed_zero (48 + v) u (is_digit_lem (48 + v) (omega arith) (omega arith)) (omega arith) (stop_none s))
    split false q =
        let e : v ≡ 0 → ⊥ = eqb-false v 0 q in
        let d : Lead (last_digits (suc v) v) = lead_digits (suc v) v (omega arith) (omega arith) in
        formed_led (lead_append u d) (λ z. lead_length d (sym (run_digits (last_are_digits (suc v) v) s) ∙ z))

-- the digits of v, at a text's front, with no digit after them: their run, its value, its form and what is left
pub record Reads (v : ℕ) (t u : List ℕ) : Type 0 where
  pub form : formed t ≡ true
  pub says : decimal 0 (take (run_len t) t) ≡ v
  pub rest : drop (run_len t) t ≡ u

pub digits_read : (v : ℕ) (u : List ℕ) → Stop u → Reads v (digits v ++ u) u
digits_read v u s =
    let n : run_len (digits v ++ u) ≡ length (digits v) = run_digits (are_digits v) s in
    record {
      form = formed_digits v u s;
      says = ap (λ (x : List ℕ). decimal 0 x) (take_at (digits v) u _ (sym n)) ∙ value_digits v;
      rest = drop_at (digits v) u _ (sym n);
    }

-- a number's text begins with a digit
pub data Head : List ℕ → Type 0 where
  head : {b : ℕ} {t : List ℕ} → 48 ≤ b → b ≤ 57 → Head (b ∷ t)

head_of : {t : List ℕ} → Digits t → formed (t ++ []) ≡ true → Head t
unfolding formed run_len
head_of none e = clash e refl
head_of (more p q d) e = head p q

pub digits_head : (v : ℕ) → Head (digits v)
digits_head v = head_of (are_digits v) (formed_digits v [] nil)

-- ---- a well-formed run is the digits of its value

are_run : (t : List ℕ) → Digits (take (run_len t) t)
unfolding run_len
are_run [] = none
are_run (b ∷ t) = split (is_digit b) refl (are_run t)
  where
    split : (q : Bool) → is_digit b ≡ q → Digits (take (run_len t) t) → Digits (take (run_len (b ∷ t)) (b ∷ t))
    split true q d = rw (run_hit b t q) (more (digit_both b q).0 (digit_both b q).1 d)
    split false q d = rw (run_miss b t q) none

lone : (b : ℕ) (t : List ℕ) → formed (b ∷ t) ≡ true → is_digit b ≡ true → b ≡ 48 → run_len t ≡ 0
lone b t e q x = go (run_len t) refl
  where
    go : (n : ℕ) → run_len t ≡ n → run_len t ≡ 0
    go zero r = r
    go (suc n) r = clash e (formed_lead b t n q x r)

lone_text : (b : ℕ) → b ≡ 48 → b ∷ [] ≡ digits (decimal 0 (b ∷ []))
unfolding decimal
lone_text b x =
    let y : 10 * 0 + (b - 48) ≡ 0 = omega arith in
    ap (λ (k : ℕ). k ∷ []) x ∙ sym (ap (λ (k : ℕ). digits k) y ∙ one_digit 0 (omega arith))

run_text : (t : List ℕ) → formed t ≡ true → take (run_len t) t ≡ digits (decimal 0 (take (run_len t) t))
unfolding formed run_len
run_text [] e = clash e refl
run_text (b ∷ t) e = split (is_digit b) (eqb b 48) refl refl e
  where
    split : (q z : Bool) → is_digit b ≡ q → eqb b 48 ≡ z → formed (b ∷ t) ≡ true → take (run_len (b ∷ t)) (b ∷ t) ≡ digits (decimal 0 (take (run_len (b ∷ t)) (b ∷ t)))
    split true false q z e = rw (run_hit b t q) (digits_of (more (digit_both b q).0 (digit_both b q).1 (are_run t)) (eqb-false b 48 z))
    split true true q z e = let x : b ≡ 48 = eqb-true b 48 z in rw (run_hit b t q, lone b t e q x) (lone_text b x)
    split false z q y e = clash e (formed_off b t q)

-- a text that begins with a well-formed run begins with the digits of its value
pub digits_back : (t : List ℕ) → formed t ≡ true → t ≡ digits (decimal 0 (take (run_len t) t)) ++ drop (run_len t) t
digits_back t e =
    sym (take-append-drop (run_len t) t) ∙ ap (λ (x : List ℕ). x ++ drop (run_len t) t) (run_text t e)
