-- The digit run that a text begins with: where it stops, its form, and a number's range; by the tests of its first bytes. Assumes nothing.
use Prim.Native.Nat.{ℕ, suc, ◌≤◌, ◌<◌}
use native.Mathlib.Omega.{arith}
use mathlib.Core.Path.{◌≡◌, refl}
use mathlib.Core.List.{List, [], ◌∷◌}
use mathlib.Core.Bool.{Bool, true, false, cond}
use lib.Dec.{ltb, leb}
use lib.ListN.{drop}
use borrow.Author.Tests.{ltb-true, le-leb, leb-true, eq-eqb, ne_eqb}
use Rattle.grammar.specs.Fields.{is_digit}
use Rattle.grammar.specs.Grammar.{run_len, formed, fits}

-- two answers of one test
pub clash : {A : Type 0} {b : Bool} → b ≡ true → b ≡ false → A
clash p q = let z : ◌≡◌ {A = ℕ} 0 1 = cc in absurd (let n : ⊥ = omega arith in n)

-- two tests, one after the other
pub both_true : (p q : Bool) → cond p q false ≡ true → (p ≡ true) × (q ≡ true)
both_true true q e = (refl, e)
both_true false q e = clash e refl

pub within_both : (v lo lim : ℕ) → fits v lo lim ≡ true → (lo ≤ v) × (v < lim)
unfolding fits
within_both v lo lim e =
    let p = both_true (leb lo v) (ltb v lim) e in
    (leb-true lo v p.0, ltb-true v lim p.1)

-- ---- digits

pub is_digit_lem : (b : ℕ) → 48 ≤ b → b ≤ 57 → is_digit b ≡ true
unfolding is_digit
is_digit_lem b p q = simp (le-leb 48 b p, le-leb b 57 q)

pub digit_both : (b : ℕ) → is_digit b ≡ true → (48 ≤ b) × (b ≤ 57)
unfolding is_digit
digit_both b e =
    let p = both_true (leb 48 b) (leb b 57) e in
    (leb-true 48 b p.0, leb-true b 57 p.1)

-- ---- the run's length

pub run_hit : (b : ℕ) (t : List ℕ) → is_digit b ≡ true → run_len (b ∷ t) ≡ suc (run_len t)
unfolding run_len
run_hit b t e = simp e

pub run_miss : (b : ℕ) (t : List ℕ) → is_digit b ≡ false → run_len (b ∷ t) ≡ 0
unfolding run_len
run_miss b t e = simp e

-- a text that does not begin with a digit
pub data Stop : List ℕ → Type 0 where
  nil : Stop []
  other : {b : ℕ} {t : List ℕ} → is_digit b ≡ false → Stop (b ∷ t)

pub stop_none : {t : List ℕ} → Stop t → run_len t ≡ 0
unfolding run_len
stop_none nil = refl
stop_none (other {b = b} {t = t} e) = run_miss b t e

pub stop_run : (t : List ℕ) → Stop (drop (run_len t) t)
unfolding run_len
stop_run [] = nil
stop_run (b ∷ t) = split (is_digit b) refl (stop_run t)
  where
    split : (q : Bool) → is_digit b ≡ q → Stop (drop (run_len t) t) → Stop (drop (run_len (b ∷ t)) (b ∷ t))
    split true q d = rw (run_hit b t q) d
    split false q d = rw (run_miss b t q) (other q)

-- ---- the run's form

pub formed_nil : formed [] ≡ false
unfolding formed run_len
formed_nil = refl

pub formed_off : (b : ℕ) (t : List ℕ) → is_digit b ≡ false → formed (b ∷ t) ≡ false
unfolding formed
formed_off b t q = rw (run_miss b t q) refl

-- a lone zero, a needless leading zero, any other first digit
pub formed_zero : (b : ℕ) (t : List ℕ) → is_digit b ≡ true → b ≡ 48 → run_len t ≡ 0 → formed (b ∷ t) ≡ true
unfolding formed
formed_zero b t q z r = rw (run_hit b t q, r) (simp (eq-eqb b 48 z))

pub formed_lead : (b : ℕ) (t : List ℕ) (n : ℕ) → is_digit b ≡ true → b ≡ 48 → run_len t ≡ suc n → formed (b ∷ t) ≡ false
unfolding formed
formed_lead b t n q x r =
    rw (run_hit b t q, r) (simp (ne_eqb (suc (suc n)) 0 (λ z. omega arith), eq-eqb b 48 x, ne_eqb (suc (suc n)) 1 (λ z. omega arith)))

pub formed_other : (b : ℕ) (t : List ℕ) → is_digit b ≡ true → (b ≡ 48 → ⊥) → formed (b ∷ t) ≡ true
unfolding formed
formed_other b t q z = rw (run_hit b t q) (simp (ne_eqb b 48 z, ne_eqb (suc (run_len t)) 0 (λ o. omega arith)))
