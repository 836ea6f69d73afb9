-- Laws of numbers by their digits, for any radices: one number for each list of digits and one list for each number. Assumes nothing.
use mathlib.Core.Path.{◌≡◌, refl, sym, ap, ap₂, ◌∙◌, subst}
use mathlib.Core.Logic.{⊎_elim}
use Prim.Native.Nat.{ℕ, zero, suc, ◌+◌, ◌*◌, ◌/◌, ◌%◌, ◌<◌}
use native.Mathlib.Nat.{le_refl, le_of_suc-le-suc, not-suc-le-zero, eq-or-lt_of_le, mul-le-mul_right, mul_assoc, mul-one, mod-lt}
use native.Mathlib.Nat.{mod-eq_of_lt, mod-one, div-add-mod', div-eq_of_lt, add-mul-div_right, add-mul-mod_self_right, mul-add-mod_self_right}
use native.Mathlib.Omega.{arith}
use Rattle.meaning.specs.Numbering.{size, number, digit, Positive, Digits}

module _ (r : ℕ → ℕ) where
  -- of two digits the one at position 0 changes fastest
  pub first_fastest : (d : ℕ → ℕ) → number r d 2 ≡ d 0 + r 0 * d 1
  first_fastest d = omega arith

  -- a digit more adds it times the product of the radices before it
  number_more : (d : ℕ → ℕ) (k : ℕ) → number r d (suc k) ≡ number r d k + d k * size r k
  number_more d k = omega arith

  fewer : (k : ℕ) → Positive r (suc k) → Positive r k
  fewer k p v l = p v (omega arith)

  pub size_pos : (k : ℕ) → Positive r k → 0 < size r k
  size_pos zero p = le_refl 1
  size_pos (suc k) p = omega (arith, mul-le-mul_right (size r k) (p k (le_refl (suc k))), size_pos k (fewer k p))

  -- the stride of place v and its radix divide every later stride
  pub size_split : (v k : ℕ) → v < k → (q : ℕ) × (size r k ≡ size r v * r v * q)
  size_split v zero l = absurd (not-suc-le-zero l)
  size_split v (suc k) l = ⊎_elim
      (λ e. (1, subst (λ (x : ℕ). size r (suc k) ≡ size r x * r x * 1) (sym e) (sym (mul-one (size r k * r k)))))
      (λ lt. let t = size_split v k lt in (t.0 * r k, ap (λ (x : ℕ). x * r k) t.1 ∙ mul_assoc (size r v * r v) t.0 (r k)))
      (eq-or-lt_of_le (le_of_suc-le-suc l))

  -- a number with k digits is below the product of the radices
  pub number_below : (d : ℕ → ℕ) (k : ℕ) → Digits r d k → number r d k < size r k
  number_below d zero h = le_refl 1
  number_below d (suc k) h = omega (arith, number_below d k (λ v l. h v (omega arith)), mul-le-mul_right (size r k) (h k (le_refl (suc k))))

  -- numbers with the same digits are the same
  pub number_same : (d e : ℕ → ℕ) (k : ℕ) → ((v : ℕ) → v < k → d v ≡ e v) → number r d k ≡ number r e k
  number_same d e zero h = refl
  number_same d e (suc k) h =
      number_more d k ∙ ap₂ (λ x y. x + y * size r k) (number_same d e k (λ v l. h v (omega arith))) (h k (le_refl (suc k))) ∙ sym (number_more e k)

-- the remainder by a product
mod_mul : (a s r : ℕ) → 0 < s → 0 < r → a % (s * r) ≡ a % s + a / s % r * s
mod_mul a s r p q =
    let x = a / s in
    let y : ℕ = a % s + x % r * s in
    let e : a ≡ x / r * (s * r) + y = omega (arith, div-add-mod' a s, ap (λ (z : ℕ). z * s) (div-add-mod' x r)) in
    let l : y < s * r = omega (arith, mod-lt a p, mul-le-mul_right s (mod-lt x q)) in
    ap (λ (z : ℕ). z % (s * r)) e ∙ mul-add-mod_self_right (x / r) (s * r) y ∙ mod-eq_of_lt l

-- a multiple of the stride and radix of a place doesn't touch its digit
digit_more : (a b s r q : ℕ) → 0 < s → (a + b * (s * r * q)) / s % r ≡ a / s % r
digit_more a b s r q p =
    let e : a + b * (s * r * q) ≡ a + b * q * r * s = omega arith in
    ap (λ (z : ℕ). z / s % r) e ∙ ap (λ (z : ℕ). z % r) (add-mul-div_right a (b * q * r) p) ∙ add-mul-mod_self_right (a / s) (b * q) r

digit_top : (a b s r : ℕ) → a < s → b < r → (a + b * s) / s % r ≡ b
digit_top a b s r l h =
    let e : (a + b * s) / s ≡ b = add-mul-div_right a b (let z : 0 < s = omega arith in z) ∙ (let z : a / s + b ≡ b = omega (arith, div-eq_of_lt l) in z) in
    ap (λ (z : ℕ). z % r) e ∙ mod-eq_of_lt h

module _ (r : ℕ → ℕ) where
  -- the digits of the number with the digits d are d
  pub digit_number : (d : ℕ → ℕ) (k : ℕ) → Digits r d k → (v : ℕ) → v < k → digit r (number r d k) v ≡ d v
  digit_number d zero h v l = absurd (not-suc-le-zero l)
  digit_number d (suc k) h v l = rw (number_more r d k) (⊎_elim
      (λ e. subst (λ (x : ℕ). digit r (number r d k + d k * size r k) x ≡ d x) (sym e) (digit_top (number r d k) (d k) (size r k) (r k) (number_below r d k below) (h k (le_refl (suc k)))))
      (λ lt.
      let t = size_split r v k lt in
      let p : 0 < size r v = size_pos r v (λ u g. let z : d u < r u = h u (omega arith) in omega arith) in
      ap (λ (z : ℕ). (number r d k + d k * z) / size r v % r v) t.1
      ∙ digit_more (number r d k) (d k) (size r v) (r v) t.0 p
      ∙ digit_number d k below v lt)
      (eq-or-lt_of_le (le_of_suc-le-suc l)))
    where
      below : Digits r d k
      below u g = h u (omega arith)

  number_digits_mod : (a k : ℕ) → Positive r k → number r (digit r a) k ≡ a % size r k
  number_digits_mod a zero p = sym (mod-one a)
  number_digits_mod a (suc k) p =
      number_more r (digit r a) k
      ∙ ap (λ (z : ℕ). z + digit r a k * size r k) (number_digits_mod a k (fewer r k p))
      ∙ sym (mod_mul a (size r k) (r k) (size_pos r k (fewer r k p)) (p k (le_refl (suc k))))

  -- the number with the digits of a is a
  pub number_digits : (a k : ℕ) → Positive r k → a < size r k → number r (digit r a) k ≡ a
  number_digits a k p l = number_digits_mod a k p ∙ mod-eq_of_lt l

  pub digit_below : (a k : ℕ) → Positive r k → Digits r (digit r a) k
  digit_below a k p v l = mod-lt (a / size r v) (p v l)

  -- one number has one list of digits
  pub digits_same : (d e : ℕ → ℕ) (k : ℕ) → Digits r d k → Digits r e k → number r d k ≡ number r e k → (v : ℕ) → v < k → d v ≡ e v
  digits_same d e k h g q v l = sym (digit_number d k h v l) ∙ ap (λ (x : ℕ). digit r x v) q ∙ digit_number e k g v l

  -- another digit at one place moves the number by the stride of that place
  pub number_change : (d e : ℕ → ℕ) (k w : ℕ) → w < k → ((v : ℕ) → v < k → (v ≡ w → ⊥) → e v ≡ d v)
      → number r e k + d w * size r w ≡ number r d k + e w * size r w
  number_change d e zero w l h = absurd (not-suc-le-zero l)
  number_change d e (suc k) w l h = ⊎_elim
      (λ q.
      let t : number r e k ≡ number r d k = number_same r e d k (λ v g. h v (omega arith) (omega arith)) in
      subst (λ (x : ℕ). number r e (suc k) + d x * size r x ≡ number r d (suc k) + e x * size r x) (sym q) (omega arith))
      (λ lt.
      let t = number_change d e k w lt (λ v g ne. h v (omega arith) ne) in
      let u : e k * size r k ≡ d k * size r k = ap (λ (x : ℕ). x * size r k) (h k (le_refl (suc k)) (omega arith)) in
      omega arith)
      (eq-or-lt_of_le (le_of_suc-le-suc l))
