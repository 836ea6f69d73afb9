-- Laws of a walk that sets one place after the other. Assumes nothing.
use mathlib.Core.Path.{◌≡◌, refl, sym, ◌∙◌, subst}
use mathlib.Core.List.{List}
use Prim.Native.Nat.{ℕ, ◌+◌, ◌≤◌, ◌<◌}
use native.Mathlib.Nat.{not-suc-le-zero}
use native.Mathlib.Omega.{arith}
use borrow.Author.Count.{below_more}
use lib.ListN.{length, get_or, set, length-set}
use lib.Seq.{get_or-set_same, get_or-set_other}
use Rattle.sweep.specs.Inside.Sweeps.{Made}

module _ {P : ℕ → ℕ → Type 0} {t₀ : List ℕ} where
  pub made_none : Made P 0 t₀ t₀
  made_none = record { size = refl; made = λ a l. absurd (not-suc-le-zero l); kept = λ a l. refl }

  module _ {k : ℕ} {t : List ℕ} (s : Made P k t₀ t) where
    pub made_more : {v : ℕ} → k < length t → P k v → Made P (k + 1) t₀ (set t k v)
    made_more {v = v} l p =
        record {
          size = length-set t k v ∙ s.size;
          made =
              below_more (λ a. P a (get_or (set t k v) a 0)) k
              (λ a h. subst (P a) (sym (get_or-set_other t k a v 0 (omega arith))) (s.made a h))
              (subst (P k) (sym (get_or-set_same t k v 0 l)) p);
          kept = λ a h. get_or-set_other t k a v 0 (omega arith) ∙ s.kept a (omega arith);
        }

    -- at the end of the walk
    pub made_end : {n : ℕ} → k ≤ n → n ≤ k → Made P n t₀ t
    made_end {n = n} h g = let e : k ≡ n = omega arith in subst (λ (x : ℕ). Made P x t₀ t) e s
