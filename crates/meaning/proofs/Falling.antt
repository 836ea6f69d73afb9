-- A sequence lowers a map's distance by at most what the map is paid for it, step by step; so it lowers the bound by at most what the maps are paid together.
-- Assumes nothing.
use mathlib.Core.Path.{◌≡◌, ap}
use mathlib.Core.List.{List, [], ◌∷◌}
use Prim.Native.Nat.{ℕ, ◌+◌, ◌<◌}
use native.Mathlib.Omega.{arith}
use Rattle.graph.specs.Cost.{◌⊑◌}
use Rattle.graph.proofs.Costs.{⊑_mono}
use Rattle.meaning.specs.Sas.{State, IsState, after, Runs, end, paid}
use Rattle.meaning.specs.Views.{image}
use Rattle.meaning.specs.Split.{Task, sum, view, Valid}
use Rattle.meaning.specs.Bound.{distance, away, bound}
use Rattle.meaning.proofs.Numbers.{number_same}
use Rattle.meaning.proofs.Space.{after_state}
use Rattle.meaning.proofs.Sums.{summed_falls}
use Rattle.meaning.proofs.Distances.{step_falls}
use Rattle.meaning.proofs.Bounds.{view_onto}

-- states that are the same at the variables are as far away
pub away_same : (T : Task) (s z : State) → ((v : ℕ) → v < T.sas.vars → s v ≡ z v) → (m : ℕ) → away T s m ≡ away T z m
away_same T s z same m =
    ap (distance T.sas (view T m))
    (number_same (view T m).classes (image (view T m) s) (image (view T m) z) T.sas.vars (λ v l. ap (T.class m v) (same v l)))

module _ (T : Task) (ok : Valid T) where
  pub away_falls : (m : ℕ) → m < T.maps → (os : List ℕ) (s : State) → IsState T.sas s → Runs T.sas os s
      → (c : ℕ) → away T (end T.sas os s) m ⊑ c → away T s m ⊑ paid (T.share m) os + c
  away_falls m l [] s h r c d = ⊑_mono (away T s m) c (0 + c) d (omega arith)
  away_falls m l (o ∷ os) s h r c d =
      let later = away_falls m l os (after T.sas o s) (after_state T.sas ok.proper o s r.0 h) r.2 c d in
      let rest = paid (T.share m) os in
      ⊑_mono (away T s m) (T.share m o + (rest + c)) (T.share m o + rest + c)
      (step_falls T.sas (view T m) ok.proper (view_onto T ok m l) o s (rest + c) h r.0 r.1 later)
      (omega arith)

  pub bound_falls : (os : List ℕ) (s : State) → IsState T.sas s → Runs T.sas os s
      → (c : ℕ) → bound T (end T.sas os s) ⊑ c → bound T s ⊑ sum (λ m. paid (T.share m) os) T.maps + c
  bound_falls os s h r =
      summed_falls (away T s) (away T (end T.sas os s)) (λ m. paid (T.share m) os) T.maps (λ m l. away_falls m l os s h r)
