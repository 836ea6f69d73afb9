-- The summed bound is at most the cost of every sequence to the goal. Assumes nothing.
use mathlib.Core.Path.{◌≡◌, sym, subst}
use mathlib.Core.Logic.{⊎_elim}
use mathlib.Core.List.{List, [], ◌∷◌}
use Prim.Native.Nat.{ℕ, zero, suc, ◌≤◌, ◌<◌}
use native.Mathlib.Nat.{le_of_suc-le-suc, not-suc-le-zero, eq-or-lt_of_le}
use native.Mathlib.Omega.{arith}
use Rattle.graph.specs.Cost.{none, fin, ◌⊑◌}
use Rattle.graph.proofs.Costs.{⊑_mono, ⊑_fin, ⊑_none}
use Rattle.meaning.specs.Sas.{State, Sas, IsState, after, Runs, end, Passes, paid, Proper}
use Rattle.meaning.specs.Limits.{most_cost}
use Rattle.meaning.specs.Views.{abstract_states, Onto}
use Rattle.meaning.specs.Split.{Task, count_of, sum, view, Valid}
use Rattle.meaning.specs.Bound.{distance, away, bound}
use Rattle.meaning.proofs.Space.{after_state}
use Rattle.meaning.proofs.Sums.{sum_add, sum_zero, summed_below, summed_none}
use Rattle.meaning.proofs.Distances.{distance_below, distance_most}

-- ---- the classes of a valid task

count_of_above : (c : ℕ → ℕ) (n x : ℕ) → x < n → c x < count_of c n
count_of_above c zero x l = absurd (not-suc-le-zero l)
count_of_above c (suc n) x l = ⊎_elim
    (λ e. subst (λ (y : ℕ). c y < count_of c (suc n)) (sym e) (omega arith))
    (λ lt. omega (arith, count_of_above c n x lt))
    (eq-or-lt_of_le (le_of_suc-le-suc l))

module _ (T : Task) (ok : Valid T) where
  pub view_onto : (m : ℕ) → m < T.maps → Onto T.sas (view T m)
  view_onto m l = record {
    inside = λ v x lv lx. count_of_above (T.class m v) (T.sas.dom v) x lx;
    none_missing = λ v c lv lc. let t = ok.none_missing m v c l lv lc in (t.0, t.1, omega (arith, t.2));
  }

  -- what the maps are paid for a sequence is at most its cost
  pub paid_split : (os : List ℕ) (s : State) → Runs T.sas os s → sum (λ m. paid (T.share m) os) T.maps ≤ paid T.sas.cost os
  paid_split [] s h = omega (arith, sum_zero T.maps)
  paid_split (o ∷ os) s h = omega (arith, sum_add (λ m. T.share m o) (λ m. paid (T.share m) os) T.maps, ok.split o h.0, paid_split os (after T.sas o s) h.2)

  away_below : (os : List ℕ) (s : State) → IsState T.sas s → Passes T.sas os s → (m : ℕ) → m < T.maps → away T s m ⊑ paid (T.share m) os
  away_below os s h p m l = distance_below T.sas (view T m) ok.proper (view_onto m l) os s h p

  -- where some sequence reaches the goal, every map says a number, at most what the map is paid for it
  pub reached_so_number : (os : List ℕ) (s : State) → IsState T.sas s → Passes T.sas os s
      → (m : ℕ) → m < T.maps → (d : ℕ) × (away T s m ≡ fin d) × (d ≤ paid (T.share m) os)
  reached_so_number os s h p m l = ⊑_fin (away T s m) (paid (T.share m) os) (away_below os s h p m l)

  -- so one map that says none is enough: there is no such sequence
  pub one_none_so_none : (s : State) → IsState T.sas s → (m : ℕ) → m < T.maps → away T s m ≡ none → (os : List ℕ) → Passes T.sas os s → ⊥
  one_none_so_none s h m l e os p = ⊑_none (away T s m) e (paid (T.share m) os) (away_below os s h p m l)

  -- DEMAND 3: the bound is a number at most the cost of every sequence that reaches the goal
  pub admissible : (os : List ℕ) (s : State) → IsState T.sas s → Passes T.sas os s → bound T s ⊑ paid T.sas.cost os
  admissible os s h p =
      let shares : ℕ → ℕ = λ m. paid (T.share m) os in
      ⊑_mono (bound T s) (sum shares T.maps) (paid T.sas.cost os) (summed_below (away T s) shares T.maps (away_below os s h p)) (paid_split os s p.0)

  -- where it says none, there is no such sequence, whichever map said it
  pub none_so_none : (s : State) → IsState T.sas s → bound T s ≡ none → (os : List ℕ) → Passes T.sas os s → ⊥
  none_so_none s h e = let t = summed_none (away T s) T.maps e in one_none_so_none s h t.0 t.1 t.2

  -- the longest distance of document 01
  pub away_most : (m : ℕ) → m < T.maps → (a d : ℕ) → a < abstract_states T.sas (view T m) → distance T.sas (view T m) a ≡ fin d → d ≤ 4095000000
  away_most m l a d i e =
      omega
      (arith, distance_most T.sas (view T m) ok.proper (view_onto m l) most_cost a d (λ o g. ok.shares m o l g) i e, ok.few_states m l)

-- a run stays among the states
pub end_state : (S : Sas) → Proper S → (os : List ℕ) (s : State) → IsState S s → Runs S os s → IsState S (end S os s)
end_state S P [] s h r = h
end_state S P (o ∷ os) s h r = end_state S P os (after S o s) (after_state S P o s r.0 h) r.2
