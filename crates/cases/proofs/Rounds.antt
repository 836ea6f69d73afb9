-- Least costs table by table, so that a case computes in a few rounds of its states: the tables hold `least`, and beside them what stands noted, and tests of
-- distances, best steps and rounds go by them. Assumes nothing.
use mathlib.Core.Path.{◌≡◌, sym, ap, ◌∙◌}
use mathlib.Core.Bool.{false, false≢true}
use mathlib.Core.List.{List, [], ◌∷◌}
use Prim.Native.Nat.{ℕ, zero, suc, ◌+◌, ◌-◌, ◌≤◌, ◌<◌}
use native.Mathlib.Nat.{le_refl, not-suc-le-zero, le_of_suc-le-suc}
use native.Mathlib.Omega.{arith}
use lib.ListN.{get_or}
use Rattle.graph.specs.Cost.{Cost, none}
use Rattle.graph.specs.Graph.{Graph, Closed}
use Rattle.graph.specs.Least.{at_goal, best, least, Unchanged, Rounds}
use Rattle.graph.specs.Best.{Advice, halt, IsBestStep}
use Rattle.graph.specs.Noted.{under, choose, chosen, noted}
use Rattle.graph.proofs.Leasts.{least_zero, least_suc}
use Rattle.graph.proofs.Settles.{best_same}
use Rattle.graph.proofs.Noting.{chosen_same, noted_zero, noted_suc}
use Rattle.graph.proofs.Theorems.{distance_of, noted_is_best}
use Rattle.cases.proofs.Tests.{Test, ◌and◌, all, some, into, same?, other?}

-- f i, f (i + 1), .., n of them
abbrev pub listed : {X : Type 0} → (ℕ → X) → ℕ → ℕ → List X
listed f i zero = []
listed f i (suc n) = f i ∷ listed f (suc i) n

listed_from : {X : Type 0} (f : ℕ → X) (z : X) (i n a : ℕ) → a < n → get_or (listed f i n) a z ≡ f (i + a)
listed_from f z i zero a l = absurd (not-suc-le-zero l)
listed_from f z i (suc n) zero l = ap f (omega arith)
listed_from f z i (suc n) (suc a) l = listed_from f z (suc i) n a (le_of_suc-le-suc l) ∙ ap f (omega arith)

listed_at : {X : Type 0} (f : ℕ → X) (z : X) (n a : ℕ) → a < n → get_or (listed f 0 n) a z ≡ f a
listed_at f z n a l = listed_from f z 0 n a l ∙ ap f (omega arith)

-- the table over at most i steps
unfoldable pub table_of : Graph → ℕ → List Cost
table_of G zero = listed (λ a. at_goal (G.goal a)) 0 G.states
table_of G (suc i) =
    let t : List Cost = table_of G i in
    listed (λ a. best G (λ b. get_or t b none) a G.ops) 0 G.states

-- what stands noted after i rounds
unfoldable pub notes_of : Graph → ℕ → List Advice
notes_of G zero = listed (λ a. halt) 0 G.states
notes_of G (suc i) =
    let t : List Cost = table_of G i in
    let u : List Cost = table_of G (suc i) in
    let n : List Advice = notes_of G i in
    listed (λ a. choose (under (get_or u a none) (get_or t a none)) (chosen G (λ b. get_or t b none) a G.ops) (get_or n a halt)) 0 G.states

module _ (G : Graph) (closed : Closed G) where
  pub table_is : (i a : ℕ) → a < G.states → get_or (table_of G i) a none ≡ least G i a
  unfolding table_of
  table_is zero a l = listed_at (λ b. at_goal (G.goal b)) none G.states a l ∙ sym (least_zero G a)
  table_is (suc i) a l =
      listed_at (λ c. best G (λ b. get_or (table_of G i) b none) c G.ops) none G.states a l
      ∙ best_same G closed (λ b. get_or (table_of G i) b none) (least G i) (table_is i) a l G.ops (le_refl G.ops)
      ∙ sym (least_suc G i a)

  notes_are : (i a : ℕ) → a < G.states → get_or (notes_of G i) a halt ≡ noted G i a
  unfolding notes_of
  notes_are zero a l = listed_at (λ b. halt) halt G.states a l ∙ sym (noted_zero G a)
  notes_are (suc i) a l =
      let far : ℕ → Cost = λ b. get_or (table_of G i) b none in
      let further : ℕ → Cost = λ b. get_or (table_of G (suc i)) b none in
      let picked = chosen_same G closed far (least G i) (table_is i) a l G.ops (le_refl G.ops) in
      listed_at (λ c. choose (under (further c) (far c)) (chosen G far c G.ops) (get_or (notes_of G i) c halt)) halt G.states a l
      ∙ (λ j. choose (under (table_is (suc i) a l j) (table_is i a l j)) (picked j) (notes_are i a l j))
      ∙ sym (noted_suc G i a)

  -- as many rounds as there are states note the best steps
  pub notes_best : (a : ℕ) → a < G.states → IsBestStep G a (get_or (notes_of G G.states) a halt)
  notes_best a l = rw (notes_are G.states a l) (noted_is_best G G.states a (distance_of G closed a l))

-- a changed round and an unchanged one, by the tables
abbrev pub Counts : Graph → ℕ → Type 0
Counts G r =
    ((a : ℕ) → a < G.states → get_or (table_of G (suc r)) a none ≡ get_or (table_of G r) a none)
    × ((j : ℕ) → j < r → (a : ℕ) × (a < G.states) × (get_or (table_of G (suc j)) a none ≡ get_or (table_of G j) a none → ⊥))

pub counted : (G : Graph) → Closed G → (r : ℕ) → Counts G r → Rounds G (suc r)
counted G closed r p =
    record {
      positive = omega arith;
      unchanged = λ a l. rw (back r) (sym (table_is G closed (suc r) a l) ∙ p.0 a l ∙ table_is G closed r a l);
      smallest = smallest;
    }
  where
    back : (j : ℕ) → suc j - 1 ≡ j
    back j = omega arith

    smallest : (k : ℕ) → 1 ≤ k → k < suc r → Unchanged G k → ⊥
    smallest zero q l s = not-suc-le-zero q
    smallest (suc j) q l s =
        let t = p.1 j (omega arith) in
        let e : least G (suc j) t.0 ≡ least G j t.0 = rw (back j) at (s t.0 t.1) in
        t.2 (table_is G closed (suc j) t.0 t.1 ∙ e ∙ sym (table_is G closed j t.0 t.1))

-- the count of rounds
abbrev pub rounds? : (G : Graph) (r : ℕ) → Test (Closed G → Rounds G r)
rounds? G zero = record { holds = false; so = λ h. absurd (false≢true h) }
rounds? G (suc r) =
    into (λ p closed. counted G closed r p)
    (all G.states (λ a. same? (get_or (table_of G (suc r)) a none) (get_or (table_of G r) a none))
    and all r (λ j. some G.states (λ a. other? (get_or (table_of G (suc j)) a none) (get_or (table_of G j) a none))))
