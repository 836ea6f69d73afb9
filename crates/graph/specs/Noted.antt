-- The best steps as rounds note them: wherever a state's number falls in a round, the lowest operator that attains the new number. No promise cites this;
-- `rounds_note_best` (proofs/Theorems.antt) takes what stands noted after the counted round to the best step.
use Rattle.std.specs.Prelude.{◌≡◌, Bool, true, false, ℕ, zero, suc, ◌<◌, ltb}
use Rattle.graph.specs.Cost.{Cost, none, fin}
use Rattle.graph.specs.Graph.{Graph}
use Rattle.graph.specs.Least.{via, best, least}
use Rattle.graph.specs.Best.{Advice, halt, take}

-- v is below w, with none above every number
abbrev pub under : Cost → Cost → Bool
under none w = false
under (fin a) none = true
under (fin a) (fin b) = ltb a b

abbrev pub choose : Bool → Advice → Advice → Advice
choose true c d = c
choose false c d = d

-- of the first k operators the one that a loop keeps which changes its choice only for a lower cost
abbrev pub chosen : Graph → (ℕ → Cost) → ℕ → ℕ → Advice
chosen G T a zero = halt
chosen G T a (suc k) = choose (under (via G T a k) (best G T a k)) (take k) (chosen G T a k)

-- what stands noted at a after i rounds
unfoldable pub noted : Graph → ℕ → ℕ → Advice
noted G zero a = halt
noted G (suc i) a = choose (under (least G (suc i) a) (least G i a)) (chosen G (least G i) a G.ops) (noted G i a)

-- operator o attains the number d at a, with what T says of where it leads
pub record Attains (G : Graph) (T : ℕ → Cost) (a d o : ℕ) : Type 0 where
  pub operator : o < G.ops
  pub equal : via G T a o ≡ fin d
