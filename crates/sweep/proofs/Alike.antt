-- Graphs that agree at their states and operators have the same least costs, rounds and notes; and so have the state spaces of tasks that agree at
-- their variables and operators. Assumes nothing.
use mathlib.Core.Path.{◌≡◌, refl, sym, ap, ap₂, ◌∙◌}
use mathlib.Core.List.{List}
use Prim.Native.Nat.{ℕ, zero, suc, ◌-◌, ◌≤◌, ◌<◌}
use native.Mathlib.Nat.{le_refl}
use native.Mathlib.Omega.{arith}
use lib.ListN.{get_or}
use Rattle.graph.specs.Cost.{Cost, lower, plus}
use Rattle.graph.specs.Graph.{Next, stop, to, Graph}
use Rattle.graph.specs.Least.{at_goal, after_step, via, best, least, Unchanged, Rounds}
use Rattle.graph.specs.Best.{take}
use Rattle.graph.specs.Noted.{under, choose, chosen, noted}
use Rattle.graph.proofs.Leasts.{least_zero, least_suc}
use Rattle.graph.proofs.Noting.{noted_zero, noted_suc}
use Rattle.meaning.specs.Numbering.{digit}
use Rattle.meaning.specs.Sas.{Facts, Sas, put}
use Rattle.meaning.specs.Views.{holds, every, to_if, space}
use Rattle.meaning.proofs.Facts.{every_same}
use Rattle.meaning.proofs.Unread.{size_alike, digit_alike, number_alike}
use Rattle.sweep.specs.Inside.Sweeps.{Made, Counted}

pub record Alike (G H : Graph) : Type 0 where
  pub states : G.states ≡ H.states
  pub ops : G.ops ≡ H.ops
  pub succ : (o a : ℕ) → o < G.ops → G.succ o a ≡ H.succ o a
  pub cost : (o : ℕ) → o < G.ops → G.cost o ≡ H.cost o
  pub goal : (a : ℕ) → G.goal a ≡ H.goal a

after_same : (T U : ℕ → Cost) → ((b : ℕ) → T b ≡ U b) → (s : Next) → after_step T s ≡ after_step U s
after_same T U h stop = refl
after_same T U h (to b) = h b

module _ {G H : Graph} (same : Alike G H) where
  via_alike : (T U : ℕ → Cost) → ((b : ℕ) → T b ≡ U b) → (a k : ℕ) → k < G.ops → via G T a k ≡ via H U a k
  via_alike T U h a k l = ap₂ plus (same.cost k l) (ap (after_step T) (same.succ k a l) ∙ after_same T U h (H.succ k a))

  best_alike : (T U : ℕ → Cost) → ((b : ℕ) → T b ≡ U b) → (a k : ℕ) → k ≤ G.ops → best G T a k ≡ best H U a k
  best_alike T U h a zero l = ap at_goal (same.goal a)
  best_alike T U h a (suc k) l = ap₂ lower (best_alike T U h a k (omega arith)) (via_alike T U h a k l)

  chosen_alike : (T U : ℕ → Cost) → ((b : ℕ) → T b ≡ U b) → (a k : ℕ) → k ≤ G.ops → chosen G T a k ≡ chosen H U a k
  chosen_alike T U h a zero l = refl
  chosen_alike T U h a (suc k) l =
      ap₂ (λ b c. choose b (take k) c) (ap₂ under (via_alike T U h a k l) (best_alike T U h a k (omega arith))) (chosen_alike T U h a k (omega arith))

  pub least_alike : (i a : ℕ) → least G i a ≡ least H i a
  least_alike zero a = least_zero G a ∙ ap at_goal (same.goal a) ∙ sym (least_zero H a)
  least_alike (suc i) a =
      least_suc G i a ∙ best_alike (least G i) (least H i) (least_alike i) a G.ops (le_refl G.ops)
      ∙ ap (best H (least H i) a) same.ops ∙ sym (least_suc H i a)

  noted_alike : (i a : ℕ) → noted G i a ≡ noted H i a
  noted_alike zero a = noted_zero G a ∙ sym (noted_zero H a)
  noted_alike (suc i) a =
      let now = least_alike (suc i) a in
      let before = least_alike i a in
      let pick = chosen_alike (least G i) (least H i) (least_alike i) a G.ops (le_refl G.ops) ∙ ap (chosen H (least H i) a) same.ops in
      let noted = noted_alike i a in
      noted_suc G i a ∙ (λ j. choose (under (now j) (before j)) (pick j) (noted j)) ∙ sym (noted_suc H i a)

  unchanged_to : (i : ℕ) → Unchanged G i → Unchanged H i
  unchanged_to i u a l = sym (least_alike i a) ∙ u a (rw same.states l) ∙ least_alike (i - 1) a

  unchanged_from : (i : ℕ) → Unchanged H i → Unchanged G i
  unchanged_from i u a l = least_alike i a ∙ u a (rw same.states at l) ∙ sym (least_alike (i - 1) a)

  pub rounds_alike : (r : ℕ) → Rounds G r → Rounds H r
  rounds_alike r R =
      record {
        positive = R.positive;
        unchanged = unchanged_to r R.unchanged;
        smallest = λ i p l u. R.smallest i p l (unchanged_from i u);
      }

  made_alike : {P Q : ℕ → ℕ → Type 0} {t₀ t : List ℕ} → ((a x : ℕ) → P a x → Q a x) → Made P G.states t₀ t → Made Q H.states t₀ t
  made_alike {t = t} f m =
      record {
        size = m.size;
        made = λ a l. f a (get_or t a 0) (m.made a (rw same.states l));
        kept = λ a l. m.kept a (rw same.states l);
      }

  pub counted_alike : {t₀ t b₀ b : List ℕ} {r : ℕ} → Counted G t₀ t b₀ b r → Counted H t₀ t b₀ b r
  counted_alike {r = r} c =
      record {
        rounds = rounds_alike r c.rounds;
        table = made_alike (λ a x e. e ∙ least_alike r a) c.table;
        notes = made_alike (λ a x e. e ∙ noted_alike r a) c.notes;
      }

-- ---- tasks

-- the task S with other tables
abbrev pub retabled : Sas → (ℕ → ℕ) → Facts → Facts → (ℕ → Facts) → (ℕ → Facts) → (ℕ → ℕ) → Sas
retabled S dom init goal pre eff cost =
    record { vars = S.vars; dom = dom; init = init; goal = goal; ops = S.ops; cost = cost; pre = pre; eff = eff }

module _ (S : Sas) (dom : ℕ → ℕ) (init goal : Facts) (pre eff : ℕ → Facts) (cost : ℕ → ℕ)
    (doms : (v : ℕ) → v < S.vars → S.dom v ≡ dom v) (goals : (v : ℕ) → v < S.vars → S.goal v ≡ goal v)
    (pres : (o v : ℕ) → o < S.ops → v < S.vars → S.pre o v ≡ pre o v)
    (effs : (o v : ℕ) → o < S.ops → v < S.vars → S.eff o v ≡ eff o v)
    (costs : (o : ℕ) → o < S.ops → S.cost o ≡ cost o) where
  at : (a v : ℕ) → v < S.vars → digit S.dom a v ≡ digit dom a v
  at a v l = digit_alike S.dom dom S.vars doms a v l

  complies_alike : (F F' : Facts) → ((v : ℕ) → v < S.vars → F v ≡ F' v) → (a : ℕ)
      → every (λ v. holds (F v) (digit S.dom a v)) S.vars ≡ every (λ v. holds (F' v) (digit dom a v)) S.vars
  complies_alike F F' h a =
      every_same (λ v. holds (F v) (digit S.dom a v)) (λ v. holds (F' v) (digit dom a v)) S.vars (λ v l. ap₂ holds (h v l) (at a v l))

  pub spaces_alike : Alike (space S) (space (retabled S dom init goal pre eff cost))
  spaces_alike =
      record {
        states = size_alike S.dom dom S.vars doms;
        ops = refl;
        succ =
            λ o a lo.
            ap₂ to_if (complies_alike (S.pre o) (pre o) (λ v l. pres o v lo l) a)
            (number_alike S.dom dom (λ v. put (S.eff o v) (digit S.dom a v)) (λ v. put (eff o v) (digit dom a v)) S.vars doms
            (λ v l. ap₂ put (effs o v lo l) (at a v l)));
        cost = costs;
        goal = λ a. complies_alike S.goal goal goals a;
      }
