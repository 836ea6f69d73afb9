-- Graphs that agree at their states and operators; such are the state spaces of tasks that agree at their variables and operators. Assumes nothing.
use mathlib.Core.Path.{◌≡◌, refl, ap₂}
use mathlib.Core.List.{List}
use Prim.Native.Nat.{ℕ, ◌<◌}
use lib.ListN.{get_or}
use Rattle.graph.specs.Graph.{Graph}
use Rattle.meaning.specs.Numbering.{digit}
use Rattle.meaning.specs.Sas.{Facts, Sas, put}
use Rattle.meaning.specs.Views.{holds, every, to_if, space}
use Rattle.meaning.proofs.Facts.{every_same}
use Rattle.meaning.proofs.Unread.{size_alike, digit_alike, number_alike}
use Rattle.maps.specs.Inside.Made.{Made}

pub record Alike (G H : Graph) : Type 0 where
  pub states : G.states ≡ H.states
  pub ops : G.ops ≡ H.ops
  pub succ : (o a : ℕ) → o < G.ops → G.succ o a ≡ H.succ o a
  pub cost : (o : ℕ) → o < G.ops → G.cost o ≡ H.cost o
  pub goal : (a : ℕ) → G.goal a ≡ H.goal a

module _ {G H : Graph} (same : Alike G H) where
  pub made_alike : {P Q : ℕ → ℕ → Type 0} {t₀ t : List ℕ} → ((a x : ℕ) → P a x → Q a x) → Made P G.states t₀ t → Made Q H.states t₀ t
  made_alike {t = t} f m =
      record {
        size = m.size;
        made = λ a l. f a (get_or t a 0) (m.made a (rw same.states l));
        kept = λ a l. m.kept a (rw same.states l);
      }

-- ---- tasks

-- the task S with other tables
abbrev pub retabled : Sas → (ℕ → ℕ) → Facts → Facts → (ℕ → Facts) → (ℕ → Facts) → (ℕ → ℕ) → Sas
retabled S dom init goal pre eff cost =
    record { vars = S.vars; dom = dom; init = init; goal = goal; ops = S.ops; cost = cost; pre = pre; eff = eff }

module _ (S : Sas) (dom : ℕ → ℕ) (init goal : Facts) (pre eff : ℕ → Facts) (cost : ℕ → ℕ)
    (doms : (v : ℕ) → v < S.vars → S.dom v ≡ dom v) (goals : (v : ℕ) → v < S.vars → S.goal v ≡ goal v)
    (pres : (o v : ℕ) → o < S.ops → v < S.vars → S.pre o v ≡ pre o v)
    (effs : (o v : ℕ) → o < S.ops → v < S.vars → S.eff o v ≡ eff o v)
    (costs : (o : ℕ) → o < S.ops → S.cost o ≡ cost o) where
  at : (a v : ℕ) → v < S.vars → digit S.dom a v ≡ digit dom a v
  at a v l = digit_alike S.dom dom S.vars doms a v l

  complies_alike : (F F' : Facts) → ((v : ℕ) → v < S.vars → F v ≡ F' v) → (a : ℕ)
      → every (λ v. holds (F v) (digit S.dom a v)) S.vars ≡ every (λ v. holds (F' v) (digit dom a v)) S.vars
  complies_alike F F' h a =
      every_same (λ v. holds (F v) (digit S.dom a v)) (λ v. holds (F' v) (digit dom a v)) S.vars (λ v l. ap₂ holds (h v l) (at a v l))

  pub spaces_alike : Alike (space S) (space (retabled S dom init goal pre eff cost))
  spaces_alike =
      record {
        states = size_alike S.dom dom S.vars doms;
        ops = refl;
        succ =
            λ o a lo.
            ap₂ to_if (complies_alike (S.pre o) (pre o) (λ v l. pres o v lo l) a)
            (number_alike S.dom dom (λ v. put (S.eff o v) (digit S.dom a v)) (λ v. put (eff o v) (digit dom a v)) S.vars doms
            (λ v l. ap₂ put (effs o v lo l) (at a v l)));
        cost = costs;
        goal = λ a. complies_alike S.goal goal goals a;
      }
