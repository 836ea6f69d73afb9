-- Graphs that are alike have the same distances and the same best steps. Assumes nothing.
use mathlib.Core.Path.{◌≡◌, refl, sym, ap₂, ◌∙◌, subst}
use mathlib.Core.Logic.{inl, inr, ⊎_elim}
use mathlib.Core.List.{List, [], ◌∷◌}
use Prim.Native.Nat.{ℕ, ◌+◌}
use native.Mathlib.Omega.{arith}
use Rattle.graph.specs.Cost.{Cost, ◌⊑◌}
use Rattle.graph.specs.Graph.{Graph, Leads, total, IsDistance}
use Rattle.graph.specs.Best.{Advice, halt, take, Cheapest, IsBestStep}
use Rattle.graph.proofs.Cheapests.{step_leads, leads_step}
use Rattle.maps.specs.Said.{said, advised}
use Rattle.maps.proofs.Alike.{Alike, made_alike}
use Rattle.quick.specs.Inside.Answers.{Distances, BestSteps}

alike_sym : {G H : Graph} → Alike G H → Alike H G
alike_sym A =
    record {
      states = sym A.states;
      ops = sym A.ops;
      succ = λ o a l. sym (A.succ o a (omega (arith, A.ops)));
      cost = λ o l. sym (A.cost o (omega (arith, A.ops)));
      goal = λ a. sym (A.goal a);
    }

module _ {G H : Graph} (A : Alike G H) where
  leads_alike : (os : List ℕ) (a : ℕ) → Leads G os a → Leads H os a
  unfolding Leads
  leads_alike [] a h = sym (A.goal a) ∙ h
  leads_alike (o ∷ os) a h =
      let s = leads_step G a o os h in
      step_leads H a s.0 o os (omega (arith, s.1, A.ops)) (sym (A.succ o a s.1) ∙ s.2) (leads_alike os s.0 s.3)

  total_alike : (os : List ℕ) (a : ℕ) → Leads G os a → total G os ≡ total H os
  total_alike [] a h = refl
  total_alike (o ∷ os) a h = let s = leads_step G a o os h in ap₂ ◌+◌ (A.cost o s.1) (total_alike os s.0 s.3)

module _ {G H : Graph} (A : Alike G H) where
  pub distance_alike : (a : ℕ) (v : Cost) → IsDistance G a v → IsDistance H a v
  distance_alike a v D =
      record {
        attained = λ d e. let t = D.attained d e in (t.0, tt, leads_alike A t.0 a t.2, sym (total_alike A t.0 a t.2) ∙ t.3);
        below = λ os _ h. let g = leads_alike (alike_sym A) os a h in subst (λ (c : ℕ). v ⊑ c) (total_alike A os a g) (D.below os tt g);
      }

  cheapest_alike : (a : ℕ) (os : List ℕ) → Cheapest G a os → Cheapest H a os
  cheapest_alike a os C =
      let x = total_alike A os a C.leads in
      record {
        leads = leads_alike A os a C.leads;
        cheapest = λ vs h. let g = leads_alike (alike_sym A) vs a h in omega (arith, total_alike A vs a g, C.cheapest vs g);
        fewest = λ vs h e. let g = leads_alike (alike_sym A) vs a h in C.fewest vs g (omega (arith, total_alike A vs a g));
      }

module _ {G H : Graph} (A : Alike G H) where
  pub best_alike : (a : ℕ) (x : Advice) → IsBestStep G a x → IsBestStep H a x
  best_alike a halt B = ⊎_elim (λ g. inl (sym (A.goal a) ∙ g)) (λ n. inr (λ os h. n os (leads_alike (alike_sym A) os a h))) B
  best_alike a (take o) B = (
    (B.0.0, cheapest_alike A a (o ∷ B.0.0) B.0.1),
    λ p C. B.1 p (C.0, cheapest_alike (alike_sym A) a (p ∷ C.0) C.1),
  )

  pub distances_alike : {t₀ t : List ℕ} → Distances G t₀ t → Distances H t₀ t
  distances_alike = made_alike A (λ a x. distance_alike A a (said x))

  pub steps_alike : {t₀ t : List ℕ} → BestSteps G t₀ t → BestSteps H t₀ t
  steps_alike = made_alike A (λ a x. best_alike a (advised x))
