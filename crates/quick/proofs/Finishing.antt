-- Laws of the end of a run: where nobody waits, no sequence is below a label, each label is attained, and so the labels are the scaled distances; a label's
-- quotient is the distance then, and the step found the best one. Assumes nothing.
use mathlib.Core.Path.{◌≡◌, refl, sym, ap, ◌∙◌, subst}
use mathlib.Core.Logic.{inl, inr}
use mathlib.Core.Bool.{Bool}
use mathlib.Core.List.{List, [], ◌∷◌}
use Prim.Native.Nat.{ℕ, ◌*◌, ◌-◌, ◌/◌, ◌≤◌, ◌<◌}
use native.Mathlib.Decide.{dec_lt}
use native.Mathlib.Omega.{arith}
use borrow.Author.Tests.{lt-ltb, le-ltb}
use lib.ListN.{get_or}
use Rattle.graph.specs.Cost.{Cost, fin}
use Rattle.graph.specs.Graph.{to, Graph, Closed, Leads, total, IsDistance}
use Rattle.graph.specs.Least.{least}
use Rattle.graph.specs.Certificate.{scaled}
use Rattle.graph.specs.Best.{Cheapest, Begins, IsBestStep}
use Rattle.graph.proofs.Costs.{⊑_fin, fin_inj}
use Rattle.graph.proofs.Sizes.{distance_most}
use Rattle.graph.proofs.Scaled.{scaled_leads, leads_scaled, scaled_total}
use Rattle.graph.proofs.Cheapests.{same_total, same_length, step_leads, leads_step, leads_none, cheapest_short}
use Rattle.graph.proofs.Theorems.{distance_of, scaled_is_cheapest_then_shortest}
use Rattle.meaning.specs.Limits.{most_cost, most_states}
use Rattle.maps.specs.Said.{NONE, HALT, said, advised}
use Rattle.maps.proofs.Saids.{said_none, said_lt}
use Rattle.maps.proofs.Advices.{advised_none, advised_op}
use Rattle.waiting.specs.Trees.{NOKEY, leaf}
use Rattle.waiting.specs.Offers.{NOLABEL}
use Rattle.quick.specs.Inside.Runs.{Tight, Run, Nothing}
use Rattle.quick.specs.Inside.Answers.{shownIf, shown}

pub show_low : (l : ℕ) → l < NOLABEL → l / 4096 ≡ shown l
unfolding shown
show_low l h = sym (ap (λ (b : Bool). shownIf b l) (lt-ltb l NOLABEL h))

pub show_none : (l : ℕ) → NOLABEL ≤ l → NONE ≡ shown l
unfolding shown
show_none l h = sym (ap (λ (b : Bool). shownIf b l) (le-ltb l NOLABEL h))

-- a run in H at whose end nobody waits
pub record Ended (H : Graph) (L t β : List ℕ) : Type 0 where
  pub closed : Closed H
  pub few : H.states ≤ most_states
  pub small : (o : ℕ) → o < H.ops → H.cost o ≤ most_cost
  pub run : Run (scaled H 4096) H.states 0 Nothing L t β
  pub rest : (a : ℕ) → a < most_states → NOKEY ≤ leaf t a

module _ {H : Graph} {L t β : List ℕ} (E : Ended H L t β) where
  tight : (o a b : ℕ) → o < H.ops → a < H.states → H.succ o a ≡ to b → Tight (scaled H 4096) L β o a b
  tight o a b lo la e = E.run.tight o a b lo la e (E.rest b (omega (arith, E.closed o a b lo la e, E.few))) (λ q p. p)

  -- no sequence is below a label
  undercut : (os : List ℕ) (a : ℕ) → a < H.states → Leads (scaled H 4096) os a → get_or L a 0 ≤ total (scaled H 4096) os
  undercut [] a la h = omega (arith, E.run.goals a la (leads_none (scaled H 4096) a h))
  undercut (o ∷ os) a la h =
      let s = leads_step (scaled H 4096) a o os h in
      omega (arith, undercut os s.0 (E.closed o a s.0 s.1 la s.2) s.3, (tight o a s.0 s.1 la s.2).0)

  -- where a sequence leads to a goal, the label is small
  bounded : (os : List ℕ) (a : ℕ) → a < H.states → Leads H os a → get_or L a 0 ≤ 16773120004095
  bounded os a la h =
      let G = scaled H 4096 in
      let D : IsDistance G a (least G G.states a) = distance_of G E.closed a la in
      let f = ⊑_fin (least G G.states a) (total G os) (D.below os tt (scaled_leads H 4096 os a h)) in
      let w = D.attained f.0 f.1 in
      let m : f.0 ≤ (H.states - 1) * 4096000001 =
      distance_most G 4096000001 (λ o l. omega (arith, E.small o l)) E.closed (let z : 1 ≤ H.states = omega arith in z) a f.0 la
      (subst (λ (v : Cost). IsDistance G a v) f.1 D) in
      omega (arith, undercut w.0 a la w.2, w.3, E.few)

  -- a sequence attains the label
  attained : (a : ℕ) → a < H.states → get_or L a 0 < NOLABEL → (os : List ℕ) × Leads (scaled H 4096) os a × (total (scaled H 4096) os ≡ get_or L a 0)
  attained a la l = let w = E.run.reached a la l in (w.0, w.1, omega (arith, w.2, undercut w.0 a la w.1))

  -- so it is cheapest, with fewest steps
  cheapest : (a : ℕ) → a < H.states → (os : List ℕ) → Leads (scaled H 4096) os a → total (scaled H 4096) os ≡ get_or L a 0 → Cheapest H a os
  cheapest a la os h e =
      let g = leads_scaled H 4096 os a h in
      let best = scaled_is_cheapest_then_shortest H E.closed 4096 a E.few la os g (λ vs k. omega (arith, undercut vs a la (scaled_leads H 4096 vs a k))) in
      record { leads = g; cheapest = λ vs k. (best vs k).0; fewest = λ vs k. (best vs k).1 }

  module _ (a : ℕ) (la : a < H.states) where
    -- what is shown of the label is the distance
    pub shown_distance : IsDistance H a (said (shown (get_or L a 0)))
    shown_distance = pick (dec_lt (get_or L a 0) NOLABEL)
      where
        pick : Dec (get_or L a 0 < NOLABEL) → IsDistance H a (said (shown (get_or L a 0)))
        pick (yes l) =
            let w = attained a la l in
            let C = cheapest a la w.0 w.1 w.2 in
            let q : get_or L a 0 / 4096 ≡ total H w.0 = omega (arith, w.2, scaled_total H 4096 w.0, cheapest_short H E.closed a w.0 la C, E.few) in
            let says : said (shown (get_or L a 0)) ≡ fin (get_or L a 0 / 4096) =
            ap said (sym (show_low (get_or L a 0) l)) ∙ said_lt (get_or L a 0 / 4096) (omega (arith, bounded w.0 a la C.leads)) in
            subst (λ (v : Cost). IsDistance H a v) (sym says)
            (record { attained = λ d e. (w.0, tt, C.leads, sym q ∙ fin_inj (get_or L a 0 / 4096) d e); below = λ vs _ g. omega (arith, C.cheapest vs g) })
        pick (no l) =
            subst (λ (v : Cost). IsDistance H a v) (sym (ap said (sym (show_none (get_or L a 0) (omega arith))) ∙ said_none NONE refl))
            (record {
              attained = λ d e. absurd (let z : ◌≡◌ {A = ℕ} 0 1 = cc in omega arith);
              below = λ vs _ g. absurd (omega (arith, bounded vs a la g));
            })

    -- the step that was found begins a cheapest sequence, and none begins by a lower operator
    found_begins : get_or β a 0 < HALT → (os : List ℕ) × Cheapest H a (get_or β a 0 ∷ os) × (total (scaled H 4096) (get_or β a 0 ∷ os) ≡ get_or L a 0)
    found_begins h =
        let o = get_or β a 0 in
        let s = E.run.steps a la h in
        let b = s.1.0 in
        let w = attained b (E.closed o a b s.0 la s.1.1) (omega (arith, s.1.2, E.run.high a la)) in
        let e : total (scaled H 4096) (o ∷ w.0) ≡ get_or L a 0 = omega (arith, s.1.2, (tight o a b s.0 la s.1.1).0, w.2) in
        (w.0, cheapest a la (o ∷ w.0) (step_leads (scaled H 4096) a b o w.0 s.0 s.1.1 w.1) e, e)

    found_lowest : (os : List ℕ) → Cheapest H a os → total (scaled H 4096) os ≡ get_or L a 0 → (p : ℕ) → Begins H a p → get_or β a 0 ≤ p
    found_lowest os C e p B =
        let ps = B.0 in
        let s = leads_step H a p ps B.1.leads in
        let lb = E.closed p a s.0 s.1 la s.2 in
        let T = tight p a s.0 s.1 la s.2 in
        T.1
        (omega (
          arith,
          T.0,
          e,
          undercut ps s.0 lb (scaled_leads H 4096 ps s.0 s.3),
          scaled_total H 4096 os,
          scaled_total H 4096 (p ∷ ps),
          same_total H a os (p ∷ ps) C B.1,
          same_length H a os (p ∷ ps) C B.1,
        ))

    pub found_best : IsBestStep H a (advised (get_or β a 0))
    found_best = pick (dec_lt (get_or β a 0) HALT)
      where
        halts : ¬ (get_or β a 0 < HALT) → get_or β a 0 ≡ HALT
        halts n = omega (arith, E.run.bytes a la)

        nowhere : get_or β a 0 ≡ HALT → Dec (get_or L a 0 < NOLABEL) → IsBestStep H a (advised (get_or β a 0))
        nowhere e (yes l) = rw (advised_none (get_or β a 0) e) (inl (E.run.none a la e l))
        nowhere e (no l) = rw (advised_none (get_or β a 0) e) (inr (λ os g. let z : ⊥ = omega (arith, bounded os a la g) in z))

        pick : Dec (get_or β a 0 < HALT) → IsBestStep H a (advised (get_or β a 0))
        pick (yes l) =
            let B = found_begins l in
            rw (advised_op (get_or β a 0) (λ e. omega arith)) ((B.0, B.1), found_lowest (get_or β a 0 ∷ B.0) B.1 B.2)
        pick (no l) = nowhere (halts l) (dec_lt (get_or L a 0) NOLABEL)
