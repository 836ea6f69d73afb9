-- Laws of the cheapest sequences of fewest steps. Assumes nothing.
use mathlib.Core.Path.{◌≡◌, refl, sym, subst}
use mathlib.Core.Bool.{true}
use mathlib.Core.List.{List, [], ◌∷◌}
use Prim.Native.Nat.{ℕ, ◌≤◌, ◌<◌}
use native.Mathlib.Nat.{le_refl, le_antisymm}
use native.Mathlib.Decide.{dec_lt}
use native.Mathlib.Omega.{arith}
use lib.ListN.{length}
use Rattle.graph.specs.Cost.{Cost, none, fin, ◌⊑◌}
use Rattle.graph.specs.Graph.{to, Graph, Closed, Leads, total, IsDistance}
use Rattle.graph.specs.Least.{least}
use Rattle.graph.specs.Certificate.{scaled}
use Rattle.graph.proofs.Costs.{⊑_fin}
use Rattle.graph.proofs.Steps.{onward_intro, onward_elim}
use Rattle.graph.proofs.Settles.{shorter, any_length, settled}
use Rattle.graph.proofs.Scaled.{scaled_leads, leads_scaled, scaled_best}
use Rattle.graph.specs.Best.{Cheapest, Begins}

module _ (G : Graph) where
  -- two of them cost the same and have as many steps
  pub same_total : (a : ℕ) (os vs : List ℕ) → Cheapest G a os → Cheapest G a vs → total G os ≡ total G vs
  same_total a os vs C D = le_antisymm (C.cheapest vs D.leads) (D.cheapest os C.leads)

  pub same_length : (a : ℕ) (os vs : List ℕ) → Cheapest G a os → Cheapest G a vs → length os ≡ length vs
  same_length a os vs C D =
      let e = same_total a os vs C D in
      le_antisymm (C.fewest vs D.leads (sym e)) (D.fewest os C.leads e)

  -- at a goal there is only the empty one
  pub goal_empty : (a : ℕ) (os : List ℕ) → G.goal a ≡ true → Cheapest G a os → length os ≡ 0
  unfolding Leads
  goal_empty a os g C =
      let t = C.cheapest [] g in
      let z : total G [] ≡ total G os = omega arith in
      let l = C.fewest [] g z in
      omega arith

  pub goal_begins : (a o : ℕ) → G.goal a ≡ true → Begins G a o → ⊥
  goal_begins a o g B = omega (arith, goal_empty a (o ∷ B.0) g B.1)

  pub step_leads : (a b o : ℕ) (os : List ℕ) → o < G.ops → G.succ o a ≡ to b → Leads G os b → Leads G (o ∷ os) a
  unfolding Leads
  step_leads a b o os l e h = (l, onward_intro (Leads G os) (G.succ o a) b e h)

  pub leads_step : (a o : ℕ) (os : List ℕ) → Leads G (o ∷ os) a → (b : ℕ) × (o < G.ops) × (G.succ o a ≡ to b) × Leads G os b
  unfolding Leads
  leads_step a o os h = let s = onward_elim (Leads G os) (G.succ o a) h.1 in (s.0, h.0, s.1, s.2)

  pub leads_none : (a : ℕ) → Leads G [] a → G.goal a ≡ true
  unfolding Leads
  leads_none a h = h

  -- what is left of one after its first step is one from there
  pub rest : (a b o : ℕ) (os : List ℕ) → o < G.ops → G.succ o a ≡ to b → Leads G os b → Cheapest G a (o ∷ os) → Cheapest G b os
  rest a b o os l e h C = record {
    leads = h;
    cheapest = λ vs k. let t = C.cheapest (o ∷ vs) (step_leads a b o vs l e k) in omega arith;
    fewest = λ vs k q. let t = C.fewest (o ∷ vs) (step_leads a b o vs l e k) (omega arith) in omega arith;
  }

  pub after_first : (a o : ℕ) (os : List ℕ) → Cheapest G a (o ∷ os) → (b : ℕ) × (o < G.ops) × (G.succ o a ≡ to b) × Cheapest G b os
  after_first a o os C =
      let s = leads_step a o os C.leads in
      (s.0, s.1, s.2, rest a s.0 o os s.1 s.2 s.3 C)

  -- .. and may be put in place of it
  pub go_on : (a b o : ℕ) (os vs : List ℕ) → o < G.ops → G.succ o a ≡ to b → Cheapest G a (o ∷ os) → Cheapest G b os → Cheapest G b vs → Cheapest G a (o ∷ vs)
  go_on a b o os vs l e C D E =
      let t = same_total b os vs D E in
      let k = same_length b os vs D E in
      record {
        leads = step_leads a b o vs l e E.leads;
        cheapest = λ us h. let x = C.cheapest us h in omega arith;
        fewest = λ us h q. let x = C.fewest us h (omega arith) in omega arith;
      }

  -- its cost is the distance
  pub cheapest_total : (a d : ℕ) (os : List ℕ) → IsDistance G a (fin d) → Cheapest G a os → total G os ≡ d
  cheapest_total a d os D C =
      let t = D.attained d refl in
      let x = C.cheapest t.0 t.2 in
      let y : d ≤ total G os = D.below os tt C.leads in
      omega (arith, t.3)

  -- a sequence at the distance, none shorter at it
  pub make_cheapest : (a d : ℕ) (os : List ℕ) → IsDistance G a (fin d) → Leads G os a → total G os ≤ d
      → ((vs : List ℕ) → Leads G vs a → total G vs ≡ d → length os ≤ length vs) → Cheapest G a os
  make_cheapest a d os D h l f =
      let y : d ≤ total G os = D.below os tt h in
      record {
        leads = h;
        cheapest = λ vs k. let x : d ≤ total G vs = D.below vs tt k in omega arith;
        fewest = λ vs k e. f vs k (omega arith);
      }

  module _ (closed : Closed G) where
    -- it has fewer steps than there are states
    pub cheapest_short : (a : ℕ) (os : List ℕ) → a < G.states → Cheapest G a os → length os < G.states
    cheapest_short a os l C = pick (dec_lt (length os) G.states)
      where
        pick : Dec (length os < G.states) → length os < G.states
        pick (yes d) = d
        pick (no d) =
            let s = shorter G closed os a C.leads l (omega arith) in
            let x = C.cheapest s.0 s.2 in
            let y = C.fewest s.0 s.2 (omega (arith, s.3)) in
            omega (arith, s.1)

    -- where a sequence leads to a goal there is one
    pub cheapest_exists : (a : ℕ) (vs : List ℕ) → a < G.states → Leads G vs a → (os : List ℕ) × Cheapest G a os
    cheapest_exists a vs l h =
        let N = G.states in
        let D = any_length (scaled G N) closed N (settled (scaled G N) closed N (omega arith)) a l in
        let f = ⊑_fin (least (scaled G N) N a) (total (scaled G N) vs) (D.below vs tt (scaled_leads G N vs a h)) in
        let t = D.attained f.0 f.1 in
        let os = t.0 in
        let k : Leads G os a = leads_scaled G N os a t.2 in
        let low : (us : List ℕ) → Leads G us a → total (scaled G N) os ≤ total (scaled G N) us =
        λ us g. rw t.3 (subst (λ (v : Cost). v ⊑ total (scaled G N) us) f.1 (D.below us tt (scaled_leads G N us a g))) in
        let b = scaled_best G closed N a (le_refl N) l os k low in
        (os, record { leads = k; cheapest = λ us g. (b us g).0; fewest = λ us g. (b us g).1 })
