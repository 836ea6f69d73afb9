-- With each operator at cost × N + 1, a cheapest sequence is a cheapest one of the graph, and of those one with fewest steps. Assumes nothing.
use mathlib.Core.Path.{◌≡◌, ap}
use mathlib.Core.List.{List, [], ◌∷◌}
use Prim.Native.Nat.{ℕ, suc, ◌+◌, ◌*◌, ◌-◌, ◌≤◌, ◌<◌}
use native.Mathlib.Nat.{suc-mul, mul-le-mul_right, add-mul}
use native.Mathlib.Decide.{dec_le, dec_lt}
use native.Mathlib.Omega.{arith}
use lib.ListN.{length}
use Rattle.graph.specs.Graph.{Graph, Closed, Leads, total}
use Rattle.graph.specs.Least.{least}
use Rattle.graph.specs.Certificate.{scaled}
use Rattle.graph.proofs.Steps.{onward_intro, onward_elim}
use Rattle.graph.proofs.Leasts.{sound}
use Rattle.graph.proofs.Settles.{any_length, settled}

pub scaled_leads : (G : Graph) (N : ℕ) (os : List ℕ) (a : ℕ) → Leads G os a → Leads (scaled G N) os a
unfolding Leads
scaled_leads G N [] a h = h
scaled_leads G N (o ∷ os) a h =
    let s = onward_elim (Leads G os) (G.succ o a) h.1 in
    (h.0, onward_intro (Leads (scaled G N) os) (G.succ o a) s.0 s.1 (scaled_leads G N os s.0 s.2))

pub leads_scaled : (G : Graph) (N : ℕ) (os : List ℕ) (a : ℕ) → Leads (scaled G N) os a → Leads G os a
unfolding Leads
leads_scaled G N [] a h = h
leads_scaled G N (o ∷ os) a h =
    let s = onward_elim (Leads (scaled G N) os) (G.succ o a) h.1 in
    (h.0, onward_intro (Leads G os) (G.succ o a) s.0 s.1 (leads_scaled G N os s.0 s.2))

pub scaled_total : (G : Graph) (N : ℕ) (os : List ℕ) → total (scaled G N) os ≡ total G os * N + length os
scaled_total G N [] = omega arith
scaled_total G N (o ∷ os) = omega (arith, scaled_total G N os, add-mul (G.cost o) (total G os) N)

-- the order of scaled totals is that of totals and then of steps
pub scaled_order : (G : Graph) (N : ℕ) (os vs : List ℕ) → length os < N → length vs < N → total (scaled G N) os ≤ total (scaled G N) vs → total G os ≤ total G vs
scaled_order G N os vs p q h = pick (dec_le (total G os) (total G vs))
  where
    pick : Dec (total G os ≤ total G vs) → total G os ≤ total G vs
    pick (yes l) = l
    pick (no l) =
        let s : suc (total G vs) ≤ total G os = omega arith in
        absurd (let z : suc (total G vs) * N ≤ total G os * N = mul-le-mul_right N s in
        omega (arith, scaled_total G N os, scaled_total G N vs, suc-mul (total G vs) N))

-- every list has one of fewer than n steps that costs no more
brief : (G : Graph) → Closed G → (vs : List ℕ) (a : ℕ) → a < G.states → Leads G vs a → (us : List ℕ) × (length us < G.states) × Leads G us a × (total G us ≤ total G vs)
brief G closed vs a l h =
    let i = G.states - 1 in
    let e : (b : ℕ) → b < G.states → least G (suc i) b ≡ least G i b = settled G closed i (omega arith) in
    let t = sound G i a (total G vs) ((any_length G closed i e a l).below vs tt h) in
    (t.0, omega (arith, t.1), t.2, t.3)

-- a list of the least scaled total is a cheapest one, and of the cheapest one with the fewest steps
pub scaled_best : (G : Graph) → Closed G → (N a : ℕ) → G.states ≤ N → a < G.states → (os : List ℕ) → Leads G os a
    → ((vs : List ℕ) → Leads G vs a → total (scaled G N) os ≤ total (scaled G N) vs)
    → (vs : List ℕ) → Leads G vs a → (total G os ≤ total G vs) × (total G vs ≡ total G os → length os ≤ length vs)
scaled_best G closed N a k l os h least-os vs g =
    let u = brief G closed vs a l g in
    let o = brief G closed os a l h in
    let p : length os < N = pick (dec_lt (length os) N) o in
    let c : total G os ≤ total G u.0 = scaled_order G N os u.0 p (omega (arith, u.1)) (least-os u.0 u.2) in
    (omega (arith, u.3), λ e. let s : total G vs * N ≡ total G os * N = ap (λ (x : ℕ). x * N) e in omega (arith, least-os vs g, scaled_total G N os, scaled_total G N vs))
  where
    pick : Dec (length os < N) → (us : List ℕ) × (length us < G.states) × Leads G us a × (total G us ≤ total G os) → length os < N
    pick (yes d) o = d
    pick (no d) o = absurd
        (let z : total G o.0 * N ≤ total G os * N = mul-le-mul_right N o.3 in
        omega (arith, o.1, least-os o.0 o.2, scaled_total G N os, scaled_total G N o.0))
