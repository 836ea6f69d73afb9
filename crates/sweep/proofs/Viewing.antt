-- The task of a map's classes spells the map's view: what is walked there are the view's least costs, best steps and rounds. Assumes nothing.
use mathlib.Core.Path.{◌≡◌, refl, ap, ◌∙◌}
use mathlib.Core.List.{List, []}
use Prim.Native.Nat.{ℕ, ◌-◌, ◌≤◌, ◌<◌, zero-le}
use native.Mathlib.Omega.{arith}
use lib.ListN.{get_or}
use Rattle.meaning.specs.Limits.{most_ops}
use Rattle.meaning.specs.Sas.{IsState}
use Rattle.meaning.specs.Views.{seen, Onto, class_task, view_graph}
use Rattle.meaning.specs.Split.{count_of, view, Valid}
use Rattle.graph.proofs.Theorems.{rounds_note_best}
use Rattle.meaning.proofs.Induced.{seen_below, α_below, view_closed}
use Rattle.meaning.proofs.Distances.{round_distance}
use Rattle.meaning.proofs.Sums.{sum_zero}
use Rattle.meaning.proofs.Bounds.{view_onto}
use Rattle.meaning.proofs.Unread.{size_alike}
use Rattle.tables.specs.declared.Counts.{Counts}
use Rattle.tables.specs.Layout.{Tables, row_at, dom_at, goal_at, pre_at, eff_at, goal_row, pre_row, eff_row, class_at, share_at}
use Rattle.tables.specs.Task.{sas_of, task_of, tables, state_of}
use Rattle.sweep.specs.declared.rounds.Pick.{Pick}
use Rattle.sweep.specs.Said.{said, said_at, advised, advised_at}
use Rattle.sweep.specs.Inside.Walks.{space_of, Walkable}
use Rattle.sweep.specs.Inside.Sweeps.{PricesSmall, Counted}
use Rattle.sweep.specs.Inside.Classes.{seen_rows, unpriced, view_of, view_graph_of, SharesSmall, image_of, AtImage, Classed}
use Rattle.sweep.proofs.Classing.{counts_positive}
use Rattle.sweep.proofs.Alike.{Alike, spaces_alike, counted_alike}

module _ (c : Counts) (facts : List ℕ) (m : ℕ) (ok : Valid (unpriced c facts)) (lm : m < c.maps) (r : List ℕ) (C : Classed c facts m r) where
  -- an accepted row of facts is seen by classes
  row_seen : (row v : ℕ) → 1 ≤ row → row < seen_rows → v < c.vars → row_at facts row v ≤ dom_at facts v
      → row_at r row v ≡ seen (class_at facts m v) (row_at facts row v)
  row_seen row v lo hi l f =
      C.rows row v lo hi (omega (arith, ok.vars.1))
      (omega
      (arith, ok.classes m v (row_at facts row v - 1) lm l (omega (arith, ok.proper.values v l)), ok.values v l))

  goal_seen : (v : ℕ) → v < c.vars → goal_at r v ≡ seen (class_at facts m v) (goal_at facts v)
  goal_seen v l = row_seen goal_row v (omega arith) (omega arith) l (ok.proper.goal v l)

  pre_seen : (o v : ℕ) → o < c.ops → v < c.vars → pre_at r o v ≡ seen (class_at facts m v) (pre_at facts o v)
  pre_seen o v lo l = row_seen (pre_row o) v (omega arith) (omega (arith, ok.ops)) l (ok.proper.pre o v lo l)

  eff_seen : (o v : ℕ) → o < c.ops → v < c.vars → eff_at r o v ≡ seen (class_at facts m v) (eff_at facts o v)
  eff_seen o v lo l = row_seen (eff_row o) v (omega arith) (omega (arith, ok.ops)) l (ok.proper.eff o v lo l)

  pub classed_walkable : Walkable c r
  classed_walkable =
      record {
        vars = ok.vars.1;
        ops = ok.ops;
        values = λ v l. rw (C.counts v l) (counts_positive c facts m ok lm v l);
        effects =
            λ o v lo l.
            rw (eff_seen o v lo l, C.counts v l)
            (seen_below (class_at facts m v) (eff_at facts o v) (dom_at facts v) (count_of (class_at facts m v) (dom_at facts v))
            (λ x g. (view_onto (unpriced c facts) ok m lm).inside v x l g) (ok.proper.eff o v lo l));
        few = rw (size_alike (dom_at r) (view_of facts m []).classes c.vars C.counts) (ok.few_states m lm);
      }

  pub classed_alike : (prices : List ℕ) → Alike (space_of c r prices) (view_graph_of c facts m prices)
  classed_alike prices =
      let S = class_task (sas_of (tables c facts [] [])) (view_of facts m prices) in
      spaces_alike (sas_of (tables c r prices [])) S.dom S.init S.goal S.pre S.eff S.cost
      C.counts goal_seen pre_seen eff_seen (λ o l. refl)

-- a row of prices that are the map's shares
module _ (c : Counts) (facts costs shares : List ℕ) (m : ℕ) (prices : List ℕ) (row : (o : ℕ) → o < c.ops → get_or prices o 0 ≡ share_at shares m o) where
  -- gives the task's view
  pub priced_alike : Alike (view_graph_of c facts m prices) (view_graph (sas_of (tables c facts costs shares)) (view (task_of (tables c facts costs shares)) m))
  priced_alike =
      let S = class_task (sas_of (tables c facts costs shares)) (view (task_of (tables c facts costs shares)) m) in
      spaces_alike (class_task (sas_of (tables c facts [] [])) (view_of facts m prices)) S.dom S.init S.goal S.pre S.eff S.cost
      (λ v l. refl) (λ v l. refl) (λ o v lo l. refl) (λ o v lo l. refl) row

pub shares_priced : (c : Counts) (shares : List ℕ) (m : ℕ) (prices : List ℕ) → c.ops ≤ most_ops → ((o : ℕ) → o < most_ops → get_or prices o 0 ≡ share_at shares m o)
    → SharesSmall c shares m → PricesSmall c prices
shares_priced c shares m prices few row small o l = rw (row o (omega arith)) (small o l)

-- what the counted tables say of a state's image are its distance and its best step in the map
module _ (c : Counts) (facts shares : List ℕ) (m : ℕ) (ok : Valid (unpriced c facts)) (lm : m < c.maps) where
  shared_onto : Onto (unpriced c facts).sas (view (task_of (tables c facts [] shares)) m)
  shared_onto = let O = view_onto (unpriced c facts) ok m lm in record { inside = O.inside; none_missing = O.none_missing }

  pub image_below : (s : List ℕ) → IsState (unpriced c facts).sas (state_of s) → image_of c facts m (state_of s) < (view_graph_of c facts m []).states
  image_below s h = α_below (unpriced c facts).sas (view (task_of (tables c facts [] shares)) m) ok.proper shared_onto (state_of s) h

  pub at_image : (prices s : List ℕ) (p : Pick) {t₀ t b₀ b : List ℕ} {r a : ℕ} → ((o : ℕ) → o < c.ops → get_or prices o 0 ≡ share_at shares m o)
      → Counted (view_graph_of c facts m prices) t₀ t b₀ b r → IsState (unpriced c facts).sas (state_of s) → a ≡ image_of c facts m (state_of s)
      → p.cost ≡ get_or t a 0 → p.op ≡ get_or b a 0
      → AtImage (task_of (tables c facts [] shares)) (state_of s) m p
  at_image prices s p {t₀ = t₀} {t = t} {b₀ = b₀} {b = b} {r = r} row C h e cost op =
      let T = task_of (tables c facts [] shares) in
      let S = (unpriced c facts).sas in
      let G = view_graph T.sas (view T m) in
      let D : Counted G t₀ t b₀ b r = counted_alike (priced_alike c facts [] shares m prices row) C in
      let i = image_of c facts m (state_of s) in
      let l = image_below s h in
      record {
        cost = ap said cost ∙ ap (said_at t) e ∙ D.table.made i l ∙ round_distance S (view T m) ok.proper shared_onto r D.rounds i l;
        op = rw (ap advised op ∙ ap (advised_at b) e ∙ D.notes.made i l) (rounds_note_best G (view_closed S (view T m) ok.proper shared_onto) r D.rounds i l);
      }

-- an accepted task is accepted whatever it costs
pub valid_unpriced : (t : Tables) → Valid (task_of t) → Valid (unpriced t.counts t.facts)
valid_unpriced t ok =
    let P = ok.proper in
    record {
      edition = ok.edition;
      vars = ok.vars;
      values = ok.values;
      proper = record { values = P.values; init = P.init; goal = P.goal; pre = P.pre; eff = P.eff };
      quota = ok.quota;
      ops = ok.ops;
      costs = λ o l. zero-le;
      marks = ok.marks;
      none_idle = ok.none_idle;
      maps = ok.maps;
      classes = ok.classes;
      none_missing = ok.none_missing;
      few_states = ok.few_states;
      shares = λ m o lm lo. zero-le;
      split = λ o l. omega (arith, sum_zero t.counts.maps);
    }
