-- The tables of a small task give back its numbers: at each of the task's own places stands what the task has there.
-- One change writes it, and no other change has that place. An operator's rows do so once they are written, whatever the maps are. Assumes nothing.
use Prim.Native.Nat.{ℕ, ◌≤◌, ◌<◌}
use native.Mathlib.Omega.{arith}
use mathlib.Core.Path.{◌≡◌, refl, ◌∙◌}
use mathlib.Core.List.{List}
use mathlib.Core.Bool.{true}
use lib.ListN.{length, get_or}
use Rattle.meaning.specs.Limits.{most_vars, most_values, most_ops, most_maps}
use Rattle.meaning.specs.Split.{Task}
use Rattle.tables.specs.Layout.{dom_place, init_place, goal_place, pre_place, eff_place, class_place, mark_place, share_place, facts_room, costs_room, shares_room}
use Rattle.tables.specs.Editions.{has_quota}
use Rattle.grammar.specs.Spelling.{changed, row_put, fact_row, op_rows, map_rows, head_rows}
use Rattle.grammar.proofs.Editions.{ByEdition}
use Rattle.grammar.proofs.SpellTables.{Spares, Long, long_changed, spares_changed, writes_changed, long_row, spares_row, writes_row, long_facts, spares_facts, writes_facts}
use Rattle.grammar.proofs.SpellTables.{long_mark, spares_mark, writes_mark}

-- a task within the limits that the tables have room for
pub record Small (τ : Task) : Type 0 where
  pub vars : τ.sas.vars ≤ most_vars
  pub doms : (v : ℕ) → v < τ.sas.vars → τ.sas.dom v ≤ most_values
  pub ops : τ.sas.ops ≤ most_ops
  pub maps : τ.maps ≤ most_maps

-- ---- lengths

module _ (τ : Task) where
  pub long_head : Long (head_rows τ)
  unfolding head_rows
  long_head w =
      long_facts goal_place τ.sas.goal τ.sas.vars _ ∙ long_row init_place τ.sas.init τ.sas.vars _ ∙ long_row dom_place τ.sas.dom τ.sas.vars w

  -- the rows of an operator's facts
  abbrev pub fact_rows : ℕ → List ℕ → List ℕ
  fact_rows o w = fact_row (eff_place o) (τ.sas.eff o) τ.sas.vars (fact_row (pre_place o) (τ.sas.pre o) τ.sas.vars w)

  pub long_fact_rows : (o : ℕ) → Long (fact_rows o)
  long_fact_rows o w = long_facts (eff_place o) (τ.sas.eff o) τ.sas.vars _ ∙ long_facts (pre_place o) (τ.sas.pre o) τ.sas.vars w

  pub long_op : (o : ℕ) → Long (op_rows τ o)
  unfolding op_rows
  long_op o w = long_mark τ.edition (mark_place o) (τ.mark o) _ ∙ long_fact_rows o w

  pub long_map : (m : ℕ) → Long (map_rows τ m)
  unfolding map_rows
  long_map m = long_changed (λ v. row_put (class_place m v) (τ.class m v) (τ.sas.dom v)) (λ v. long_row (class_place m v) (τ.class m v) (τ.sas.dom v)) τ.sas.vars 0

  pub long_facts_of : (w : List ℕ) → length (changed (map_rows τ) τ.maps 0 (changed (op_rows τ) τ.sas.ops 0 (head_rows τ w))) ≡ length w
  long_facts_of w = long_changed (map_rows τ) long_map τ.maps 0 _ ∙ long_changed (op_rows τ) long_op τ.sas.ops 0 _ ∙ long_head w

  pub long_shares_of : Long (changed (λ m. row_put (share_place m) (τ.share m) τ.sas.ops) τ.maps 0)
  long_shares_of = long_changed (λ m. row_put (share_place m) (τ.share m) τ.sas.ops) (λ m. long_row (share_place m) (τ.share m) τ.sas.ops) τ.maps 0

-- ---- where only the variables are few: what the head leaves alone, and the rows of one operator that the tables have room for

module _ (τ : Task) where
  pub spares_op : (o p : ℕ) → ((v : ℕ) → v < τ.sas.vars → p ≡ pre_place o v → ⊥) → ((v : ℕ) → v < τ.sas.vars → p ≡ eff_place o v → ⊥)
      → (has_quota τ.edition ≡ true → p ≡ mark_place o → ⊥) → Spares (op_rows τ o) p
  unfolding op_rows
  spares_op o p f g m w =
      spares_mark τ.edition (mark_place o) (τ.mark o) p m _
      ∙ spares_facts (eff_place o) (τ.sas.eff o) p τ.sas.vars g _
      ∙ spares_facts (pre_place o) (τ.sas.pre o) p τ.sas.vars f w

  module _ (few : τ.sas.vars ≤ most_vars) where
    pub spares_head : (p : ℕ) → 24 ≤ p → Spares (head_rows τ) p
    unfolding head_rows
    spares_head p h w =
        spares_facts goal_place τ.sas.goal p τ.sas.vars (λ j b e. omega arith) _
        ∙ spares_row init_place τ.sas.init p τ.sas.vars (λ j b e. omega arith) _
        ∙ spares_row dom_place τ.sas.dom p τ.sas.vars (λ j b e. omega arith) w

    module _ (o v : ℕ) (k : o < most_ops) (h : v < τ.sas.vars) (x : List ℕ) (m : length x ≡ facts_room) where
      pub op_pre : get_or x (pre_place o v) 0 ≡ 0 → get_or (op_rows τ o x) (pre_place o v) 0 ≡ τ.sas.pre o v
      unfolding op_rows
      op_pre z =
          spares_mark τ.edition (mark_place o) (τ.mark o) (pre_place o v) (λ j e. omega arith) _
          ∙ spares_facts (eff_place o) (τ.sas.eff o) (pre_place o v) τ.sas.vars (λ j i e. omega arith) _
          ∙ writes_facts (pre_place o) (τ.sas.pre o) τ.sas.vars v h (λ i e. omega arith) x (omega arith) z

      pub op_eff : get_or x (eff_place o v) 0 ≡ 0 → get_or (op_rows τ o x) (eff_place o v) 0 ≡ τ.sas.eff o v
      unfolding op_rows
      op_eff z =
          spares_mark τ.edition (mark_place o) (τ.mark o) (eff_place o v) (λ j e. omega arith) _
          ∙ writes_facts (eff_place o) (τ.sas.eff o) τ.sas.vars v h (λ i e. omega arith) _
          (omega (arith, long_facts (pre_place o) (τ.sas.pre o) τ.sas.vars x))
          (spares_facts (pre_place o) (τ.sas.pre o) (eff_place o v) τ.sas.vars (λ j i e. omega arith) x ∙ z)

    pub op_mark : ByEdition τ → (o : ℕ) → o < most_ops → (x : List ℕ) → length x ≡ facts_room → get_or x (mark_place o) 0 ≡ 0 → get_or (op_rows τ o x) (mark_place o) 0 ≡ τ.mark o
    unfolding op_rows
    op_mark by o k x m z =
        writes_mark τ.edition (mark_place o) (τ.mark o) (by.mark o) _ (omega (arith, long_fact_rows τ o x))
        (spares_facts (eff_place o) (τ.sas.eff o) (mark_place o) τ.sas.vars (λ j i e. omega arith) _
        ∙ spares_facts (pre_place o) (τ.sas.pre o) (mark_place o) τ.sas.vars (λ j i e. omega arith) x
        ∙ z)

module _ (τ : Task) (s : Small τ) where
  -- ---- the head

  module _ (w : List ℕ) (l : length w ≡ facts_room) (z : (p : ℕ) → get_or w p 0 ≡ 0) (v : ℕ) (h : v < τ.sas.vars) where
    pub head_dom : get_or (head_rows τ w) (dom_place v) 0 ≡ τ.sas.dom v
    unfolding head_rows
    head_dom =
        let a = s.vars in
        spares_facts goal_place τ.sas.goal (dom_place v) τ.sas.vars (λ j b e. omega arith) _
        ∙ spares_row init_place τ.sas.init (dom_place v) τ.sas.vars (λ j b e. omega arith) _
        ∙ writes_row dom_place τ.sas.dom τ.sas.vars v h (λ k e. omega arith) w (omega arith)

    pub head_init : get_or (head_rows τ w) (init_place v) 0 ≡ τ.sas.init v
    unfolding head_rows
    head_init =
        let a = s.vars in
        spares_facts goal_place τ.sas.goal (init_place v) τ.sas.vars (λ j b e. omega arith) _
        ∙ writes_row init_place τ.sas.init τ.sas.vars v h (λ k e. omega arith) _ (omega (arith, long_row dom_place τ.sas.dom τ.sas.vars w))

    pub head_goal : get_or (head_rows τ w) (goal_place v) 0 ≡ τ.sas.goal v
    unfolding head_rows
    head_goal =
        let a = s.vars in
        writes_facts goal_place τ.sas.goal τ.sas.vars v h (λ k e. omega arith) _
        (omega (arith, long_row dom_place τ.sas.dom τ.sas.vars w, long_row init_place τ.sas.init τ.sas.vars (row_put dom_place τ.sas.dom τ.sas.vars w)))
        (spares_row init_place τ.sas.init (goal_place v) τ.sas.vars (λ j b e. omega arith) _
        ∙ spares_row dom_place τ.sas.dom (goal_place v) τ.sas.vars (λ j b e. omega arith) w
        ∙ z (goal_place v))

  -- ---- the operators

  pub spares_ops_low : (p : ℕ) → p < 24 → Spares (changed (op_rows τ) τ.sas.ops 0) p
  spares_ops_low p h = spares_changed (op_rows τ) p τ.sas.ops 0 (λ o x y. spares_op τ o p (λ v i e. omega arith) (λ v i e. omega arith) (λ q e. omega arith))

  module _ (o v : ℕ) (k : o < τ.sas.ops) (h : v < τ.sas.vars) (w : List ℕ) (l : length w ≡ facts_room) where
    pub ops_pre : get_or w (pre_place o v) 0 ≡ 0 → get_or (changed (op_rows τ) τ.sas.ops 0 w) (pre_place o v) 0 ≡ τ.sas.pre o v
    ops_pre z =
        let a = s.vars in
        let b = s.ops in
        writes_changed (op_rows τ) (pre_place o v) (τ.sas.pre o v) o τ.sas.ops 0 (long_op τ)
        (λ i x y d. spares_op τ i (pre_place o v) (λ u q e. d (omega arith)) (λ u q e. omega arith) (λ q e. omega arith)) facts_room 0
        (op_pre τ a o v (omega arith) h) (omega arith) (omega arith) w l z

    pub ops_eff : get_or w (eff_place o v) 0 ≡ 0 → get_or (changed (op_rows τ) τ.sas.ops 0 w) (eff_place o v) 0 ≡ τ.sas.eff o v
    ops_eff z =
        let a = s.vars in
        let b = s.ops in
        writes_changed (op_rows τ) (eff_place o v) (τ.sas.eff o v) o τ.sas.ops 0 (long_op τ)
        (λ i x y d. spares_op τ i (eff_place o v) (λ u q e. omega arith) (λ u q e. d (omega arith)) (λ q e. omega arith)) facts_room 0
        (op_eff τ a o v (omega arith) h) (omega arith) (omega arith) w l z

  pub ops_mark : ByEdition τ → (o : ℕ) → o < τ.sas.ops → (w : List ℕ) → length w ≡ facts_room → get_or w (mark_place o) 0 ≡ 0
      → get_or (changed (op_rows τ) τ.sas.ops 0 w) (mark_place o) 0 ≡ τ.mark o
  ops_mark by o k w l z =
      let a = s.vars in
      let b = s.ops in
      writes_changed (op_rows τ) (mark_place o) (τ.mark o) o τ.sas.ops 0 (long_op τ)
      (λ i x y d. spares_op τ i (mark_place o) (λ u q e. omega arith) (λ u q e. omega arith) (λ q e. d (omega arith))) facts_room 0
      (op_mark τ a by o (omega arith)) (omega arith) (omega arith) w l z

  -- ---- the maps

  spares_map : (m p : ℕ) → ((v x : ℕ) → v < τ.sas.vars → x < most_values → p ≡ class_place m v x → ⊥) → Spares (map_rows τ m) p
  unfolding map_rows
  spares_map m p f =
      spares_changed (λ v. row_put (class_place m v) (τ.class m v) (τ.sas.dom v)) p τ.sas.vars 0
      (λ v a b. spares_row (class_place m v) (τ.class m v) p (τ.sas.dom v) (λ x c e. f v x (omega arith) (omega (arith, s.doms v (omega arith))) e))

  -- a place before the classes or after them
  pub spares_maps : (p : ℕ) → ((m v x : ℕ) → m < most_maps → v < most_vars → x < most_values → p ≡ class_place m v x → ⊥) → Spares (changed (map_rows τ) τ.maps 0) p
  spares_maps p f =
      let a = s.vars in
      let b = s.maps in
      spares_changed (map_rows τ) p τ.maps 0 (λ m x y. spares_map m p (λ v i l g e. f m v i (omega arith) (omega arith) g e))

  module _ (m v x : ℕ) (k : m < τ.maps) (h : v < τ.sas.vars) (g : x < τ.sas.dom v) where
    pub map_class : (w : List ℕ) → length w ≡ facts_room → get_or (map_rows τ m w) (class_place m v x) 0 ≡ τ.class m v x
    unfolding map_rows
    map_class w l =
        let a = s.vars in
        let b = s.maps in
        let c = s.doms v h in
        writes_changed (λ u. row_put (class_place m u) (τ.class m u) (τ.sas.dom u)) (class_place m v x) (τ.class m v x) v τ.sas.vars 0
        (λ u. long_row (class_place m u) (τ.class m u) (τ.sas.dom u))
        (λ u i j d. spares_row (class_place m u) (τ.class m u) (class_place m v x) (τ.sas.dom u) (λ y f e. let n = s.doms u (omega arith) in d (omega arith)))
        facts_room _ (λ w₁ l₁ z. writes_row (class_place m v) (τ.class m v) (τ.sas.dom v) x g (λ y e. omega arith) w₁ (omega arith)) (omega arith) (omega arith) w l refl

    pub maps_class : (w : List ℕ) → length w ≡ facts_room → get_or (changed (map_rows τ) τ.maps 0 w) (class_place m v x) 0 ≡ τ.class m v x
    maps_class w l =
        let a = s.vars in
        let b = s.maps in
        let c = s.doms v h in
        writes_changed (map_rows τ) (class_place m v x) (τ.class m v x) m τ.maps 0 (long_map τ)
        (λ i j q d. spares_map i (class_place m v x) (λ u y f n e. d (omega arith))) facts_room _ (λ w₁ l₁ z. map_class w₁ l₁) (omega arith) (omega arith) w l refl

  -- ---- costs and shares

  pub costs_own : (w : List ℕ) → length w ≡ costs_room → (o : ℕ) → o < τ.sas.ops → get_or (row_put (λ i. i) τ.sas.cost τ.sas.ops w) o 0 ≡ τ.sas.cost o
  costs_own w l o h = let b = s.ops in writes_row (λ i. i) τ.sas.cost τ.sas.ops o h (λ k e. omega arith) w (omega arith)

  pub shares_own : (w : List ℕ) → length w ≡ shares_room → (m o : ℕ) → m < τ.maps → o < τ.sas.ops
      → get_or (changed (λ i. row_put (share_place i) (τ.share i) τ.sas.ops) τ.maps 0 w) (share_place m o) 0 ≡ τ.share m o
  shares_own w l m o k h =
      let a = s.ops in
      let b = s.maps in
      writes_changed (λ i. row_put (share_place i) (τ.share i) τ.sas.ops) (share_place m o) (τ.share m o) m τ.maps 0
      (λ i. long_row (share_place i) (τ.share i) τ.sas.ops)
      (λ i x y d. spares_row (share_place i) (τ.share i) (share_place m o) τ.sas.ops (λ j f e. d (omega arith))) shares_room _
      (λ w₁ l₁ z. writes_row (share_place m) (τ.share m) τ.sas.ops o h (λ j e. omega arith) w₁ (omega arith)) (omega arith) (omega arith) w l refl
