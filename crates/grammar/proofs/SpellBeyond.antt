-- The tables of a task hold 0 in every place that isn't the task's own, for no change writes there; and a lent table that is longer holds 0 beyond.
-- Assumes nothing.
use Prim.Native.Nat.{ℕ, zero, suc, ◌-◌, ◌≤◌, ◌<◌}
use native.Mathlib.Omega.{arith}
use mathlib.Core.Path.{◌≡◌, ◌∙◌}
use mathlib.Core.Bool.{true}
use mathlib.Core.List.{List, [], ◌∷◌, ◌++◌}
use lib.ListN.{length, get_or, replicate}
use Rattle.meaning.specs.Split.{Task}
use Rattle.tables.specs.Layout.{facts_room, costs_room, shares_room, dom_place, init_place, goal_place, pre_place, eff_place, class_place, mark_place, share_place}
use Rattle.tables.specs.Editions.{has_quota}
use Rattle.grammar.specs.Fields.{filled}
use Rattle.grammar.specs.Spelling.{row_put, op_rows, map_rows, head_rows, tables_of}
use Rattle.grammar.proofs.SpellTables.{Spares, spares_changed, spares_row, spares_facts, zeros}
use Rattle.grammar.proofs.SpellOwn.{spares_op}

-- a place of the facts that is none of the task's: the marks are in edition 2 alone
pub record NotOwn (τ : Task) (p : ℕ) : Type 0 where
  pub dom : (v : ℕ) → v < τ.sas.vars → p ≡ dom_place v → ⊥
  pub init : (v : ℕ) → v < τ.sas.vars → p ≡ init_place v → ⊥
  pub goal : (v : ℕ) → v < τ.sas.vars → p ≡ goal_place v → ⊥
  pub pre : (o v : ℕ) → o < τ.sas.ops → v < τ.sas.vars → p ≡ pre_place o v → ⊥
  pub eff : (o v : ℕ) → o < τ.sas.ops → v < τ.sas.vars → p ≡ eff_place o v → ⊥
  pub class : (m v x : ℕ) → m < τ.maps → v < τ.sas.vars → x < τ.sas.dom v → p ≡ class_place m v x → ⊥
  pub mark : (o : ℕ) → o < τ.sas.ops → has_quota τ.edition ≡ true → p ≡ mark_place o → ⊥

module _ (τ : Task) (p : ℕ) (n : NotOwn τ p) where
  head_spared : Spares (head_rows τ) p
  unfolding head_rows
  head_spared w =
      spares_facts goal_place τ.sas.goal p τ.sas.vars n.goal _
      ∙ spares_row init_place τ.sas.init p τ.sas.vars n.init _
      ∙ spares_row dom_place τ.sas.dom p τ.sas.vars n.dom w

  op_spared : (o : ℕ) → o < τ.sas.ops → Spares (op_rows τ o) p
  op_spared o h = spares_op τ o p (λ v. n.pre o v h) (λ v. n.eff o v h) (n.mark o h)

  map_spared : (m : ℕ) → m < τ.maps → Spares (map_rows τ m) p
  unfolding map_rows
  map_spared m h =
      spares_changed (λ v. row_put (class_place m v) (τ.class m v) (τ.sas.dom v)) p τ.sas.vars 0
      (λ v a b. spares_row (class_place m v) (τ.class m v) p (τ.sas.dom v) (λ x. n.class m v x h (omega arith)))

  pub facts_beyond : get_or (tables_of τ).facts p 0 ≡ 0
  unfolding tables_of
  facts_beyond =
      spares_changed (map_rows τ) p τ.maps 0 (λ m a b. map_spared m (omega arith)) _
      ∙ spares_changed (op_rows τ) p τ.sas.ops 0 (λ o a b. op_spared o (omega arith)) _
      ∙ head_spared _
      ∙ zeros facts_room p

-- the places of a lent table beyond the room of the largest task
zeros_after : (xs : List ℕ) (n i : ℕ) → length xs ≤ i → get_or (xs ++ replicate n 0) i 0 ≡ 0
zeros_after [] n i h = zeros n i
zeros_after (x ∷ xs) n zero h = absurd (let z : ⊥ = omega arith in z)
zeros_after (x ∷ xs) n (suc i) h = zeros_after xs n i (omega arith)

pub room_beyond : (room : ℕ) (xs lent : List ℕ) (i : ℕ) → length xs ≡ room → room ≤ i → get_or (filled room xs lent) i 0 ≡ 0
unfolding filled
room_beyond room xs lent i e h = zeros_after xs (length lent - room) i (omega arith)

pub costs_beyond : (τ : Task) (o : ℕ) → τ.sas.ops ≤ o → get_or (tables_of τ).costs o 0 ≡ 0
unfolding tables_of
costs_beyond τ o h = spares_row (λ i. i) τ.sas.cost o τ.sas.ops (λ j l e. omega arith) _ ∙ zeros costs_room o

pub shares_beyond : (τ : Task) (p : ℕ) → ((m o : ℕ) → m < τ.maps → o < τ.sas.ops → p ≡ share_place m o → ⊥) → get_or (tables_of τ).shares p 0 ≡ 0
unfolding tables_of
shares_beyond τ p h =
    spares_changed (λ m. row_put (share_place m) (τ.share m) τ.sas.ops) p τ.maps 0
    (λ m a b. spares_row (share_place m) (τ.share m) p τ.sas.ops (λ o. h m o (omega arith))) _
    ∙ zeros shares_room p
