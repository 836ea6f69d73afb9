-- Laws of what is wanted after an operator: the facts with wants for preconditions and no effects can be walked like the facts, and rows that are laid of them, no values apart,
-- are 0 exactly where all wants hold. Assumes nothing.
use mathlib.Core.Path.{◌≡◌, sym, ap, ap₂, ◌∙◌}
use mathlib.Core.List.{List, []}
use Prim.Native.Nat.{ℕ, zero, suc, ◌+◌, ◌*◌, ◌≤◌, ◌<◌}
use native.Mathlib.Omega.{arith}
use lib.ListN.{get_or}
use borrow.Author.Tests.{le-leb, lt-leb}
use Rattle.meaning.specs.Numbering.{digit}
use Rattle.meaning.specs.Views.{holds, every}
use Rattle.meaning.proofs.Facts.{every_same}
use Rattle.meaning.proofs.Unread.{size_alike, digit_alike}
use Rattle.tables.specs.declared.Counts.{Counts}
use Rattle.tables.specs.Layout.{dom_at, goal_at, pre_at, eff_at}
use Rattle.maps.specs.Inside.Walks.{states_of, Walkable}
use Rattle.maps.specs.Inside.Parts.{Stepped}
use Rattle.maps.proofs.Parting.{steps_fit, steps_goal}
use Rattle.turned.specs.Inside.Wants.{want_of, want_if, want_at, wanted, Wants, Fits}

-- ---- a place

want_below : (pre eff k : ℕ) → pre ≤ k → eff ≤ k → want_of pre eff ≤ k
want_below pre zero k p e = p
want_below pre (suc x) k p e = e

module _ (facts : List ℕ) (i : ℕ) where
  -- the places of the preconditions
  pub want_inside : 24 ≤ i → want_of (get_or facts i 0) (get_or facts (i + 512) 0) ≡ want_at facts i
  unfolding want_at
  want_inside l = ap (λ t. want_if t facts i) (sym (le-leb 24 i l))

  -- and those before them
  pub want_before : i < 24 → get_or facts i 0 ≡ want_at facts i
  unfolding want_at
  want_before l = ap (λ t. want_if t facts i) (sym (lt-leb 24 i l))

-- ---- the facts with wants

module _ {c : Counts} {facts r : List ℕ} (W : Walkable c facts) (R : Wants c.ops facts r) where
  -- the rows before the preconditions
  kept : (i : ℕ) → i < 24 → get_or r i 0 ≡ get_or facts i 0
  kept i l = R.places i (omega arith) ∙ sym (want_before facts i l)

  dom_kept : (v : ℕ) → v < c.vars → dom_at r v ≡ dom_at facts v
  dom_kept v l = kept (0 * 8 + v) (omega (arith, W.vars))

  goal_kept : (v : ℕ) → v < c.vars → goal_at r v ≡ goal_at facts v
  goal_kept v l = kept (2 * 8 + v) (omega (arith, W.vars))

  pre_wanted : (o v : ℕ) → o < c.ops → v < c.vars → pre_at r o v ≡ want_of (pre_at facts o v) (eff_at facts o v)
  pre_wanted o v lo l =
      let e : (3 + o) * 8 + v + 512 ≡ (67 + o) * 8 + v = omega arith in
      R.places ((3 + o) * 8 + v) (omega (arith, W.vars))
      ∙ sym (want_inside facts ((3 + o) * 8 + v) (omega arith))
      ∙ ap (λ (i : ℕ). want_of (pre_at facts o v) (get_or facts i 0)) e

  none_done : (o v : ℕ) → eff_at r o v ≡ 0
  none_done o v = R.rest ((67 + o) * 8 + v) (omega (arith, W.ops))

  pub states_kept : states_of c r ≡ states_of c facts
  states_kept = size_alike (dom_at r) (dom_at facts) c.vars dom_kept

  -- a want is a precondition or an effect
  pub wants_walkable : Walkable c r
  wants_walkable =
      record {
        vars = W.vars;
        ops = W.ops;
        values = λ v l. rw (dom_kept v l) (W.values v l);
        small = λ v l. rw (dom_kept v l) (W.small v l);
        pres =
            λ o v lo l.
            rw (dom_kept v l, pre_wanted o v lo l) (want_below (pre_at facts o v) (eff_at facts o v) (dom_at facts v) (W.pres o v lo l) (W.effects o v lo l));
        effects = λ o v lo l. omega (arith, none_done o v);
        few = rw states_kept W.few;
      }

  -- facts that agree hold at the same states
  hold_alike : (F G : ℕ → ℕ) → ((v : ℕ) → v < c.vars → F v ≡ G v) → (a : ℕ)
      → every (λ v. holds (F v) (digit (dom_at r) a v)) c.vars ≡ every (λ v. holds (G v) (digit (dom_at facts) a v)) c.vars
  hold_alike F G h a =
      every_same (λ v. holds (F v) (digit (dom_at r) a v)) (λ v. holds (G v) (digit (dom_at facts) a v)) c.vars
      (λ v l. ap₂ holds (h v l) (digit_alike (dom_at r) (dom_at facts) c.vars dom_kept a v l))

  pub wants_fit : {t : List ℕ} → Stepped c r 0 t → Fits c facts t
  unfolding wanted
  wants_fit {t} S =
      record {
        ops =
            λ o a lo la.
            steps_fit c r t S o a lo (rw states_kept la)
            ∙ hold_alike (pre_at r o) (λ v. want_of (pre_at facts o v) (eff_at facts o v)) (λ v l. pre_wanted o v lo l) a;
        goal = λ a la. steps_goal c r [] t S a (rw states_kept la) ∙ hold_alike (goal_at r) (goal_at facts) goal_kept a;
      }
