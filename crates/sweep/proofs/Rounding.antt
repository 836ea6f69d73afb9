-- Laws of the rounds: the count is the first unchanged round, and the tables hold the least costs and what stands noted. Assumes nothing.
use mathlib.Core.Path.{◌≡◌, refl, sym, ap, ◌∙◌, subst}
use mathlib.Core.Bool.{Bool, true, false}
use mathlib.Core.List.{List}
use Prim.Native.Nat.{ℕ, ◌+◌, ◌-◌, ◌≤◌, ◌<◌}
use native.Mathlib.Nat.{not-suc-le-zero, le_refl}
use native.Mathlib.Decide.{ℕ_discrete, dec_lt}
use native.Mathlib.Omega.{arith}
use native.Mathlib.Numerals.{add-one}
use lib.ListN.{length, get_or}
use Rattle.graph.specs.Graph.{Graph, Closed}
use Rattle.graph.specs.Least.{least, Unchanged}
use Rattle.graph.specs.Noted.{under, choose}
use Rattle.graph.proofs.Leasts.{least_zero, least_suc}
use Rattle.graph.proofs.Noting.{chosen_same, noted_zero, noted_suc}
use Rattle.graph.proofs.Settles.{best_same}
use Rattle.graph.proofs.Rounded.{settled_at}
use Rattle.graph.proofs.Sizes.{least_most}
use Rattle.meaning.specs.Limits.{most_cost, most_states}
use Rattle.tables.specs.declared.Counts.{Counts}
use Rattle.sweep.specs.Said.{said, said_at}
use Rattle.sweep.specs.Inside.Walks.{space_of, Walkable}
use Rattle.sweep.specs.Inside.Sweeps.{PricesSmall, Addable, Filled, Cleared, Copied, Swept, Noted, Held, HeldNotes, Counted}
use Rattle.sweep.proofs.Saids.{said_lt, said_inj}
use Rattle.sweep.proofs.Picking.{advised_none}
use Rattle.sweep.proofs.Walking.{walkable_closed, walkable_some}

-- a graph with few states and small costs whose steps stay inside
pub record Good (G : Graph) : Type 0 where
  pub some : 1 ≤ G.states
  pub few : G.states ≤ most_states
  pub closed : Closed G
  pub small : (o : ℕ) → o < G.ops → G.cost o ≤ most_cost

pub walkable_good : (c : Counts) (facts prices : List ℕ) → Walkable c facts → PricesSmall c prices → Good (space_of c facts prices)
walkable_good c facts prices W P =
    record { some = walkable_some c facts prices W; few = W.few; closed = walkable_closed c facts prices W; small = P }

-- what the tables hold after r rounds, all of which changed something; t₀, b₀ and w₀ are the tables where the rounds begin
pub record Turn (G : Graph) (t₀ b₀ w₀ t b w : List ℕ) (r : ℕ) : Type 0 where
  pub less : r < G.states
  pub table : Held G t₀ t r
  pub notes : HeldNotes G b₀ b r
  pub work : length w ≡ length w₀
  pub first : (i : ℕ) → 1 ≤ i → i ≤ r → Unchanged G i → ⊥

-- n is the number of states
module _ {G : Graph} (good : Good G) {n : ℕ} (is : n ≡ G.states) where
  pub turn_none : {t₀ t b₀ b w : List ℕ} → Filled n G t₀ t → Cleared n b₀ b → Turn G t b w t b w 0
  turn_none filled cleared =
      record {
        less = good.some;
        table = record { size = refl; made = λ a l. filled.made a (omega (arith, is)) ∙ sym (least_zero G a); kept = λ a l. refl };
        notes =
            record {
              size = refl;
              made = λ a l. advised_none _ (cleared.made a (omega (arith, is))) ∙ sym (noted_zero G a);
              kept = λ a l. refl;
            };
        work = refl;
        first = λ i p l. absurd (not-suc-le-zero (let z : 1 ≤ 0 = omega arith in z));
      }

  -- after fewer rounds than states the numbers leave room for one price more
  pub turn_within : {t₀ b₀ w₀ t b w : List ℕ} {r : ℕ} → Turn G t₀ b₀ w₀ t b w r → Addable n t
  turn_within {t = t} {r = r} turn a k s =
      let d = sym (turn.table.made a (omega (arith, is))) ∙ said_lt (get_or t a 0) s in
      omega (arith, good.few, turn.less, least_most G most_cost good.small r a (get_or t a 0) d)

  module _ {t₀ b₀ w₀ t b w b' w' : List ℕ} {r : ℕ} {changed : Bool} (turn : Turn G t₀ b₀ w₀ t b w r) (swept : Swept n G t w w' changed)
      (noting : Noted n G t b b') where
    sw : Swept G.states G t w w' changed
    sw = subst (λ (k : ℕ). Swept k G t w w' changed) is swept

    next_made : (a : ℕ) → a < G.states → said_at w' a ≡ least G (r + 1) a
    next_made a l =
        rw add-one
        (sw.table.made a l ∙ best_same G good.closed (said_at t) (least G r) turn.table.made a l G.ops (le_refl G.ops)
        ∙ sym (least_suc G r a))

    next_noted : HeldNotes G b₀ b' (r + 1)
    next_noted =
        record {
          size = noting.size ∙ turn.notes.size;
          made =
              λ a l.
              let same = turn.table.made in
              let now = best_same G good.closed (said_at t) (least G r) same a l G.ops (le_refl G.ops) ∙ sym (least_suc G r a) in
              let pick = chosen_same G good.closed (said_at t) (least G r) same a l G.ops (le_refl G.ops) in
              rw add-one
              (noting.made a (omega (arith, is)) ∙ (λ i. choose (under (now i) (same a l i)) (pick i) (turn.notes.made a l i))
              ∙ sym (noted_suc G r a));
          kept = λ a l. noting.kept a (omega (arith, is)) ∙ turn.notes.kept a l;
        }

    back : r + 1 - 1 ≡ r
    back = omega arith

    so_unchanged : changed ≡ false → Unchanged G (r + 1)
    so_unchanged e a l = rw back (sym (next_made a l) ∙ ap said (sw.same e a l) ∙ turn.table.made a l)

    so_changed : changed ≡ true → Unchanged G (r + 1) → ⊥
    so_changed e s =
        sw.differs e
        (λ a l. said_inj (get_or w' a 0) (get_or t a 0) (next_made a l ∙ (rw back at (s a l)) ∙ sym (turn.table.made a l)))

    -- the last round
    pub ends : {u₀ v₀ : List ℕ} → Filled n G u₀ t₀ → Cleared n v₀ b₀ → changed ≡ false → Counted G u₀ t v₀ b' (r + 1)
    ends filled cleared e =
        record {
          rounds = record { positive = omega arith; unchanged = so_unchanged e; smallest = λ i p l. turn.first i p (omega arith) };
          table =
              record {
                size = turn.table.size ∙ filled.size;
                made = λ a l. ap said (sym (sw.same e a l)) ∙ next_made a l;
                kept = λ a l. turn.table.kept a l ∙ filled.kept a (omega (arith, is));
              };
          notes =
              record {
                size = next_noted.size ∙ cleared.size;
                made = next_noted.made;
                kept = λ a l. next_noted.kept a l ∙ cleared.kept a (omega (arith, is));
              };
        }

    first_more : changed ≡ true → (i : ℕ) → 1 ≤ i → i ≤ r + 1 → Unchanged G i → ⊥
    first_more e i p l s = pick (ℕ_discrete i (r + 1))
      where
        pick : Dec (i ≡ r + 1) → ⊥
        pick (yes q) = so_changed e (subst (λ (x : ℕ). Unchanged G x) q s)
        pick (no q) = turn.first i p (omega arith) s

    less_more : changed ≡ true → r + 1 < G.states
    less_more e = pick (dec_lt (r + 1) G.states)
      where
        pick : Dec (r + 1 < G.states) → r + 1 < G.states
        pick (yes l) = l
        pick (no l) =
            absurd
            (first_more e G.states good.some (omega arith)
            (settled_at G good.closed G.states good.some (le_refl G.states)))

    -- any other round
    pub goes_on : {t' : List ℕ} → Copied n w' t t' → changed ≡ true → Turn G t₀ b₀ w₀ t' b' w' (r + 1)
    goes_on {t' = t'} copied e =
        let cp : Copied G.states w' t t' = subst (λ (k : ℕ). Copied k w' t t') is copied in
        record {
          less = less_more e;
          table =
              record {
                size = cp.size ∙ turn.table.size;
                made = λ a l. ap said (cp.made a l) ∙ next_made a l;
                kept = λ a l. cp.kept a l ∙ turn.table.kept a l;
              };
          notes = next_noted;
          work = sw.table.size ∙ turn.work;
          first = first_more e;
        }
