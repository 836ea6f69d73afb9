-- Laws of the begin and of the whole: before a goal is set nobody waits and there are no labels; and tables made of the labels and steps of a run that has ended
-- say the distances and the best steps. Assumes nothing.
use mathlib.Core.Path.{◌≡◌, sym, ap, ◌∙◌, subst}
use mathlib.Core.List.{List, ◌++◌}
use Prim.Native.Nat.{ℕ, ◌+◌, ◌*◌, ◌≤◌, ◌<◌}
use native.Mathlib.Nat.{not-suc-le-zero, mul-le-mul_right}
use native.Mathlib.Omega.{arith}
use lib.ListN.{length, get_or, take, drop, replicate, length-replicate, get_or-replicate, get_or-eq_default}
use Rattle.std.proofs.lemmas.List.{length-take-le, get_or-take}
use Rattle.graph.specs.Graph.{Graph, Closed, IsDistance}
use Rattle.graph.specs.Certificate.{scaled}
use Rattle.graph.specs.Best.{IsBestStep}
use Rattle.meaning.specs.Limits.{most_ops, most_states}
use Rattle.tables.specs.declared.Counts.{Counts}
use Rattle.maps.specs.Said.{HALT, said, advised}
use Rattle.maps.specs.Inside.Walks.{space_of, states_of, Walkable, PricesSmall}
use Rattle.maps.specs.Inside.Made.{Made, Copied}
use Rattle.maps.specs.Inside.Rows.{lanes}
use Rattle.maps.proofs.Walking.{walkable_closed}
use Rattle.maps.proofs.Slices.{made_front}
use Rattle.waiting.specs.Trees.{NOKEY, leaf}
use Rattle.waiting.specs.Offers.{NOLABEL}
use Rattle.waiting.proofs.Trees.{key_none, tree_none}
use Rattle.quick.specs.Inside.Runs.{scaled_of, Run, Nothing}
use Rattle.quick.specs.Inside.Answers.{shown, Distances, BestSteps}
use Rattle.quick.proofs.Finishing.{Ended, shown_distance, found_best}

-- where nothing is known of the states and nobody waits, a run begins
blank : (H : Graph) {L β : List ℕ} → Closed H → H.states ≤ most_states → H.states ≤ length L → H.states ≤ length β
    → ((a : ℕ) → a < H.states → (get_or L a 0 ≡ NOLABEL) × (get_or β a 0 ≡ HALT)) → Run (scaled H 4096) 0 0 Nothing L (replicate 4368 NOKEY) β
blank H closed few size_L size_β none =
    record {
      size_L = size_L;
      size_t = length-replicate 4368 NOKEY;
      size_β = size_β;
      high = λ a l. omega (arith, (none a l).0);
      reached = λ a l h. absurd (omega (arith, (none a l).0));
      goals = λ a l g. absurd (not-suc-le-zero l);
      tree = tree_none;
      waits = λ a l h. absurd (omega (arith, key_none (272 + a) (omega arith)));
      shaped = λ a l h. absurd (omega (arith, key_none (272 + a) (omega arith)));
      tight =
          λ o a b lo la e h n.
          let there = none b (closed o a b lo la e) in
          (omega (arith, (none a la).0, there.0), λ q. absurd (omega (arith, (none a la).0, there.0)));
      bytes = λ a l. omega (arith, (none a l).1);
      steps = λ a l h. absurd (omega (arith, (none a l).1));
      none = λ a l e h. absurd (omega (arith, (none a l).0));
    }

pub fresh : (H : Graph) {L t β : List ℕ} → Closed H → H.states ≤ most_states → H.states ≤ length L → H.states ≤ length β → t ≡ replicate 4368 NOKEY
    → ((a : ℕ) → a < H.states → (get_or L a 0 ≡ NOLABEL) × (get_or β a 0 ≡ HALT)) → Run (scaled H 4096) 0 0 Nothing L t β
fresh H {L} {t} {β} closed few size_L size_β e none = subst (λ (u : List ℕ). Run (scaled H 4096) 0 0 Nothing L u β) (sym e) (blank H closed few size_L size_β none)

-- in room for k states, no fewer than there are, nothing is known yet
pub none_yet : (k n : ℕ) → n ≤ k
    → (n ≤ length (replicate k NOLABEL)) × (n ≤ length (replicate k HALT)) × ((a : ℕ) → a < n → (get_or (replicate k NOLABEL) a 0 ≡ NOLABEL) × (get_or (replicate k HALT) a 0 ≡ HALT))
none_yet k n h = (
  omega (arith, length-replicate k NOLABEL),
  omega (arith, length-replicate k HALT),
  λ a l. (get_or-replicate k a NOLABEL 0 (omega arith), get_or-replicate k a HALT 0 (omega arith)),
)

pub fresh_room : (H : Graph) (k : ℕ) {t : List ℕ} → Closed H → H.states ≤ most_states → H.states ≤ k → t ≡ replicate 4368 NOKEY
    → Run (scaled H 4096) 0 0 Nothing (replicate k NOLABEL) t (replicate k HALT)
fresh_room H k closed few room e = let yet = none_yet k H.states room in fresh H closed few yet.0 yet.1 e yet.2

-- the rows of n states and the operators' offsets among them fit in the room for k
pub rooms_fit : (k n ops : ℕ) → n ≤ k → ops ≤ most_ops → (n * lanes ≤ k * lanes) × (ops * n ≤ most_ops * k)
rooms_fit k n ops h l = (mul-le-mul_right lanes h, omega (arith, mul-le-mul_right n l, mul-le-mul_right most_ops h))

-- ---- the end

pub run_ended : (c : Counts) (facts prices : List ℕ) {L t β : List ℕ} → Walkable c facts → PricesSmall c prices
    → Run (scaled_of c facts prices) (states_of c facts) 0 Nothing L t β → ((a : ℕ) → a < most_states → NOKEY ≤ leaf t a) → Ended (space_of c facts prices) L t β
run_ended c facts prices W P R rest = record { closed = walkable_closed c facts prices W; few = W.few; small = P; run = R; rest = rest }

made_as : {P Q : ℕ → ℕ → Type 0} {n k : ℕ} {t₀ t : List ℕ} → n ≡ k → ((a x : ℕ) → a < k → P a x → Q a x) → Made P n t₀ t → Made Q k t₀ t
made_as {t = t} e f M = record { size = M.size; made = λ a l. f a (get_or t a 0) l (M.made a (omega arith)); kept = λ a l. M.kept a (omega arith) }

module _ {H : Graph} {L t β : List ℕ} (E : Ended H L t β) {n : ℕ} (is : n ≡ H.states) where
  pub distances_shown : {out₀ out : List ℕ} → Made (λ a x. x ≡ shown (get_or L a 0)) n out₀ out → Distances H out₀ out
  distances_shown = made_as is (λ a x l e. subst (λ (y : ℕ). IsDistance H a (said y)) (sym e) (shown_distance E a l))

  pub steps_copied : {best₀ best : List ℕ} → Copied n β best₀ best → BestSteps H best₀ best
  steps_copied = made_as is (λ a x l e. subst (λ (y : ℕ). IsBestStep H a (advised y)) (sym e) (found_best E a l))

-- ---- the first places of longer tables

-- what the first labels show, for what the labels show
pub front_shown : (L out : List ℕ) {out' : List ℕ} {n : ℕ} → n ≤ length L → n ≤ length out
    → Made (λ a x. x ≡ shown (get_or (take n L) a 0)) (length (take n L)) (take n out) out' → Made (λ a x. x ≡ shown (get_or L a 0)) n out (out' ++ drop n out)
front_shown L out {out'} {n} few room m =
    let long : length (take n L) ≡ n = length-take-le n L few in
    made_front room
    (record {
      size = m.size;
      made = λ a l. m.made a (omega (arith, long)) ∙ ap shown (get_or-take n L a 0 l);
      kept = λ a h. m.kept a (omega (arith, long));
    })

-- the first steps found, copied
pub front_copied : (β best : List ℕ) {best' : List ℕ} {n : ℕ} → n ≤ length β → n ≤ length best → best' ≡ take n β → Copied n β best (best' ++ drop n best)
front_copied β best {best'} {n} few room e =
    let long : length best' ≡ n = ap length e ∙ length-take-le n β few in
    let front : length (take n best) ≡ n = length-take-le n best room in
    made_front room
    (record {
      size = long ∙ sym front;
      made = λ a l. ap (λ (r : List ℕ). get_or r a 0) e ∙ get_or-take n β a 0 l;
      kept = λ a h. get_or-eq_default best' 0 (omega (arith, long)) ∙ sym (get_or-eq_default (take n best) 0 (omega (arith, front)));
    })
