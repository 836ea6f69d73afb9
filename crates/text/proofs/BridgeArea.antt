-- The work area against the grammar's tables: a fact, a cost and a share stored in the area are stored in the tables that it stands for, and what the machine asks
-- of the area is what the grammar asks of them. Assumes nothing.
use Prim.Native.Nat.{ℕ, zero, suc, ◌+◌, ◌*◌, ◌/◌, ◌%◌, ◌≤◌, ◌<◌, min}
use native.Mathlib.Omega.{arith}
use mathlib.Core.Path.{◌≡◌, refl, sym, ap, ap₂, ◌∙◌}
use native.Mathlib.Nat.{zero-add}
use mathlib.Core.List.{List}
use lib.ListN.{length, get_or, set, take, length-set}
use lib.Seq.{get_or-set_same, get_or-set_other, take-set-le, take-set-lt, get_or-take}
use Rattle.tables.specs.declared.Counts.{Counts}
use Rattle.tables.specs.Layout.{facts_room, costs_room, shares_room, pre_place, eff_place, share_place, dom_at}
use Rattle.text.specs.declared.Ctrl.{Ctrl}
use Rattle.refusals.specs.declared.Refusal.TheVariants.{SharesAboveCost}
use Rattle.meaning.specs.Limits.{most_ops, most_maps}
use Rattle.meaning.specs.Views.{asked, idle}
use Rattle.meaning.proofs.Facts.{every_same}
use Rattle.tables.specs.Lines.{line_of_op}
use Rattle.tables.specs.Steps.{is_idle}
use Rattle.tables.specs.Task.{sas_of, task_of}
use Rattle.scan.specs.Scan.{unless, each, split_fault}
use Rattle.grammar.proofs.SpellClasses.{sum_same, each_same}
use lib.Dec.{leb}
use Rattle.grammar.specs.Grammar.{put_fact, put_cost, put_share}
use Rattle.text.specs.Inside.Area.{costs_byte, shares_byte, put_byte, word_in, put_word, threes, cost_byte, share_byte, dom_in, area_room}
use Rattle.text.specs.Inside.Control.{mk}
use Rattle.text.specs.Inside.End.{over}
use Rattle.text.proofs.BridgeReading.{tables_of}

-- ---- numbers of 3 bytes
get3_low : (w : List ℕ) (p i v : ℕ) → p < i → word_in (set w p v) i ≡ word_in w i
unfolding word_in
get3_low w p i v h =
    rw (get_or-set_other w p i v 0 (λ e. omega arith), get_or-set_other w p (i + 1) v 0 (λ e. omega arith), get_or-set_other w p (i + 2) v 0 (λ e. omega arith))

get3_high : (w : List ℕ) (p i v : ℕ) → i + 2 < p → word_in (set w p v) i ≡ word_in w i
unfolding word_in
get3_high w p i v h =
    rw (get_or-set_other w p i v 0 (λ e. omega arith), get_or-set_other w p (i + 1) v 0 (λ e. omega arith), get_or-set_other w p (i + 2) v 0 (λ e. omega arith))

three_bytes : (v : ℕ) → v < 16777216 → v % 256 + 256 * (v / 256 % 256) + 65536 * (v / 65536 % 256) ≡ v
three_bytes v h = omega arith

get3_put3 : (w : List ℕ) (i v : ℕ) → i + 2 < length w → v < 16777216 → word_in (put_word w i v) i ≡ v
unfolding word_in put_word put_byte
get3_put3 w i v h q =
    let a = v % 256 in
    let b = v / 256 % 256 in
    let c = v / 65536 % 256 in
    let w₁ = set w i a in
    let w₂ = set w₁ (i + 1) b in
    let l₁ : length w₁ ≡ length w = length-set w i a in
    let l₂ : length w₂ ≡ length w₁ = length-set w₁ (i + 1) b in
    let e₀ : get_or (set w₂ (i + 2) c) i 0 ≡ a =
    get_or-set_other w₂ (i + 2) i c 0 (λ e. omega arith) ∙ get_or-set_other w₁ (i + 1) i b 0 (λ e. omega arith) ∙ get_or-set_same w i a 0 (omega arith) in
    let e₁ : get_or (set w₂ (i + 2) c) (i + 1) 0 ≡ b = get_or-set_other w₂ (i + 2) (i + 1) c 0 (λ e. omega arith) ∙ get_or-set_same w₁ (i + 1) b 0 (omega arith) in
    let e₂ : get_or (set w₂ (i + 2) c) (i + 2) 0 ≡ c = get_or-set_same w₂ (i + 2) c 0 (omega arith) in
    rw (e₀, e₁, e₂) (three_bytes v q)

threes_low : (n i : ℕ) (w : List ℕ) (p v : ℕ) → p < i → threes n i (set w p v) ≡ threes n i w
unfolding threes
threes_low zero i w p v h = refl
threes_low (suc n) i w p v h = rw (get3_low w p i v h, threes_low n (i + 3) w p v (omega arith))

threes_high : (n i : ℕ) (w : List ℕ) (p v : ℕ) → i + 3 * n ≤ p → threes n i (set w p v) ≡ threes n i w
unfolding threes
threes_high zero i w p v h = refl
threes_high (suc n) i w p v h = rw (get3_high w p i v (omega arith), threes_high n (i + 3) w p v (omega arith))

pub put_get_or : (w : List ℕ) (p v i : ℕ) → i < p → get_or (put_byte w p v) i 0 ≡ get_or w i 0
unfolding put_byte
put_get_or w p v i h = get_or-set_other w p i (v % 256) 0 (λ e. omega arith)

pub put_same : (w : List ℕ) (p v : ℕ) → p < length w → v < 256 → get_or (put_byte w p v) p 0 ≡ v
unfolding put_byte
put_same w p v h q = get_or-set_same w p (v % 256) 0 h ∙ (let e : v % 256 ≡ v = omega arith in e)

pub put_length : (w : List ℕ) (p v : ℕ) → length (put_byte w p v) ≡ length w
unfolding put_byte
put_length w p v = length-set w p (v % 256)

-- a number of 3 bytes leaves alone what lies before it and after it
module _ (w : List ℕ) (p v : ℕ) where
  put3_get_high : (i : ℕ) → i + 2 < p → word_in (put_word w p v) i ≡ word_in w i
  unfolding put_word put_byte
  put3_get_high i h = get3_high _ (p + 2) i _ (omega arith) ∙ get3_high _ (p + 1) i _ (omega arith) ∙ get3_high w p i _ h

  put3_low : (n i : ℕ) → p + 2 < i → threes n i (put_word w p v) ≡ threes n i w
  unfolding put_word put_byte
  put3_low n i h = threes_low n i _ (p + 2) _ (omega arith) ∙ threes_low n i _ (p + 1) _ (omega arith) ∙ threes_low n i w p _ (omega arith)

  put3_high : (n i : ℕ) → i + 3 * n ≤ p → threes n i (put_word w p v) ≡ threes n i w
  unfolding put_word put_byte
  put3_high n i h = threes_high n i _ (p + 2) _ (omega arith) ∙ threes_high n i _ (p + 1) _ (omega arith) ∙ threes_high n i w p _ h

  put3_take : (n : ℕ) → n ≤ p → take n (put_word w p v) ≡ take n w
  unfolding put_word put_byte
  put3_take n h = take-set-le n _ (p + 2) _ (omega arith) ∙ take-set-le n _ (p + 1) _ (omega arith) ∙ take-set-le n w p _ h

  pub put3_length : length (put_word w p v) ≡ length w
  unfolding put_word put_byte
  put3_length = simp length-set

  pub put3_get_or : (i : ℕ) → i < p → get_or (put_word w p v) i 0 ≡ get_or w i 0
  unfolding put_word
  put3_get_or i h =
      put_get_or (put_byte (put_byte w p v) (p + 1) (v / 256)) (p + 2) (v / 65536) i (omega arith)
      ∙ put_get_or (put_byte w p v) (p + 1) (v / 256) i (omega arith)
      ∙ put_get_or w p v i h

threes_set : (n i : ℕ) (w : List ℕ) (o v p : ℕ) → p ≡ i + 3 * o → o < n → i + 3 * n ≤ length w → v < 16777216 → threes n i (put_word w p v) ≡ set (threes n i w) o v
unfolding threes
threes_set zero i w o v p e h g q = let n : ⊥ = omega arith in absurd n
threes_set (suc n) i w zero v p e h g q =
    let z : p ≡ i = omega arith in
    rw z (rw (get3_put3 w i v (omega arith) q, put3_low w i v n (i + 3) (omega arith)))
threes_set (suc n) i w (suc o) v p e h g q =
    rw (put3_get_high w p v i (omega arith), threes_set n (i + 3) w o v p (omega arith) (omega arith) (omega arith) q)

threes_get : (n i : ℕ) (w : List ℕ) (o p : ℕ) → p ≡ i + 3 * o → o < n → get_or (threes n i w) o 0 ≡ word_in w p
unfolding threes
threes_get zero i w o p e h = let n : ⊥ = omega arith in absurd n
threes_get (suc n) i w zero p e h = let z : p ≡ i = omega arith in rw z
threes_get (suc n) i w (suc o) p e h = threes_get n (i + 3) w o p (omega arith) (omega arith)

-- ---- the three laws
module _ (n : Counts) (w : List ℕ) (long : length w ≡ area_room) where
  pub fact_kept : (p v : ℕ) → p < facts_room → v < 256 → tables_of n (put_byte w p v) ≡ put_fact p v (tables_of n w)
  unfolding tables_of put_byte
  fact_kept p v h q =
      let e : v % 256 ≡ v = omega arith in
      rw e (simp (take-set-lt facts_room w p v h, threes_low costs_room costs_byte w p v h, threes_low shares_room shares_byte w p v (omega arith)))

  pub cost_kept : (o v : ℕ) → o < costs_room → v < 16777216 → tables_of n (put_word w (cost_byte o) v) ≡ put_cost o v (tables_of n w)
  unfolding tables_of
  cost_kept o v h q =
      simp (
        put3_take w (cost_byte o) v facts_room (omega arith),
        threes_set costs_room costs_byte w o v (cost_byte o) refl h (omega arith) q,
        put3_low w (cost_byte o) v shares_room shares_byte (omega arith),
      )

  pub share_kept : (i v : ℕ) → i < shares_room → v < 16777216 → tables_of n (put_word w (shares_byte + 3 * i) v) ≡ put_share i v (tables_of n w)
  unfolding tables_of
  share_kept i v h q =
      let p = shares_byte + 3 * i in
      simp (put3_take w p v facts_room (omega arith), put3_high w p v costs_room costs_byte (omega arith), threes_set shares_room shares_byte w i v p refl h (omega arith) q)

-- what stands in the tables
pub dom_of : (n : Counts) (w : List ℕ) (v : ℕ) → v < facts_room → dom_at (tables_of n w).facts v ≡ dom_in w v
unfolding tables_of
dom_of n w v h = ap (λ (i : ℕ). get_or (take facts_room w) i 0) (zero-add v) ∙ get_or-take facts_room w v 0 h

-- an operator is idle by the area's rows exactly if it is by those of the tables
pub idle_of : (n : Counts) (w : List ℕ) (o : ℕ) → n.vars ≤ 8 → o < 64 → is_idle n.vars w o ≡ idle (sas_of (tables_of n w)) o
unfolding is_idle tables_of
idle_of n w o few h =
    every_same _ _ n.vars
    (λ v l. sym (ap₂ asked (get_or-take facts_room w (pre_place o v) 0 (omega arith)) (get_or-take facts_room w (eff_place o v) 0 (omega arith))))

-- shares above costs, in the area and in its tables
pub over_of : (c : Ctrl) (w : List ℕ) (n : Counts) → c.counts ≡ n → n.ops ≤ most_ops → n.maps ≤ most_maps
    → over (mk c w) ≡ each (split_fault (task_of (tables_of n w))) n.ops 0
unfolding over tables_of split_fault
over_of c w n same h g =
    let e : min n.maps most_maps ≡ n.maps = omega arith in
    let q : min n.ops most_ops ≡ n.ops = omega arith in
    rw (same, e, q)
    (each_same _ _ n.ops 0
    (λ o a b.
    ap₂ (λ (x y : ℕ). unless (leb x y) (SharesAboveCost (line_of_op n.edition o)))
    (sum_same _ _ n.maps (λ i l. sym (threes_get shares_room shares_byte w (share_place i o) (share_byte i o) refl (omega arith))))
    (sym (threes_get costs_room costs_byte w o (cost_byte o) refl (omega arith)))))
