-- The classes of a map, variable by variable, read as the grammar says: the mask is that of the classes kept so far, and the states are the
-- product of the variables' counts. Assumes nothing.
use Prim.Native.Nat.{ℕ, zero, suc, ◌+◌, ◌-◌, ◌*◌, ◌≤◌, ◌<◌, min, zero-le}
use native.Mathlib.Omega.{arith}
use native.Mathlib.Numerals.{add-one}
use mathlib.Core.Path.{◌≡◌, refl, sym, ap, ap₂, ◌∙◌}
use mathlib.Core.List.{List, [], ◌∷◌}
use mathlib.Core.Bool.{Bool, true, false, cond}
use lib.ListN.{length, set}
use lib.Seq.{get_or-set_same, get_or-set_other, length-take-le}
use lib.Dec.{ltb, leb, eqb}
use borrow.Author.Tests.{eq-eqb, ne_eqb, eqb-true, eqb-false, lt-ltb, le-ltb, ltb-true, ltb-false, le-leb, leb-true, leb-false}
use Rattle.refusals.specs.declared.Refusal.TheVariants.{ClassMissing, TooManyStates}
use Rattle.meaning.specs.Numbering.{size}
use Rattle.meaning.specs.Views.{abstract_states}
use Rattle.meaning.specs.Split.{count_of, view}
use Rattle.meaning.specs.Limits.{most_states}
use Rattle.tables.specs.declared.Counts.{Counts}
use Rattle.tables.specs.Layout.{Tables, facts_room, class_place, dom_place, dom_at, class_at}
use Rattle.tables.specs.Task.{sas_of, task_of}
use Rattle.tables.specs.Classes.{none_missing}
use Rattle.tables.specs.Inside.Masks.{mask_of}
use Rattle.tables.proofs.Masks.{mask_width, mask_whole}
use Rattle.text.specs.declared.Halt.TheVariants.{Going, Missing, States}
use Rattle.text.specs.declared.Ctrl.{Ctrl}
use Rattle.grammar.specs.Fields.{comma, slash, line_end}
use Rattle.grammar.specs.Grammar.{Rest, ◌▸◌, nothing, ask, keep, demand, lit, fits, parted, put_fact, number_row, class_list, class_lists, map_classes}
use Rattle.grammar.proofs.SpellClasses.{count_same, size_same}
use Rattle.text.specs.Inside.Area.{area_room, put_byte, dom_in}
use Rattle.text.specs.Inside.Control.{up, due, with_digit, part_begun, to_line, row_or, next_line, field_class, field_share}
use Rattle.text.specs.Inside.Fields.{limit, with_class, width, gapless, times, counts_with, seen_with, noted, last_class, last_var, class_fault, before, fault, stored, kind, states_over}
use Rattle.text.specs.Inside.Steps.{sign, after_class, after_number}
use Rattle.text.proofs.BridgeReading.{tables_of, reading, Bytes}
use Rattle.text.proofs.BridgeNumbers.{run_of_lem, faulty}
use Rattle.grammar.proofs.Runs.{within_both, Stop}
use Rattle.text.proofs.BridgeArea.{fact_kept, dom_of, put_get_or}
use Rattle.text.proofs.BridgeRows.{then_sign, judged_in, Fits, Known, known_put, a_class}
use Rattle.text.proofs.BridgeLines.{eol, bare}
use Rattle.text.proofs.BridgeFacts.{number_at}
use Rattle.text.proofs.BridgeOps.{after_row}

-- ---- the abstract states so far, capped
times_cap : (s c : ℕ) → 1 ≤ c → times (min s states_over) c ≡ min (s * c) states_over
unfolding times
times_cap s zero h = let n : ⊥ = omega arith in absurd n
times_cap s (suc c) h = split (ltb most_states (min s states_over)) refl
  where
    split : (q : Bool) → ltb most_states (min s states_over) ≡ q → cond (ltb most_states (min s states_over)) states_over (min (min s states_over * suc c) states_over) ≡ min (s * suc c) states_over
    split true e = let g = ltb-true most_states (min s states_over) e in rw e (omega arith)
    split false e =
        let g = ltb-false most_states (min s states_over) e in
        let y : min s states_over ≡ s = omega arith in
        rw e (rw y)

-- ---- the byte after a class
module _ (l v i r m p : ℕ) (n : Counts) (z x b : ℕ) (w : List ℕ) where
  class_more : i + 1 < dom_in w v → i < 8
      → after_number (noted (with_digit (a_class l v i r m p n) z x)) w b ≡ sign (noted (with_digit (a_class l v i r m p n) z x)) b comma (a_class l v (i + 1) r (with_class m x) p n)
  unfolding after_number kind after_class last_class noted with_digit due seen_with counts_with
  class_more h g = let e : up i ≡ i + 1 = omega arith in rw (e, ne_eqb (i + 1) (dom_in w v) (λ q. omega arith))

  class_slash : i + 1 ≡ dom_in w v → i < 8 → v + 1 < n.vars → v < 8
      → after_number (noted (with_digit (a_class l v i r m p n) z x)) w b
      ≡ sign (noted (with_digit (a_class l v i r m p n) z x)) b slash (a_class l (v + 1) 0 r 0 (times p (width (with_class m x))) n)
  unfolding after_number kind after_class last_class last_var noted with_digit due seen_with counts_with
  class_slash h g e y =
      let q : up i ≡ dom_in w v = omega arith in
      let s : up v ≡ v + 1 = omega arith in
      rw (eq-eqb (up i) (dom_in w v) q, s, ne_eqb (v + 1) n.vars (λ o. omega arith))

  class_end : i + 1 ≡ dom_in w v → i < 8 → v + 1 ≡ n.vars → v < 8
      → after_number (noted (with_digit (a_class l v i r m p n) z x)) w b ≡ sign (noted (with_digit (a_class l v i r m p n) z x)) b line_end (after_row l field_class field_share r n.maps n)
  unfolding after_number kind after_class last_class last_var noted with_digit next_line row_or to_line part_begun seen_with counts_with
  class_end h g e y =
      let q : up i ≡ dom_in w v = omega arith in
      let s : up v ≡ n.vars = omega arith in
      rw (eq-eqb (up i) (dom_in w v) q, eq-eqb (up v) n.vars s)

-- ---- the fault told after a class
module _ (l v i r m p : ℕ) (n : Counts) (z x : ℕ) (w : List ℕ) (y : z ≡ 0 → ⊥) (s : fits x 0 (dom_in w v) ≡ true) where
  class_fault_lem : fault (with_digit (a_class l v i r m p n) z x) w ≡ before (noted (with_digit (a_class l v i r m p n) z x)) w
  unfolding fault limit
  class_fault_lem = rw (judged_in (a_class l v i r m p n) w z x s, run_of_lem (a_class l v i r m p n) z x, ne_eqb z 0 y, le-leb 0 x zero-le)

  none_yet : i + 1 < dom_in w v → i < 8 → fault (with_digit (a_class l v i r m p n) z x) w ≡ Going
  unfolding before last_class noted with_digit seen_with counts_with
  none_yet h g = class_fault_lem ∙ (let e : up i ≡ i + 1 = omega arith in rw (e, ne_eqb (i + 1) (dom_in w v) (λ q. omega arith)))

  told_last : i + 1 ≡ dom_in w v → i < 8
      → fault (with_digit (a_class l v i r m p n) z x) w
      ≡ cond (gapless (with_class m x)) (cond (eqb (up v) n.vars) (cond (ltb most_states (times p (width (with_class m x)))) States Going) Going) Missing
  unfolding before last_class class_fault last_var noted with_digit seen_with counts_with
  told_last h g = class_fault_lem ∙ (let e : up i ≡ dom_in w v = omega arith in rw (eq-eqb (up i) (dom_in w v) e))

-- ---- the classes kept so far
abbrev cls : Counts → List ℕ → ℕ → ℕ → ℕ → ℕ
cls n w r v = class_at (tables_of n w).facts r v

abbrev counted : Counts → List ℕ → ℕ → ℕ → ℕ
counted n w r v = count_of (cls n w r v) (dom_at (tables_of n w).facts v)

mask_same : (f g : ℕ → ℕ) (n : ℕ) → ((x : ℕ) → x < n → f x ≡ g x) → mask_of f n ≡ mask_of g n
mask_same f g zero h = refl
mask_same f g (suc n) h = rw (mask_same f g n (λ x l. h x (omega arith)), h n (omega arith))

count_some : (c : ℕ → ℕ) (i d : ℕ) → i + 1 ≡ d → 1 ≤ count_of c d
count_some c i zero e = let f : ⊥ = omega arith in absurd f
count_some c i (suc d) e = omega arith

-- one class more: its variable's mask has it, and the counts of the variables before are as they were
module _ (n : Counts) (r v i x : ℕ) (w : List ℕ) (long : length w ≡ area_room) (hr : r < 8) (hv : v < 8) (hi : i < 8) (hx : x < 8)
    (few : (u : ℕ) → u < v → dom_at (tables_of n w).facts u ≤ 8) where
  facts_set : (tables_of n (put_byte w (class_place r v i) x)).facts ≡ set (tables_of n w).facts (class_place r v i) x
  facts_set = ap (λ (T : Tables). T.facts) (fact_kept n w long (class_place r v i) x (omega arith) (omega arith))

  facts_long : length (tables_of n w).facts ≡ facts_room
  unfolding tables_of
  facts_long = length-take-le facts_room w (omega arith)

  same_class : cls n (put_byte w (class_place r v i) x) r v i ≡ x
  same_class =
      ap (λ (F : List ℕ). class_at F r v i) facts_set
      ∙ get_or-set_same (tables_of n w).facts (class_place r v i) x 0 (let l = facts_long in omega arith)

  other_class : (u j : ℕ) → class_place r u j < class_place r v i → cls n (put_byte w (class_place r v i) x) r u j ≡ cls n w r u j
  other_class u j l =
      ap (λ (F : List ℕ). class_at F r u j) facts_set
      ∙ get_or-set_other (tables_of n w).facts (class_place r v i) (class_place r u j) x 0 (λ e. omega arith)

  other_dom : (u : ℕ) → u < 8 → dom_at (tables_of n (put_byte w (class_place r v i) x)).facts u ≡ dom_at (tables_of n w).facts u
  other_dom u l =
      ap (λ (F : List ℕ). dom_at F u) facts_set
      ∙ get_or-set_other (tables_of n w).facts (class_place r v i) (dom_place u) x 0 (λ e. omega arith)

  mask_next : with_class (mask_of (cls n w r v) i) x ≡ mask_of (cls n (put_byte w (class_place r v i) x) r v) (i + 1)
  unfolding with_class
  mask_next =
      rw (
        lt-ltb x 32 (omega arith),
        add-one i,
        same_class,
        mask_same (cls n (put_byte w (class_place r v i) x) r v) (cls n w r v) i (λ j l. other_class v j (omega arith)),
      )

  sizes : size (counted n (put_byte w (class_place r v i) x) r) v ≡ size (counted n w r) v
  sizes =
      size_same (counted n (put_byte w (class_place r v i) x) r) (counted n w r) v
      (λ u l.
      ap (count_of (cls n (put_byte w (class_place r v i) x) r u)) (other_dom u (omega arith))
      ∙ count_same (cls n (put_byte w (class_place r v i) x) r u) (cls n w r u) (dom_at (tables_of n w).facts u)
      (λ j q. other_class u j (let h = few u l in omega arith)))

-- ---- where the reading stands in a variable's list: its first i classes are kept, and p is the states of the variables before, capped
record At (n : Counts) (r v i p : ℕ) (w : List ℕ) : Type 0 where
  known : Known n.vars w
  below : (j : ℕ) → j < i → cls n w r v j < dom_in w v
  prod : p ≡ min (size (counted n w r) v) states_over

module _ (n : Counts) (sized : Fits n) (r v i x p : ℕ) (hr : r < 8) (hv : v < n.vars) (w : List ℕ) (g : At n r v i p w) (hi : i < dom_in w v)
    (hx : x < dom_in w v) where
  few : (u : ℕ) → u < v → dom_at (tables_of n w).facts u ≤ 8
  few u l =
      let h = sized.high in
      let d = g.known.doms u (omega arith) in
      let e : dom_at (tables_of n w).facts u ≡ dom_in w u = dom_of n w u (omega arith) in
      omega arith

  low : (v < 8) × (dom_in w v ≤ 8)
  low = let h = sized.high in let d = g.known.doms v hv in (omega arith, d.1)

  dom_same : dom_in (put_byte w (class_place r v i) x) v ≡ dom_in w v
  dom_same = let h = low in put_get_or w (class_place r v i) x v (omega arith)

  mask_goes : with_class (mask_of (cls n w r v) i) x ≡ mask_of (cls n (put_byte w (class_place r v i) x) r v) (i + 1)
  mask_goes = let h = low in mask_next n r v i x w g.known.long hr h.0 (omega arith) (omega arith) few

  sizes_stay : size (counted n (put_byte w (class_place r v i) x) r) v ≡ size (counted n w r) v
  sizes_stay = let h = low in sizes n r v i x w g.known.long hr h.0 (omega arith) (omega arith) few

  kept_below : (j : ℕ) → j < i + 1 → cls n (put_byte w (class_place r v i) x) r v j < dom_in w v
  kept_below j l = split (eqb j i) refl
    where
      split : (q : Bool) → eqb j i ≡ q → cls n (put_byte w (class_place r v i) x) r v j < dom_in w v
      split true e =
          let h = low in
          rw (eqb-true j i e, same_class n r v i x w g.known.long hr h.0 (omega arith) (omega arith) few) hx
      split false e =
          let h = low in
          let d : j ≡ i → ⊥ = eqb-false j i e in
          rw (other_class n r v i x w g.known.long hr h.0 (omega arith) (omega arith) few v j (omega arith)) (g.below j (omega arith))

  next_at : At n r v (i + 1) p (put_byte w (class_place r v i) x)
  next_at =
      let h = low in
      record {
        known = known_put g.known (class_place r v i) x (let y = sized.high in omega arith);
        below = λ j l. rw dom_same (kept_below j l);
        prod = g.prod ∙ ap (λ (s : ℕ). min s states_over) (sym sizes_stay);
      }

-- ---- the classes of one variable; `last` reads its last class and what follows
module _ (l r v : ℕ) (n : Counts) (sized : Fits n) (hr : r < 8) (hv : v < n.vars) (p : ℕ) (K : Rest)
    (last : (i z x : ℕ) (w u : List ℕ) → At n r v i p w → i + 1 ≡ dom_in w v → (z ≡ 0 → ⊥) → fits x 0 (dom_in w v) ≡ true → Stop u → Bytes u
    → reading (with_digit (a_class l v i r (mask_of (cls n w r v) i) p n) z x) w u ≡ K u l (tables_of n (put_byte w (class_place r v i) x))) where
  classes_ok : (m i : ℕ) (w : List ℕ) → At n r v i p w → i + suc m ≡ dom_in w v → (t : List ℕ) → Bytes t
      → reading (a_class l v i r (mask_of (cls n w r v) i) p n) w t
      ≡ number_row 0 (λ x U. dom_at U.facts v) (λ x c. put_fact (class_place r v x) c) (suc m) i t l (tables_of n w) K
  unfolding number_row keep parted ◌▸◌ limit stored with_digit kind
  classes_ok zero i w g e t a =
      let h = sized.high in
      let d = g.known.doms v hv in
      let q : dom_in w v ≡ dom_at (tables_of n w).facts v = sym (dom_of n w v (omega arith)) in
      number_at (a_class l v i r (mask_of (cls n w r v) i) p n) w 0 (dom_at (tables_of n w).facts v) refl q (λ z. omega arith) (omega arith) (omega arith) _ (tables_of n w) K
      (λ z x u y o b s s₁.
      let j = within_both x 0 (dom_in w v) s in
      last i z x w u g (omega arith) y s o b ∙ ap (λ (T : Tables). K u l T) (fact_kept n w g.known.long (class_place r v i) x (omega arith) (omega arith)))
      t a (bare (a_class l v i r (mask_of (cls n w r v) i) p n) t refl)
  classes_ok (suc m) i w g e t a =
      let h = sized.high in
      let d = g.known.doms v hv in
      let q : dom_in w v ≡ dom_at (tables_of n w).facts v = sym (dom_of n w v (omega arith)) in
      number_at (a_class l v i r (mask_of (cls n w r v) i) p n) w 0 (dom_at (tables_of n w).facts v) refl q (λ z. omega arith) (omega arith) (omega arith) _ (tables_of n w) K
      (λ z x u y o b s s₁.
      let j = within_both x 0 (dom_in w v) s in
      let w₁ = put_byte w (class_place r v i) x in
      let f : dom_in w₁ v ≡ dom_in w v = dom_same n sized r v i x p hr hv w g (omega arith) j.1 in
      let rest : Rest = λ u₁ m₁ U. number_row 0 (λ x₁ U₁. dom_at U₁.facts v) (λ x₁ c. put_fact (class_place r v x₁) c) (suc m) (i + 1) u₁ m₁ U K in
      then_sign (a_class l v i r (mask_of (cls n w r v) i) p n) w z x comma (a_class l v (i + 1) r (mask_of (cls n w₁ r v) (i + 1)) p n) (tables_of n w₁) rest refl (λ f. omega arith) y
      (none_yet l v i r (mask_of (cls n w r v) i) p n z x w y s (omega arith) (omega arith))
      (λ c. class_more l v i r (mask_of (cls n w r v) i) p n z x c w₁ (omega arith) (omega arith)
      ∙ ap (λ (c₁ : ℕ). sign (noted (with_digit (a_class l v i r (mask_of (cls n w r v) i) p n) z x)) c comma (a_class l v (i + 1) r c₁ p n))
      (mask_goes n sized r v i x p hr hv w g (omega arith) j.1))
      (classes_ok m (i + 1) w₁ (next_at n sized r v i x p hr hv w g (omega arith) j.1) (omega arith)) o b
      ∙ ap (λ (T : Tables). lit (comma ∷ []) u l T rest) (fact_kept n w g.known.long (class_place r v i) x (omega arith) (omega arith)))
      t a (bare (a_class l v i r (mask_of (cls n w r v) i) p n) t refl)

-- ---- the variables of one map
module _ (l r : ℕ) (n : Counts) (sized : Fits n) (hr : r < 8) (k : Rest)
    (ok : (w : List ℕ) → Known n.vars w → (t : List ℕ) → Bytes t → reading (after_row l field_class field_share r n.maps n) w t ≡ k t (l + 1) (tables_of n w)) where
  -- what a map is asked at its end
  few_states : Rest
  few_states u m U = demand (leb (abstract_states (sas_of U) (view (task_of U) r)) most_states) TooManyStates u m U (eol k)

  -- a variable's last class: what is told before the next byte
  module _ (v p : ℕ) (hv : v < n.vars) (i z x : ℕ) (w u : List ℕ) (g : At n r v i p w) (e : i + 1 ≡ dom_in w v) (y : z ≡ 0 → ⊥)
      (q : fits x 0 (dom_in w v) ≡ true) (o : Stop u) (b : Bytes u) where
    c : Ctrl
    c = a_class l v i r (mask_of (cls n w r v) i) p n

    w₁ : List ℕ
    w₁ = put_byte w (class_place r v i) x

    hx : x < dom_in w v
    hx = (within_both x 0 (dom_in w v) q).1

    hi : i < dom_in w v
    hi = omega arith

    small : (v < 8) × (dom_in w v ≤ 8)
    small = low n sized r v i x p hr hv w g hi hx

    next : At n r v (i + 1) p w₁
    unfolding w₁
    next = next_at n sized r v i x p hr hv w g hi hx

    dom₁ : i + 1 ≡ dom_in w₁ v
    unfolding w₁
    dom₁ = e ∙ sym (dom_same n sized r v i x p hr hv w g hi hx)

    dom_now : i + 1 ≡ dom_at (tables_of n w₁).facts v
    dom_now = let h = small in dom₁ ∙ sym (dom_of n w₁ v (omega arith))

    below_now : (j : ℕ) → j < dom_at (tables_of n w₁).facts v → cls n w₁ r v j < dom_at (tables_of n w₁).facts v
    below_now j h =
        let d = dom_now in
        let f = dom₁ in
        let s = next.below j (omega arith) in
        omega arith

    mask_now : with_class (mask_of (cls n w r v) i) x ≡ mask_of (cls n w₁ r v) (dom_at (tables_of n w₁).facts v)
    unfolding w₁
    mask_now = mask_goes n sized r v i x p hr hv w g hi hx ∙ ap (mask_of (cls n w₁ r v)) dom_now

    room_now : dom_at (tables_of n w₁).facts v ≤ 32
    room_now = let h = small in let d = dom_now in omega arith

    whole : gapless (with_class (mask_of (cls n w r v) i) x) ≡ none_missing (cls n w₁ r v) (dom_at (tables_of n w₁).facts v)
    unfolding gapless width
    whole = ap gapless mask_now ∙ mask_whole (cls n w₁ r v) 32 (dom_at (tables_of n w₁).facts v) room_now below_now

    wide : width (with_class (mask_of (cls n w r v) i) x) ≡ counted n w₁ r v
    unfolding width
    wide = ap width mask_now ∙ mask_width (cls n w₁ r v) 32 (dom_at (tables_of n w₁).facts v) room_now below_now

    states : ℕ
    states = size (counted n w₁ r) (v + 1)

    product : times p (width (with_class (mask_of (cls n w r v) i) x)) ≡ min states states_over
    unfolding states
    product =
        ap₂ times next.prod wide
        ∙ times_cap (size (counted n w₁ r) v) (counted n w₁ r v) (count_some (cls n w₁ r v) i (dom_at (tables_of n w₁).facts v) dom_now)
        ∙ ap (λ (s : ℕ). min s states_over) (sym (ap (size (counted n w₁ r)) (add-one v)))

    gaps : Bool
    gaps = none_missing (cls n w₁ r v) (dom_at (tables_of n w₁).facts v)

    fault_is : fault (with_digit c z x) w ≡ cond gaps (cond (eqb (up v) n.vars) (cond (ltb most_states (min states states_over)) States Going) Going) Missing
    unfolding c gaps
    fault_is = told_last l v i r (mask_of (cls n w r v) i) p n z x w y q e (let h = small in omega arith) ∙ rw (product, whole)

    -- of the map's last variable: the abstract states, and the line end
    last_end : v + 1 ≡ n.vars → gaps ≡ true → (j : Bool) → leb states most_states ≡ j
        → reading (with_digit c z x) w u ≡ demand (leb states most_states) TooManyStates u l (tables_of n w₁) (eol k)
    unfolding c w₁ demand stored with_digit
    last_end h f true j =
        let d : up v ≡ n.vars = let m = small in omega arith in
        rw j
        (then_sign c w z x line_end (after_row l field_class field_share r n.maps n) (tables_of n w₁) (λ u₁ m₁ U. k u₁ (m₁ + 1) U) refl (λ m. omega arith) y
        (fault_is ∙ rw (f, eq-eqb (up v) n.vars d, le-ltb most_states (min states states_over) (omega (arith, leb-true states most_states j))))
        (λ m. class_end l v i r (mask_of (cls n w r v) i) p n z x m w₁ dom₁ (let s = small in omega arith) h small.0) (ok _ next.known) o b)
    last_end h f false j =
        let d : up v ≡ n.vars = let m = small in omega arith in
        rw j
        (faulty c w z x States (TooManyStates l) (λ m. omega arith) y o
        (fault_is ∙ rw (f, eq-eqb (up v) n.vars d, lt-ltb most_states (min states states_over) (omega (arith, leb-false states most_states j)))) refl refl)

    -- of any other variable: the slash
    last_slash : v + 1 < n.vars → gaps ≡ true → (go : Rest)
        → ((u₁ : List ℕ) → Bytes u₁ → reading (a_class l (v + 1) 0 r 0 (min states states_over) n) w₁ u₁ ≡ go u₁ l (tables_of n w₁))
        → reading (with_digit c z x) w u ≡ lit (slash ∷ []) u l (tables_of n w₁) go
    unfolding c w₁ stored with_digit
    last_slash h f go again =
        let d : up v ≡ n.vars → ⊥ = λ m. let j = small in omega arith in
        then_sign c w z x slash (a_class l (v + 1) 0 r 0 (min states states_over) n) (tables_of n w₁) go refl (λ m. omega arith) y
        (fault_is ∙ rw (f, ne_eqb (up v) n.vars d))
        (λ m. class_slash l v i r (mask_of (cls n w r v) i) p n z x m w₁ dom₁ (let s = small in omega arith) h small.0
        ∙ ap (λ (j : ℕ). sign (noted (with_digit c z x)) m slash (a_class l (v + 1) 0 r 0 j n)) product)
        again o b

    gaps_first : (go : Rest) (j : Bool) → gaps ≡ j → (gaps ≡ true → reading (with_digit c z x) w u ≡ go u l (tables_of n w₁))
        → reading (with_digit c z x) w u ≡ demand gaps ClassMissing u l (tables_of n w₁) go
    unfolding demand c
    gaps_first go true j f = rw j (f j)
    gaps_first go false j f = rw j (faulty c w z x Missing (ClassMissing l) (λ m. omega arith) y o (fault_is ∙ rw j) refl refl)

  -- a variable's list from its first class on
  list_of : (v p : ℕ) (hv : v < n.vars) (w : List ℕ) → At n r v 0 p w → (K : Rest)
      → ((i z x : ℕ) (w₁ u : List ℕ) → At n r v i p w₁ → i + 1 ≡ dom_in w₁ v → (z ≡ 0 → ⊥) → fits x 0 (dom_in w₁ v) ≡ true → Stop u → Bytes u
      → reading (with_digit (a_class l v i r (mask_of (cls n w₁ r v) i) p n) z x) w₁ u
      ≡ demand (none_missing (cls n (put_byte w₁ (class_place r v i) x) r v) (dom_at (tables_of n (put_byte w₁ (class_place r v i) x)).facts v)) ClassMissing u l
      (tables_of n (put_byte w₁ (class_place r v i) x)) K)
      → (t : List ℕ) → Bytes t → reading (a_class l v 0 r 0 p n) w t ≡ class_list r v t l (tables_of n w) K
  unfolding class_list ask ◌▸◌
  list_of v p hv w g K last t a =
      let h = sized.high in
      let d = g.known.doms v hv in
      let e : dom_in w v ≡ dom_at (tables_of n w).facts v = sym (dom_of n w v (omega arith)) in
      let f : suc (dom_in w v - 1) ≡ dom_at (tables_of n w).facts v = omega arith in
      let rest : Rest = λ u m U. demand (none_missing (class_at U.facts r v) (dom_at U.facts v)) ClassMissing u m U K in
      classes_ok l r v n sized hr hv p rest last (dom_in w v - 1) 0 w g (omega arith) t a
      ∙ ap (λ (N : ℕ). number_row 0 (λ x U. dom_at U.facts v) (λ x c. put_fact (class_place r v x) c) N 0 t l (tables_of n w) rest) f

  variables_ok : (m v p : ℕ) → v + suc m ≡ n.vars → (w : List ℕ) → At n r v 0 p w → (t : List ℕ) → Bytes t
      → reading (a_class l v 0 r 0 p n) w t ≡ class_lists r (suc m) v t l (tables_of n w) few_states
  unfolding class_lists parted nothing ◌▸◌ c w₁ gaps states few_states tables_of
  variables_ok zero v p e w g =
      list_of v p (omega arith) w g few_states
      (λ i z x w₁ u g₁ e₁ y q o b.
      gaps_first v p (omega arith) i z x w₁ u g₁ e₁ y q o b few_states _ refl
      (λ j. last_end v p (omega arith) i z x w₁ u g₁ e₁ y q o b (omega arith) j _ refl
      ∙ ap (λ (N : ℕ). demand (leb (size (counted n (put_byte w₁ (class_place r v i) x) r) N) most_states) TooManyStates u l (tables_of n (put_byte w₁ (class_place r v i) x)) (eol k))
      (let f : v + 1 ≡ n.vars = omega arith in f)))
  variables_ok (suc m) v p e w g =
      list_of v p (omega arith) w g _
      (λ i z x w₁ u g₁ e₁ y q o b.
      gaps_first v p (omega arith) i z x w₁ u g₁ e₁ y q o b _ _ refl
      (λ j. last_slash v p (omega arith) i z x w₁ u g₁ e₁ y q o b (omega arith) j (λ u₁ m₁ U. class_lists r (suc m) (v + 1) u₁ m₁ U few_states)
      (variables_ok m (v + 1) (min (size (counted n (put_byte w₁ (class_place r v i) x) r) (v + 1)) states_over) (omega arith) (put_byte w₁ (class_place r v i) x)
      (record {
        known = known_put g₁.known (class_place r v i) x (let h = sized.high in omega arith);
        below = λ j₁ l₁. let f : ⊥ = omega arith in absurd f;
        prod = refl;
      }))))

  -- the whole map
  pub map_classes_ok : (w : List ℕ) → Known n.vars w → (t : List ℕ) → Bytes t → reading (a_class l 0 0 r 0 1 n) w t ≡ map_classes r t l (tables_of n w) (eol k)
  unfolding map_classes ask ◌▸◌ few_states tables_of
  map_classes_ok w g t a =
      let h = sized.low in
      let e : suc (n.vars - 1) ≡ n.vars = omega arith in
      variables_ok (n.vars - 1) 0 1 (omega arith) w
      (record { known = g; below = λ j l₁. let f : ⊥ = omega arith in absurd f; prod = refl })
      t a
      ∙ ap (λ (N : ℕ). class_lists r N 0 t l (tables_of n w) few_states) e
