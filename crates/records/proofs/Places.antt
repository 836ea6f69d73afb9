-- What stands in the tables once the records are laid: each record's facts, mark and cost in its places, and what was there before in all others.
-- Assumes nothing.
use Prim.Native.Nat.{ℕ, zero, suc, ◌≤◌, ◌<◌}
use mathlib.Core.Path.{◌≡◌, refl, sym, ◌∙◌}
use mathlib.Core.List.{List}
use native.Mathlib.Omega.{arith}
use lib.Dec.{eqb}
use lib.ListN.{length, get_or}
use lib.Seq.{get_or-set_same, get_or-set_other}
use borrow.Author.Tests.{eqb-true, eqb-false}
use Rattle.meaning.specs.Limits.{most_vars, most_ops}
use Rattle.tables.specs.Layout.{pre_row, eff_row, pre_at, eff_at, mark_at, cost_at, place, pre_place, eff_place, mark_place, facts_room}
use Rattle.meaning.proofs.Facts.{by_cases}
use Rattle.records.specs.declared.OpRecord.{OpRecord}
use Rattle.records.specs.declared.laying.Laid.{Laid}
use Rattle.records.specs.Records.{record_at, row_laid, laid_one, laid_of}
use Rattle.records.proofs.Laws.{length_row, length_laid_facts, length_laid_costs}

-- ---- one row

module _ (facts values : List ℕ) (row : ℕ) where
  row_other : (n q : ℕ) → ((v : ℕ) → v < n → q ≡ place row v → ⊥) → get_or (row_laid facts row values n) q 0 ≡ get_or facts q 0
  unfolding row_laid
  row_other zero q h = refl
  row_other (suc n) q h =
      get_or-set_other (row_laid facts row values n) (place row n) q (get_or values n 0) 0 (h n (omega arith))
      ∙ row_other n q (λ v l. h v (omega arith))

  row_there : (n v : ℕ) → v < n → place row n ≤ length facts → get_or (row_laid facts row values n) (place row v) 0 ≡ get_or values v 0
  unfolding row_laid
  row_there zero v l h = absurd (let z : ⊥ = omega arith in z)
  row_there (suc n) v l h =
      by_cases (eqb v n)
      (λ e.
      let p : v ≡ n = eqb-true v n e in
      rw p (get_or-set_same (row_laid facts row values n) (place row n) (get_or values n 0) 0 (omega (arith, length_row facts values row n))))
      (λ e.
      get_or-set_other (row_laid facts row values n) (place row n) (place row v) (get_or values n 0) 0 (λ p. omega (arith, eqb-false v n e))
      ∙ row_there n v (omega (arith, eqb-false v n e)) (omega arith))

-- ---- one record

-- a place that is none of operator o's
pub record Apart (o q : ℕ) : Type 0 where
  pub pre : (v : ℕ) → v < most_vars → q ≡ pre_place o v → ⊥
  pub eff : (v : ℕ) → v < most_vars → q ≡ eff_place o v → ⊥
  pub mark : q ≡ mark_place o → ⊥

module _ (t : Laid) (o : ℕ) (r : OpRecord) where
  -- the facts with its two rows, before its mark
  abbrev asked : List ℕ
  asked = row_laid t.facts (pre_row o) r.pre most_vars

  abbrev done : List ℕ
  done = row_laid asked (eff_row o) r.eff most_vars

  one_other : (q : ℕ) → Apart o q → get_or (laid_one t o r).facts q 0 ≡ get_or t.facts q 0
  unfolding laid_one
  one_other q h =
      get_or-set_other done (mark_place o) q r.mark 0 h.mark ∙ row_other asked r.eff (eff_row o) most_vars q h.eff
      ∙ row_other t.facts r.pre (pre_row o) most_vars q h.pre

  module _ (few : o < most_ops) (long : facts_room ≤ length t.facts) where
    one_pre : (v : ℕ) → v < most_vars → pre_at (laid_one t o r).facts o v ≡ get_or r.pre v 0
    unfolding laid_one
    one_pre v l =
        get_or-set_other done (mark_place o) (pre_place o v) r.mark 0 (λ e. omega arith)
        ∙ row_other asked r.eff (eff_row o) most_vars (pre_place o v) (λ u k e. omega arith)
        ∙ row_there t.facts r.pre (pre_row o) most_vars v l (omega arith)

    one_eff : (v : ℕ) → v < most_vars → eff_at (laid_one t o r).facts o v ≡ get_or r.eff v 0
    unfolding laid_one
    one_eff v l =
        get_or-set_other done (mark_place o) (eff_place o v) r.mark 0 (λ e. omega arith)
        ∙ row_there asked r.eff (eff_row o) most_vars v l (omega (arith, length_row t.facts r.pre (pre_row o) most_vars))

    one_mark : mark_at (laid_one t o r).facts o ≡ r.mark
    unfolding laid_one
    one_mark =
        get_or-set_same done (mark_place o) r.mark 0
        (omega (arith, length_row asked r.eff (eff_row o) most_vars, length_row t.facts r.pre (pre_row o) most_vars))

-- ---- the first n records

-- a place that is no operator's: one before their rows, or between them and the marks
abbrev pub Outside : ℕ → Type 0
Outside q = (o : ℕ) → o < most_ops → Apart o q

pub before_rows : (q : ℕ) → q < 24 → Outside q
before_rows q l o few = record { pre = λ v k e. omega arith; eff = λ v k e. omega arith; mark = λ e. omega arith }

pub after_rows : (q : ℕ) → 1048 ≤ q → q < 1560 → Outside q
after_rows q g l o few = record { pre = λ v k e. omega arith; eff = λ v k e. omega arith; mark = λ e. omega arith }

module _ (rows : List OpRecord) (t : Laid) where
  pub laid_other : (n q : ℕ) → n ≤ most_ops → Outside q → get_or (laid_of rows n t).facts q 0 ≡ get_or t.facts q 0
  unfolding laid_of
  laid_other zero q few h = refl
  laid_other (suc o) q few h = one_other (laid_of rows o t) o (record_at rows o) q (h o (omega arith)) ∙ laid_other o q (omega arith) h

  -- what record o lays in a place stays there, since the records after it lay elsewhere
  module _ (o q x : ℕ) (lays : (u : Laid) → o < most_ops → facts_room ≤ length u.facts → get_or (laid_one u o (record_at rows o)).facts q 0 ≡ x)
      (elsewhere : (p : ℕ) → p < most_ops → o < p → Apart p q) where
    laid_own : (n : ℕ) → n ≤ most_ops → o < n → facts_room ≤ length t.facts → get_or (laid_of rows n t).facts q 0 ≡ x
    unfolding laid_of
    laid_own zero few l long = absurd (let z : ⊥ = omega arith in z)
    laid_own (suc n) few l long =
        by_cases (eqb o n)
        (λ e.
        let p : n ≡ o = sym (eqb-true o n e) in
        rw p (lays (laid_of rows o t) (omega arith) (omega (arith, length_laid_facts rows o t))))
        (λ e.
        one_other (laid_of rows n t) n (record_at rows n) q (elsewhere n (omega arith) (omega (arith, eqb-false o n e)))
        ∙ laid_own n (omega arith) (omega (arith, eqb-false o n e)) long)

  pub laid_pre : (n o v : ℕ) → n ≤ most_ops → o < n → v < most_vars → facts_room ≤ length t.facts → pre_at (laid_of rows n t).facts o v ≡ get_or (record_at rows o).pre v 0
  laid_pre n o v few l g long =
      laid_own o (pre_place o v) _ (λ u k h. one_pre u o (record_at rows o) k h v g)
      (λ p k h. record { pre = λ w i e. omega arith; eff = λ w i e. omega arith; mark = λ e. omega arith }) n few l long

  pub laid_eff : (n o v : ℕ) → n ≤ most_ops → o < n → v < most_vars → facts_room ≤ length t.facts → eff_at (laid_of rows n t).facts o v ≡ get_or (record_at rows o).eff v 0
  laid_eff n o v few l g long =
      laid_own o (eff_place o v) _ (λ u k h. one_eff u o (record_at rows o) k h v g)
      (λ p k h. record { pre = λ w i e. omega arith; eff = λ w i e. omega arith; mark = λ e. omega arith }) n few l long

  pub laid_mark : (n o : ℕ) → n ≤ most_ops → o < n → facts_room ≤ length t.facts → mark_at (laid_of rows n t).facts o ≡ (record_at rows o).mark
  laid_mark n o few l long =
      laid_own o (mark_place o) _ (λ u k h. one_mark u o (record_at rows o) k h)
      (λ p k h. record { pre = λ w i e. omega arith; eff = λ w i e. omega arith; mark = λ e. omega arith }) n few l long

  pub laid_cost : (n o : ℕ) → o < n → n ≤ length t.costs → cost_at (laid_of rows n t).costs o ≡ (record_at rows o).cost
  unfolding laid_of laid_one
  laid_cost zero o l h = absurd (let z : ⊥ = omega arith in z)
  laid_cost (suc n) o l h =
      by_cases (eqb o n)
      (λ e.
      let p : o ≡ n = eqb-true o n e in
      rw p (get_or-set_same (laid_of rows n t).costs n (record_at rows n).cost 0 (omega (arith, length_laid_costs rows n t))))
      (λ e.
      get_or-set_other (laid_of rows n t).costs n o (record_at rows n).cost 0 (eqb-false o n e)
      ∙ laid_cost n o (omega (arith, eqb-false o n e)) (omega arith))
