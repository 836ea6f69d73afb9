-- What edition 2 alone reads: in edition 2 what stands there, and else 0. Assumes nothing.
use Prim.Native.Nat.{ℕ, ◌≤◌}
use mathlib.Core.Path.{◌≡◌, refl}
use mathlib.Core.Bool.{true, false}
use native.Mathlib.Omega.{arith}
use borrow.Author.Tests.{eq-eqb, ne_eqb}
use Rattle.meaning.specs.Limits.{quota_edition}
use Rattle.meaning.proofs.Facts.{by_cases}
use Rattle.tables.specs.Editions.{has_quota, read_in}
use Rattle.tables.specs.Lines.{quota_lines}

pub read_second : (e x : ℕ) → e ≡ quota_edition → read_in e x ≡ x
read_second e x h = rw (eq-eqb e quota_edition h) refl

pub read_first : (e x : ℕ) → (e ≡ quota_edition → ⊥) → read_in e x ≡ 0
read_first e x h = rw (ne_eqb e quota_edition h) refl

-- the same by the test
pub has_read : (e x : ℕ) → has_quota e ≡ true → read_in e x ≡ x
has_read e x h = rw h refl

pub has_none : (e x : ℕ) → has_quota e ≡ false → read_in e x ≡ 0
has_none e x h = rw h refl

-- the lines of the quota
pub lines_second : (e : ℕ) → has_quota e ≡ true → quota_lines e ≡ 1
unfolding quota_lines
lines_second e h = has_read e 1 h

pub lines_first : (e : ℕ) → has_quota e ≡ false → quota_lines e ≡ 0
unfolding quota_lines
lines_first e h = has_none e 1 h

pub lines_most : (e : ℕ) → quota_lines e ≤ 1
lines_most e = by_cases (has_quota e) (λ h. omega (arith, lines_second e h)) (λ h. omega (arith, lines_first e h))
