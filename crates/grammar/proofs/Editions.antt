-- What edition 2 alone has: the quota and the marks of a task, which in edition 1 are 0; what spells them, the parts of the grammar that read them, and their places.
-- By the test of the edition, for each of them; what goes over both editions goes by these laws. Assumes nothing.
use Prim.Native.Nat.{ℕ}
use mathlib.Core.Path.{◌≡◌, refl}
use mathlib.Core.List.{List, []}
use mathlib.Core.Bool.{true, false}
use lib.ListN.{set}
use Rattle.meaning.specs.Split.{Task}
use Rattle.meaning.proofs.Facts.{by_cases}
use Rattle.tables.specs.Layout.{Tables, mark_at}
use Rattle.tables.specs.Editions.{has_quota, read_in}
use Rattle.tables.specs.Task.{task_of}
use Rattle.tables.proofs.Editions.{has_read, has_none}
use Rattle.grammar.specs.Grammar.{Rest, Part, in_second}
use Rattle.grammar.specs.Spelling.{spelled_in, mark_put}

-- ---- a task

-- 0 unless the edition has it
abbrev pub OnlySecond : ℕ → ℕ → Type 0
OnlySecond e x = has_quota e ≡ false → x ≡ 0

-- a task as its edition has it: in edition 1 without quota and marks
pub record ByEdition (τ : Task) : Type 0 where
  pub quota : OnlySecond τ.edition τ.quota
  pub mark : (o : ℕ) → OnlySecond τ.edition (τ.mark o)

-- the task of any tables is
pub tables_by_edition : (t : Tables) → ByEdition (task_of t)
tables_by_edition t =
    record { quota = has_none t.counts.edition t.counts.quota; mark = λ o. has_none t.counts.edition (mark_at t.facts o) }

-- then all of it is read
pub read_whole : (e x : ℕ) → OnlySecond e x → read_in e x ≡ x
read_whole e x z = by_cases (has_quota e) (has_read e x) (λ h. rw (z h) (has_none e 0 h))

-- ---- the text and the tables: in edition 1, and in edition 2

module _ (p : Part) (t : List ℕ) (l : ℕ) (T : Tables) (k : Rest) where
  pub first_reads_nothing : has_quota T.counts.edition ≡ false → in_second p t l T k ≡ k t l T
  unfolding in_second
  first_reads_nothing h = rw h refl

  pub second_reads : has_quota T.counts.edition ≡ true → in_second p t l T k ≡ p t l T k
  unfolding in_second
  second_reads h = rw h refl

module _ (e : ℕ) (xs : List ℕ) where
  pub first_spells_nothing : has_quota e ≡ false → spelled_in e xs ≡ []
  unfolding spelled_in
  first_spells_nothing h = rw h refl

  pub second_spells : has_quota e ≡ true → spelled_in e xs ≡ xs
  unfolding spelled_in
  second_spells h = rw h refl

  -- what holds of both holds of it
  pub spelled_either : (P : List ℕ → Type 0) → (has_quota e ≡ true → P xs) → (has_quota e ≡ false → P []) → P (spelled_in e xs)
  spelled_either P s f = by_cases (has_quota e) (λ h. rw (second_spells h) (s h)) (λ h. rw (first_spells_nothing h) (f h))

module _ (e place x : ℕ) (w : List ℕ) where
  pub first_put : has_quota e ≡ false → mark_put e place x w ≡ w
  unfolding mark_put
  first_put h = rw h refl

  pub second_put : has_quota e ≡ true → mark_put e place x w ≡ set w place x
  unfolding mark_put
  second_put h = rw h refl

  pub put_either : (P : List ℕ → Type 0) → (has_quota e ≡ true → P (set w place x)) → (has_quota e ≡ false → P w) → P (mark_put e place x w)
  put_either P s f = by_cases (has_quota e) (λ h. rw (second_put h) (s h)) (λ h. rw (first_put h) (f h))
