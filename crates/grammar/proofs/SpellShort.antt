-- The text of a valid task is short: in edition 1 at most 10,449 bytes, in edition 2 at most 10,588, so that number 1 never meets it. By the longest that each line
-- can be. Assumes nothing.
use Prim.Native.Nat.{ℕ, zero, suc, ◌+◌, ◌*◌, ◌/◌, ◌^◌, ◌≤◌, ◌<◌}
use Prim.Native.String.{String}
use native.Mathlib.Omega.{arith}
use native.Mathlib.Nat.{pow-succ', suc-mul, mul-le-mul_right}
use mathlib.Core.Path.{◌≡◌}
use mathlib.Core.Bool.{false}
use mathlib.Core.List.{List, ◌∷◌, ◌++◌}
use lib.Dec.{ltb}
use lib.ListN.{length, length-append}
use borrow.Author.Tests.{ltb-true, ltb-false}
use Rattle.meaning.specs.Sas.{Facts}
use Rattle.meaning.specs.Split.{Task, Valid}
use Rattle.meaning.proofs.Facts.{by_cases}
use Rattle.tables.specs.Editions.{has_quota}
use Rattle.tables.specs.Lines.{quota_lines}
use Rattle.tables.proofs.Editions.{lines_second, lines_first, lines_most}
use Rattle.grammar.specs.Fields.{bytes_of, comma, slash, semicolon}
use Rattle.meaning.specs.Limits.{most_cost}
use Rattle.grammar.specs.Spelling.{
  last_digits,
  digits,
  gap,
  joined,
  numbers,
  fact,
  another_fact,
  more_facts,
  first_fact,
  some_facts,
  keyed,
  stacked,
  spelled_in,
  op_text,
  map_text,
  share_text,
  spelled,
}
use Rattle.grammar.proofs.Editions.{spelled_either}
use Rattle.grammar.proofs.Decimal.{few, many}

-- a number below 10 ^ (d + 1) has at most d + 1 digits
last_short : (d n v : ℕ) → v < 10 ^ suc d → length (last_digits n v) ≤ suc d
unfolding last_digits
last_short d zero v h = omega arith
last_short zero (suc n) v h = rw (few n v h) (omega arith)
last_short (suc d) (suc n) v h =
    by_cases (ltb v 10) (λ q. rw (few n v (ltb-true v 10 q)) (omega arith))
    (λ q.
    let i = last_short d n (v / 10) (omega (arith, pow-succ' 10 (suc d))) in
    rw (many n v (ltb-false v 10 q)) (simp length-append (omega arith)))

digits_short : (d v : ℕ) → v < 10 ^ suc d → length (digits v) ≤ suc d
unfolding digits
digits_short d v h = last_short d (suc v) v h

-- n things of at most b bytes, with a mark between two
gap_short : (mark n : ℕ) → length (gap mark n) ≤ 1
unfolding gap
gap_short mark zero = omega arith
gap_short mark (suc n) = omega arith

module _ (f : ℕ → List ℕ) (b : ℕ) where
  joined_short : (mark n i : ℕ) → ((j : ℕ) → i ≤ j → j < i + n → length (f j) ≤ b) → length (joined mark f n i) ≤ n * suc b
  unfolding joined
  joined_short mark zero i h = omega arith
  joined_short mark (suc n) i h =
      let p = h i (omega arith) (omega arith) in
      let q = joined_short mark n (suc i) (λ j x y. h j (omega arith) (omega arith)) in
      simp length-append (omega (arith, gap_short mark n, suc-mul n (suc b)))

  stacked_short : (n i : ℕ) → ((j : ℕ) → i ≤ j → j < i + n → length (f j) ≤ b) → length (stacked f n i) ≤ n * b
  unfolding stacked
  stacked_short zero i h = omega arith
  stacked_short (suc n) i h =
      let p = h i (omega arith) (omega arith) in
      let q = stacked_short n (suc i) (λ j x y. h j (omega arith) (omega arith)) in
      simp length-append (omega (arith, suc-mul n b))

numbers_short : (f : ℕ → ℕ) (d n : ℕ) → ((j : ℕ) → j < n → f j < 10 ^ suc d) → length (numbers f n) ≤ n * suc (suc d)
unfolding numbers
numbers_short f d n h = joined_short (λ i. digits (f i)) (suc d) comma n 0 (λ j x y. digits_short d (f j) (h j (omega arith)))

-- facts about variables below 10, with values below 10: at most 4 bytes each
fact_short : (v x : ℕ) → v < 10 → x < 10 → length (fact v x) ≤ 3
unfolding fact
fact_short v x p q = simp length-append (omega (arith, digits_short 0 v p, digits_short 0 x q))

another_short : (x v : ℕ) → v < 10 → x ≤ 10 → length (another_fact x v) ≤ 4
unfolding another_fact
another_short zero v p q = omega arith
another_short (suc k) v p q = omega (arith, fact_short v k p (omega arith))

module _ (F : Facts) where
  more_short : (n v : ℕ) → v + n ≤ 8 → ((j : ℕ) → v ≤ j → j < v + n → F j ≤ 8) → length (more_facts F n v) ≤ n * 4
  unfolding more_facts
  more_short zero v h g = omega arith
  more_short (suc n) v h g =
      let q = more_short n (suc v) (omega arith) (λ j x y. g j (omega arith) (omega arith)) in
      simp length-append (omega (arith, another_short (F v) v (omega arith) (omega (arith, g v (omega arith) (omega arith))), suc-mul n 4))

  first_short : (x v m : ℕ) (more without : List ℕ) → v < 10 → x ≤ 10 → length more ≤ m → length without ≤ m + 1 → length (first_fact x v more without) ≤ m + 4
  unfolding first_fact
  first_short zero v m more without p q r s = omega arith
  first_short (suc k) v m more without p q r s = simp length-append (omega (arith, fact_short v k p (omega arith)))

  some_short : (n v : ℕ) → v + n ≤ 8 → ((j : ℕ) → v ≤ j → j < v + n → F j ≤ 8) → length (some_facts F n v) ≤ n * 4 + 1
  unfolding some_facts
  some_short zero v h g = omega arith
  some_short (suc n) v h g =
      let p = more_short n (suc v) (omega arith) (λ j x y. g j (omega arith) (omega arith)) in
      let q = some_short n (suc v) (omega arith) (λ j x y. g j (omega arith) (omega arith)) in
      let r = first_short (F v) v (n * 4) (more_facts F n (suc v)) (some_facts F n (suc v)) (omega arith) (omega (arith, g v (omega arith) (omega arith))) p q in
      omega (arith, suc-mul n 4)

amounts_short : (f : ℕ → ℕ) (n : ℕ) → n ≤ 64 → ((o : ℕ) → o < n → f o ≤ most_cost) → length (share_text f n) ≤ 512
unfolding share_text
amounts_short f zero h g = omega arith
amounts_short f (suc n) h g = let p = numbers_short f 6 (suc n) (λ o l. let q = g o l in omega arith) in omega arith

keyed_short : (key : String) (xs : List ℕ) (c b : ℕ) → length (bytes_of key) ≤ c → length xs ≤ b → length (keyed key xs) ≤ c + b + 1
unfolding keyed
keyed_short key xs c b p q = simp length-append (omega arith)

-- what edition 2 alone spells: in edition 1 it has no bytes
second_short : (e : ℕ) (xs : List ℕ) (b : ℕ) → length xs ≤ b → length (spelled_in e xs) ≤ b * quota_lines e
second_short e xs b h =
    spelled_either e xs (λ ys. length ys ≤ b * quota_lines e) (λ s. rw (lines_second e s) (omega arith)) (λ f. omega arith)

-- eleven lines and what they come to, with n the lines of a quota
eleven : (n : ℕ) (a b c d e f g h i j k : List ℕ) → length a ≤ 10 → length b ≤ 7 → length c ≤ 21 → length d ≤ 22 → length e ≤ 39 → length f ≤ 11 * n → length g ≤ 7
    → length h ≤ 5056 + 128 * n → length i ≤ 7 → length j ≤ 1128 → length k ≤ 4152 → length (a ++ b ++ c ++ d ++ e ++ f ++ g ++ h ++ i ++ j ++ k) ≤ 10449 + 139 * n
eleven n a b c d e f g h i j k p₁ p₂ p₃ p₄ p₅ p₆ p₇ p₈ p₉ p₁₀ p₁₁ = simp length-append (omega arith)

module _ (τ : Task) (k : Valid τ) where
  facts_short : (F : Facts) → ((v : ℕ) → v < τ.sas.vars → F v ≤ τ.sas.dom v) → length (some_facts F τ.sas.vars 0) ≤ 33
  facts_short F h =
      let a = k.vars.1 in
      let p = some_short F τ.sas.vars 0 (omega arith) (λ v x y. let q = h v (omega arith) in let r = k.values v (omega arith) in omega arith) in
      omega arith

  -- a number a variable, below 10
  row_short : (f : ℕ → ℕ) → ((v : ℕ) → v < τ.sas.vars → f v < 10) → length (numbers f τ.sas.vars) ≤ 16
  row_short f h = let a = k.vars.1 in let p = numbers_short f 0 τ.sas.vars h in omega arith

  op_short : (o : ℕ) → o < τ.sas.ops → length (keyed "op=" (op_text τ o)) ≤ 79 + 2 * quota_lines τ.edition
  unfolding op_text
  op_short o h =
      let a = digits_short 6 (τ.sas.cost o) (let q = k.costs o h in omega arith) in
      let b = facts_short (τ.sas.pre o) (λ v l. k.proper.pre o v h l) in
      let c = facts_short (τ.sas.eff o) (λ v l. k.proper.eff o v h l) in
      let d = second_short τ.edition (semicolon ∷ digits (τ.mark o)) 2 (omega (arith, digits_short 0 (τ.mark o) (let q = k.marks o h in omega arith))) in
      let t = keyed_short "op=" (op_text τ o) 3 (75 + 2 * quota_lines τ.edition) (omega arith) (simp length-append (omega arith)) in
      omega arith

  map_short : (m : ℕ) → m < τ.maps → length (keyed "map=" (map_text τ m)) ≤ 141
  unfolding map_text
  map_short m h =
      let a = k.vars.1 in
      let p = joined_short (λ v. numbers (τ.class m v) (τ.sas.dom v)) 16 slash τ.sas.vars 0
      (λ v x y.
      let d = k.values v (omega arith) in
      let q = numbers_short (τ.class m v) 0 (τ.sas.dom v) (λ j l. let r = k.classes m v j h (omega arith) l in omega arith) in
      omega arith) in
      keyed_short "map=" _ 4 136 (omega arith) (omega arith)

  share_short : (m : ℕ) → m < τ.maps → length (keyed "share=" (share_text (τ.share m) τ.sas.ops)) ≤ 519
  share_short m h = keyed_short "share=" _ 6 512 (omega arith) (amounts_short (τ.share m) τ.sas.ops k.ops (λ o l. k.shares m o h l))

  abbrev ops_part : List ℕ
  ops_part = stacked (λ o. keyed "op=" (op_text τ o)) τ.sas.ops 0

  abbrev maps_part : List ℕ
  maps_part = stacked (λ m. keyed "map=" (map_text τ m)) τ.maps 0

  abbrev shares_part : List ℕ
  shares_part = stacked (λ m. keyed "share=" (share_text (τ.share m) τ.sas.ops)) τ.maps 0

  ops_short : length ops_part ≤ 5056 + 128 * quota_lines τ.edition
  ops_short =
      let b = 79 + 2 * quota_lines τ.edition in
      let p = stacked_short (λ o. keyed "op=" (op_text τ o)) b τ.sas.ops 0 (λ o x y. op_short o (omega arith)) in
      omega (arith, mul-le-mul_right b k.ops)

  maps_short : length maps_part ≤ 1128
  maps_short = let b = k.maps.1 in let p = stacked_short (λ m. keyed "map=" (map_text τ m)) 141 τ.maps 0 (λ m x y. map_short m (omega arith)) in omega arith

  shares_short : length shares_part ≤ 4152
  shares_short =
      let b = k.maps.1 in
      let p = stacked_short (λ m. keyed "share=" (share_text (τ.share m) τ.sas.ops)) 519 τ.maps 0 (λ m x y. share_short m (omega arith)) in
      omega arith

  spelled_within : length (spelled τ) ≤ 10449 + 139 * quota_lines τ.edition
  unfolding spelled
  spelled_within =
      let a = k.vars.1 in
      let b = k.maps.1 in
      let c = k.ops in
      eleven (quota_lines τ.edition) (keyed "edition=" (digits τ.edition)) (keyed "vars=" (digits τ.sas.vars)) (keyed "dom=" (numbers τ.sas.dom τ.sas.vars))
      (keyed "init=" (numbers τ.sas.init τ.sas.vars)) (keyed "goal=" (some_facts τ.sas.goal τ.sas.vars 0))
      (spelled_in τ.edition (keyed "quota=" (digits τ.quota))) (keyed "ops=" (digits τ.sas.ops)) ops_part (keyed "maps=" (digits τ.maps)) maps_part shares_part
      (keyed_short "edition=" _ 8 1 (omega arith) (digits_short 0 τ.edition (let q = k.edition.1 in omega arith)))
      (keyed_short "vars=" _ 5 1 (omega arith) (digits_short 0 τ.sas.vars (omega arith)))
      (keyed_short "dom=" _ 4 16 (omega arith) (row_short τ.sas.dom (λ v l. let q = k.values v l in omega arith)))
      (keyed_short "init=" _ 5 16 (omega arith) (row_short τ.sas.init (λ v l. let q = k.values v l in let r = k.proper.init v l in omega arith)))
      (keyed_short "goal=" _ 5 33 (omega arith) (facts_short τ.sas.goal k.proper.goal))
      (second_short τ.edition _ 11 (keyed_short "quota=" _ 6 4 (omega arith) (digits_short 3 τ.quota (let q = k.quota in omega arith))))
      (keyed_short "ops=" _ 4 2 (omega arith) (digits_short 1 τ.sas.ops (omega arith)))
      ops_short
      (keyed_short "maps=" _ 5 1 (omega arith) (digits_short 0 τ.maps (omega arith)))
      maps_short
      shares_short

  pub spelled_short : length (spelled τ) ≤ 10588
  spelled_short = omega (arith, spelled_within, lines_most τ.edition)

  -- in edition 1 shorter still
  pub first_edition_short : has_quota τ.edition ≡ false → length (spelled τ) ≤ 10449
  first_edition_short h = omega (arith, spelled_within, lines_first τ.edition h)
