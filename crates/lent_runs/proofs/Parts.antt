-- A run taken out of lent memory and put into it, part by part: what the code does is what `run_in`, `bytes_with` and `words_with` say, and no length changes.
-- Assumes nothing.
use Prim.Native.Nat.{ℕ, ◌+◌, ◌-◌, ◌≤◌, ◌<◌}
use mathlib.Core.Path.{◌≡◌, refl, ap, sym, ◌∙◌}
use mathlib.Core.List.{List, ◌++◌}
use native.Mathlib.Omega.{arith}
use lib.ListN.{length, get_or, set, take, drop, replicate, length-set, length-take, length-drop, length-append, length-replicate}
use lib.Seq.{ext_get_or, get_or-take, get_or-drop}
use Rattle.std.proofs.lemmas.List.{get_or_append_left, get_or-append_right}
use Rattle.meaning.proofs.Facts.{by_order}
use Rattle.meaning.specs.Limits.{most_vars, most_steps}
use Rattle.ledger.specs.declared.Run.{Run}
use Rattle.ledger.specs.Ledger.{all_columns}
use Rattle.lent_runs.specs.Lent.{run_bytes, run_words, columns_from, placed, part, with_part, run_in, bytes_with, words_with}
use Rattle.lent_runs.proofs.Placing.{length_placed, placed_other, placed_at, placed_same, placed_self}

-- ---- the lengths stay

pub part_put_length : (l : List ℕ) (k : ℕ) (x : List ℕ) (n : ℕ) → length (with_part l k x n) ≡ length l
unfolding with_part
part_put_length l k x n = length_placed (λ i. get_or x i 0) k l n

pub bytes_length : (r : Run) (bytes b : List ℕ) → b ≡ bytes_with r bytes → length b ≡ length bytes
unfolding bytes_with
bytes_length r bytes b p =
    ap length p ∙ part_put_length (with_part bytes 0 r.start most_vars) most_vars r.now most_vars ∙ part_put_length bytes 0 r.start most_vars

pub words_length : (r : Run) (words w : List ℕ) → w ≡ words_with r words → length w ≡ length words
unfolding words_with
words_length r words w p =
    let logged = with_part words 0 r.log most_steps in
    ap length p
    ∙ part_put_length (set logged most_steps r.len) columns_from r.columns all_columns
    ∙ length-set logged most_steps r.len
    ∙ part_put_length words 0 r.log most_steps

-- ---- a part, and a list with a part put into it

pub part_length : (l : List ℕ) (k n : ℕ) → length (part l k n) ≡ n
unfolding part
part_length l k n = length_placed (λ i. get_or l (k + i) 0) 0 (replicate n 0) n ∙ length-replicate {A = ℕ} n 0

pub part_at : (l : List ℕ) (k n i : ℕ) → i < n → get_or (part l k n) i 0 ≡ get_or l (k + i) 0
unfolding part
part_at l k n i h =
    let z : i ≡ 0 + i = omega arith in
    let room : 0 + n ≤ length (replicate {A = ℕ} n 0) = omega (arith, length-replicate {A = ℕ} n 0) in
    ap (λ (j : ℕ). get_or (placed (λ i. get_or l (k + i) 0) 0 (replicate n 0) n) j 0) z
    ∙ placed_at (λ i. get_or l (k + i) 0) 0 (replicate n 0) n i h room

-- lists with the same numbers there have the same part
pub part_same : (l m : List ℕ) (k n : ℕ) → ((i : ℕ) → i < n → get_or l (k + i) 0 ≡ get_or m (k + i) 0) → part l k n ≡ part m k n
unfolding part
part_same l m k n h = placed_same (λ i. get_or l (k + i) 0) (λ i. get_or m (k + i) 0) 0 (replicate n 0) n h

module _ (l : List ℕ) (k : ℕ) (x : List ℕ) (n : ℕ) where
  pub put_at : (i : ℕ) → i < n → k + n ≤ length l → get_or (with_part l k x n) (k + i) 0 ≡ get_or x i 0
  unfolding with_part
  put_at i h b = placed_at (λ i. get_or x i 0) k l n i h b

  pub put_before : (j : ℕ) → j < k → get_or (with_part l k x n) j 0 ≡ get_or l j 0
  unfolding with_part
  put_before j h = placed_other (λ i. get_or x i 0) k l n j (λ i b e. omega arith)

  pub put_after : (j : ℕ) → k + n ≤ j → get_or (with_part l k x n) j 0 ≡ get_or l j 0
  unfolding with_part
  put_after j h = placed_other (λ i. get_or x i 0) k l n j (λ i b e. omega arith)

  -- the part that was put is the part that is taken
  pub part_put : length x ≡ n → k + n ≤ length l → part (with_part l k x n) k n ≡ x
  part_put e b =
      ext_get_or 0 (part (with_part l k x n) k n) x (part_length (with_part l k x n) k n ∙ sym e)
      (λ i h.
      let h' : i < n = omega (arith, part_length (with_part l k x n) k n) in
      part_at (with_part l k x n) k n i h' ∙ put_at i h' b)

  -- a part before it is as it was
  pub part_put_before : (j m : ℕ) → j + m ≤ k → part (with_part l k x n) j m ≡ part l j m
  part_put_before j m h = part_same (with_part l k x n) l j m (λ i b. put_before (j + i) (omega arith))

-- putting back the part that was taken changes nothing
pub put_part : (l : List ℕ) (k n : ℕ) → with_part l k (part l k n) n ≡ l
unfolding with_part
put_part l k n = placed_self (λ i. get_or (part l k n) i 0) k l n (λ i h. part_at l k n i h)

-- ---- what the code does

-- a part cut out is the part
pub part_cut : (l : List ℕ) (k n : ℕ) → k + n ≤ length l → take n (drop k l) ≡ part l k n
part_cut l k n b =
    let long : length (take n (drop k l)) ≡ n = omega (arith, length-take n (drop k l), length-drop k l) in
    ext_get_or 0 (take n (drop k l)) (part l k n) (long ∙ sym (part_length l k n))
    (λ i h.
    let h' : i < n = omega arith in
    get_or-take n (drop k l) i 0 h' ∙ get_or-drop k l i 0 ∙ sym (part_at l k n i h'))

-- a part copied into the middle of a list is put there
pub part_copied : (l : List ℕ) (k : ℕ) (x : List ℕ) (n : ℕ) → length x ≡ n → k + n ≤ length l → (take k l ++ (x ++ drop n (drop k l))) ≡ with_part l k x n
part_copied l k x n e b =
    let before : length (take k l) ≡ k = omega (arith, length-take k l) in
    let after : length (x ++ drop n (drop k l)) ≡ n + (length l - k - n) = omega (arith, length-append x (drop n (drop k l)), length-drop n (drop k l), length-drop k l) in
    let all : length (take k l ++ (x ++ drop n (drop k l))) ≡ length l = omega (arith, length-append (take k l) (x ++ drop n (drop k l))) in
    ext_get_or 0 (take k l ++ (x ++ drop n (drop k l))) (with_part l k x n) (all ∙ sym (part_put_length l k x n))
    (λ i h.
    by_order i k
    (λ low.
    get_or_append_left (take k l) (x ++ drop n (drop k l)) 0 i (omega arith) ∙ get_or-take k l i 0 low ∙ sym (put_before l k x n i low))
    (λ high.
    let is : k + (i - k) ≡ i = omega arith in
    get_or-append_right (take k l) (x ++ drop n (drop k l)) k i 0 before high
    ∙ by_order (i - k) n
    (λ low. get_or_append_left x (drop n (drop k l)) 0 (i - k) (omega arith) ∙ sym (put_at l k x n (i - k) low b) ∙ ap (λ (j : ℕ). get_or (with_part l k x n) j 0) is)
    (λ past.
    let rest : k + (n + (i - k - n)) ≡ i = omega arith in
    get_or-append_right x (drop n (drop k l)) n (i - k) 0 e past
    ∙ get_or-drop n (drop k l) (i - k - n) 0
    ∙ get_or-drop k l (n + (i - k - n)) 0
    ∙ ap (λ (j : ℕ). get_or l j 0) rest
    ∙ sym (put_after l k x n i (omega arith)))))

pub bytes_put : (r : Run) (bytes start now b : List ℕ) → length r.start ≡ most_vars → length r.now ≡ most_vars → run_bytes ≤ length bytes
    → start ≡ r.start → now ≡ r.now → b ≡ (start ++ drop most_vars bytes)
    → (take most_vars b ++ (now ++ drop most_vars (drop most_vars b))) ≡ bytes_with r bytes
unfolding bytes_with
bytes_put r bytes start now b s n room p q e =
    let first : b ≡ with_part bytes 0 r.start most_vars = e ∙ rw p (part_copied bytes 0 r.start most_vars s (omega arith)) in
    rw q
    (part_copied b most_vars r.now most_vars n (omega (arith, ap length first, part_put_length bytes 0 r.start most_vars))
    ∙ ap (λ (l : List ℕ). with_part l most_vars r.now most_vars) first)

pub words_put : (r : Run) (words log columns w : List ℕ) → length r.log ≡ most_steps → length r.columns ≡ all_columns → run_words ≤ length words
    → log ≡ r.log → columns ≡ r.columns → w ≡ set (log ++ drop most_steps words) most_steps r.len
    → (take columns_from w ++ (columns ++ drop all_columns (drop columns_from w))) ≡ words_with r words
unfolding words_with
words_put r words log columns w s n room p q e =
    let first : (log ++ drop most_steps words) ≡ with_part words 0 r.log most_steps = rw p (part_copied words 0 r.log most_steps s (omega arith)) in
    let second : w ≡ set (with_part words 0 r.log most_steps) most_steps r.len = e ∙ ap (λ (l : List ℕ). set l most_steps r.len) first in
    let long : length w ≡ length words =
    ap length second ∙ length-set (with_part words 0 r.log most_steps) most_steps r.len ∙ part_put_length words 0 r.log most_steps in
    rw q
    (part_copied w columns_from r.columns all_columns n (omega arith)
    ∙ ap (λ (l : List ℕ). with_part l columns_from r.columns all_columns) second)

pub run_taken : (bytes words start log now columns : List ℕ) → run_bytes ≤ length bytes → run_words ≤ length words → start ≡ take most_vars bytes
    → log ≡ take most_steps words → now ≡ take most_vars (drop most_vars bytes) → columns ≡ take all_columns (drop columns_from words)
    → record { start = start; log = log; len = get_or words most_steps 0; now = now; columns = columns } ≡ run_in bytes words
unfolding run_in
run_taken bytes words start log now columns g h p q u v =
    rw (
      p ∙ part_cut bytes 0 most_vars (omega arith),
      q ∙ part_cut words 0 most_steps (omega arith),
      u ∙ part_cut bytes most_vars most_vars (omega arith),
      v ∙ part_cut words columns_from all_columns (omega arith),
    ) refl
