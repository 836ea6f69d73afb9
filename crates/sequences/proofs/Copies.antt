-- A lent list by value, in a room of zeros: as many of its first places as are copied, and 0 after them. Assumes nothing.
use Rattle.std.proofs.Common.{ℕ, ◌≡◌, ◌+◌, ◌-◌, ◌≤◌, ◌<◌, List, ◌++◌, length, take, drop, get_or, sym, ◌∙◌, arith, length-append, length-drop}
use Rattle.std.specs.Prelude.{min, replicate}
use Rattle.std.proofs.Math.ListN.{length-replicate}
use Rattle.std.proofs.lemmas.List.{ext_get_or, get_or-take, get_or-drop, get_or_append_left, get_or-append_right, get_or_past, get_or-replicate, length-take-le}
use Rattle.meaning.proofs.Facts.{by_order}
use Rattle.tables.specs.Task.{state_of}
use Rattle.tables.specs.Steps.{overwritten}
use Rattle.tables.proofs.Laws.{filled_at, filled_later, length_filled}

-- of the list s the first m places are copied into the room, and n of them are there
module _ (s : List ℕ) (room m n : ℕ) (fits : m ≤ room) (e : n ≡ min (length s) m) where
  abbrev zeros : List ℕ
  zeros = replicate room 0

  zero_at : (k : ℕ) → get_or zeros k 0 ≡ 0
  zero_at k = by_order k room (get_or-replicate room k 0 0) (λ h. get_or_past zeros k 0 (omega (arith, length-replicate {A = ℕ} room 0)))

  taken : length (take n s) ≡ n
  taken = length-take-le n s (omega arith)

  at : (k : ℕ) → k < room → get_or (take n s ++ drop n zeros) k 0 ≡ get_or (overwritten (state_of s) zeros m) k 0
  at k b =
      let inside : k < length zeros = omega (arith, length-replicate {A = ℕ} room 0) in
      by_order k n
      (λ h.
      get_or_append_left (take n s) (drop n zeros) 0 k (omega (arith, taken)) ∙ get_or-take n s k 0 h
      ∙ sym (filled_at (state_of s) zeros m k (omega arith) inside))
      (λ h.
      get_or-append_right (take n s) (drop n zeros) n k 0 taken h ∙ get_or-drop n zeros (k - n) 0 ∙ zero_at (n + (k - n))
      ∙ sym (by_order k m (λ l. filled_at (state_of s) zeros m k l inside ∙ get_or_past s k 0 (omega arith))
      (λ l. filled_later (state_of s) zeros m k l ∙ zero_at k)))

  size : length (take n s ++ drop n zeros) ≡ room
  size =
      length-append (take n s) (drop n zeros) ∙ omega (arith, taken, length-drop n zeros, length-replicate {A = ℕ} room 0)

  pub copied_front : take n s ++ drop n zeros ≡ overwritten (state_of s) zeros m
  copied_front =
      ext_get_or 0 (take n s ++ drop n zeros) (overwritten (state_of s) zeros m)
      (size ∙ sym (length_filled (state_of s) zeros m ∙ length-replicate {A = ℕ} room 0)) (λ k b. at k (omega (arith, b, size)))
