-- The machine reads every text as the grammar says: verdict, answer and lent tables. Assumes nothing.
use Prim.Native.Nat.{ℕ, zero, suc, ◌+◌, ◌≤◌, ◌<◌, zero-le}
use native.Mathlib.Omega.{arith}
use mathlib.Core.Path.{◌≡◌, refl, ap, ◌∙◌}
use mathlib.Core.List.{List, [], ◌∷◌}
use lib.ListN.{length, get_or, take, replicate, length-replicate}
use borrow.Author.Tests.{ne_eqb}
use Rattle.scan.specs.Found.{Found}
use Rattle.std.specs.Prelude.{Ok, Err}
use Rattle.tables.specs.declared.Counts.{Counts}
use Rattle.tables.specs.Layout.{Tables, facts_room, costs_room, shares_room}
use Rattle.grammar.specs.Fields.{Outcome, admitted}
use Rattle.grammar.specs.Grammar.{
  Verdict,
  ◌▸◌,
  dom_line,
  init_line,
  goal_line,
  quota_line,
  ops_line,
  op_lines,
  maps_line,
  map_lines,
  share_lines,
  task_lines,
  settled,
  the_end,
  no_task,
  verdict,
  outcome,
  read_text,
}
use Rattle.text.specs.declared.Halt.TheVariants.{Form}
use Rattle.text.specs.Inside.Area.{area_room, word_in, threes, costs_byte, shares_byte}
use Rattle.text.specs.Inside.Control.{mk, start, stopped, St, field_edition, field_dom, field_maps, field_end}
use Rattle.text.specs.Inside.Fields.{key_byte}
use Rattle.text.specs.Inside.Steps.{in_key, live, byte_read, feed, ended}
use Rattle.text.specs.Inside.End.{last_fault, written, left_behind, settled_as, machine_end, machine_read, read_all}
use Rattle.text.proofs.BridgeReading.{tables_of, judged, told, reading, Bytes, none, byte, off_form, moves, kw}
use Rattle.text.proofs.BridgeArea.{over_of}
use Rattle.text.proofs.BridgeRows.{Fits, Known}
use Rattle.text.proofs.BridgeLines.{edition_ok, vars_ok, dom_ok, init_ok, with_edition, with_vars}
use Rattle.text.proofs.BridgeOps.{goal_ok, quota_ok, ops_ok, op_lines_ok, with_quota, with_ops}
use Rattle.text.proofs.BridgeShares.{maps_ok, map_lines_ok, share_lines_ok, with_maps}
use Rattle.tables.specs.Lines.{line_of_dom}

-- ---- after the last line
stop_end : (l b : ℕ) (n : Counts) (w : List ℕ) → b < 256 → byte_read (mk (kw l field_end 0 n 0) w) b ≡ mk (stopped (kw l field_end 0 n 0) Form) w
unfolding byte_read live in_key key_byte
stop_end l b n w h = rw (ne_eqb b 256 (λ q. omega arith))

end_ok : (l : ℕ) (n : Counts) → Fits n → (w t : List ℕ) → Bytes t → reading (kw l field_end 0 n 0) w t ≡ the_end t l (tables_of n w)
unfolding reading told judged feed last_fault ended the_end tables_of
end_ok l n sized w [] a = ap (λ (o : Found). settled o (tables_of n w)) (over_of (kw l field_end 0 n 0) w n refl sized.ops sized.maps)
end_ok l n sized w (b ∷ t) (byte h a) = moves (kw l field_end 0 n 0) (stopped (kw l field_end 0 n 0) Form) w w b t (stop_end l b n w h) ∙ off_form (kw l field_end 0 n 0) w t

-- ---- before the first line
zeros_at : (n i : ℕ) → ◌≡◌ {A = ℕ} (get_or (replicate n 0) i 0) 0
zeros_at zero i = refl
zeros_at (suc n) zero = refl
zeros_at (suc n) (suc i) = zeros_at n i

zeros_take : (n m : ℕ) → n ≤ m → ◌≡◌ {A = List ℕ} (take n (replicate m 0)) (replicate n 0)
zeros_take zero m h = refl
zeros_take (suc n) zero h = let q : ⊥ = omega arith in absurd q
zeros_take (suc n) (suc m) h = ap (λ (l : List ℕ). 0 ∷ l) (zeros_take n m (omega arith))

zeros_get3 : (m i : ℕ) → word_in (replicate m 0) i ≡ 0
unfolding word_in
zeros_get3 m i = rw (zeros_at m i, zeros_at m (i + 1), zeros_at m (i + 2))

zeros_threes : (n i m : ℕ) → threes n i (replicate m 0) ≡ replicate n 0
unfolding threes
zeros_threes zero i m = refl
zeros_threes (suc n) i m = rw (zeros_get3 m i, zeros_threes n (i + 3) m)

no_counts : Counts
no_counts = record { vars = 0; ops = 0; maps = 0; edition = 0; quota = 0 }

empty_area : (m : ℕ) → facts_room ≤ m → tables_of no_counts (replicate m 0) ≡ no_task
unfolding tables_of no_task no_counts
empty_area m h = rw (zeros_take facts_room m h, zeros_threes costs_room costs_byte m, zeros_threes shares_room shares_byte m)

-- ---- all lines of a text
from_maps : (l : ℕ) (n : Counts) → Fits n → l ≤ 80 → (w : List ℕ) → Known n.vars w → (t : List ℕ) → Bytes t
    → reading (kw l field_maps 0 n 0) w t ≡ (maps_line ▸ map_lines ▸ share_lines) t l (tables_of n w) the_end
unfolding ◌▸◌
from_maps l n sized h w g =
    maps_ok l n w _ (omega arith)
    (λ v low high.
    let n₁ = with_maps v n in
    let f : Fits n₁ = record { low = sized.low; high = sized.high; ops = sized.ops; maps = high } in
    map_lines_ok (l + 1) n₁ f low (omega arith) w g _
    (λ u g₁. share_lines_ok (l + 1 + v) n₁ f low (omega arith) u g₁ the_end (λ u₁ g₂. end_ok (l + 1 + v + v) n₁ f u₁)))

from_dom : (n : Counts) → Fits n → (w : List ℕ) → Known 0 w → (t : List ℕ) → Bytes t
    → reading (kw line_of_dom field_dom 0 n 0) w t ≡ (dom_line ▸ init_line ▸ goal_line ▸ quota_line ▸ ops_line ▸ op_lines ▸ maps_line ▸ map_lines ▸ share_lines) t line_of_dom (tables_of n w) the_end
unfolding ◌▸◌
from_dom n sized w g =
    dom_ok n sized w g _
    (λ u₁ g₁. init_ok n sized u₁ g₁ _
    (λ u₂ g₂. goal_ok n sized u₂ g₂ _
    (λ u₃ g₃. quota_ok n u₃ _
    (λ l q i. ops_ok l (with_quota q n) u₃ _ (omega arith)
    (λ v h.
    let n₁ = with_ops v (with_quota q n) in
    let f : Fits n₁ = record { low = sized.low; high = sized.high; ops = h; maps = sized.maps } in
    op_lines_ok (l + 1) n₁ f (omega arith) u₃ g₃ _ (λ u₄ g₄. from_maps (l + 1 + v) n₁ f (omega arith) u₄ g₄))))))

lines_all : (w : List ℕ) → Known 0 w → (t : List ℕ) → Bytes t → reading (kw 1 field_edition 0 no_counts 0) w t ≡ task_lines t 1 (tables_of no_counts w) the_end
unfolding task_lines ◌▸◌ no_counts
lines_all w g =
    edition_ok no_counts w _
    (λ e. vars_ok (with_edition e no_counts) w _ (λ v low high. from_dom (with_vars v (with_edition e no_counts)) (record { low = low; high = high; ops = zero-le; maps = zero-le }) w g))

-- the machine's verdict is the grammar's
pub verdict_is : (text : List ℕ) → Bytes text → reading start (replicate area_room 0) text ≡ verdict text
unfolding start verdict no_counts
verdict_is text a =
    lines_all (replicate area_room 0) (record { long = length-replicate {A = ℕ} area_room 0; doms = λ v h. let q : ⊥ = omega arith in absurd q }) text a
    ∙ ap (λ (T : Tables). task_lines text 1 T the_end) (empty_area area_room (omega arith))

-- ---- what is left behind
machine_end_is : (s : St) (f c h : List ℕ) → machine_end s f c h ≡ outcome (told s) f c h
unfolding machine_end settled_as told judged outcome settled written tables_of
machine_end_is s f c h = split (ended s) (last_fault (ended s))
  where
    split : (e : St) (d : Found) → left_behind d e f c h ≡ outcome (settled d (tables_of e.ctrl.counts e.area)) f c h
    split e (Err r) = refl
    split e (Ok tt) = refl

pub read_bytes : (text f c s : List ℕ) → Bytes text → read_all text f c s ≡ read_text text f c s
unfolding read_all machine_read read_text reading
read_bytes text f c s a =
    ap (λ (o : Outcome). admitted text f c s o)
    (machine_end_is (feed (mk start (replicate area_room 0)) text) f c s ∙ ap (λ (v : Verdict). outcome v f c s) (verdict_is text a))

-- a text of bytes, place by place
pub bytes_of : (t : List ℕ) → ((i : ℕ) → i < length t → get_or t i 0 < 256) → Bytes t
bytes_of [] h = none
bytes_of (b ∷ t) h = byte (h 0 (omega arith)) (bytes_of t (λ i q. h (suc i) (omega arith)))

-- THE THEOREM: on every text of bytes the machine leaves behind what the grammar says
pub read_is : (text f c s : List ℕ) → ((i : ℕ) → i < length text → get_or text i 0 < 256) → read_all text f c s ≡ read_text text f c s
read_is text f c s h = read_bytes text f c s (bytes_of text h)
