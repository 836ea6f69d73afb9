-- The maps, one line each, and the shares of each map, read as the grammar says. Assumes nothing.
use mathlib.Core.Bool.{cond}
use Prim.Native.Nat.{ℕ, zero, suc, ◌+◌, ◌-◌, ◌≤◌, ◌<◌}
use native.Mathlib.Omega.{arith}
use mathlib.Core.Path.{◌≡◌, refl, sym, ap, ◌∙◌}
use mathlib.Core.List.{List, [], ◌∷◌}
use lib.Dec.{eqb}
use borrow.Author.Tests.{eq-eqb, ne_eqb}
use Rattle.tables.specs.declared.Counts.{Counts}
use Rattle.tables.specs.Layout.{share_place}
use Rattle.text.specs.declared.Ctrl.{Ctrl}
use Rattle.grammar.specs.Fields.{dash, line_end, bytes_of}
use Rattle.grammar.specs.Grammar.{
  Rest,
  Part,
  ◌▸◌,
  ask,
  keep,
  lit,
  number_row,
  end_of_line,
  text_line,
  text_lines,
  put_maps,
  put_share,
  map_classes,
  maps_line,
  map_lines,
  amounts,
  share_lines,
}
use Rattle.text.specs.Inside.Area.{share_byte}
use Rattle.text.specs.Inside.Control.{
  up,
  part_begun,
  due,
  opened,
  with_digit,
  dashed,
  to_line,
  row_or,
  next_line,
  part_number,
  part_after_dash,
  part_dash_due,
  field_maps,
  field_class,
  field_share,
  field_end,
}
use Rattle.text.specs.Inside.Fields.{key_byte, with_count, limit, counts_with, seen_with, noted, stored, kind}
use Rattle.text.specs.Inside.Steps.{mark_due, idle_here, list_end, after_share, after_number, live, byte_read}
use Rattle.text.proofs.BridgeReading.{tables_of, reading, Bytes, bytes_drop, behind, sign_read, kw, spelled, key_ok}
use Rattle.grammar.proofs.Runs.{within_both}
use Rattle.text.proofs.BridgeArea.{share_kept}
use Rattle.text.proofs.BridgeRows.{then_sign, Fits, Known, known_put3, row_ok, a_share}
use Rattle.text.proofs.BridgeLines.{eol, bare, single_ok}
use Rattle.text.proofs.BridgeOps.{after_row, lines_ok}
use Rattle.text.proofs.BridgeMaps.{map_classes_ok}
use Rattle.meaning.specs.Limits.{most_cost}

-- maps=
abbrev pub with_maps : ℕ → Counts → Counts
with_maps = with_count field_maps

pub maps_ok : (l : ℕ) (n : Counts) (w : List ℕ) (k : Rest) → l ≤ 100
    → ((v : ℕ) → 1 ≤ v → v ≤ 8 → (t : List ℕ) → Bytes t → reading (kw (l + 1) field_class 0 (with_maps v n) 0) w t ≡ k t (l + 1) (tables_of (with_maps v n) w))
    → (t : List ℕ) → Bytes t → reading (kw l field_maps 0 n 0) w t ≡ maps_line t l (tables_of n w) k
unfolding maps_line text_line end_of_line ◌▸◌ keep opened part_begun limit stored with_digit noted after_number kind next_line to_line spelled key_byte tables_of seen_with counts_with
maps_ok l n w k h ok =
    let e : up l ≡ l + 1 = omega arith in
    key_ok l field_maps 0 n w (λ z. omega arith) (tables_of n w) _
    (single_ok l field_maps n w (λ z. omega arith) (λ z. omega arith) (omega arith) (omega arith) refl
    put_maps k (λ v. kw (up l) field_class 0 (with_maps v n) 0) (λ z v. refl) (λ z v b u. refl)
    (λ v q t a. let g = within_both v 1 9 q in ap (λ (x : ℕ). reading (kw x field_class 0 (with_maps v n) 0) w t) e ∙ ok v g.0 (omega arith) t a))
    0 (bytes_of "maps=") refl

-- map=
map_ok : (l r : ℕ) (n : Counts) → Fits n → r < 8 → (w : List ℕ) → Known n.vars w → (k : Rest)
    → ((u : List ℕ) → Known n.vars u → (t : List ℕ) → Bytes t → reading (after_row l field_class field_share r n.maps n) u t ≡ k t (l + 1) (tables_of n u))
    → (t : List ℕ) → Bytes t → reading (kw l field_class r n 0) w t ≡ text_line "map=" (map_classes r) t l (tables_of n w) k
unfolding text_line end_of_line ◌▸◌ opened part_begun spelled key_byte
map_ok l r n sized h w g k ok =
    key_ok l field_class r n w (λ z. omega arith) (tables_of n w) _ (map_classes_ok l r n sized h k ok w g) 0 (bytes_of "map=") refl

-- as many lines of one kind as there are maps
maps_many : (n : Counts) → Fits n → 1 ≤ n.maps → (f g l : ℕ) (p : ℕ → Part) (k : Rest) → l ≤ 100
    → ((l₁ r : ℕ) → r < n.maps → (w : List ℕ) → Known n.vars w → (k₁ : Rest)
    → ((u : List ℕ) → Known n.vars u → (t : List ℕ) → Bytes t → reading (after_row l₁ f g r n.maps n) u t ≡ k₁ t (l₁ + 1) (tables_of n u))
    → (t : List ℕ) → Bytes t → reading (kw l₁ f r n 0) w t ≡ p r t l₁ (tables_of n w) k₁)
    → ((w : List ℕ) → Known n.vars w → (t : List ℕ) → Bytes t → reading (kw (l + n.maps) g 0 n 0) w t ≡ k t (l + n.maps) (tables_of n w))
    → (w : List ℕ) → Known n.vars w → (t : List ℕ) → Bytes t → reading (kw l f 0 n 0) w t ≡ text_lines p n.maps 0 t l (tables_of n w) k
maps_many n sized low f g l p k h one done w q t a =
    let y = sized.maps in
    let e : suc (n.maps - 1) ≡ n.maps = omega arith in
    lines_ok f g n.maps (l + n.maps) n n.vars p k (omega arith) (omega arith) one done (n.maps - 1) 0 l (omega arith) (omega arith) w q t a
    ∙ ap (λ (m : ℕ). text_lines p m 0 t l (tables_of n w) k) e

pub map_lines_ok : (l : ℕ) (n : Counts) → Fits n → 1 ≤ n.maps → l ≤ 100 → (w : List ℕ) → Known n.vars w → (k : Rest)
    → ((u : List ℕ) → Known n.vars u → (t : List ℕ) → Bytes t → reading (kw (l + n.maps) field_share 0 n 0) u t ≡ k t (l + n.maps) (tables_of n u))
    → (t : List ℕ) → Bytes t → reading (kw l field_class 0 n 0) w t ≡ map_lines t l (tables_of n w) k
unfolding map_lines ask tables_of
map_lines_ok l n sized low h w g k ok =
    maps_many n sized low field_class field_share l (λ m. text_line "map=" (map_classes m)) k h (λ l₁ r q. map_ok l₁ r n sized (let y = sized.maps in omega arith)) ok w g

-- ---- share=: a dash without operators, else one number an operator
module _ (l r : ℕ) (n : Counts) (sized : Fits n) (hr : r < 8) (w : List ℕ) (g : Known n.vars w) (k : Rest)
    (ok : (u : List ℕ) → Known n.vars u → (t : List ℕ) → Bytes t → reading (after_row l field_share field_end r n.maps n) u t ≡ k t (l + 1) (tables_of n u)) where
  -- the line's control in each of its parts
  part : ℕ → Ctrl
  part p = part_begun (kw l field_share r n 0) l p field_share r

  dash_end : (t : List ℕ) → Bytes t → reading (part part_after_dash) w t ≡ eol k t l (tables_of n w)
  unfolding part part_begun lit byte_read live list_end mark_due idle_here next_line row_or to_line
  dash_end t a =
      sign_read (part part_after_dash) (part part_after_dash) (after_row l field_share field_end r n.maps n) w w line_end [] t (tables_of n w) (λ u m U. k u (m + 1) U) (λ z. omega arith) refl
      refl (λ q. ok w g (behind t) (bytes_drop 1 a))

  dash_due : (t : List ℕ) → Bytes t → reading (part part_dash_due) w t ≡ lit (dash ∷ []) t l (tables_of n w) (eol k)
  unfolding part part_begun lit byte_read live dashed
  dash_due t a =
      sign_read (part part_dash_due) (part part_dash_due) (part part_after_dash) w w dash [] t (tables_of n w) (eol k) (λ z. omega arith) refl refl
      (λ q. dash_end (behind t) (bytes_drop 1 a))

  row_due : (m : ℕ) → n.ops ≡ suc m → (t : List ℕ) → Bytes t
      → reading (part part_number) w t ≡ number_row 0 (λ o U. (most_cost + 1)) (λ o v. put_share (share_place r o) v) (suc m) 0 t l (tables_of n w) (eol k)
  unfolding part part_begun limit stored with_digit noted after_number after_share kind due next_line row_or to_line seen_with counts_with
  row_due m e t a =
      let f = sized.ops in
      let y = sized.high in
      row_ok l field_share r n (λ i. 0) (λ i. i) n.ops (λ z. omega arith) (λ z. omega arith) (omega arith) (λ i U. (most_cost + 1)) (λ i v. put_share (share_place r i) v)
      (λ i u. Known n.vars u) (eol k)
      (λ i u. bare (a_share l i r n) u refl)
      (λ i u h p. (refl, omega arith))
      (λ i z v u h p q.
      (share_kept n u p.long (share_place r i) v (omega arith) (omega (arith, within_both v 0 (most_cost + 1) q)), known_put3 p (share_byte r i) v (omega arith)))
      (λ i z v b u h. let x : up i ≡ i + 1 = omega arith in rw (x, ne_eqb (i + 1) n.ops (λ q. omega arith)))
      (λ i z v u t₁ h x o a₁ p q.
      let j : up i ≡ n.ops = omega arith in
      then_sign (a_share l i r n) u z v line_end (after_row l field_share field_end r n.maps n) _ (λ u₁ m₁ U. k u₁ (m₁ + 1) U) refl (λ s. omega arith) x q
      (λ b. rw (eq-eqb (up i) n.ops j)) (ok _ p) o a₁)
      m 0 (omega arith) w g t a

  amounts_ok : (t : List ℕ) → Bytes t → reading (opened (kw l field_share r n 0)) w t ≡ amounts r n.ops t l (tables_of n w) (eol k)
  unfolding opened part amounts
  amounts_ok t a = split n.ops refl
    where
      split : (N : ℕ) → n.ops ≡ N → reading (part (cond (eqb n.ops 0) part_dash_due part_number)) w t ≡ amounts r n.ops t l (tables_of n w) (eol k)
      split zero e =
          let f : ◌≡◌ {A = ℕ} (cond (eqb n.ops 0) part_dash_due part_number) part_dash_due = rw (eq-eqb n.ops 0 e) in
          ap (λ (p : ℕ). reading (part p) w t) f ∙ dash_due t a ∙ sym (ap (λ (m : ℕ). amounts r m t l (tables_of n w) (eol k)) e)
      split (suc m) e =
          let f : ◌≡◌ {A = ℕ} (cond (eqb n.ops 0) part_dash_due part_number) part_number = rw (ne_eqb n.ops 0 (λ z. omega arith)) in
          ap (λ (p : ℕ). reading (part p) w t) f ∙ row_due m e t a ∙ sym (ap (λ (x : ℕ). amounts r x t l (tables_of n w) (eol k)) e)

  share_ok : (t : List ℕ) → Bytes t → reading (kw l field_share r n 0) w t ≡ text_line "share=" (amounts r n.ops) t l (tables_of n w) k
  unfolding text_line end_of_line ◌▸◌ spelled key_byte
  share_ok = key_ok l field_share r n w (λ z. omega arith) (tables_of n w) _ amounts_ok 0 (bytes_of "share=") refl

pub share_lines_ok : (l : ℕ) (n : Counts) → Fits n → 1 ≤ n.maps → l ≤ 100 → (w : List ℕ) → Known n.vars w → (k : Rest)
    → ((u : List ℕ) → Known n.vars u → (t : List ℕ) → Bytes t → reading (kw (l + n.maps) field_end 0 n 0) u t ≡ k t (l + n.maps) (tables_of n u))
    → (t : List ℕ) → Bytes t → reading (kw l field_share 0 n 0) w t ≡ share_lines t l (tables_of n w) k
unfolding share_lines ask tables_of
share_lines_ok l n sized low h w g k ok =
    maps_many n sized low field_share field_end l (λ m. text_line "share=" (amounts m n.ops)) k h (λ l₁ r q. share_ok l₁ r n sized (let y = sized.maps in omega arith)) ok w g
