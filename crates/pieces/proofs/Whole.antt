-- HOWEVER A TEXT IS CUT, ITS END ANSWERS AS READING IT WHOLE, in both editions by this one argument: the machine that has read the pieces stands where it stands after
-- their bytes put together, the count of bytes tells whether that is too many, and that the machine is the grammar (`read_bytes`) knows no edition. Calls that are
-- refused in between, because something lent is too short, change nothing. Assumes nothing.
use Prim.Native.Nat.{ℕ, ◌+◌, ◌≤◌, ◌<◌, min}
use native.Mathlib.Omega.{arith}
use mathlib.Core.Path.{◌≡◌, refl, sym, ap, ap₂, ◌∙◌, subst}
use mathlib.Core.List.{List, [], ◌∷◌, ◌++◌, append-nil, append_assoc}
use mathlib.Core.Bool.{true, false}
use lib.ListN.{length, take, drop, replicate, length-append, length-replicate, length-drop}
use lib.Seq.{take_at}
use borrow.Author.Tests.{le-ltb}
use Rattle.std.specs.Prelude.{Err}
use Rattle.scan.specs.Found.{Found, clean}
use Rattle.refusals.specs.declared.Refusal.TheVariants.{TextTooLong, TableTooShort}
use Rattle.meaning.specs.Limits.{most_bytes}
use Rattle.meaning.proofs.Facts.{by_order}
use Rattle.tables.specs.Layout.{facts_room, costs_room, shares_room}
use Rattle.grammar.specs.Fields.{Outcome, leaves, admitted}
use Rattle.grammar.specs.Grammar.{read_text}
use Rattle.grammar.proofs.Admission.{facts_short, costs_short, shares_short, text_long}
use Rattle.text.specs.declared.Ctrl.{Ctrl}
use Rattle.text.specs.Inside.Area.{area_room}
use Rattle.text.specs.Inside.Control.{St, mk, start, stopped}
use Rattle.text.specs.Inside.Fields.{key_byte}
use Rattle.text.specs.Inside.Steps.{in_key, live, byte_read, feed, ended}
use Rattle.text.specs.Inside.End.{last_fault, settled_as, machine_end, machine_read, read_all}
use Rattle.text.proofs.BridgeReading.{Bytes, none, byte}
use Rattle.text.proofs.BridgeText.{bytes_of, read_bytes}
use Rattle.pieces.specs.declared.SoFar.{SoFar}
use Rattle.pieces.specs.Pieces.{area_lent, begun_text, bytes_with, area_used, PieceLeft, piece_left, gone_on, piece_taken, EndLeft, lent_short, read_so_far, text_ended}
use Rattle.pieces.specs.Calls.{OfBytes, Calls, begun, piece, other_area, part_of_area, short_end}
use Rattle.pieces.proofs.Answers as answers
use Rattle.pieces.proofs.Keeping.{feed_length, feed_on}

-- where the machine stands after a text
abbrev read_to : List ℕ → St
read_to text = feed (mk start (replicate area_room 0)) text

read_room : (text : List ℕ) → length (read_to text).area ≡ area_room
read_room text = feed_length (mk start (replicate area_room 0)) text ∙ length-replicate {A = ℕ} area_room 0

bytes_join : {a b : List ℕ} → Bytes a → Bytes b → Bytes (a ++ b)
bytes_join none q = q
bytes_join (byte h p) q = byte h (bytes_join p q)

-- WHAT HOLDS BETWEEN TWO CALLS: the machine stands where it stands after the text, in what of the area a piece goes on in
record Stands (text : List ℕ) (s : SoFar) (w : List ℕ) : Type 0 where
  of_bytes : Bytes text
  going : s.ended ≡ false
  long : area_lent ≤ length w
  bytes : s.bytes ≡ min (length text) (most_bytes + 1)
  ctrl : s.at ≡ (read_to text).ctrl
  area : area_used s w ≡ (read_to text).area

begun_stands : (w : List ℕ) → area_lent ≤ length w → Stands [] begun_text w
unfolding begun_text feed
begun_stands w l = record { of_bytes = none; going = refl; long = l; bytes = refl; ctrl = refl; area = answers.used_blank begun_text w refl }

-- after the first byte it is what stands in the area
used_area : (text : List ℕ) (s : SoFar) (w : List ℕ) → s.bytes ≡ min (length text) (most_bytes + 1) → take area_room w ≡ (read_to text).area → area_used s w ≡ (read_to text).area
unfolding feed
used_area [] s w e a = answers.used_blank s w (omega arith)
used_area (b ∷ text) s w e a = answers.used_kept s w (λ q. omega arith) ∙ a

-- a piece more
gone_on_stands : (text p : List ℕ) (s : SoFar) (w : List ℕ) → Bytes p → Stands text s w → (x : St) → x ≡ read_to (text ++ p)
    → Stands (text ++ p) (gone_on s w (length p) x).text (gone_on s w (length p) x).area
gone_on_stands text p s w q g x e =
    let room : length x.area ≡ area_room = ap (λ (y : St). length y.area) e ∙ read_room (text ++ p) in
    let n : bytes_with s.bytes (length p) ≡ min (length (text ++ p)) (most_bytes + 1) =
    ap (λ (k : ℕ). bytes_with k (length p)) g.bytes
    ∙ answers.bytes_counted (length text) (length p)
    ∙ ap (λ (k : ℕ). min k (most_bytes + 1)) (sym (length-append text p)) in
    record {
      of_bytes = bytes_join g.of_bytes q;
      going = refl;
      long = omega (arith, g.long, length-append x.area (drop area_room w), length-drop area_room w);
      bytes = n;
      ctrl = ap (λ (y : St). y.ctrl) e;
      area =
          used_area (text ++ p) (gone_on s w (length p) x).text (gone_on s w (length p) x).area n
          (take_at x.area (drop area_room w) area_room room ∙ ap (λ (y : St). y.area) e);
    }

module _ (text p : List ℕ) (s : SoFar) (w : List ℕ) (q : Bytes p) (g : Stands text s w) where
  gone_on_lem : feed (mk s.at (area_used s w)) p ≡ read_to (text ++ p)
  gone_on_lem = ap₂ (λ (c : Ctrl) (v : List ℕ). feed (mk c v) p) g.ctrl g.area ∙ feed_on (mk start (replicate area_room 0)) text p

  piece_goes_on : piece_taken s w p ≡ gone_on s w (length p) (feed (mk s.at (area_used s w)) p)
  piece_goes_on = answers.piece_taken_lem s w p g.long g.going

  piece_stands : (t : SoFar) (a : Found) (v : List ℕ) → piece_left t a v ≡ piece_taken s w p → Stands (text ++ p) t v
  piece_stands t a v e =
      subst (λ (y : PieceLeft). Stands (text ++ p) y.text y.area) (sym (e ∙ piece_goes_on)) (gone_on_stands text p s w q g _ gone_on_lem)

-- WHATEVER CALLS WERE MADE
calls_stand : {text w : List ℕ} {s : SoFar} → Calls text s w → Stands text s w
calls_stand (begun w l) = begun_stands w l
calls_stand (piece {text = text} {w = w} {v = v} {s = s} {t = t} k p o a e) = piece_stands text p s w (bytes_of p o) (calls_stand k) t a v e
calls_stand (other_area {text = text} {w = w} {s = s} k p u v l a e) =
    subst (λ (y : PieceLeft). Stands text y.text w) (sym (e ∙ answers.short_area s u p l)) (calls_stand k)
calls_stand (part_of_area {text = text} {s = s} k p front u v back whole l a e) =
    subst (λ (y : PieceLeft). Stands text y.text (front ++ y.area ++ back)) (sym (e ∙ answers.short_area s u p l))
    (subst (λ (z : List ℕ). Stands text s z) whole (calls_stand k))
calls_stand (short_end {text = text} {w = w} {s = s} k u f c h l x e) =
    subst (λ (y : EndLeft). Stands text y.text w) (sym (e ∙ answers.short_end s u f c h l)) (calls_stand k)

-- ---- THE END

-- before the first byte nothing of the area is asked
nothing_read : (w v f c h : List ℕ) → machine_end (mk start w) f c h ≡ machine_end (mk start v) f c h
unfolding machine_end settled_as last_fault ended start byte_read live in_key key_byte stopped
nothing_read w v f c h = refl

machine_read_lem : (text : List ℕ) (s : SoFar) (w f c h : List ℕ) → Stands text s w → machine_end (mk s.at (take area_room w)) f c h ≡ machine_read text f c h
unfolding machine_read feed
machine_read_lem [] s w f c h g =
    ap (λ (k : Ctrl). machine_end (mk k (take area_room w)) f c h) g.ctrl ∙ nothing_read (take area_room w) (replicate area_room 0) f c h
machine_read_lem (b ∷ text) s w f c h g =
    ap₂ (λ (k : Ctrl) (v : List ℕ). machine_end (mk k v) f c h) g.ctrl (sym (answers.used_kept s w (λ q. omega (arith, g.bytes))) ∙ g.area)

-- the answer and the three tables that an end left
abbrev pub answer_and_tables : EndLeft → Outcome
answer_and_tables x = leaves x.answer x.facts x.costs x.shares

module _ (text : List ℕ) (s : SoFar) (w : List ℕ) (g : Stands text s w) (f c h : List ℕ) where
  too_short : lent_short w f c h ≡ true → answer_and_tables (text_ended s w f c h) ≡ leaves (Err TableTooShort) f c h
  too_short l = ap answer_and_tables (answers.short_end s w f c h l)

  module _ (facts : facts_room ≤ length f) (costs : costs_room ≤ length c) (shares : shares_room ≤ length h) where
    whole_read : length text ≤ most_bytes → machine_read text f c h ≡ read_text text f c h
    unfolding read_all admitted
    whole_read l = rw (le-ltb _ _ facts, le-ltb _ _ costs, le-ltb _ _ shares, le-ltb _ _ l) at (read_bytes text f c h g.of_bytes)

    so_far_read : read_so_far s w f c h ≡ read_text text f c h
    so_far_read =
        by_order most_bytes (length text)
        (λ l. answers.too_long s w f c h (omega (arith, g.bytes)) ∙ sym (text_long text f c h facts costs shares l))
        (λ l. answers.not_too_long s w f c h (omega (arith, g.bytes)) ∙ machine_read_lem text s w f c h g ∙ whole_read l)

    long_read : answer_and_tables (text_ended s w f c h) ≡ read_text text f c h
    long_read =
        ap answer_and_tables
        (answers.end_read s w f c h (answers.none_short w f c h (record { area = g.long; facts = facts; costs = costs; shares = shares })) g.going)
        ∙ so_far_read

  end_stands : answer_and_tables (text_ended s w f c h) ≡ read_text text f c h
  end_stands =
      by_order (length f) facts_room (λ l. too_short (answers.facts_short w f c h l) ∙ sym (facts_short text f c h l))
      (λ facts. by_order (length c) costs_room (λ l. too_short (answers.costs_short w f c h l) ∙ sym (costs_short text f c h facts l))
      (λ costs. by_order (length h) shares_room (λ l. too_short (answers.shares_short w f c h l) ∙ sym (shares_short text f c h facts costs l))
      (λ shares. long_read facts costs shares)))

-- ---- A TEXT CUT IN ANY WAY makes such calls

-- the pieces put together; each is one of bytes
unfoldable pub together : List (List ℕ) → List ℕ
together [] = []
together (p ∷ ps) = p ++ together ps

pub data AllOfBytes : List (List ℕ) → Type 0 where
  no_piece : AllOfBytes []
  next_piece : {p : List ℕ} {ps : List (List ℕ)} → OfBytes p → AllOfBytes ps → AllOfBytes (p ∷ ps)

-- they are handed in one after another, each with the text so far and the area as the one before left them
unfoldable pub all_taken : SoFar → List ℕ → List (List ℕ) → PieceLeft
all_taken s w [] = piece_left s clean w
all_taken s w (p ∷ ps) = all_taken (piece_taken s w p).text (piece_taken s w p).area ps

pub pieces_are_calls : {ps : List (List ℕ)} → AllOfBytes ps → {text w : List ℕ} {s : SoFar} → Calls text s w
    → Calls (text ++ together ps) (all_taken s w ps).text (all_taken s w ps).area
unfolding together all_taken
pieces_are_calls no_piece {text} {w} {s} k = subst (λ (t : List ℕ). Calls t s w) (sym (append-nil text)) k
pieces_are_calls (next_piece {p = p} {ps = ps} o b) {text} {w} {s} k =
    subst (λ (t : List ℕ). Calls t (all_taken s w (p ∷ ps)).text (all_taken s w (p ∷ ps)).area) (append_assoc text p (together ps))
    (pieces_are_calls b (piece k p o (piece_taken s w p).answer refl))

-- ---- THE THEOREMS, after whatever calls before the end

module _ {text w : List ℕ} {s : SoFar} (calls : Calls text s w) where
  -- every piece is taken, after a fault in the text too
  pub piece_clean : (p : List ℕ) (t : SoFar) (a : Found) (v : List ℕ) → piece_left t a v ≡ piece_taken s w p → a ≡ clean
  piece_clean p t a v e =
      let g = calls_stand calls in ap (λ (x : PieceLeft). x.answer) (e ∙ answers.piece_taken_lem s w p g.long g.going)

  -- the text hasn't ended, and its bytes are counted up to one too many
  pub not_ended : s.ended ≡ false
  not_ended = (calls_stand calls).going

  pub bytes_so_far : s.bytes ≡ min (length text) (most_bytes + 1)
  bytes_so_far = (calls_stand calls).bytes

  -- 1 COMES BEFORE ANY FAULT IN THE TEXT: above the most bytes the end says so, whatever stands in them, however early a fault was read
  pub too_long_first : (f c h : List ℕ) (x : EndLeft) → x ≡ text_ended s w f c h → facts_room ≤ length f → costs_room ≤ length c → shares_room ≤ length h
      → most_bytes < length text → answer_and_tables x ≡ leaves (Err TextTooLong) f c h
  too_long_first f c h x e a b d l =
      let g = calls_stand calls in
      let long = answers.none_short w f c h (record { area = g.long; facts = a; costs = b; shares = d }) in
      ap answer_and_tables (e ∙ answers.end_read s w f c h long g.going) ∙ answers.too_long s w f c h (omega (arith, g.bytes))

  -- THE END IS THAT OF THE WHOLE TEXT: answer, place and every table; for tables too short 8, as there
  pub in_pieces : (f c h : List ℕ) (x : EndLeft) → x ≡ text_ended s w f c h → answer_and_tables x ≡ read_text text f c h
  in_pieces f c h x e = ap answer_and_tables e ∙ end_stands text s w (calls_stand calls) f c h

-- a text cut in two ways
pub cut_alike : {text w v : List ℕ} {s t : SoFar} → Calls text s w → Calls text t v → (f c h : List ℕ) (x y : EndLeft)
    → x ≡ text_ended s w f c h → y ≡ text_ended t v f c h → answer_and_tables x ≡ answer_and_tables y
cut_alike k l f c h x y p q = in_pieces k f c h x p ∙ sym (in_pieces l f c h y q)

-- in any pieces, in any area that is long enough
pub any_cut : (w : List ℕ) → area_lent ≤ length w → {ps : List (List ℕ)} → AllOfBytes ps → (f c h : List ℕ) (x : EndLeft)
    → x ≡ text_ended (all_taken begun_text w ps).text (all_taken begun_text w ps).area f c h → answer_and_tables x ≡ read_text (together ps) f c h
any_cut w l b f c h x e = in_pieces (pieces_are_calls b (begun w l)) f c h x e
