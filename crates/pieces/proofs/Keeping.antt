-- The machine from piece to piece: a reading never makes the work area longer or shorter, and bytes read in two pieces are read as in one. By what one byte does to
-- the area: at most a number is put into it. Assumes nothing.
use Prim.Native.Nat.{ℕ}
use mathlib.Core.Path.{◌≡◌, refl, ◌∙◌}
use mathlib.Core.List.{List, [], ◌∷◌, ◌++◌}
use mathlib.Core.Bool.{Bool, true, false, cond}
use lib.ListN.{length}
use Rattle.text.specs.declared.Ctrl.{Ctrl}
use Rattle.text.specs.Inside.Control.{St}
use Rattle.text.specs.Inside.Fields.{stored}
use Rattle.text.specs.Inside.Steps.{closed, at_number, live, byte_read, feed, ended}
use Rattle.text.proofs.BridgeArea.{put_length, put3_length}

-- of two ways, whichever is gone
either_length : (b : Bool) (v w : List ℕ) (n : ℕ) → length v ≡ n → length w ≡ n → length (cond b v w) ≡ n
either_length true v w n p q = p
either_length false v w n p q = q

either_kept : (b : Bool) (x y : St) (n : ℕ) → length x.area ≡ n → length y.area ≡ n → length (cond b x y).area ≡ n
either_kept true x y n p q = p
either_kept false x y n p q = q

stored_length : (c : Ctrl) (w : List ℕ) → length (stored c w) ≡ length w
unfolding stored
stored_length c w = search (either_length, put_length, put3_length) depth 12

closed_length : (c : Ctrl) (w : List ℕ) (b : ℕ) → length (closed c w b).area ≡ length w
unfolding closed
closed_length c w b = search (either_kept, stored_length)

number_length : (c : Ctrl) (w : List ℕ) (b : ℕ) → length (at_number c w b).area ≡ length w
unfolding at_number
number_length c w b = search (either_kept, closed_length)

live_length : (c : Ctrl) (w : List ℕ) (b : ℕ) → length (live c w b).area ≡ length w
unfolding live
live_length c w b = search (either_kept, number_length)

byte_length : (s : St) (b : ℕ) → length (byte_read s b).area ≡ length s.area
unfolding byte_read
byte_length s b = search (either_kept, live_length)

-- THE AREA'S LENGTH IS KEPT, by a piece and by the end
pub feed_length : (s : St) (t : List ℕ) → length (feed s t).area ≡ length s.area
unfolding feed
feed_length s [] = refl
feed_length s (b ∷ t) = feed_length (byte_read s b) t ∙ byte_length s b

pub ended_length : (s : St) → length (ended s).area ≡ length s.area
unfolding ended
ended_length s = search (either_kept, byte_length)

-- TWO PIECES ARE READ AS ONE
pub feed_on : (s : St) (a b : List ℕ) → feed (feed s a) b ≡ feed s (a ++ b)
unfolding feed
feed_on s [] b = refl
feed_on s (x ∷ a) b = feed_on (byte_read s x) a b
