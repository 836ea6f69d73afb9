-- For each entry: no second outcome could meet its contract, whatever was handed in; where lent memory is written, the word and every lent place together.
-- Assumes nothing.
use mathlib.Core.Path.{◌≡◌, sym, ap, ◌∙◌}
use mathlib.Core.List.{List}
use Prim.Native.Nat.{ℕ}
use Rattle.tables.specs.Layout.{Tables}
use Rattle.scan.specs.Scan.{tables_fault}
use Rattle.views.proofs.Promises as views
use Rattle.sequences.specs.Judging.{judged_of}
use Rattle.sequences.specs.Choosing.{cheaper_of, chosen_of}
use Rattle.words.specs.Words.{found_word, distances_word, distance_word, best_word, bound_word, judged_word, cheaper_word, opening_word}
use Rattle.lent_runs.specs.Left.{RunLeft, begin_handed, offer_handed}
use Rattle.desk_c.specs.Handing.{ReadLeft, read_handed, WriteLeft, write_handed, DistancesHanded, DistanceHanded, BestHanded, BoundHanded}
use Rattle.desk_c.specs.Pieces.{BeginAfter, begin_text_handed, PieceAfter, take_piece_handed, EndAfter, end_text_handed}

pub check_unique : (t : Tables) (w v : ℕ) → w ≡ found_word (tables_fault t) → v ≡ found_word (tables_fault t) → w ≡ v
check_unique t w v p q = p ∙ sym q

-- the word and both lent tables after `desk_distances`, together
pub record Outcome : Type 0 where
  pub word : ℕ
  pub table : List ℕ
  pub best : List ℕ

pub distances_unique : (t : Tables) (map : ℕ) (out best : List ℕ) (x y : Outcome)
    → DistancesHanded t map out best x.word x.table x.best → DistancesHanded t map out best y.word y.table y.best → x ≡ y
distances_unique t map out best x y p q =
    let a : views.Outcome = record { answer = p.0; table = x.table; best = x.best } in
    let b : views.Outcome = record { answer = q.0; table = y.table; best = y.best } in
    let o : a ≡ b = views.distances_unique t map out best a b p.1 q.1 in
    let w : x.word ≡ y.word = p.2 ∙ ap (λ (u : views.Outcome). distances_word u.answer) o ∙ sym q.2 in
    λ i. record { word = w i; table = (o i).table; best = (o i).best }

pub distance_at_unique : (t : Tables) (map : ℕ) (state : List ℕ) (w v : ℕ)
    → DistanceHanded t map state w → DistanceHanded t map state v → w ≡ v
distance_at_unique t map state w v p q =
    p.2 ∙ ap distance_word (views.distance_at_unique t map state p.0 q.0 p.1 q.1) ∙ sym q.2

pub best_at_unique : (t : Tables) (map : ℕ) (state : List ℕ) (w v : ℕ) → BestHanded t map state w → BestHanded t map state v → w ≡ v
best_at_unique t map state w v p q = p.2 ∙ ap best_word (views.best_at_unique t map state p.0 q.0 p.1 q.1) ∙ sym q.2

pub bound_unique : (t : Tables) (state : List ℕ) (w v : ℕ) → BoundHanded t state w → BoundHanded t state v → w ≡ v
bound_unique t state w v p q = p.2 ∙ ap bound_word (views.bound_unique t state p.0 q.0 p.1 q.1) ∙ sym q.2

pub judge_unique : (t : Tables) (state list : List ℕ) (w v : ℕ)
    → w ≡ judged_word (judged_of t state list) → v ≡ judged_word (judged_of t state list) → w ≡ v
judge_unique t state list w v p q = p ∙ sym q

pub cheaper_unique : (t : Tables) (state a b : List ℕ) (w v : ℕ)
    → w ≡ cheaper_word (cheaper_of t state a b) → v ≡ cheaper_word (cheaper_of t state a b) → w ≡ v
cheaper_unique t state a b w v p q = p ∙ sym q

pub opening_unique : (t : Tables) (state a b : List ℕ) (w v : ℕ)
    → w ≡ opening_word (chosen_of t state a b) → v ≡ opening_word (chosen_of t state a b) → w ≡ v
opening_unique t state a b w v p q = p ∙ sym q

-- the word, the lent counts and the three lent tables after a reading
pub read_unique : (task counts facts costs shares : List ℕ) (x y : ReadLeft) → x ≡ read_handed task counts facts costs shares
    → y ≡ read_handed task counts facts costs shares
    → x ≡ y
read_unique task counts facts costs shares x y p q = p ∙ sym q

-- of a text in pieces: the word and every lent place
pub begin_text_unique : (text : List ℕ) (x y : BeginAfter) → x ≡ begin_text_handed text → y ≡ begin_text_handed text → x ≡ y
begin_text_unique text x y p q = p ∙ sym q

pub take_piece_unique : (text area piece : List ℕ) (x y : PieceAfter) → x ≡ take_piece_handed text area piece → y ≡ take_piece_handed text area piece → x ≡ y
take_piece_unique text area piece x y p q = p ∙ sym q

pub end_text_unique : (text area counts facts costs shares : List ℕ) (x y : EndAfter) → x ≡ end_text_handed text area counts facts costs shares
    → y ≡ end_text_handed text area counts facts costs shares
    → x ≡ y
end_text_unique text area counts facts costs shares x y p q = p ∙ sym q

-- the word, and the lent buffer after a writing
pub write_unique : (t : Tables) (buffer : List ℕ) (x y : WriteLeft) → x ≡ write_handed t buffer → y ≡ write_handed t buffer → x ≡ y
write_unique t buffer x y p q = p ∙ sym q

-- the word, and the lent bytes and words of the run
pub begin_unique : (t : Tables) (start bytes words : List ℕ) (x y : RunLeft) → x ≡ begin_handed t start bytes words
    → y ≡ begin_handed t start bytes words
    → x ≡ y
begin_unique t start bytes words x y p q = p ∙ sym q

pub offer_unique : (t : Tables) (bytes words : List ℕ) (number op : ℕ) (x y : RunLeft) → x ≡ offer_handed t bytes words number op
    → y ≡ offer_handed t bytes words number op
    → x ≡ y
offer_unique t bytes words number op x y p q = p ∙ sym q
