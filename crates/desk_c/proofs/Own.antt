-- Table places beyond a task's own counts aren't read, entry by entry: tables of the same counts that both have room or neither, and agree at the task's own
-- places, get the same word and leave the same lent bytes; so do states that agree at the variables. From the desk's entries. Assumes nothing.
use mathlib.Core.Path.{◌≡◌, ap}
use mathlib.Core.Bool.{cond}
use mathlib.Core.List.{List, []}
use Prim.Native.Nat.{ℕ, ◌<◌}
use native.Mathlib.Omega.{arith}
use lib.Dec.{ltb}
use lib.ListN.{length, get_or}
use Rattle.tables.specs.Layout.{Tables}
use Rattle.tables.specs.Task.{tables}
use Rattle.scan.specs.Scan.{tables_fault}
use Rattle.scan.specs.Own.{OwnSame, OwnState}
use Rattle.scan.proofs.Unread.{own_alike}
use Rattle.sequences.specs.Judging.{judged_of}
use Rattle.sequences.specs.Choosing.{cheaper_of, chosen_of}
use Rattle.sequences.proofs.Unread.{chosen_alike}
use Rattle.ledger.specs.declared.Offered.{Offered}
use Rattle.desk.proofs.Own as desk
use Rattle.words.specs.Words.{found_word, judged_word, cheaper_word, opening_word}
use Rattle.lent_runs.specs.Lent.{run_in}
use Rattle.lent_runs.specs.Left.{unless_short, begin_handed, offer_handed}
use Rattle.desk_c.specs.Handing.{counts_row, facts_beside, row_tables, write_told, write_handed, DistancesHanded, DistanceHanded, BestHanded, BoundHanded}

-- of a lent row of counts the first places are read, as many as it needs, and whether it has them: such rows lend the same task
pub row_own : (row other facts costs shares : List ℕ) → ltb (length row) counts_row ≡ ltb (length other) counts_row
    → ((i : ℕ) → i < counts_row → get_or row i 0 ≡ get_or other i 0) → row_tables row facts costs shares ≡ row_tables other facts costs shares
unfolding facts_beside
row_own row other facts costs shares room same =
    let vars = same 0 (omega arith) in
    let ops = same 1 (omega arith) in
    let maps = same 2 (omega arith) in
    let edition = same 3 (omega arith) in
    let quota = same 4 (omega arith) in
    λ i. tables (record { vars = vars i; ops = ops i; maps = maps i; edition = edition i; quota = quota i }) (cond (room i) [] facts) costs shares

module _ (t u : Tables) (O : OwnSame t u) where
  pub check_own : found_word (tables_fault t) ≡ found_word (tables_fault u)
  check_own = ap found_word (desk.check_own t u O)

  pub write_own : (buffer : List ℕ) → write_handed t buffer ≡ write_handed u buffer
  write_own buffer = ap write_told (desk.write_own t u O buffer)

  pub distances_own : (map : ℕ) (out best out' best' : List ℕ) (w : ℕ) → DistancesHanded t map out best w out' best'
      → DistancesHanded u map out best w out' best'
  distances_own map out best out' best' w h = (h.0, desk.distances_own t u O map out best out' best' h.0 h.1, h.2)

  pub offer_own : (bytes words : List ℕ) (number op : ℕ) → offer_handed t bytes words number op ≡ offer_handed u bytes words number op
  unfolding offer_handed
  offer_own bytes words number op = ap (λ (o : Offered). unless_short o bytes words) (desk.offer_own t u O (run_in bytes words) number op)

  -- beside them a state
  module _ (s z : List ℕ) (S : OwnState t.counts s z) where
    pub distance_at_own : (map w : ℕ) → DistanceHanded t map s w → DistanceHanded u map z w
    distance_at_own map w h = (h.0, desk.distance_at_own t u O s z S map h.0 h.1, h.2)

    pub best_at_own : (map w : ℕ) → BestHanded t map s w → BestHanded u map z w
    best_at_own map w h = (h.0, desk.best_at_own t u O s z S map h.0 h.1, h.2)

    pub bound_own : (w : ℕ) → BoundHanded t s w → BoundHanded u z w
    bound_own w h = (h.0, desk.bound_own t u O s z S h.0 h.1, h.2)

    pub judge_own : (ops : List ℕ) → judged_word (judged_of t s ops) ≡ judged_word (judged_of u z ops)
    judge_own ops = ap judged_word (desk.judge_own t u O s z S ops)

    pub cheaper_own : (a b : List ℕ) → cheaper_word (cheaper_of t s a b) ≡ cheaper_word (cheaper_of u z a b)
    cheaper_own a b = ap cheaper_word (desk.cheaper_own t u O s z S a b)

    pub opening_own : (a b : List ℕ) → opening_word (chosen_of t s a b) ≡ opening_word (chosen_of u z a b)
    opening_own a b = ap opening_word (chosen_alike (own_alike t u O) s z S a b)

    pub begin_own : (bytes words : List ℕ) → begin_handed t s bytes words ≡ begin_handed u z bytes words
    unfolding begin_handed
    begin_own bytes words = ap (λ (o : Offered). unless_short o bytes words) (desk.begin_own t u O s z S)
