-- TABLE PLACES BEYOND A TASK'S OWN COUNTS AREN'T READ, entry by entry: tables of the same counts that both have room or neither, and agree at the task's own
-- places, get the same answer and leave the same bytes; so do states that agree at the variables. What meets an entry's contract over the ones meets it over the
-- others, and by Unique.antt nothing else does. Nor does `read` look at what stands in the tables that it is lent. Assumes nothing.
use mathlib.Core.Path.{◌≡◌, ap}
use mathlib.Core.List.{List}
use Prim.Native.Nat.{ℕ}
use lib.ListN.{length}
use denote.Ref.{Bor}
use Rattle.std.specs.Result.{result_map_both}
use Rattle.std.specs.Prelude.{Ok, Result, Option}
use Rattle.refusals.specs.declared.Refusal.{Refusal}
use Rattle.tables.specs.declared.Counts.{Counts}
use Rattle.tables.specs.Layout.{Tables}
use Rattle.scan.specs.Scan.{tables_fault}
use Rattle.scan.specs.Own.{OwnSame, OwnState}
use Rattle.scan.proofs.Unread.{own_alike}
use Rattle.grammar.specs.Grammar.{read_text}
use Rattle.grammar.specs.Writing.{write_text}
use Rattle.grammar.proofs.Unread.{own_written}
use Rattle.grammar.proofs.SpellLeft.{read_answer_same, read_accepted_same}
use Rattle.views.specs.Entries.{DistancesGiven, DistanceGiven, BestGiven, BoundGiven}
use Rattle.views.proofs.Unread as views
use Rattle.sequences.specs.declared.choosing.Choice.{Choice}
use Rattle.sequences.specs.Judging.{judged_of}
use Rattle.sequences.specs.Choosing.{named_of, cheaper_of}
use Rattle.sequences.specs.Opening.{OpeningOf}
use Rattle.sequences.proofs.Unread as sequences
use Rattle.ledger.specs.declared.Run.{Run}
use Rattle.ledger.specs.Ledger.{begun, offered}
use Rattle.ledger.proofs.Unread as ledger

-- tables of the same lengths: the same answer; and where it is accepted, the same numbers in them
module _ (task f f' c c' s s' : List ℕ) (p : length f ≡ length f') (q : length c ≡ length c') (r : length s ≡ length s') where
  pub read_own : (read_text task f c s).answer ≡ (read_text task f' c' s').answer
  read_own = read_answer_same task f f' c c' s s' p q r

  pub read_own_accepted : (n : Counts) → (read_text task f c s).answer ≡ Ok n → read_text task f c s ≡ read_text task f' c' s'
  read_own_accepted n h = read_accepted_same task f f' c c' s s' p q r n h

module _ (t u : Tables) (O : OwnSame t u) where
  pub check_own : tables_fault t ≡ tables_fault u
  check_own = (own_alike t u O).fault

  pub write_own : (buffer : List ℕ) → write_text t buffer ≡ write_text u buffer
  write_own buffer = own_written t u O buffer

  pub distances_own : (map : ℕ) (out best out' best' : List ℕ) (x : Result ℕ Refusal) → DistancesGiven t map out best x out' best'
      → DistancesGiven u map out best x out' best'
  distances_own map out best out' best' x = views.distances_given_alike (own_alike t u O) map out best out' best' x

  pub offer_own : (run : Run) (number op : ℕ) → offered t run number op ≡ offered u run number op
  offer_own run number op = ledger.offered_alike (own_alike t u O) run number op

  -- beside them a state
  module _ (s z : List ℕ) (S : OwnState t.counts s z) where
    pub distance_at_own : (map : ℕ) (x : Result (Option ℕ) Refusal) → DistanceGiven t map s x → DistanceGiven u map z x
    distance_at_own map x = views.distance_given_alike (own_alike t u O) s z S map x

    pub best_at_own : (map : ℕ) (x : Result (Option ℕ) Refusal) → BestGiven t map s x → BestGiven u map z x
    best_at_own map x = views.best_given_alike (own_alike t u O) s z S map x

    pub bound_own : (x : Result (Option ℕ) Refusal) → BoundGiven t s x → BoundGiven u z x
    bound_own x = views.bound_given_alike (own_alike t u O) s z S x

    pub judge_own : (ops : List ℕ) → judged_of t s ops ≡ judged_of u z ops
    judge_own ops = sequences.judged_alike (own_alike t u O) s z S ops

    pub cheaper_own : (a b : List ℕ) → cheaper_of t s a b ≡ cheaper_of u z a b
    cheaper_own a b = ap (λ (d : Result Choice Refusal). result_map_both named_of (λ r. r) d) (sequences.chosen_alike (own_alike t u O) s z S a b)

    pub opening_own : (a b r : Bor (List ℕ)) → OpeningOf t s a b r → OpeningOf u z a b r
    opening_own a b r = sequences.opening_alike (own_alike t u O) s z S a b r

    pub begin_own : begun t s ≡ begun u z
    begin_own = ledger.begun_alike (own_alike t u O) s z S
