-- What booking a step finds in clean tables: the operator's shares and its cost have their places, and no sum goes past 32 bits. Assumes nothing.
use Prim.Native.Nat.{ℕ, ◌+◌, ◌-◌, ◌≤◌, ◌<◌}
use mathlib.Core.Path.{◌≡◌, refl, ap, sym, ◌∙◌}
use mathlib.Core.List.{List}
use native.Mathlib.Omega.{arith}
use lib.ListN.{length, get_or, set}
use Rattle.scan.specs.Found.{clean}
use Rattle.meaning.specs.Split.{Task, Valid, sum}
use Rattle.meaning.specs.Columns.{unshared, stored_tests}
use Rattle.meaning.proofs.Columns.{sum_more, gain_map, rest_is, shares_fit}
use Rattle.scan.specs.Scan.{tables_fault}
use Rattle.scan.proofs.Validity.{clean_valid, clean_room}
use Rattle.tables.specs.Layout.{Tables, cost_at, share_at, share_place}
use Rattle.tables.specs.Task.{task_of}
use Rattle.tables.specs.Steps.{overwritten}
use Rattle.tables.proofs.Laws.{filled_still}
use Rattle.ledger.specs.Ledger.{booked_at, booked}
use Rattle.ledger.specs.Inside.Bounded.{HasRoom}
use Rattle.ledger.proofs.Gains.{booked_turn, booked_rest, booked_end, column_still}

module _ (t : Tables) (clean : tables_fault t ≡ clean) (o : ℕ) (exists : o < t.counts.ops) where
  abbrev task : Task
  task = task_of t

  valid : Valid task
  valid = clean_valid t clean

  pub few_maps : t.counts.maps ≤ unshared
  few_maps = omega (arith, valid.maps.1)

  pub a_share : (m : ℕ) → m < t.counts.maps → share_place m o < length t.shares
  a_share m turn = omega (arith, few_maps, (clean_room t clean).2, exists, valid.ops)

  pub a_cost : o < length t.costs
  a_cost = omega (arith, (clean_room t clean).1, exists, valid.ops)

  -- so_far has the first m maps booked, whose shares together are shared
  module _ (columns : List ℕ) (room : HasRoom columns) (so_far : List ℕ) (shared m : ℕ)
      (is : so_far ≡ overwritten (booked_at task columns o) columns m) (summed : shared ≡ sum (λ m. share_at t.shares m o) m) where
    -- a map's turn
    module _ (turn : m < t.counts.maps) where
      abbrev share : ℕ
      share = share_at t.shares m o

      pub column_fits : get_or so_far m 0 + share < 4294967296
      column_fits = omega (arith, filled_still _ _ _ _ is, valid.shares m o turn exists, room m (omega (arith, few_maps)))

      pub shared_fits : shared + share < 4294967296
      shared_fits = omega (arith, summed, shares_fit task valid o exists m turn, valid.costs o exists)

      pub turn_booked : set so_far m (get_or so_far m 0 + share) ≡ overwritten (booked_at task columns o) columns (m + 1)
      turn_booked = booked_turn task columns so_far o m share is (sym (gain_map task m o turn))

      pub turn_summed : shared + share ≡ sum (λ m. share_at t.shares m o) (m + 1)
      turn_summed = sum_more (λ m. share_at t.shares m o) m shared share summed refl

    -- after the maps
    module _ (done : m ≡ t.counts.maps) where
      abbrev cost : ℕ
      cost = cost_at t.costs o

      all_shares : shared ≡ sum (λ m. share_at t.shares m o) t.counts.maps
      all_shares = summed ∙ ap (sum (λ m. share_at t.shares m o)) done

      pub shares_within : shared ≤ cost
      shares_within = omega (arith, all_shares, valid.split o exists)

      pub unshared_fits : get_or so_far unshared 0 + (cost - shared) < 4294967296
      unshared_fits =
          omega (arith, column_still task columns so_far o m unshared (omega (arith, few_maps)) is, valid.costs o exists, room unshared (omega arith))

      -- with the rest booked only the stored tests are left
      abbrev with_rest : List ℕ
      with_rest = set so_far unshared (get_or so_far unshared 0 + (cost - shared))

      rest_booked : with_rest ≡ overwritten (booked_at task columns o) columns stored_tests
      rest_booked =
          booked_rest task columns so_far o (cost - shared) few_maps (is ∙ ap (overwritten (booked_at task columns o) columns) done)
          (rest_is task o cost shared refl all_shares)

      module _ (mark : ℕ) (marked : mark ≡ (task_of t).mark o) where
        pub stored_fits : get_or with_rest stored_tests 0 + mark < 4294967296
        stored_fits =
            omega (
              arith,
              column_still task columns with_rest o stored_tests stored_tests (omega arith) rest_booked,
              valid.marks o exists,
              room stored_tests (omega arith),
              marked,
            )

        pub all_booked : set with_rest stored_tests (get_or with_rest stored_tests 0 + mark) ≡ booked task columns o
        all_booked = booked_end task columns with_rest o mark few_maps rest_booked marked
