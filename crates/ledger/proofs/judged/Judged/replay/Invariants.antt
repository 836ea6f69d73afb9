-- What is left of the steps leads, from where those so far lead, to where all lead from the start; and no column has more than so many steps can have paid.
use Rattle.std.proofs.Common.{◌≡◌, drop}
use Rattle.ledger.specs.Ledger.{at_start, replayed}
use Rattle.ledger.specs.Inside.Bounded.{Bounded}
use Rattle.ledger.specs.Inside.Judged.{its_tables}
use Rattle.ledger.proofs.judged.Judged.replay.Given as goal

abbrev pub invariant-loop-step : goal.invariant-loop-step
invariant-loop-step l = record {
  so_far : replayed (its_tables l.self) (at_start l.fn.start) l.steps ≡ replayed (its_tables l.self) l.at (drop l.step-index l.steps);
  bounded : Bounded l.step-index l.at.columns;
}
