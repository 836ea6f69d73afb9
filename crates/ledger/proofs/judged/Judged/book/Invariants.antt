-- The columns with those of the maps passed so far booked, and what these maps' shares are together.
use Rattle.std.proofs.Common.{◌≡◌, ◌++◌, drop}
use Rattle.meaning.specs.Split.{sum}
use Rattle.tables.specs.Layout.{share_at}
use Rattle.tables.specs.Task.{task_of}
use Rattle.tables.specs.Steps.{overwritten}
use Rattle.ledger.specs.Ledger.{booked_at}
use Rattle.ledger.specs.Inside.Judged.{its_tables}
use Rattle.ledger.proofs.judged.Judged.book.Given as goal

abbrev pub invariant-loop-m : goal.invariant-loop-m
invariant-loop-m l = record {
  booked : (l.column-items ++ drop l.maps l.fn.columns) ≡ overwritten (booked_at (task_of (its_tables l.self)) l.fn.columns l.o) l.fn.columns l.m;
  summed : l.shared ≡ sum (λ m. share_at l.self.tables.shares.now m l.o) l.m;
}
