-- `Run::offer` meets its contract: a fault of the tables refuses, else the judged tables answer. Assumes nothing.
use Rattle.std.proofs.Common.{Err, refl}
use Rattle.ledger.proofs.Accepted.{answered_fault}
use Rattle.ledger.proofs.Entries.{offered_refused}
use Rattle.ledger.proofs.Run.offer.Goals as goal

pub returns-in-Err : goal.returns-in-Err
returns-in-Err c =
    offered_refused _ c.args.self c.args.number c.args.op.0 (Err c.in-Err.f) (answered_fault _ _ _ _ c.in-Err.f c.in-Err.ensures) c.in-Err.f refl
