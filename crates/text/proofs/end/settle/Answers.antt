-- There is a fault, or the tables are filled.
use Rattle.std.proofs.Common.{◌≡◌, ◌∙◌, Err, IsErr, IsErrAnd, ap}
use Rattle.std.proofs.lemmas.Result.{err_from_is_err_and}
use Rattle.refusals.specs.declared.Refusal.{Refusal}
use Rattle.grammar.specs.Readings.{Reading}
use Rattle.text.proofs.Laws.{settled_refused, settled_accepted}
use Rattle.text.proofs.end.settle.Goals as goal

-- a fault is handed on as a reading's answer
told : {r : Reading} {f : Refusal} → IsErr r × IsErrAnd r (λ e. e ≡ f) → r ≡ Err f
told {r} h = let e = err_from_is_err_and r h.1 in e.1 ∙ ap (λ (q : Refusal). Err q) e.2

pub returns-in_err-last_fault : goal.returns-in_err-last_fault
returns-in_err-last_fault c = rw (told c.from_residual.ensures) (settled_refused _ _ _ _ _ c.last_fault.ensures _ c.in_err-last_fault.was)

pub returns : goal.returns
returns c = settled_accepted _ _ _ _ _ c.last_fault.ensures _ _ _ c.in_ok-last_fault.was c.fill_bytes.ensures c.fill_words.ensures c.fill_words-2.ensures
