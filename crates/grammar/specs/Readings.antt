-- What a reading answers: the task's counts, or why not. And what a writing answers: how many bytes the task's text has, or why there is none.
use Rattle.std.specs.Prelude.{ℕ, Result}
use Rattle.refusals.specs.declared.Refusal.{Refusal}
use Rattle.tables.specs.declared.Counts.{Counts}

abbrev pub Reading : Type 0
Reading = Result Counts Refusal

abbrev pub Written : Type 0
Written = Result ℕ Refusal
