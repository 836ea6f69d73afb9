-- `run_short` meets its contract: the bytes are tried first, then the words. Assumes nothing.
use Rattle.std.proofs.Common.{refl, ◌∙◌}
use Rattle.meaning.specs.Limits.{most_steps}
use borrow.Author.Tests.{lt-ltb}
use Rattle.lent_runs.proofs.Handed.{short_bytes, short_words}
use Rattle.lent_runs.proofs.run_short.Goals as goal

pub returns-then-bytes-lt-RUN_BYTES : goal.returns-then-bytes-lt-RUN_BYTES
returns-then-bytes-lt-RUN_BYTES c =
    lt-ltb _ _ c.if-bytes-lt-RUN_BYTES.true ∙ short_bytes _ _ c.if-bytes-lt-RUN_BYTES.true

pub returns-else-bytes-lt-RUN_BYTES : goal.returns-else-bytes-lt-RUN_BYTES
unfolding most_steps
returns-else-bytes-lt-RUN_BYTES c = short_words _ _ _ c.if-bytes-lt-RUN_BYTES.false refl
