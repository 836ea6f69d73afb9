-- `run_in` meets its contract: each part of the run is copied from its place in lent memory. Assumes nothing.
use Rattle.std.proofs.Common.{arith}
use Rattle.std.proofs.lemmas.Result.{MatchResult-at_ok}
use Rattle.std.proofs.lemmas.List.{length-take}
use Rattle.meaning.specs.Limits.{most_steps}
use Rattle.lent_runs.proofs.Parts.{run_taken}
use Rattle.lent_runs.proofs.run_in.Goals as goal

pub slice_bounds-try_from-end-2 : goal.slice_bounds-try_from-end-2
unfolding most_steps
slice_bounds-try_from-end-2 c = omega (arith, length-take 1024 c.args.words.now, c.requires.1)

pub unwrap-requires-2 : goal.unwrap-requires-2
unfolding most_steps
unwrap-requires-2 c = c.try_from-2.ensures.0 (omega (arith, length-take 1024 c.args.words.now, c.requires.1))

pub returns : goal.returns
unfolding most_steps
returns c =
    let start = MatchResult-at_ok _ _ c.unwrap.result c.unwrap.ensures c.try_from.ensures.1 in
    let log = MatchResult-at_ok _ _ c.unwrap-2.result c.unwrap-2.ensures c.try_from-2.ensures.1 in
    let now = MatchResult-at_ok _ _ c.unwrap-3.result c.unwrap-3.ensures c.try_from-3.ensures.1 in
    let columns = MatchResult-at_ok _ _ c.unwrap-4.result c.unwrap-4.ensures c.try_from-4.ensures.1 in
    run_taken c.args.bytes.now c.args.words.now c.unwrap.result c.unwrap-2.result c.unwrap-3.result c.unwrap-4.result c.requires.0 c.requires.1
    start.same log.same now.same columns.same
