-- `put_words` meets its contract: the log, the number of its steps after it, and then the columns. Assumes nothing.
use Rattle.std.proofs.Common.{refl, arith}
use Rattle.std.proofs.lemmas.List.{length-take}
use Rattle.meaning.specs.Limits.{most_steps}
use Rattle.lent_runs.proofs.Parts.{words_put}
use Rattle.lent_runs.proofs.put_words.Goals as goal

pub slice_bounds-copy_from_slice-end-2 : goal.slice_bounds-copy_from_slice-end-2
unfolding most_steps
slice_bounds-copy_from_slice-end-2 c = omega (arith, length-take 1024 c.args.words.now, c.requires)

pub copy_from_slice-requires : goal.copy_from_slice-requires
unfolding most_steps
copy_from_slice-requires c = omega (arith, length-take 1024 c.args.words.now, c.requires)

pub returns : goal.returns
unfolding most_steps
returns c =
    words_put c.args.run.now c.args.words.now c.copy_from_slice.new.self c.copy_from_slice-2.new.self _ (omega arith) (omega arith) c.requires
    c.copy_from_slice.ensures.after c.copy_from_slice-2.ensures.after refl
