-- `desk_opening` meets its contract: the word of what the desk chooses, whose steps fit it. Assumes nothing.
use Rattle.words.proofs.Fits.{chosen_steps_most}
use Rattle.desk_c.proofs.desk_opening.Goals as goal

pub opening_word-requires : goal.opening_word-requires
opening_word-requires c = rw c.choice_of.ensures (chosen_steps_most _ _ _ _)
