-- What the functions below the entries ask and give; no entry's promise cites it. `counted_distances` and `counted_best` (crates/views/proofs/Answers.antt)
-- take what they give, `Counted`, to the distances, best steps and rounds that `distances` promises, and `at_image` (proofs/Viewing.antt) to the distance and
-- the best step of a state that `distance_at`, `best_at` and `bound` promise. Nothing here needs to be believed.
pub mod Walks
pub mod Spaces
pub mod Sweeps
pub mod Classes
