-- What the functions below the entries ask and give; no entry's promise cites it. crates/views/proofs/Answers.antt takes what they give, `Distances` and
-- `BestSteps`, to the distances and best steps that `quick_distances` promises, and `at_image` (proofs/Imaging.antt) to the distance and the best step of a state
-- that `distance_at`, `best_at` and `bound` promise. Nothing here needs to be believed.
pub mod Runs
pub mod Works
pub mod Answers
