-- What the functions below the entries ask and give; no entry's promise cites it. `sum_more` (proofs/Summing.antt) keeps a sum under way equal
-- to `summed` over the maps so far, and `given_bound` (proofs/Judging.antt) takes the sum over all of them to what `bound` promises.
pub mod Sums
pub mod Asked
