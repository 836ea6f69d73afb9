-- What only the contracts of functions inside this room need. Who reads the entries needs none of it: by `usable` (proofs/Accepted.antt) accepted tables
-- are fit for the steps, and the entries' contracts speak of the task that the lent tables spell.
pub mod Steps
