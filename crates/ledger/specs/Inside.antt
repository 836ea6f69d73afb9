-- What only the functions behind the two entries ask of a run, and the tables that they are passed. Nobody needs to read it to know what the entries do: they ask
-- nothing, and `step_asks` (proofs/Entries.antt) shows that an accepted offer had all of this.
pub mod Bounded
pub mod Judged
