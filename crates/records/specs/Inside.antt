-- What only the contracts of functions inside this room need. Who reads the entry needs none of it: by `judged_records` (proofs/Laws.antt) what these parts
-- answer is the judgement over the row's tables.
pub mod Parts
