-- The scan in the parts that the program walks it in, for private contracts only. Nobody has to read it who takes `task_fault` of Scan.antt:
-- `in_parts` (proofs/Rules.antt) shows that the whole scan is its parts, one after another.
pub mod Parts
