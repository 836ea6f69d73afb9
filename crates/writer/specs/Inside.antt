-- The pen of the writer: where the next byte goes, and what stands in the buffer. Only private contracts speak of it. Nobody has to read it who takes `write_text`
-- (crates/grammar/specs/Writing.antt): `pen_over` (proofs/Pens.antt) says that from an empty page of enough room it leaves exactly the text, and then what was there.
pub mod Pen
