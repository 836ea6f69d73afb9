-- The machine inside the reader: what one byte does, and what the end of the text says. Private contracts speak of it, and those of a text in pieces, for what a
-- changed text so far or area gets. No reader needs to believe a line of it: `read_is` (proofs/BridgeText.antt) says that on every text of bytes the machine leaves
-- behind exactly what the grammar says, and `in_pieces` (crates/pieces/proofs/Whole.antt) that it does so however the text is cut.
pub mod Area
pub mod Control
pub mod Fields
pub mod Steps
pub mod Ahead
pub mod End
