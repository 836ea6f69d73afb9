pub mod Pieces
pub mod Calls
