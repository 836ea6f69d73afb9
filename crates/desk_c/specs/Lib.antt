pub mod Handing
pub mod Pieces
pub mod Watching
