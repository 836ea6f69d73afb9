-- What the functions below the entries ask and give; no entry's promise cites it. Nothing here needs to be believed.
pub mod Walks
pub mod Classes
pub mod Made
pub mod Rows
pub mod Parts
