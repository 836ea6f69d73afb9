-- What the functions below the entries ask and give; no entry's promise cites it. Nothing here needs to be believed.
pub mod Wants
pub mod Backs
pub mod Turns
