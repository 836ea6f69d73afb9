pub mod Ledger
pub mod Inside
pub mod History
