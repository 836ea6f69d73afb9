pub mod Found
pub mod Scan
pub mod Own
pub mod Inside
