pub mod Records
pub mod Own
pub mod Inside
