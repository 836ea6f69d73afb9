pub mod Stepping
pub mod Judging
pub mod Choosing
pub mod Opening
pub mod Inside
