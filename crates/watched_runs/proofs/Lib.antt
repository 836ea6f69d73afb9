pub mod Pace
pub mod Kept
pub mod Theorems
