pub mod Placing
pub mod Parts
pub mod Handed
pub mod Sizes
pub mod Carried
