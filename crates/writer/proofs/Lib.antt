pub mod Pens
pub mod Parts
