pub mod Told
pub mod Fits
