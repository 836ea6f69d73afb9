pub mod Laws
pub mod Editions
pub mod Meant
pub mod Ranges
pub mod Masks
pub mod ClassRows
