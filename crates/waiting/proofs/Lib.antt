pub mod Trees
pub mod Offering
