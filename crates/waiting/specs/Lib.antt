pub mod Trees
pub mod Offers
