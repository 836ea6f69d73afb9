pub mod Unique
pub mod Own
pub mod First
pub mod Reading
pub mod RoundTrips
