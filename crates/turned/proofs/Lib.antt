pub mod Wanting
pub mod Turning
pub mod Backing
