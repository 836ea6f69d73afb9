pub mod Layout
pub mod Editions
pub mod Lines
pub mod Task
pub mod Steps
pub mod Classes
pub mod Inside
