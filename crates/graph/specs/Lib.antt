pub mod Cost
pub mod Graph
pub mod Least
pub mod Certificate
pub mod Best
pub mod Noted
