pub mod Answers
pub mod Beyond
pub mod Ending
pub mod Keeping
pub mod Lent
pub mod Whole
