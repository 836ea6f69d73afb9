pub mod Summing
pub mod Answers
pub mod Judging
pub mod Answered
pub mod Promises
pub mod Unread
