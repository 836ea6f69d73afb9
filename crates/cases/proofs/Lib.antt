pub mod Tests
pub mod Rounds
pub mod Contracts
pub mod Left
pub mod Claims
pub mod Table
