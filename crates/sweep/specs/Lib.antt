pub mod Said
pub mod Inside
