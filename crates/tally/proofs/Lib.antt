pub mod Marks
pub mod Unique
