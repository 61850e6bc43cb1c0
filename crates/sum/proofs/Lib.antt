pub mod Covered
pub mod Unique
