pub mod Lent
pub mod Unique
