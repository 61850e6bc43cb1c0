pub mod Calls
pub mod Unique
