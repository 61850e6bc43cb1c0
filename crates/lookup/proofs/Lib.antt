pub mod Lookups
pub mod Unique
