pub mod Entries
pub mod Fields
pub mod Unique
