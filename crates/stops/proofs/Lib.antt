pub mod Stops
pub mod Unique
