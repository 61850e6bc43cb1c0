pub mod Above
pub mod Earlier
pub mod Records
pub mod Unique
