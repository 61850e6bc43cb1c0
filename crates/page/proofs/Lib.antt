pub mod Pages
pub mod Unique
