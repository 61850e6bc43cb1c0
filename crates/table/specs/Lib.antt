pub mod Ready
pub mod Rows
