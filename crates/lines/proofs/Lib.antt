pub mod Decimal
pub mod Text
pub mod Lines
pub mod Open
pub mod Unique
