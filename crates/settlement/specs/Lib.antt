pub mod Twins
pub mod Write
pub mod Promise
