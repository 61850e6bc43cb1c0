pub mod Lines
pub mod Fills
