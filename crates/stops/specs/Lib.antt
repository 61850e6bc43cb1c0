pub mod Cells
pub mod Stops
