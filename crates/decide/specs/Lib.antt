pub mod Range
pub mod Ready
pub mod Certify
pub mod Work
pub mod Sweep
pub mod Cells
pub mod Promise
