pub mod Agreement
pub mod Pairs
pub mod Buffers
