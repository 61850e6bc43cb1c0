pub mod Places
pub mod Marking
pub mod Downward
pub mod Writing
pub mod Counting
pub mod Ordered
pub mod Settled
pub mod Unique
