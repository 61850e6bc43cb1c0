pub mod Names
pub mod Search
pub mod Rise
pub mod Finds
pub mod Highest
pub mod Unique
