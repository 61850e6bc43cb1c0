pub mod Rounds
pub mod Answered
pub mod Prints
pub mod Responds
pub mod Grown
