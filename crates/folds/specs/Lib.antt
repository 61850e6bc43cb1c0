pub mod Folds
pub mod Many
