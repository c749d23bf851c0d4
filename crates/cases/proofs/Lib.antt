pub mod Folds
pub mod Words
