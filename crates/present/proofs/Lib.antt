pub mod Parts
pub mod Folds
pub mod Keys
pub mod Vectors
