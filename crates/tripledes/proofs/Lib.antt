pub mod Round
pub mod Keys
pub mod Vectors
