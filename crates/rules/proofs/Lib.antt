pub mod Records
pub mod Moves
