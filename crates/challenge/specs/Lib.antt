pub mod Draws
pub mod Recorded
