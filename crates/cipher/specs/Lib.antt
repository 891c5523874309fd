pub mod Blocks
pub mod Mac
pub mod Cbc
