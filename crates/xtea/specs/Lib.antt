pub mod Xtea
pub mod Cycles
pub mod Blocks
