pub mod Octets
pub mod Permute
pub mod Swap
