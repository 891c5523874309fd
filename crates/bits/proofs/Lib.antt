pub mod Linear
pub mod Octets
