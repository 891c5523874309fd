pub mod Splitting
pub mod Pairs
pub mod Texts
pub mod Playing
pub mod Wholes
