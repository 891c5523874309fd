pub mod Asking
pub mod Refusing
pub mod Naming
