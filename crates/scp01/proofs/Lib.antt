pub mod Bodies
pub mod Calls
pub mod Examples
pub mod Reading
pub mod Sending
pub mod Understanding
pub mod Writing
