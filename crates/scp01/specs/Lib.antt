pub mod Levels
pub mod Session
pub mod Inside
pub mod Wrapping
pub mod Understanding
pub mod ChannelRows
