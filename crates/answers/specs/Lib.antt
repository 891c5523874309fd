pub mod Numbers
pub mod Areas
pub mod Replies
