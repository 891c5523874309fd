pub mod Life
pub mod Search
pub mod Records
pub mod Held
pub mod Image
pub mod Draft
pub mod Contents
pub mod Changes
