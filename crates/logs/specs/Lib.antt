pub mod Refusals
pub mod Since
pub mod Situations
pub mod Moments
pub mod Logs
pub mod Promises
pub mod Steps
