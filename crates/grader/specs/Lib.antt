pub mod Graders
pub mod Checks
