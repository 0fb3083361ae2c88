pub mod Entries
pub mod Ranks
pub mod Policies
pub mod Rules
pub mod Verdicts
pub mod PolicyLaws
