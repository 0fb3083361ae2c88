pub mod Loans
pub mod Panels
pub mod Settings
pub mod Verdicts
