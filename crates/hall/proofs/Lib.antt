pub mod Listed
pub mod SmallCases
pub mod SmallFiles
pub mod SmallRuling
pub mod SmallTakes
