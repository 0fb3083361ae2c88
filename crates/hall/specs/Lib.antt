pub mod Shown
pub mod SmallHall
pub mod WorkedCases
