pub mod Kinds
pub mod Readings
pub mod Shipped
pub mod KindLaws
pub mod ReadingLaws
