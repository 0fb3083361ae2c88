pub mod BitLaws
pub mod MemberLaws
pub mod Gathering
pub mod Listing
pub mod Making
pub mod Reading
