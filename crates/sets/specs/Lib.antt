pub mod Bytes
pub mod Members
pub mod Readout
