pub mod Day
pub mod Hex
