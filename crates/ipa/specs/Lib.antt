pub mod Faults
pub mod Claiming
