-- The definitions that the contracts cite, each file on those before it.
pub mod Pieces
pub mod Numbers
pub mod Lines
pub mod Loads
pub mod Faults
