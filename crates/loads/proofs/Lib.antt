-- The lemmas that the answers cite.
pub mod Cuts
pub mod Values
pub mod Words
pub mod Said
pub mod Readings
