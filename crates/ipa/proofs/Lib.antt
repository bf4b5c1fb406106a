pub mod PowersOfTwo
pub mod Answering
