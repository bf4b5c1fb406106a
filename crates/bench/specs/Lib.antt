pub mod Squares
pub mod Bench
pub mod SquareLaws
