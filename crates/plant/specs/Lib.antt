pub mod ByteField
pub mod Rows
pub mod ByteLaws
pub mod Polynomials
pub mod RowBytes
