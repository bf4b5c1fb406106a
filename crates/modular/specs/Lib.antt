pub mod Primes
pub mod Mod251
pub mod Mod65537
pub mod PrimeLaws
pub mod Orders
