-- Sums over rows of all planes.
pub mod Exponents
pub mod Terms
pub mod CheckRows
pub mod CheckSums
