-- Polynomials against sequences, and loops over their coefficients.
pub mod Raised
pub mod Monic
pub mod Against
pub mod Steps
pub mod Horner
pub mod Fraction
pub mod Coefficients
pub mod Dropped
