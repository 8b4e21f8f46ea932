pub mod Roots
pub mod Fractions
pub mod Errors
