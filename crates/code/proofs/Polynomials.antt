-- Polynomials over the field, the generator, and remainders by it.
pub mod Arithmetic
pub mod Generator
pub mod Remainder
