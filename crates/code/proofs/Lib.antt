pub mod ValidSettings
pub mod Tests
pub mod Polynomials
pub mod Codewords
pub mod Vectors
pub mod Encoding
