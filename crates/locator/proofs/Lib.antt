pub mod Polynomials
pub mod Locator
pub mod Errors
pub mod Rows
pub mod Decoding
pub mod Decoder
