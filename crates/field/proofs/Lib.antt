pub mod Test
pub mod Xor
pub mod Times
pub mod Power
pub mod Logarithm
pub mod Division
pub mod Table
pub mod Exponents
