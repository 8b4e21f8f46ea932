pub mod Field
pub mod Table
pub mod Exponents
